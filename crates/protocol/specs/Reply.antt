-- Replies: the document that answers a request, and its line.
use Rattle.std.specs.Prelude.{ℕ, List, [], ◌∷◌, ◌++◌, map, flat_map, length, min, pos, true, false, codes, encode_utf8_all, Option, None, Some, option_map}
use Rattle.doc_tree.specs.Doc.{Doc, null, boolean, int, text, list, object, member, no_members, Elements, no_elements, element, Members}
use Rattle.doc_tree.specs.Text.{text_of}
use Rattle.doc_tree.specs.TreeView.{elements_of}
use Rattle.path_eval.specs.Nodes.{Located}
use Rattle.path_parse.specs.NormalPath.{normal_path}
use Rattle.refusals.specs.Names.{name_of}
use Rattle.refusals.specs.declared.numbers.TheConstants.{MARK}
use Rattle.doc_changes.specs.Marks.{Mark}
use Rattle.doc_changes.specs.declared.refusal.Refusal.{Refusal}
use Rattle.store_commits.specs.declared.pump.Pump.{Pump}
use Rattle.store_commits.specs.declared.pump.CopyState.{CopyState}
use Rattle.store_commits.specs.declared.pump.CopyState.TheVariants.{Running, Switched, Dropped}

-- a transaction was accepted, and seq is now this
abbrev pub change_reply : ℕ → Doc
change_reply seq = object (member (codes "ok") (boolean true) (member (codes "seq") (int (pos seq)) no_members))

-- a snapshot was made, and this many bytes are used now
abbrev pub snapshot_reply : ℕ → Doc
snapshot_reply used = object (member (codes "ok") (boolean true) (member (codes "used") (int (pos used)) no_members))

-- what became of a copy, in a word
abbrev pub copy_word : CopyState → List ℕ
copy_word Running = codes "running"
copy_word Switched = codes "switched"
copy_word Dropped = codes "dropped"

-- the revision that was asked for
abbrev pub revision_reply : ℕ → Doc
revision_reply revision = object (member (codes "ok") (boolean true) (member (codes "rev") (int (pos revision)) no_members))

-- a step of a copy was made, which wrote `written` sectors of it
abbrev pub pump_reply : Pump → Doc
pump_reply p =
    object (member (codes "copy") (text (copy_word p.copy)) (member (codes "ok") (boolean true) (member (codes "written") (int (pos p.written)) no_members)))

-- a seal was made
abbrev pub sealed_reply : Doc
sealed_reply = object (member (codes "ok") (boolean true) no_members)

-- the value that was asked for
abbrev pub value_reply : Doc → Doc
value_reply value = object (member (codes "ok") (boolean true) (member (codes "value") value no_members))

-- texts as the elements of a list
abbrev pub texts : List (List ℕ) → Elements
texts [] = no_elements
texts (t ∷ ts) = element (text t) (texts ts)

-- the names that were asked for
abbrev pub names_reply : List (List ℕ) → Doc
names_reply names = object (member (codes "names") (list (texts names)) (member (codes "ok") (boolean true) no_members))

-- a node of a reply: its location as a normalized path in UTF-8 (RFC 9535, section 2.7), and the value there
abbrev pub node_object : Located → Doc
node_object n = object (member (codes "path") (text (encode_utf8_all (normal_path n.0))) (member (codes "value") n.1 no_members))

-- the nodes that were asked for, in the order of the nodelist
abbrev pub nodes_reply : List Located → Doc
nodes_reply nodes = object (member (codes "nodes") (list (elements_of (map node_object nodes))) (member (codes "ok") (boolean true) no_members))

-- members, after one of that name if there is a number for it
abbrev pub with_number : List ℕ → Option ℕ → Members → Members
with_number name None members = members
with_number name (Some number) members = member name (int (pos number)) members

-- the value of a mark, or null if there is none
abbrev pub value_or_null : Option Mark → Doc
value_or_null None = null
value_or_null (Some m) = text m.value

-- the number of a mark, if there is one
abbrev pub seq_of_mark : Option Mark → Members
seq_of_mark m = with_number (codes "seq") (option_map (λ mark. mark.seq) m) no_members

-- the mark that was asked for, if it is there
abbrev pub mark_reply : Option Mark → Doc
mark_reply m = object (member (codes "mark") (value_or_null m) (member (codes "ok") (boolean true) (seq_of_mark m)))

-- changes were refused, since they ask for another mark than the present one, which is this, if it is there
abbrev pub other_mark_reply : Option Mark → Doc
other_mark_reply present =
    object (member (codes "error") (text (name_of MARK)) (member (codes "mark") (value_or_null present) (member (codes "number") (int (pos MARK)) (member (codes "ok") (boolean false) (seq_of_mark present)))))

-- the members that only some refusals have: the operation of a patch at fault, and the document's revision if a patch
-- asked for another; and, as the first member, the change of a transaction that was refused
abbrev pub told_by : Refusal → Members
told_by r = with_number (codes "op") r.op (with_number (codes "rev") r.rev no_members)

-- the request was refused
abbrev pub refusal_reply : Refusal → Doc
refusal_reply r = object (with_number (codes "change") r.change (member (codes "error") (text (name_of r.number)) (member (codes "number") (int (pos r.number)) (member (codes "ok") (boolean false) (told_by r)))))

-- the line of a reply: its compact text and a line feed
abbrev pub line_of : Doc → List ℕ
line_of reply = text_of reply ++ codes "\n"

-- the lines of replies, one after the other
abbrev pub reply_lines : List Doc → List ℕ
reply_lines replies = flat_map line_of replies

-- the greatest count, 2^64 - 1
abbrev pub most_counted : ℕ
most_counted = 0xffff_ffff_ffff_ffff

-- the number of replies, which stops there
abbrev pub count_of : List Doc → ℕ
count_of replies = min (length replies) most_counted
