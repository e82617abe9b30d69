-- What a reply tells of its line: of the replies to questions, and of refusals.
use Rattle.std.proofs.Common.{◌≡◌, ◌≢◌, ◌⊎◌, ◌≤◌, inl, inr, ⊎_elim, ℕ, Bool, true, false, List, [], ◌∷◌, map, length, arith, chars, codes, pos, nat_le, if◌then◌else◌, refl, sym, ◌∙◌, ap, subst, MatchOption, ◌<◌, Option, None, Some, option_and_then, Result, Ok, Err}
use Rattle.std.proofs.lemmas.Bool.{leb-false, leb-true, le-leb}
use Rattle.doc_tree.specs.Doc as docs
use Rattle.doc_tree.specs.Doc.{Doc, Members, boolean, get_member, int, member, no_members, text}
use Rattle.doc_tree.specs.Read.{Reading, document, not_json, not_whole, read_of}
use Rattle.doc_tree.specs.Text.{text_of}
use Rattle.doc_tree.specs.TreeView.{elements_of}
use Rattle.doc_pointer.specs.Place.{resolve}
use Rattle.doc_pointer.proofs.Cuts.{pointer_text_injective}
use Rattle.path_grammar.specs.Answers.{SpellsOnly}
use Rattle.path_grammar.specs.Syntax.{Segments}
use Rattle.path_eval.specs.Evaluating.{nodelist}
use Rattle.path_eval.specs.Nodes.{Located, only_node}
use Rattle.path_eval.specs.TooMany.{too_many}
use Rattle.refusals.specs.Names.{name_of}
use Rattle.refusals.specs.declared.numbers.TheConstants.{BROKEN, MARK, MEMORY, NAME, NO_DOCUMENT, NO_VALUE, PATH, PATH_LEFT_OUT, PATH_LONG, PATH_NODES, REPLY_LONG}
use Rattle.doc_changes.specs.Marks.{Mark, mark_of}
use Rattle.doc_changes.specs.Names.{is_name}
use Rattle.doc_changes.specs.Reading.{document_at, found_or, in_document, value_at}
use Rattle.doc_changes.specs.Refusals.{plain}
use Rattle.doc_changes.specs.State.{Document, State, find}
use Rattle.doc_changes.specs.declared.refusal.Refusal.{Refusal}
use Rattle.doc_machine.specs.Queries.{nodes_in}
use Rattle.doc_store.specs.Formats.{status_of}
use Rattle.told_transactions.specs.Told.{AreReadable, told_each}
use Rattle.recorded_store.specs.Recorded.{Recorded}
use Rattle.change_history.specs.History.{Told, first_within, since}
use Rattle.doc_machine.specs.Transaction.{Transaction}
use Rattle.protocol.specs.Changes.{changes_reply, gone_reply, transaction_objects}
use Rattle.store_commits.specs.Run.{Event}
use Rattle.store_commits.specs.declared.event.Reply.{Reply}
use Rattle.protocol.specs.declared.limits.TheConstants.{LINE_BYTES, REPLY_BYTES}
use Rattle.protocol.specs.Request.{Request, Asks, IsAskedBy, IsInRange, change, get, get_schema, rev, mark, query, changes, list, status, snapshot, pump, seal, object_of}
use Rattle.protocol.specs.Reply.{change_reply, mark_reply, names_reply, node_object, nodes_reply, other_mark_reply, refusal_reply, revision_reply, texts, told_by, value_or_null, value_reply, with_number}
use Rattle.serve_lines.specs.Kept.{AsksFor, Has, HaveOwnNames, IsRefusal, IsWithinReply, Known, LineTells, Refuses, Shows, Tells, known_of}
use Rattle.serve_lines.specs.Session.{AnswersOther, Finds, Replies, Selects, found_reply, reply_to_mark, reply_to_rev, selected_reply, told_reply}
use Rattle.status_lines.specs.Status.{id_of}
use Rattle.serve_lines.proofs.Statuses.{tells_seq}

true_false : true ≡ false → ⊥
true_false h = cc h

-- ---- refusals

ok_behind : (place : Option ℕ) (name number : Doc) (rest : Members)
    → get_member (codes "ok") (with_number (codes "change") place (member (codes "error") name (member (codes "number") number (member (codes "ok") (boolean false) rest)))) ≡ Some (boolean false)
ok_behind None name number rest = refl
ok_behind (Some n) name number rest = refl

number_behind : (place : Option ℕ) (name number : Doc) (rest : Members)
    → get_member (codes "number") (with_number (codes "change") place (member (codes "error") name (member (codes "number") number (member (codes "ok") (boolean false) rest)))) ≡ Some number
number_behind None name number rest = refl
number_behind (Some n) name number rest = refl

-- no two members of a refusal have one name
own_names : (name number : Doc) (c o r : Option ℕ)
    → HaveOwnNames (with_number (codes "change") c (member (codes "error") name (member (codes "number") number (member (codes "ok") (boolean false) (with_number (codes "op") o (with_number (codes "rev") r no_members))))))
own_names name number None None None = (refl, (refl, (refl, tt)))
own_names name number None None (Some r) = (refl, (refl, (refl, (refl, tt))))
own_names name number None (Some o) None = (refl, (refl, (refl, (refl, tt))))
own_names name number None (Some o) (Some r) = (refl, (refl, (refl, (refl, (refl, tt)))))
own_names name number (Some c) None None = (refl, (refl, (refl, (refl, tt))))
own_names name number (Some c) None (Some r) = (refl, (refl, (refl, (refl, (refl, tt)))))
own_names name number (Some c) (Some o) None = (refl, (refl, (refl, (refl, (refl, tt)))))
own_names name number (Some c) (Some o) (Some r) = (refl, (refl, (refl, (refl, (refl, (refl, tt))))))

-- the reply of a refusal refuses, by its number
pub refuses : (r : Refusal) → Refuses (refusal_reply r) r.number
refuses r =
    let name = text (name_of r.number) in
    let number = int (pos r.number) in
    (with_number (codes "change") r.change (member (codes "error") name (member (codes "number") number (member (codes "ok") (boolean false) (told_by r)))), refl, own_names name number r.change r.op r.rev, ok_behind r.change name number (told_by r), number_behind r.change name number (told_by r))

pub refuses_by : (reply : Doc) (r : Refusal) → reply ≡ refusal_reply r → Refuses reply r.number
refuses_by reply r is = subst (λ (d : Doc). Refuses d r.number) (sym is) (refuses r)

pub is_refusal : (reply : Doc) (r : Refusal) → reply ≡ refusal_reply r → IsRefusal reply
is_refusal reply r is = (r.number, refuses_by reply r is)

-- the reply that tells the present mark refuses too
other_mark_is : (present : Option Mark) → Refuses (other_mark_reply present) MARK
other_mark_is None = (_, refl, (refl, (refl, (refl, (refl, tt)))), refl, refl)
other_mark_is (Some m) = (_, refl, (refl, (refl, (refl, (refl, (refl, tt))))), refl, refl)

pub other_mark_refuses : (reply : Doc) (present : Option Mark) → reply ≡ other_mark_reply present → IsRefusal reply
other_mark_refuses reply present is = (MARK, subst (λ (d : Doc). Refuses d MARK) (sym is) (other_mark_is present))

-- one that refuses doesn't say that a transaction was done
no_ok : (reply : Doc) → IsRefusal reply → (seq : ℕ) → reply ≢ change_reply seq
no_ok reply refusal seq is =
    let refused : resolve (codes "ok" ∷ []) reply ≡ Some (boolean false) = ap (resolve (codes "ok" ∷ [])) refusal.1.1 ∙ ap (option_and_then (resolve [])) refusal.1.3 in
    let both : Some (boolean false) ≡ Some (boolean true) = sym refused ∙ ap (resolve (codes "ok" ∷ [])) is in
    absurd (cc both)

-- ---- what a line asks for

read_as : (line : List ℕ) (request : Request) (r : Reading) → read_of line ≡ r → IsAskedBy r (Ok request) → (read_of line ≡ document (object_of request)) × IsInRange request
read_as line request not_json e is = absurd (cc is)
read_as line request not_whole e is = absurd (cc is)
read_as line request (document d) e is = (e ∙ ap document is.0, is.1)

pub asks_for : (line : List ℕ) (request : Request) → Asks line (Ok request) → AsksFor line request
asks_for line request (inl long) = absurd (cc long.1)
asks_for line request (inr is) = let asked = read_as line request (read_of line) refl is.1 in (is.0, asked.0, asked.1)

read_as_none : (line : List ℕ) (number : ℕ) (r : Reading) → read_of line ≡ r → IsAskedBy r (Err number) → (request : Request) → AsksFor line request → ⊥
read_as_none line number not_json e is request asks = let both = sym e ∙ asks.1 in absurd (cc both)
read_as_none line number not_whole e is request asks = let both = sym e ∙ asks.1 in absurd (cc both)
read_as_none line number (document d) e is request asks =
    let both = sym e ∙ asks.1 in
    let same : d ≡ object_of request = cc both in
    is.1 request (same, asks.2)

-- one that is no request asks for none
asks_none : (line : List ℕ) (number : ℕ) → Asks line (Err number) → (request : Request) → AsksFor line request → ⊥
asks_none line number (inl long) request asks = omega (arith, long.0, asks.0)
asks_none line number (inr is) request asks = read_as_none line number (read_of line) refl is.1 request asks

-- ---- documents of a name

found_some : {A : Type 0} (n : ℕ) (o : Option A) (a : A) → found_or n o ≡ Ok a → o ≡ Some a
found_some n None a is = absurd (cc is)
found_some n (Some x) a is = cc is

named : (d : Document) (b : Bool) (o : Option Document) → (if b then found_or NO_DOCUMENT o else Err (plain NAME)) ≡ Ok d → (b ≡ true) × (o ≡ Some d)
named d false o is = absurd (cc is)
named d true o is = (refl, found_some NO_DOCUMENT o d is)

has_document : (s : State) (name : List ℕ) (d : Document) → document_at s name ≡ Ok d → Has s name d
has_document s name d is = named d (is_name name) (find name s.documents) is

document_is : (s : State) (name : List ℕ) (d : Document) → Has s name d → document_at s name ≡ Ok d
document_is s name d has =
    ap (λ (b : Bool). if b then found_or NO_DOCUMENT (find name s.documents) else Err (plain NAME)) has.0 ∙ ap (found_or NO_DOCUMENT) has.1

-- there is no other
no_other : (s : State) (name : List ℕ) (d : Document) (r : Refusal) → Has s name d → document_at s name ≡ Err r → ⊥
no_other s name d r has is = let both = sym (document_is s name d has) ∙ is in absurd (cc both)

same_document : (s : State) (name : List ℕ) (d e : Document) → Has s name d → document_at s name ≡ Ok e → d ≡ e
same_document s name d e has is = let both = sym (document_is s name d has) ∙ is in cc both

-- what is found in a document is found in one of that name
in_named : {A : Type 0} (f : Document → Result A Refusal) (r : Result Document Refusal) (a : A) → in_document f r ≡ Ok a → (d : Document) × (r ≡ Ok d) × (f d ≡ Ok a)
in_named f (Ok d) a is = (d, refl, is)
in_named f (Err r) a is = absurd (cc is)

-- ---- questions

-- a question was answered by what the state shows, or it shows nothing
abbrev IsAnswered : State → Request → Doc → Type 0
IsAnswered s question reply = Shows s question reply ⊎ (IsRefusal reply × ((shown : Doc) → Shows s question shown → ⊥))

value_there : (s : State) (name : List ℕ) (tokens : List (List ℕ)) (d : Document) (v : Doc) → Has s name d → resolve tokens d.doc ≡ Some v → value_at s name tokens ≡ Ok v
value_there s name tokens d v has leads =
    ap (in_document (λ (d : Document). found_or NO_VALUE (resolve tokens d.doc))) (document_is s name d has) ∙ ap (found_or NO_VALUE) leads

value_answered : (s : State) (name path : List ℕ) (reply : Doc) (found : Result Doc Refusal) → Finds s name path found → reply ≡ found_reply found → IsAnswered s (get name path) reply
value_answered s name path reply (Ok v) (inl is) said =
    let here = in_named (λ (d : Document). found_or NO_VALUE (resolve is.0 d.doc)) (document_at s name) v (sym is.2) in
    inl (here.0, has_document s name here.0 here.1, is.0, is.1, v, found_some NO_VALUE (resolve is.0 here.0.doc) v here.2, said)
value_answered s name path reply (Ok v) (inr is) said = absurd (cc is.1)
value_answered s name path reply (Err r) (inl is) said = inr (
  is_refusal reply r said,
  λ shown shows.
      let same = pointer_text_injective shows.2 is.0 (shows.3 ∙ sym is.1) in
      let there = value_there s name is.0 shows.0 shows.4 shows.1 (ap (λ (ks : List (List ℕ)). resolve ks shows.0.doc) (sym same) ∙ shows.5) in
      let both = is.2 ∙ there in
      absurd (cc both),
)
value_answered s name path reply (Err r) (inr is) said = inr (is_refusal reply r said, λ shown shows. is.0 shows.2 shows.3)

schema_answered : (s : State) (name : List ℕ) (reply : Doc) (r : Result Document Refusal) → document_at s name ≡ r → reply ≡ found_reply (in_document (λ d. Ok d.schema) r) → IsAnswered s (get_schema name) reply
schema_answered s name reply (Ok d) is said = inl (d, has_document s name d is, said)
schema_answered s name reply (Err r) is said = inr (is_refusal reply r said, λ shown shows. no_other s name shows.0 r shows.1 is)

revision_answered : (s : State) (name : List ℕ) (reply : Doc) (r : Result Document Refusal) → document_at s name ≡ r → reply ≡ reply_to_rev (in_document (λ d. Ok d.revision) r) → IsAnswered s (rev name) reply
revision_answered s name reply (Ok d) is said = inl (d, has_document s name d is, said)
revision_answered s name reply (Err r) is said = inr (is_refusal reply r said, λ shown shows. no_other s name shows.0 r shows.1 is)

mark_answered : (s : State) (key : List ℕ) (reply : Doc) (named : Bool) → is_name key ≡ named → reply ≡ reply_to_mark (if named then Ok (mark_of key s.marks) else Err (plain NAME)) → IsAnswered s (mark key) reply
mark_answered s key reply true is said = inl (is, said)
mark_answered s key reply false is said = inr (is_refusal reply (plain NAME) said, λ shown shows. true_false (sym shows.0 ∙ is))

-- the reply to nodes that were selected
sized_reply : (s : State) (name path : List ℕ) (reply : Doc) (d : Document) (q : Segments) (long : Bool) → Has s name d → length path ≤ 1_024 → SpellsOnly q (chars path) → too_many d.doc q (only_node d.doc) ≡ false
    → nat_le (length (text_of (nodes_reply (nodelist d.doc q (only_node d.doc))))) REPLY_BYTES ≡ long
    → reply ≡ (if long then nodes_reply (nodelist d.doc q (only_node d.doc)) else refusal_reply (plain REPLY_LONG)) → IsAnswered s (query name path) reply
sized_reply s name path reply d q true has short spells few is said =
    let fits = leb-true (length (text_of (nodes_reply (nodelist d.doc q (only_node d.doc))))) REPLY_BYTES is in
    inl (d, has, short, q, spells, few, said, subst (λ (x : Doc). length (text_of x) ≤ REPLY_BYTES) (sym said) fits)
sized_reply s name path reply d q false has short spells few is said = inr (
  is_refusal reply (plain REPLY_LONG) said,
  λ shown shows.
      let same = same_document s name shows.0 d shows.1 (document_is s name d has) in
      let query_same = spells.2 shows.3 shows.4.0 in
      let shown_is : shown ≡ nodes_reply (nodelist d.doc q (only_node d.doc)) = shows.6 ∙ (λ i. nodes_reply (nodelist (same i).doc (query_same i) (only_node (same i).doc))) in
      let fits = subst (λ (x : Doc). length (text_of x) ≤ REPLY_BYTES) shown_is shows.7 in
      true_false (sym (le-leb (length (text_of (nodes_reply (nodelist d.doc q (only_node d.doc))))) REPLY_BYTES fits) ∙ is),
)

counted_reply : (s : State) (name path : List ℕ) (reply : Doc) (d : Document) (q : Segments) (many : Bool) → Has s name d → length path ≤ 1_024 → SpellsOnly q (chars path) → too_many d.doc q (only_node d.doc) ≡ many
    → reply ≡ selected_reply (if many then Err (plain PATH_NODES) else Ok (nodelist d.doc q (only_node d.doc))) → IsAnswered s (query name path) reply
counted_reply s name path reply d q false has short spells is said =
    sized_reply s name path reply d q (nat_le (length (text_of (nodes_reply (nodelist d.doc q (only_node d.doc))))) REPLY_BYTES) has short spells is refl said
counted_reply s name path reply d q true has short spells is said = inr (
  is_refusal reply (plain PATH_NODES) said,
  λ shown shows.
      let same = same_document s name shows.0 d shows.1 (document_is s name d has) in
      let query_same = spells.2 shows.3 shows.4.0 in
      true_false (sym is ∙ (λ i. too_many (sym same i).doc (sym query_same i) (only_node (sym same i).doc)) ∙ shows.5),
)

selected_in : (s : State) (name path : List ℕ) (reply : Doc) (q : Segments) (r : Result Document Refusal) → document_at s name ≡ r → length path ≤ 1_024 → SpellsOnly q (chars path)
    → reply ≡ selected_reply (in_document (λ d. nodes_in q d.doc) r) → IsAnswered s (query name path) reply
selected_in s name path reply q (Ok d) is short spells said = counted_reply s name path reply d q (too_many d.doc q (only_node d.doc)) (has_document s name d is) short spells refl said
selected_in s name path reply q (Err r) is short spells said = inr (is_refusal reply r said, λ shown shows. no_other s name shows.0 r shows.1 is)

query_answered : (s : State) (name path : List ℕ) (reply : Doc) (selected : Result (List Located) Refusal) → Selects s name path selected → reply ≡ selected_reply selected → IsAnswered s (query name path) reply
query_answered s name path reply selected (inl long) said = inr (is_refusal reply (plain PATH_LONG) (said ∙ ap selected_reply long.1), λ shown shows. omega (arith, long.0, shows.2))
query_answered s name path reply selected (inr (short, inl none)) said = inr (is_refusal reply (plain PATH) (said ∙ ap selected_reply none.1), λ shown shows. none.0 shows.3 shows.4.0)
query_answered s name path reply selected (inr (short, inr (inl left))) said =
    inr (is_refusal reply (plain PATH_LEFT_OUT) (said ∙ ap selected_reply left.1), λ shown shows. true_false (sym (left.0.1 shows.3 shows.4.0) ∙ shows.4.1))
query_answered s name path reply selected (inr (short, inr (inr only))) said =
    selected_in s name path reply only.0 (document_at s name) refl short only.1 (said ∙ ap selected_reply only.2)

-- ---- the transactions after a change

-- the reply that tells these is within the limit, or refused
told_these : (identity : Option (List ℕ)) (seq from : ℕ) (ts : List Transaction) (reply : Doc) (fits : Bool) → nat_le (length (text_of (changes_reply identity seq from ts))) REPLY_BYTES ≡ fits
    → reply ≡ (if fits then changes_reply identity seq from ts else refusal_reply (plain REPLY_LONG)) → IsWithinReply (changes_reply identity seq from ts) reply
told_these identity seq from ts reply true is said = inl (said, leb-true (length (text_of (changes_reply identity seq from ts))) REPLY_BYTES is)
told_these identity seq from ts reply false is said =
    inr (refuses_by reply (plain REPLY_LONG) said, over (length (text_of (changes_reply identity seq from ts))) is)
  where
    over : (n : ℕ) → nat_le n REPLY_BYTES ≡ false → REPLY_BYTES < n
    over n none = leb-false n REPLY_BYTES none

told_after_change : (old : Recorded) (from most : ℕ) (rest : Option (List Told)) (reply : Doc)
    → MatchOption rest (reply ≡ gone_reply old.state.seq old.history.floor)
    (λ known. (ts : List Transaction) × (first_within most known ≡ told_each old.rides from ts) × AreReadable from ts × (reply ≡ told_reply (id_of (status_of old.account)) old.state.seq from ts))
    → MatchOption rest (reply ≡ gone_reply old.state.seq old.history.floor)
    (λ known. (ts : List Transaction) × (first_within most known ≡ told_each old.rides from ts) × AreReadable from ts × (identity : Option (List ℕ)) × IsWithinReply (changes_reply identity old.state.seq from ts) reply)
told_after_change old from most None reply h = h
told_after_change old from most (Some known) reply h =
    let identity = id_of (status_of old.account) in
    (h.0, h.1, h.2, identity, told_these identity old.state.seq from h.0 reply (nat_le (length (text_of (changes_reply identity old.state.seq from h.0))) REPLY_BYTES) refl h.3)

-- ---- a line by itself

request_tells : (old new : Recorded) (request : Request) (events : List Event) (said : List Reply) (reply : Doc) → Replies old request events said reply new → Tells (known_of old) request reply
request_tells old new (change t) events said reply h = absurd h
request_tells old new snapshot events said reply (Ok used, answers, kept, is, asked, told) = inl (ap (resolve (codes "seq" ∷ [])) is)
request_tells old new snapshot events said reply (Err r, answers, kept, is, asked, told) = inr (is_refusal reply r is)
request_tells old new (pump most) events said reply (Ok step, answers, kept, is, asked, told) = inl (ap (resolve (codes "seq" ∷ [])) is)
request_tells old new (pump most) events said reply (Err r, answers, kept, is, asked, told) = inr (is_refusal reply r is)
request_tells old new seal events said reply (Ok done, answers, kept, is, asked, told) = inl (ap (resolve (codes "seq" ∷ [])) is)
request_tells old new seal events said reply (Err r, answers, kept, is, asked, told) = inr (is_refusal reply r is)
request_tells old new (get name path) events said reply h = value_answered old.state name path reply h.0 h.1 h.2
request_tells old new (get_schema name) events said reply h = schema_answered old.state name reply (document_at old.state name) refl h.0
request_tells old new (rev name) events said reply h = revision_answered old.state name reply (document_at old.state name) refl h.0
request_tells old new (mark key) events said reply h = mark_answered old.state key reply (is_name key) refl h.0
request_tells old new (query name path) events said reply h = query_answered old.state name path reply h.0 h.1 h.2
request_tells old new (changes from most) events said reply h = told_after_change old from most (since old.history.floor old.history.told from) reply h.0
request_tells old new list events said reply h = inl h.0
request_tells old new status events said reply h = inl (ap (resolve (codes "seq" ∷ [])) h.0 ∙ tells_seq (status_of old.account) (id_of (status_of old.account)), ap (resolve (codes "documents" ∷ [])) h.0)

memory_tells : (s : Known) (line : List ℕ) (reply : Doc) → reply ≡ refusal_reply (plain MEMORY) → length line ≤ LINE_BYTES → LineTells s line reply
memory_tells s line reply is short = inr (inr (inl (refuses_by reply (plain MEMORY) is, short)))

-- what a line by itself is answered
pub other_tells : (old new : Recorded) (line : List ℕ) (events : List Event) (said : List Reply) (reply : Doc) → AnswersOther old line events said reply new → LineTells (known_of old) line reply
other_tells old new line events said reply (inl memory) = memory_tells (known_of old) line reply memory.0 memory.1
other_tells old new line events said reply (inr (Ok request, asks, is)) = inl (request, asks_for line request asks, request_tells old new request events said reply is)
other_tells old new line events said reply (inr (Err number, asks, is)) = inr (inl (is_refusal reply (plain number) is.0, asks_none line number asks))

-- ---- none of these says that a transaction was done

not_refused : (seq : ℕ) → IsRefusal (change_reply seq) → ⊥
not_refused seq refusal = no_ok (change_reply seq) refusal seq refl

-- nor one without a seq
no_seq : (seq : ℕ) → resolve (codes "seq" ∷ []) (change_reply seq) ≡ None → ⊥
no_seq seq none = let both : Some (int (pos seq)) ≡ None = none in absurd (cc both)

-- a reply with another member isn't it
other_member : (seq : ℕ) (name : List ℕ) (reply value : Doc) → change_reply seq ≡ reply → resolve (name ∷ []) reply ≡ Some value → resolve (name ∷ []) (change_reply seq) ≡ None → ⊥
other_member seq name reply value is here none = let both = sym none ∙ ap (resolve (name ∷ [])) is ∙ here in absurd (cc both)

not_shown : (s : State) (question : Request) (seq : ℕ) → Shows s question (change_reply seq) → ⊥
not_shown s (change t) seq shows = shows
not_shown s snapshot seq shows = shows
not_shown s (pump most) seq shows = shows
not_shown s seal seq shows = shows
not_shown s (get name path) seq shows = other_member seq (codes "value") (value_reply shows.4) shows.4 shows.6 refl refl
not_shown s (get_schema name) seq shows = other_member seq (codes "value") (value_reply shows.0.schema) shows.0.schema shows.2 refl refl
not_shown s (rev name) seq shows = other_member seq (codes "rev") (revision_reply shows.0.revision) (int (pos shows.0.revision)) shows.2 refl refl
not_shown s (mark key) seq shows = other_member seq (codes "mark") (mark_reply (mark_of key s.marks)) (value_or_null (mark_of key s.marks)) shows.1 refl refl
not_shown s (query name path) seq shows =
    let nodes = nodelist shows.0.doc shows.3 (only_node shows.0.doc) in
    other_member seq (codes "nodes") (nodes_reply nodes) (docs.list (elements_of (map node_object nodes))) shows.6 refl refl
not_shown s list seq shows = other_member seq (codes "names") (names_reply (map (λ d. d.name) s.documents)) (docs.list (texts (map (λ d. d.name) s.documents))) shows refl refl
not_shown s (changes from most) seq shows = shows
not_shown s status seq shows = let none : None ≡ Some (int (pos (length s.documents))) = shows.1 in absurd (cc none)

not_told_after : (k : Known) (from most seq : ℕ) (rest : Option (List Told))
    → MatchOption rest (change_reply seq ≡ gone_reply k.state.seq k.history.floor)
    (λ known. (ts : List Transaction) × (first_within most known ≡ told_each k.rides from ts) × AreReadable from ts × (identity : Option (List ℕ)) × IsWithinReply (changes_reply identity k.state.seq from ts) (change_reply seq)) → ⊥
not_told_after k from most seq None is = other_member seq (codes "gone") (gone_reply k.state.seq k.history.floor) (boolean true) is refl refl
not_told_after k from most seq (Some known) (ts, first, readable, identity, inl told) =
    other_member seq (codes "changes") (changes_reply identity k.state.seq from ts) (docs.list (transaction_objects from ts)) told.0 refl refl
not_told_after k from most seq (Some known) (ts, first, readable, identity, inr refused) = not_refused seq (REPLY_LONG, refused.0)

request_not_done : (s : Known) (request : Request) (seq : ℕ) → Tells s request (change_reply seq) → ⊥
request_not_done s (change t) seq refused = not_refused seq refused
request_not_done s snapshot seq tells = ⊎_elim (no_seq seq) (not_refused seq) tells
request_not_done s (pump most) seq tells = ⊎_elim (no_seq seq) (not_refused seq) tells
request_not_done s seal seq tells = ⊎_elim (no_seq seq) (not_refused seq) tells
request_not_done s (get name path) seq tells = ⊎_elim (not_shown s.state (get name path) seq) (λ refused. not_refused seq refused.0) tells
request_not_done s (get_schema name) seq tells = ⊎_elim (not_shown s.state (get_schema name) seq) (λ refused. not_refused seq refused.0) tells
request_not_done s (rev name) seq tells = ⊎_elim (not_shown s.state (rev name) seq) (λ refused. not_refused seq refused.0) tells
request_not_done s (mark key) seq tells = ⊎_elim (not_shown s.state (mark key) seq) (λ refused. not_refused seq refused.0) tells
request_not_done s (query name path) seq tells = ⊎_elim (not_shown s.state (query name path) seq) (λ refused. not_refused seq refused.0) tells
request_not_done s (changes from most) seq tells = not_told_after s from most seq (since s.history.floor s.history.told from) tells
request_not_done s list seq tells = ⊎_elim (not_shown s.state list seq) (λ refused. not_refused seq refused.0) tells
request_not_done s status seq tells = ⊎_elim (not_shown s.state status seq) (λ refused. not_refused seq refused.0) tells

pub not_done : (s : Known) (line : List ℕ) (seq : ℕ) → LineTells s line (change_reply seq) → ⊥
not_done s line seq (inl asked) = request_not_done s asked.0 seq asked.2
not_done s line seq (inr (inl none)) = not_refused seq none.0
not_done s line seq (inr (inr (inl memory))) = not_refused seq (MEMORY, memory.0)
not_done s line seq (inr (inr (inr broken))) = not_refused seq (BROKEN, broken)
