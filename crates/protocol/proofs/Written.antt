-- A query's reply, row after row.
use Rattle.std.proofs.Common.{◌≡◌, ℕ, suc, ◌+◌, ◌<◌, ◌≤◌, nat_lt, Bool, true, false, List, ◌∷◌, ◌++◌, length, length-append, map, drop, drop-cons, add-one, codes, append_assoc, refl, ap, sym, ◌∙◌, arith, Some}
use Rattle.std.specs.List.{slice_get}
use Rattle.std.proofs.lemmas.Bool.{lt-ltb}
use Rattle.std.proofs.lemmas.List.{drop_all}
use Rattle.std.proofs.lemmas.Option.{get_or_from_slice_get, slice_get_within}
use Rattle.json.specs.Print.{escape_byte}
use Rattle.serde_json.specs.Written.{comma_if}
use Rattle.doc_tree.specs.Doc.{Doc}
use Rattle.doc_tree.specs.Text.{elements_text, text_of}
use Rattle.doc_tree.specs.TreeView.{elements_of}
use Rattle.path_eval.specs.Nodes.{Located}
use Rattle.protocol.specs.Reply.{line_of, node_object, nodes_reply}
use Rattle.protocol.specs.Rows.{AddsRow, rows_left}
use Rattle.protocol.specs.declared.limits.TheConstants.{REPLY_BYTES}

pub line_begins : (ns : List Located) → line_of (nodes_reply ns) ≡ codes "{\"nodes\":[" ++ rows_left false ns
unfolding escape_byte
line_begins ns = ap (λ t. codes "{\"nodes\":[" ++ t) (append_assoc (elements_text false (elements_of (map node_object ns))) (codes ",\"ok\":true}") (codes "\n"))

-- the next node of a list, and what is left behind it
next : (ns : List Located) (i : ℕ) (n : Located) → slice_get ns i ≡ Some n → drop i ns ≡ n ∷ drop (i + 1) ns
next ns i n is = rw add-one (drop-cons ns i n (slice_get_within ns i n is) ∙ ap (λ m. m ∷ drop (suc i) ns) (get_or_from_slice_get ns i n n is))

-- a row, behind a comma where one stands before
row_goes : (later : Bool) (ns : List Located) (i : ℕ) (n : Located) (line longer : List ℕ) → slice_get ns i ≡ Some n → longer ≡ line ++ (comma_if later ++ text_of (node_object n))
    → longer ++ rows_left true (drop (i + 1) ns) ≡ line ++ rows_left later (drop i ns)
row_goes later ns i n line longer at grown =
    let rest = drop (i + 1) ns in
    let row = text_of (node_object n) in
    let after = elements_text true (elements_of (map node_object rest)) in
    let end = codes ",\"ok\":true}\n" in
    ap (λ t. t ++ (after ++ end)) grown
    ∙ append_assoc line (comma_if later ++ row) (after ++ end)
    ∙ ap (λ t. line ++ t) (append_assoc (comma_if later) row (after ++ end)
    ∙ ap (λ t. comma_if later ++ t) (sym (append_assoc row after end))
    ∙ sym (append_assoc (comma_if later) (row ++ after) end))
    ∙ ap (λ ms. line ++ rows_left later ms) (sym (next ns i n at))

-- behind a row there is always one before
behind : (i : ℕ) → nat_lt 0 (i + 1) ≡ true
behind i = lt-ltb 0 (i + 1) (omega arith)

-- the line with the next row
pub row_added : (ns : List Located) (i : ℕ) (line longer whole : List ℕ) → AddsRow ns i line longer → line ++ rows_left (nat_lt 0 i) (drop i ns) ≡ whole
    → longer ++ rows_left (nat_lt 0 (i + 1)) (drop (i + 1) ns) ≡ whole
row_added ns i line longer whole added is =
    ap (λ b. longer ++ rows_left b (drop (i + 1) ns)) (behind i) ∙ row_goes (nat_lt 0 i) ns i added.0 line longer added.1 added.2 ∙ is

-- the line behind the last row
pub line_done : (ns : List Located) (i : ℕ) (line whole : List ℕ) → length ns ≤ i → line ++ rows_left (nat_lt 0 i) (drop i ns) ≡ line_of (nodes_reply ns) → whole ≡ line ++ codes "],\"ok\":true}\n"
    → whole ≡ line_of (nodes_reply ns)
line_done ns i line whole past is ends =
    ends ∙ ap (λ rest. line ++ rows_left (nat_lt 0 i) rest) (sym (drop_all i ns past)) ∙ is

-- ---- its bytes

line_length : (d : Doc) → length (line_of d) ≡ length (text_of d) + 1
line_length d = length-append (text_of d) (codes "\n")

-- a part of the line that is over the limit is not the last of it
pub part_over : (later : Bool) (ns rest : List Located) (line : List ℕ) → line ++ rows_left later rest ≡ line_of (nodes_reply ns) → REPLY_BYTES < length line → REPLY_BYTES < length (text_of (nodes_reply ns))
part_over later ns rest line is over =
    let whole = ap length is ∙ line_length (nodes_reply ns) in
    let parts = length-append line (rows_left later rest) in
    let left = length-append (elements_text later (elements_of (map node_object rest))) (codes ",\"ok\":true}\n") in
    let end : length (codes ",\"ok\":true}\n") ≡ 12 = refl in
    omega (arith, whole, parts, left, end, over)

pub line_over : (d : Doc) (line : List ℕ) → line ≡ line_of d → REPLY_BYTES + 1 < length line → REPLY_BYTES < length (text_of d)
line_over d line is over = let whole = ap length is ∙ line_length d in omega (arith, whole, over)

pub line_within : (d : Doc) (line : List ℕ) → line ≡ line_of d → length line ≤ REPLY_BYTES + 1 → length (text_of d) ≤ REPLY_BYTES
line_within d line is within = let whole = ap length is ∙ line_length d in omega (arith, whole, within)
