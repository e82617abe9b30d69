-- What the members of a document say of the operation that it spells.
use Rattle.std.proofs.Common.{◌≡◌, ℕ, List, true, false, Option, Some, None, option_map, option_and_then, refl, ap, ◌∙◌}
use Rattle.std.specs.Prelude.{codes}
use Rattle.std.specs.Str.{bytes_eq}
use Rattle.doc_tree.specs.Doc.{Doc, child, name}
use Rattle.doc_edits.specs.Operation.{add, remove, replace, move, copy, test}
use Rattle.doc_patch.specs.Reading as reading
use Rattle.doc_patch.specs.Reading.{as_text, text_at, valued, sourced, with_value, with_path, with_from, spelled_as, spelling}
use Rattle.doc_patch.specs.Meaning.{spelled}
use Rattle.doc_patch.specs.declared.spelling.Spelling.{Spelling}

-- an answer that is none
pub none : (r : Option Spelling) (x : Option reading.Spelling) → r ≡ None → None ≡ x → option_map spelled r ≡ x
none r x is e = ap (option_map spelled) is ∙ e

-- the text that a member is, if it is any
pub member_text : (k : List ℕ) (d o : Doc) (s : Option (List ℕ)) → Some o ≡ child (name k) d → s ≡ as_text o → s ≡ text_at k d
member_text k d o s at is = is ∙ ap (option_and_then as_text) at

pub no_op : (d : Doc) → None ≡ text_at (codes "op") d → None ≡ spelling d
no_op d e = ap (option_and_then (λ op. option_and_then (λ path. spelled_as op path d) (text_at (codes "path") d))) e

pub no_path : (d : Doc) (op : List ℕ) → Some op ≡ text_at (codes "op") d → None ≡ text_at (codes "path") d → None ≡ spelling d
no_path d op is e =
    ap (option_and_then (λ path. spelled_as op path d)) e ∙ ap (option_and_then (λ op. option_and_then (λ path. spelled_as op path d) (text_at (codes "path") d))) is

pub by_members : (d : Doc) (op path : List ℕ) → Some op ≡ text_at (codes "op") d → Some path ≡ text_at (codes "path") d → spelled_as op path d ≡ spelling d
by_members d op path is at =
    ap (option_and_then (λ path. spelled_as op path d)) at ∙ ap (option_and_then (λ op. option_and_then (λ path. spelled_as op path d) (text_at (codes "path") d))) is

pub an_add : (d : Doc) (op path : List ℕ) → bytes_eq op (codes "add") ≡ true → valued add path d ≡ spelled_as op path d
an_add d op path a = rw a refl

pub a_remove : (d : Doc) (op path : List ℕ) → bytes_eq op (codes "add") ≡ false → bytes_eq op (codes "remove") ≡ true → Some (with_path remove path) ≡ spelled_as op path d
a_remove d op path a b = rw (a, b) refl

pub a_replace : (d : Doc) (op path : List ℕ) → bytes_eq op (codes "add") ≡ false → bytes_eq op (codes "remove") ≡ false → bytes_eq op (codes "replace") ≡ true → valued replace path d ≡ spelled_as op path d
a_replace d op path a b c = rw (a, b, c) refl

pub a_move : (d : Doc) (op path : List ℕ) → bytes_eq op (codes "add") ≡ false → bytes_eq op (codes "remove") ≡ false → bytes_eq op (codes "replace") ≡ false → bytes_eq op (codes "move") ≡ true
    → sourced move path d ≡ spelled_as op path d
a_move d op path a b c m = rw (a, b, c, m) refl

pub a_copy : (d : Doc) (op path : List ℕ) → bytes_eq op (codes "add") ≡ false → bytes_eq op (codes "remove") ≡ false → bytes_eq op (codes "replace") ≡ false → bytes_eq op (codes "move") ≡ false
    → bytes_eq op (codes "copy") ≡ true → sourced copy path d ≡ spelled_as op path d
a_copy d op path a b c m p = rw (a, b, c, m, p) refl

pub a_test : (d : Doc) (op path : List ℕ) → bytes_eq op (codes "add") ≡ false → bytes_eq op (codes "remove") ≡ false → bytes_eq op (codes "replace") ≡ false → bytes_eq op (codes "move") ≡ false
    → bytes_eq op (codes "copy") ≡ false → bytes_eq op (codes "test") ≡ true → valued test path d ≡ spelled_as op path d
a_test d op path a b c m p t = rw (a, b, c, m, p, t) refl

pub no_operation : (d : Doc) (op path : List ℕ) → bytes_eq op (codes "add") ≡ false → bytes_eq op (codes "remove") ≡ false → bytes_eq op (codes "replace") ≡ false → bytes_eq op (codes "move") ≡ false
    → bytes_eq op (codes "copy") ≡ false → bytes_eq op (codes "test") ≡ false → None ≡ spelled_as op path d
no_operation d op path a b c m p t = rw (a, b, c, m, p, t) refl
