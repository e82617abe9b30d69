-- The document that an operation makes of another (RFC 6902, section 4).
use Rattle.std.specs.Prelude.{ℕ, [], ◌∷◌, Bool, true, false, Option, Some, None, Result, Ok, Err, if◌then◌else◌}
use Rattle.std.specs.Cmp.Lexicographic.{pointwise}
use Rattle.std.specs.Str.{bytes_eq}
use Rattle.doc_tree.specs.Doc.{Doc}
use Rattle.doc_tree.specs.Same.{same}
use Rattle.doc_pointer.specs.Place.{resolve}
pub use Rattle.doc_edits.specs.Limits.{within_limits}
use Rattle.doc_edits.specs.Edit as edit
use Rattle.doc_edits.specs.Edit.{Tokens, member_at}
use Rattle.refusals.specs.declared.numbers.TheConstants.{PATCH_MISSING, PATCH_TEST, PATCH_ROOT}

-- an operation with its pointers read; `move` and `copy` have `from` first, then `path`
pub data Operation : Type 0 where
  add : Tokens → Doc → Operation
  remove : Tokens → Operation
  replace : Tokens → Doc → Operation
  move : Tokens → Tokens → Operation
  copy : Tokens → Tokens → Operation
  test : Tokens → Doc → Operation

-- ---- one operation: a document, or the number of a refusal

-- a place that can't be is a refusal
abbrev pub or_missing : Option Doc → Result Doc ℕ
or_missing None = Err PATCH_MISSING
or_missing (Some d) = Ok d

-- goes on with the document, if there was no refusal
abbrev pub and_then : Result Doc ℕ → (Doc → Result Doc ℕ) → Result Doc ℕ
and_then (Err n) f = Err n
and_then (Ok d) f = f d

-- the value v, which is at `from`, is taken away and then added at `path`, if that is another place (section 4.4)
abbrev pub moved : Tokens → Tokens → Doc → Doc → Result Doc ℕ
moved from path d v = if pointwise bytes_eq from path then Ok d else and_then (or_missing (edit.remove from d)) (λ e. or_missing (edit.add path v e))

-- what the operation makes of the document, whatever its height and length (section 4)
abbrev pub change : Operation → Doc → Result Doc ℕ
change (add path v) d = or_missing (edit.add path v d)
change (remove []) d = Err PATCH_ROOT
change (remove (t ∷ ts)) d = or_missing (edit.remove (t ∷ ts) d)
change (replace path v) d = or_missing (edit.replace path v d)
change (move from path) d = and_then (or_missing (resolve from d)) (moved from path d)
change (copy from path) d = and_then (or_missing (resolve from d)) (λ v. or_missing (edit.add path v d))
change (test path v) d = and_then (or_missing (resolve path d)) (λ e. if same e v then Ok d else Err PATCH_TEST)

-- the member that an addition replaces
abbrev pub replaced : Tokens → Doc → Option Doc
replaced [] d = Some d
replaced (t ∷ ts) d = member_at t ts d

-- what an operation that is no move takes from the document, if it is made: a value that goes, or is replaced
abbrev pub gone : Operation → Doc → Option Doc
gone (add path v) d = replaced path d
gone (remove path) d = resolve path d
gone (replace path v) d = resolve path d
gone (move from path) d = None
gone (copy from path) d = replaced path d
gone (test path v) d = None

-- the operation is a move
abbrev pub moves : Operation → Bool
moves (add path v) = false
moves (remove path) = false
moves (replace path v) = false
moves (move from path) = true
moves (copy from path) = false
moves (test path v) = false

-- what the operation makes of the document, if that is within the limits
abbrev pub op : Operation → Doc → Result Doc ℕ
op o d = and_then (change o d) within_limits
