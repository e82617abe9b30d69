-- Places and room that are kept before an operation changes a document, to take it back.
use Rattle.std.specs.Prelude.{◌≡◌, ℕ, [], ◌∷◌, if◌then◌else◌, Option, Some, None, option_and_then, option_map, string_bytes}
use Rattle.std.specs.Str.{bytes_eq}
use Rattle.doc_tree.specs.Doc.{Doc, list}
use Rattle.doc_pointer.specs.Place.{child_named, resolve}
use Rattle.doc_edits.specs.Back.{Step, exchange, exchanged, put_in, return_to, step_back, step_of}
use Rattle.doc_edits.specs.Edit as edit
use Rattle.doc_edits.specs.Edit.{Token, Tokens, elements_len, dash}
use Rattle.doc_edits.specs.Change.{tokens_of}
use Rattle.doc_edits.specs.Operation.{replaced}
use Rattle.doc_edits.specs.declared.back.Back.{Back}
use Rattle.doc_edits.specs.declared.back.Origin.{Origin}
use Rattle.doc_edits.specs.declared.kept.Ready.{Ready}
use Rattle.doc_edits.specs.declared.kept.Ready.TheVariants as ready

-- how many elements the array has at whose end the place is, if its last token is `-` (RFC 6901, section 4)
abbrev pub end_at : Token → Tokens → Doc → Option ℕ
end_at t [] (list ds) = if bytes_eq t dash then Some (elements_len ds) else None
end_at t [] d = None
end_at t (u ∷ us) d = option_and_then (end_at u us) (child_named t d)

-- the tokens with another one in place of the last
abbrev pub with_last : Token → Token → Tokens → Tokens
with_last k t [] = k ∷ []
with_last k t (u ∷ us) = t ∷ with_last k u us

-- the last token
abbrev pub last_of : Token → Tokens → Token
last_of t [] = t
last_of t (u ∷ us) = last_of u us

-- an addition at the place puts its value at `back`, and is taken back there
abbrev pub LeadsBack : Tokens → Tokens → Doc → Type 0
LeadsBack back path d = (v e : Doc) → edit.add path v d ≡ Some e → (resolve back e ≡ Some v) × (exchanged back (replaced path d) e ≡ Some d)

-- the value that goes from the place comes back to it
abbrev pub IsOriginOf : Origin → Tokens → Doc → Type 0
IsOriginOf o path d = (v e : Doc) → resolve path d ≡ Some v → edit.remove path d ≡ Some e → return_to (tokens_of o.path.items) (string_bytes o.name) o.spare v e ≡ Some d

-- the step takes e back to d; if there is none, e is d
abbrev pub Restores : Option Step → Doc → Doc → Type 0
Restores None d e = e ≡ d
Restores (Some s) d e = step_back s e ≡ Some d

-- the same of what is kept
abbrev pub TakesBack : Option Back → Doc → Doc → Type 0
TakesBack b d e = Restores (option_map step_of b) d e

-- the step that what was made ready becomes with the value that went
abbrev pub step_with : Ready → Option Doc → Option Step
step_with ready.Nothing old = None
step_with (ready.Place path) old = Some (exchange (tokens_of path.items) old)
step_with (ready.Origin o) old = option_map (put_in (tokens_of o.path.items) (string_bytes o.name) o.spare) old
