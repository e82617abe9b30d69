-- The operations that a document spells, or its first fault (RFC 6902, sections 3 and 4).
use Rattle.std.specs.Prelude.{ℕ, suc, List, [], ◌∷◌, length, Bool, ◌||◌, ◌&&◌, Option, Some, None, Result, Ok, Err, if◌then◌else◌, nat_lt, codes, option_and_then, option_map}
use Rattle.std.specs.List.{starts_with}
use Rattle.std.specs.Str.{bytes_eq}
use Rattle.doc_tree.specs.Doc.{Doc, text, list, Elements, no_elements, element, child, name, height}
use Rattle.doc_tree.specs.Text.{text_of}
use Rattle.doc_pointer.specs.Reading.{pointer_of}
use Rattle.doc_edits.specs.Edit.{Tokens, elements_len}
use Rattle.doc_edits.specs.Operation.{Operation, add, remove, replace, move, copy, test}
use Rattle.doc_patch.specs.Patch.{fault_at}
use Rattle.doc_patch.specs.declared.fault.PatchFault.{PatchFault}
use Rattle.refusals.specs.declared.numbers.TheConstants.{PATCH_SHAPE, PATCH_POINTER, PATCH_INTO_ITSELF, PATCH_LONG}

-- ---- one operation as it is spelled, its pointers unread

-- the bytes of a text; none of any other value
abbrev pub as_text : Doc → Option (List ℕ)
as_text (text s) = Some s
as_text _ = None

-- the text that the member of that name is; only an object has members
abbrev pub text_at : List ℕ → Doc → Option (List ℕ)
text_at k d = option_and_then as_text (child (name k) d)

-- an operation whose pointers are still texts: `path` with a value, alone, or after `from`
pub data Spelling : Type 0 where
  with_value : (Tokens → Doc → Operation) → List ℕ → Doc → Spelling
  with_path : (Tokens → Operation) → List ℕ → Spelling
  with_from : (Tokens → Tokens → Operation) → List ℕ → List ℕ → Spelling

-- an operation with `path` and the member `value`, if there is one
abbrev pub valued : (Tokens → Doc → Operation) → List ℕ → Doc → Option Spelling
valued f path d = option_map (with_value f path) (child (name (codes "value")) d)

-- an operation with the member `from` and `path`, if `from` is a text
abbrev pub sourced : (Tokens → Tokens → Operation) → List ℕ → Doc → Option Spelling
sourced f path d = option_map (λ from. with_from f from path) (text_at (codes "from") d)

-- by the operation's `op` and `path`; members that it doesn't define are ignored (section 4)
abbrev pub spelled_as : List ℕ → List ℕ → Doc → Option Spelling
spelled_as op path d =
    if bytes_eq op (codes "add") then valued add path d else
    if bytes_eq op (codes "remove") then Some (with_path remove path) else
    if bytes_eq op (codes "replace") then valued replace path d else
    if bytes_eq op (codes "move") then sourced move path d else
    if bytes_eq op (codes "copy") then sourced copy path d else
    if bytes_eq op (codes "test") then valued test path d else None

-- the operation that an object spells by its members `op` and `path`, both texts
abbrev pub spelling : Doc → Option Spelling
spelling d =
    option_and_then (λ op. option_and_then (λ path. spelled_as op path d) (text_at (codes "path") d)) (text_at (codes "op") d)

-- ---- one operation, or the number of its fault

-- the tokens of `path` begin with those of `from`, and there are more
abbrev pub is_within : Tokens → Tokens → Bool
is_within from path = starts_with bytes_eq path from && nat_lt (length from) (length path)

-- a value is not moved into itself (section 4.4)
abbrev pub not_into_itself : Operation → Result Operation ℕ
not_into_itself (move from path) = if is_within from path then Err PATCH_INTO_ITSELF else Ok (move from path)
not_into_itself o = Ok o

-- an operation whose pointers were read, if they are pointers
abbrev pub checked : Option Operation → Result Operation ℕ
checked None = Err PATCH_POINTER
checked (Some o) = not_into_itself o

-- with the pointers read
abbrev pub meant : Spelling → Result Operation ℕ
meant (with_value f path v) = checked (option_map (λ p. f p v) (pointer_of path))
meant (with_path f path) = checked (option_map f (pointer_of path))
meant (with_from f from path) =
    checked (option_and_then (λ p. option_map (λ q. f q p) (pointer_of from)) (pointer_of path))

-- an operation that was spelled, with its pointers read
abbrev pub or_shape : Option Spelling → Result Operation ℕ
or_shape None = Err PATCH_SHAPE
or_shape (Some s) = meant s

-- the operation that a document spells, or the number of its fault
abbrev pub operation_of : Doc → Result Operation ℕ
operation_of d = or_shape (spelling d)

-- ---- the operations, or the first fault

-- the operation before the others, if they have no fault
abbrev pub prepend : Operation → Result (List Operation) PatchFault → Result (List Operation) PatchFault
prepend o (Err e) = Err e
prepend o (Ok os) = Ok (o ∷ os)

-- the fault of element i comes before any fault of the later ones
abbrev pub or_fault : ℕ → Result Operation ℕ → Result (List Operation) PatchFault → Result (List Operation) PatchFault
or_fault i (Err number) rest = Err (fault_at number i)
or_fault i (Ok o) rest = prepend o rest

-- the operations that the elements spell, the first of them the i-th
abbrev pub operations_from : ℕ → Elements → Result (List Operation) PatchFault
operations_from i no_elements = Ok []
operations_from i (element d ds) = or_fault i (operation_of d) (operations_from (suc i) ds)

-- a refusal of the whole, which names no operation
abbrev pub fault_of : ℕ → PatchFault
fault_of number = record { number = number; op = None }

-- the operations that an array spells; no other value spells any
abbrev pub operations_in : Doc → Result (List Operation) PatchFault
operations_in (list ds) = operations_from 0 ds
operations_in _ = Err (fault_of PATCH_SHAPE)

-- how many elements an array has; 0 of any other value
abbrev pub operation_count : Doc → ℕ
operation_count (list ds) = elements_len ds
operation_count _ = 0

-- more operations, bytes or levels than a patch may have
abbrev pub is_too_long : Doc → Bool
is_too_long d =
    nat_lt 4_096 (operation_count d) || nat_lt 2_097_152 (length (text_of d)) || nat_lt 66 (height d)

-- the operations that the document spells, or the first fault: the limits before all else
abbrev pub operations_of : Doc → Result (List Operation) PatchFault
operations_of d = if is_too_long d then Err (fault_of PATCH_LONG) else operations_in d
