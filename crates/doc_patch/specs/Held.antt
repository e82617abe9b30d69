-- The memory that a patch takes beyond its document and its own values, as bytes of text. A value that an operation
-- removes or replaces was there before, and takes none.
use Rattle.std.specs.Prelude.{◌≡◌, ◌⊎◌, ◌<◌, ℕ, ◌+◌, min, nat_lt, if◌then◌else◌, List, [], ◌∷◌, Option, Some, None, Result, Ok, Err}
use Rattle.doc_tree.specs.Doc.{Doc, list, object}
use Rattle.doc_pointer.specs.Place.{resolve}
use Rattle.doc_edits.specs.Edit.{elements_len}
use Rattle.doc_edits.specs.Operation.{Operation, copy, move, op, remove}
use Rattle.doc_edits.specs.Size.{size}
use Rattle.doc_edits.specs.Spare.{count}
use Rattle.doc_patch.specs.Within.{holder}
use Rattle.doc_patch.specs.declared.log.Log.{Log}

-- the length of the text of a value, if there is one
abbrev pub size_of : Option Doc → ℕ
size_of None = 0
size_of (Some v) = size v

-- how many members or elements a value has
abbrev pub children : Doc → ℕ
children (object ms) = count ms
children (list ds) = elements_len ds
children _ = 0

-- the same, if there is a value
abbrev pub children_of : Option Doc → ℕ
children_of None = 0
children_of (Some v) = children v

-- the length of the text that an operation copies
abbrev pub copied : Operation → Doc → ℕ
copied (copy from path) d = size_of (resolve from d)
copied _ d = 0

-- how many members or elements the object or array has from which an operation takes one
abbrev pub siblings : Operation → Doc → ℕ
siblings (remove path) d = children_of (resolve (holder path) d)
siblings (move from path) d = children_of (resolve (holder from) d)
siblings _ d = 0

-- what f counts in the document that was made, if one was
abbrev pub counted : (Doc → ℕ) → Result Doc ℕ → ℕ
counted f (Err number) = 0
counted f (Ok d) = f d

-- the sum of what f counts for each operation in the document that it finds
abbrev pub sum : (Operation → Doc → ℕ) → List Operation → Doc → ℕ
sum f [] d = 0
sum f (o ∷ os) d = f o d + counted (sum f os) (op o d)

-- what the operations copy, as far as one document has room for it; and the document, if it is copied whole rather than
-- to keep room for more than 500,000 siblings
abbrev pub held : List Operation → Doc → ℕ
held os d = min (sum copied os d) 1_048_576 + (if nat_lt 500_000 (sum siblings os d) then size d else 0)

-- a number as it is counted, at most the largest number of 64 bits
abbrev pub capped : ℕ → ℕ
capped n = min n 0xffff_ffff_ffff_ffff

-- the log counted, beside what it had counted, what these operations copy and the siblings of what they take
pub record Counts (old : Log) (os : List Operation) (d : Doc) (new : Log) : Type 0 where
  pub copied_is : capped new.copied ≡ capped (old.copied + sum copied os d)
  pub siblings_are : capped new.siblings ≡ capped (old.siblings + sum siblings os d)

-- the same of one operation
pub record CountsOne (old : Log) (o : Operation) (d : Doc) (new : Log) : Type 0 where
  pub copied_is : new.copied ≡ capped (old.copied + copied o d)
  pub siblings_are : new.siblings ≡ capped (old.siblings + siblings o d)

-- the log has counted more than that many bytes of copies, or more than 500,000 siblings
abbrev pub HoldsMore : Log → ℕ → Type 0
HoldsMore log len = (500_000 < log.siblings) ⊎ (len < log.copied)
