-- The growth of a document: how its height and the length of its text change.
use Rattle.std.specs.Prelude.{◌≡◌, ℕ, ◌+◌, ◌<◌, ◌≤◌, max, min, Option, Some, None, MatchOption, Result, Ok, MatchResult, ⊤}
use Rattle.std.specs.Option.{ForSome}
use Rattle.doc_tree.specs.Doc.{Doc, height}
use Rattle.doc_tree.specs.TreeView.{view}
use Rattle.doc_tree.specs.declared.tree.Tree.{Tree}
use Rattle.doc_pointer.specs.Place.{resolve}
use Rattle.doc_edits.specs.Change.{tokens_of}
use Rattle.doc_edits.specs.OperationFault.{IsOperationFaultOf}
use Rattle.doc_edits.specs.declared.fault.OperationFault.{OperationFault}
use Rattle.doc_edits.specs.Size.{size}
use Rattle.doc_edits.specs.declared.change.Change.{Change}
use Rattle.doc_edits.specs.declared.change.Change.TheVariants.{Add, Remove, Replace, Return}
use Rattle.doc_edits.specs.declared.change.Made.{Made}
use Rattle.doc_edits.specs.declared.size_change.KnownSize.{KnownSize}
use Rattle.doc_edits.specs.declared.size_change.SizeChange.{SizeChange}
use Rattle.doc_edits.specs.declared.size_change.KnownPlace.{KnownPlace}
use Rattle.doc_edits.specs.declared.size_change.DocumentSize.{DocumentSize}
use Rattle.doc_edits.specs.declared.size_change.ValueSize.{ValueSize}
use Rattle.doc_edits.specs.declared.place.Placed.{Placed}
use Rattle.doc_edits.specs.declared.place.Taken.{Taken}
use Rattle.doc_edits.specs.declared.limits.TheConstants.{DOCUMENT_BYTES, DOCUMENT_HEIGHT}

-- the number of bytes, if that is within the limit
abbrev pub IsBytes : Option ℕ → ℕ → Type 0
IsBytes o n = MatchOption o (DOCUMENT_BYTES < n) (λ m. m ≡ n)

-- ---- a value

-- the height as it is answered, at most the largest number of 64 bits
abbrev pub capped_height : Doc → ℕ
capped_height v = min (height v) 0xffff_ffff_ffff_ffff

-- what is known is the value's
abbrev pub IsOf : KnownSize → Doc → Type 0
IsOf x v = ForSome x.height (λ h. h ≡ capped_height v) × ForSome x.len (λ n. n ≡ size v)

-- what is known holds of whatever value is at the place
abbrev pub IsKnown : KnownPlace → Doc → Type 0
IsKnown k d = (v : Doc) → resolve (tokens_of k.path.now) d ≡ Some v → IsOf k.extent v

-- the value's height and the length of its text
abbrev pub IsWeightOf : ValueSize → Doc → Type 0
IsWeightOf w v = (w.height ≡ capped_height v) × IsBytes w.len (size v)

-- ---- one change, from a text of m bytes to one of n

-- the bytes of the text of what went, 0 if nothing did
abbrev pub old_size : Option Tree → ℕ
old_size None = 0
old_size (Some t) = size (view t)

-- with j bytes beside the values: a name with its colon, and a comma
abbrev pub Grows : Change → Made → ℕ → ℕ → Type 0
Grows (Add v) made m n =
    (j : ℕ) × IsBytes made.beside j × (n + old_size made.old ≡ m + size (view v) + j) × (old_size made.old ≤ m)
Grows Remove made m n = (j : ℕ) × IsBytes made.beside j × (n + old_size made.old + j ≡ m)
Grows (Return name spare v) made m n = ⊤
Grows (Replace v) made m n = (n + old_size made.old ≡ m + size (view v)) × (old_size made.old ≤ m)

-- ---- one operation, from document d to e

-- a text of m bytes becomes one of n
abbrev pub IsGrown : SizeChange → ℕ → ℕ → Type 0
IsGrown g m n = (g.lost ≤ m) × MatchOption g.gained (DOCUMENT_BYTES < n) (λ more. n + g.lost ≡ m + more)

-- from d, at most `most` high, to e: the height of e is given by how deep what came reaches, and the length of its text
-- by the bytes that came and went
pub record Grew (most : ℕ) (g : SizeChange) (d e : Doc) : Type 0 where
  pub deep : height d ≤ DOCUMENT_HEIGHT → DOCUMENT_HEIGHT < g.reach → DOCUMENT_HEIGHT < height e
  pub high : height d ≤ most → g.reach ≤ DOCUMENT_HEIGHT → height e ≤ max most g.reach
  pub longer : size d ≤ DOCUMENT_BYTES → IsGrown g (size d) (size e)

-- the value v was put at a place: `beside` bytes came beside it, and `old` went with the value that was there
pub record IsPlaced (p : Placed) (v d e : Doc) : Type 0 where
  pub beside : ℕ
  pub old : ℕ
  pub came : IsBytes p.beside beside
  pub went : size d ≤ DOCUMENT_BYTES → p.lost ≡ old
  pub sum : size e + old ≡ size d + size v + beside
  pub low : old ≤ size d

-- a value was taken, and the bytes beside it went too
pub record Shrank (t : Taken) (d e : Doc) : Type 0 where
  pub higher : height e ≤ height d
  pub longer : size d ≤ DOCUMENT_BYTES → size e + size (view t.value) + t.beside ≡ size d

-- the document is within the limits, and this is its measure
pub record IsMeasured (m : DocumentSize) (d : Doc) : Type 0 where
  pub len : m.len ≡ size d
  pub short : m.len ≤ DOCUMENT_BYTES
  pub high : height d ≤ m.most
  pub low : m.most ≤ DOCUMENT_HEIGHT

-- the document is what was made, and its measure is answered; or what was made is refused
abbrev pub Measures : Result Doc ℕ → Doc → Result DocumentSize OperationFault → Type 0
Measures made d result = MatchResult result (λ m. (made ≡ Ok d) × IsMeasured m d) (IsOperationFaultOf made)

-- the limits of `e`, if it grew in this way from a document of that measure
pub record IsGrownFrom (m : DocumentSize) (g : SizeChange) (e : Doc) : Type 0 where
  pub short : m.len ≤ DOCUMENT_BYTES
  pub low : m.most ≤ DOCUMENT_HEIGHT
  pub deep : DOCUMENT_HEIGHT < g.reach → DOCUMENT_HEIGHT < height e
  pub high : g.reach ≤ DOCUMENT_HEIGHT → height e ≤ max m.most g.reach
  pub longer : IsGrown g m.len (size e)
