-- The property that every document of a tree in memory has; a `Doc` by itself may have any numbers, bytes and order.
use Rattle.std.specs.Prelude.{◌≡◌, List, ℕ, FitsSigned, ⊤}
use Rattle.std.specs.Int.{w64}
use Rattle.std.specs.Ordering.{nat_cmp}
use Rattle.std.specs.Cmp.Lexicographic.{slice_cmp}
use Rattle.std.specs.Str.{IsUtf8}
use Rattle.std.specs.declared.cmp.Ordering.{Ordering}
use Rattle.doc_tree.specs.Doc.{Doc, null, boolean, int, text, list, object, Elements, no_elements, element, Members, no_members, member}

-- the name comes before each of the members'
abbrev pub IsBefore : List ℕ → Members → Type 0
IsBefore k no_members = ⊤
IsBefore k (member l d ms) = (slice_cmp nat_cmp k l ≡ Ordering.Less) × IsBefore k ms

-- numbers fit 64 bits, texts and names are UTF-8, and members are in order of their names
abbrev mutual
  -- of a document
  pub IsSound : Doc → Type 0
  IsSound null = ⊤
  IsSound (boolean b) = ⊤
  IsSound (int z) = FitsSigned w64 z
  IsSound (text s) = IsUtf8 s
  IsSound (list ds) = AreSound ds
  IsSound (object ms) = MembersAreSound ms

  -- of elements
  pub AreSound : Elements → Type 0
  AreSound no_elements = ⊤
  AreSound (element d ds) = IsSound d × AreSound ds

  -- of members
  pub MembersAreSound : Members → Type 0
  MembersAreSound no_members = ⊤
  MembersAreSound (member k d ms) = IsUtf8 k × IsSound d × IsBefore k ms × MembersAreSound ms
