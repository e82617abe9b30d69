-- The equality of two documents, as a test has it (RFC 6902, section 4.6).
use Rattle.std.specs.Prelude.{Bool, true, false, ◌&&◌}
use Rattle.std.specs.Ordering.{int_eq}
use Rattle.std.specs.Str.{bytes_eq}
use Rattle.std.proofs.Math.Bool.{beq}
use Rattle.doc_tree.specs.Doc.{Doc, null, boolean, int, text, list, object, Elements, no_elements, element, Members, no_members, member}

-- the same type, and numbers by value, texts by their bytes, lists element by element, objects member by member
abbrev mutual
  -- of two documents
  pub same : Doc → Doc → Bool
  same null null = true
  same (boolean a) (boolean b) = beq a b
  same (int a) (int b) = int_eq a b
  same (text a) (text b) = bytes_eq a b
  same (list a) (list b) = same_elements a b
  same (object a) (object b) = same_members a b
  same _ _ = false

  -- of elements, one by one
  pub same_elements : Elements → Elements → Bool
  same_elements no_elements no_elements = true
  same_elements (element a more) (element b others) = same a b && same_elements more others
  same_elements _ _ = false

  -- of members, name and value by name and value
  pub same_members : Members → Members → Bool
  same_members no_members no_members = true
  same_members (member k a more) (member l b others) = bytes_eq k l && (same a b && same_members more others)
  same_members _ _ = false
