-- Comparisons and functions of filters (RFC 9535, sections 2.3.5.2.2, 2.4.4, 2.4.5 and 2.4.8), by documents or Nothing
-- (None).
use Rattle.std.specs.Prelude.{ℕ, suc, Bool, true, false, not, ◌||◌, ◌==◌, nat_lt, if◌then◌else◌, int_lt, pos, List, [], ◌∷◌, length, chars, Option, Some, None}
use Rattle.doc_tree.specs.Doc.{Doc, int, text, list, object, Members, no_members, member}
use Rattle.doc_tree.specs.Same.{same}
use Rattle.path_grammar.specs.declared.compare_op.CompareOp.{CompareOp}
use Rattle.path_grammar.specs.declared.compare_op.CompareOp.TheVariants.{Equal, NotEqual, Less, LessEqual, Greater, GreaterEqual}
use Rattle.path_select.specs.Nodes.{Located}
use Rattle.path_select.specs.Selectors.{elements_count}

-- `==`: two values that are the same, or Nothing on both sides
abbrev pub are_equal : Option Doc → Option Doc → Bool
are_equal None None = true
are_equal (Some a) (Some b) = same a b
are_equal _ _ = false

-- one list of code points comes before another: at the first difference its code point is the lesser, or it ends there
abbrev pub points_before : List ℕ → List ℕ → Bool
points_before [] [] = false
points_before [] (d ∷ ds) = true
points_before (c ∷ cs) [] = false
points_before (c ∷ cs) (d ∷ ds) = if c == d then points_before cs ds else nat_lt c d

-- the first text comes before the second, by their code points
abbrev pub text_before : List ℕ → List ℕ → Bool
text_before a b = points_before (chars a) (chars b)

-- two numbers by value, or two texts by their code points; else false
abbrev pub comes_before : Doc → Doc → Bool
comes_before (int a) (int b) = int_lt a b
comes_before (text a) (text b) = text_before a b
comes_before _ _ = false

-- `<`: never if a side is Nothing
abbrev pub is_less : Option Doc → Option Doc → Bool
is_less (Some a) (Some b) = comes_before a b
is_less _ _ = false

-- each operator by these two
abbrev pub compares : CompareOp → Option Doc → Option Doc → Bool
compares Equal a b = are_equal a b
compares NotEqual a b = not (are_equal a b)
compares Less a b = is_less a b
compares LessEqual a b = is_less a b || are_equal a b
compares Greater a b = is_less b a
compares GreaterEqual a b = is_less b a || are_equal b a

-- ---- functions

-- how many members there are
abbrev pub members_count : Members → ℕ
members_count no_members = 0
members_count (member k d ms) = suc (members_count ms)

-- a number
abbrev pub number : ℕ → Option Doc
number n = Some (int (pos n))

-- `length`: the code points of a text, the elements of a list, the members of an object, else Nothing
abbrev pub length_value : Option Doc → Option Doc
length_value (Some (text s)) = number (length (chars s))
length_value (Some (list ds)) = number (elements_count ds)
length_value (Some (object ms)) = number (members_count ms)
length_value _ = None

-- `value`: of a list of exactly one node its value, else Nothing
abbrev pub only_value : List Located → Option Doc
only_value (n ∷ []) = Some n.1
only_value _ = None

-- whether a node is selected
abbrev pub is_some_node : List Located → Bool
is_some_node [] = false
is_some_node (n ∷ ns) = true
