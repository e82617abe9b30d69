-- Small documents and patches, for the laws in `examples`.
use Rattle.std.specs.Prelude.{ℕ, List, [], ◌∷◌, pos, codes}
use Rattle.doc_tree.specs.Doc.{Doc, null, int, text, list, object, Elements, no_elements, element, no_members, member}
use Rattle.doc_edits.specs.Operation as op
use Rattle.doc_edits.specs.Operation.{Operation}

-- an array of these numbers
abbrev pub numbers : List ℕ → Elements
numbers [] = no_elements
numbers (n ∷ ns) = element (int (pos n)) (numbers ns)

-- {"a":null,"b":[1,2]}
abbrev pub first : Doc
first = object (member (codes "a") null (member (codes "b") (list (numbers (1 ∷ 2 ∷ []))) no_members))

-- {"op":OP,"path":PATH,"value":N}
abbrev pub valued_operation : List ℕ → List ℕ → ℕ → Doc
valued_operation name path n =
    object (member (codes "op") (text name) (member (codes "path") (text path) (member (codes "value") (int (pos n)) no_members)))

-- [{"op":"add","path":"/c","value":3},{"op":"test","path":"/a","value":0}]
abbrev pub add_and_test : Doc
add_and_test =
    list (element (valued_operation (codes "add") (codes "/c") 3)
    (element (valued_operation (codes "test") (codes "/a") 0) no_elements))

-- the operations that it spells
abbrev pub added_and_tested : List Operation
added_and_tested = op.add (codes "c" ∷ []) (int (pos 3)) ∷ op.test (codes "a" ∷ []) (int (pos 0)) ∷ []

-- {"b":[1,2]}
abbrev pub second : Doc
second = object (member (codes "b") (list (numbers (1 ∷ 2 ∷ []))) no_members)

-- 3 is added after the last element of "b", then 0 before its first
abbrev pub both_ends : List Operation
both_ends = op.add (codes "b" ∷ codes "-" ∷ []) (int (pos 3)) ∷ op.add (codes "b" ∷ codes "0" ∷ []) (int (pos 0)) ∷ []

-- {"b":[0,1,2,3]}
abbrev pub second_after : Doc
second_after = object (member (codes "b") (list (numbers (0 ∷ 1 ∷ 2 ∷ 3 ∷ []))) no_members)

-- 4 is added at index 5 of "b"
abbrev pub too_far : List Operation
too_far = op.add (codes "b" ∷ codes "5" ∷ []) (int (pos 4)) ∷ []

-- {"a":1}
abbrev pub third : Doc
third = object (member (codes "a") (int (pos 1)) no_members)

-- {"a":1,"x":{"a":1}}
abbrev pub third_after : Doc
third_after = object (member (codes "a") (int (pos 1)) (member (codes "x") third no_members))

-- [{"from":"/a","op":"move","path":"/a/x"}]
abbrev pub into_itself : Doc
into_itself =
    list (element (object (member (codes "from") (text (codes "/a"))
    (member (codes "op") (text (codes "move")) (member (codes "path") (text (codes "/a/x")) no_members)))) no_elements)
