-- Rows of counts of matching elements, by computation.
use Rattle.std.proofs.Common.{◌≡◌, [], ◌∷◌, true, false, refl, codes}
use Rattle.std.specs.Prelude.{pos}
use Rattle.doc_tree.specs.Doc.{boolean, int, text, list, object, no_elements, element, no_members, member}
use Rattle.schema_rules.specs.Rules.{joins}
use Rattle.schema_rules.specs.declared.keyword.Keyword.TheVariants.{Contains, MaxContains}

one_of_none : joins no_members Contains (boolean true) (list no_elements) [] ≡ false
one_of_none = refl

none_of_none : joins (member (codes "minContains") (int (pos 0)) no_members) Contains (boolean false) (list no_elements) [] ≡ true
none_of_none = refl

two_of_two : joins (member (codes "minContains") (int (pos 2)) no_members) Contains (boolean true) (list (element (int (pos 1)) (element (int (pos 2)) no_elements))) (true ∷ true ∷ []) ≡ true
two_of_two = refl

one_of_two : joins (member (codes "minContains") (int (pos 2)) no_members) Contains (boolean true) (list (element (int (pos 1)) (element (text (codes "x")) no_elements))) (true ∷ false ∷ []) ≡ false
one_of_two = refl

on_objects : joins no_members Contains (boolean true) (object no_members) [] ≡ true
on_objects = refl

over_the_most : joins (member (codes "contains") (boolean true) no_members) MaxContains (int (pos 1)) (list (element (int (pos 1)) (element (int (pos 2)) no_elements))) (true ∷ true ∷ []) ≡ false
over_the_most = refl

alone : joins no_members MaxContains (int (pos 1)) (list (element (int (pos 1)) (element (int (pos 2)) no_elements))) (true ∷ true ∷ []) ≡ true
alone = refl
