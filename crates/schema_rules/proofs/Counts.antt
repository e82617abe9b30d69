-- How many children a tree has, by its document.
use Rattle.std.proofs.Common.{◌≡◌, ℕ, suc, Bool, true, not, ◌==◌, List, [], ◌∷◌, length, String, Vec, Global, refl, ap, ◌∙◌, arith}
use Rattle.std.proofs.lemmas.Bool.Decides.{nat_tests}
use Rattle.doc_tree.specs.Doc.{list}
use Rattle.doc_tree.specs.Lists.{names_list}
use Rattle.doc_tree.specs.TreeView.{view, elements_view, members_view}
use Rattle.doc_tree.specs.declared.tree.Tree.{Tree, List as the_list, Object}
use Rattle.doc_tree.proofs.Elements.{length-elements_list}
use Rattle.doc_tree.proofs.Views.{view-List, view-Object}
use Rattle.schema_rules.specs.Assertions.{on_list, on_object}
use Rattle.schema_rules.specs.Forms.{is_some_list}
use Rattle.name_map.specs.Entries.{Entries}

-- an object has as many names as a map has entries
pub length-names_list : (es : List (String Global × Tree)) → length (names_list (members_view es)) ≡ length es
length-names_list [] = refl
length-names_list (e ∷ es) = ap suc (length-names_list es)

pub on_list-view : (test : ℕ → Bool) (t : Tree) (v : Vec Tree Global) → t ≡ the_list v → on_list test (view t) ≡ test (length v.items)
on_list-view test t v e = ap (λ x. on_list test (view x)) e ∙ ap (on_list test) (view-List v) ∙ ap test (length-elements_list v.items)

pub on_object-view : (test : ℕ → Bool) (t : Tree) (m : Entries Tree) → t ≡ Object m → on_object test (view t) ≡ test (length m.entries)
on_object-view test t m e = ap (λ x. on_object test (view x)) e ∙ ap (on_object test) (view-Object m) ∙ ap test (length-names_list m.entries)

not_zero : (n : ℕ) → true ≡ not (suc n == 0)
not_zero n = grind (arith, nat_tests)

has_some : (ts : List Tree) → is_some_list (list (elements_view ts)) ≡ not (length ts == 0)
has_some [] = refl
has_some (t ∷ ts) = not_zero (length ts)

pub is_some_list-view : (t : Tree) (v : Vec Tree Global) → t ≡ the_list v → is_some_list (view t) ≡ not (length v.items == 0)
is_some_list-view t v e = ap (λ x. is_some_list (view x)) e ∙ ap is_some_list (view-List v) ∙ has_some v.items
