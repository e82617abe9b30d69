-- How many elements and members there are.
use Rattle.std.proofs.Common.{◌≡◌, suc, ◌+◌, List, [], ◌∷◌, length, refl, ap, ◌∙◌, String, Vec, Global}
use Rattle.doc_tree.specs.Lists.{elements_list, names_list}
use Rattle.doc_tree.specs.TreeView.{view, elements_view, members_view}
use Rattle.doc_tree.specs.declared.tree.Tree.{Tree}
use Rattle.doc_tree.specs.declared.tree.Tree.TheVariants.{List as the_list, Object}
use Rattle.doc_tree.proofs.Views.{view-List, view-Object}
use Rattle.name_map.specs.Entries.{Entries}
use Rattle.judged_work.specs.Sizes.{own_size}

of_elements : (ts : List Tree) → length (elements_list (elements_view ts)) ≡ length ts
of_elements [] = refl
of_elements (t ∷ ts) = ap suc (of_elements ts)

of_members : (ms : List (String Global × Tree)) → length (names_list (members_view ms)) ≡ length ms
of_members [] = refl
of_members (m ∷ ms) = ap suc (of_members ms)

pub of_list : (t : Tree) (v : Vec Tree Global) → t ≡ the_list v → own_size (view t) ≡ 1 + length v.items
of_list t v e = ap (λ x. own_size (view x)) e ∙ ap own_size (view-List v) ∙ ap (λ n. 1 + n) (of_elements v.items)

pub of_object : (t : Tree) (m : Entries Tree) → t ≡ Object m → own_size (view t) ≡ 1 + length m.entries
of_object t m e = ap (λ x. own_size (view x)) e ∙ ap own_size (view-Object m) ∙ ap (λ n. 1 + n) (of_members m.entries)
