-- A value that is moved.
use Rattle.std.proofs.Common.{◌≡◌, inl, inr, true, false, Some, Ok, Err, refl, sym, ap, ◌∙◌}
use Rattle.std.specs.Cmp.Lexicographic.{pointwise}
use Rattle.std.specs.Str.{bytes_eq}
use Rattle.doc_tree.specs.Doc.{Doc}
use Rattle.doc_pointer.specs.Place.{resolve}
use Rattle.doc_edits.specs.Edit as edit
use Rattle.doc_edits.specs.Edit.{Tokens}
use Rattle.doc_edits.specs.Operation.{move, change, and_then, or_missing}
use Rattle.doc_edits.specs.OperationFault.{IsOperationFaultOf, IsMissing}
use Rattle.doc_edits.specs.declared.fault.OperationFault.{OperationFault}

pub moved_onto_itself : (from path : Tokens) (d v : Doc) → resolve from d ≡ Some v → pointwise bytes_eq from path ≡ true → change (move from path) d ≡ Ok d
moved_onto_itself from path d v at same = rw (at, same) refl

pub moved_elsewhere : (from path : Tokens) (d v : Doc) → resolve from d ≡ Some v → pointwise bytes_eq from path ≡ false
    → change (move from path) d ≡ and_then (or_missing (edit.remove from d)) (λ e. or_missing (edit.add path v e))
moved_elsewhere from path d v at other = rw (at, other) refl

-- nothing is moved from a place that can't be removed
pub moved_from_nothing : (from ks path : Tokens) (d v : Doc) (e : OperationFault) → ks ≡ from → resolve from d ≡ Some v → pointwise bytes_eq from path ≡ false → IsMissing (edit.remove ks d) e
    → IsOperationFaultOf (change (move from path) d) e
moved_from_nothing from ks path d v e same at other (inl none) =
    inl (moved_elsewhere from path d v at other ∙ ap (λ o. and_then (or_missing o) (λ x. or_missing (edit.add path v x))) (ap (λ k. edit.remove k d) (sym same) ∙ none.1) ∙ ap Err (sym none.0))
moved_from_nothing from ks path d v e same at other (inr memory) = inr memory

moved_value : (from ks path ls : Tokens) (d v without : Doc) → ks ≡ from → ls ≡ path → resolve from d ≡ Some v → pointwise bytes_eq from path ≡ false → edit.remove ks d ≡ Some without
    → change (move from path) d ≡ or_missing (edit.add ls v without)
moved_value from ks path ls d v without same that at other gone =
    moved_elsewhere from path d v at other ∙ ap (λ o. and_then (or_missing o) (λ x. or_missing (edit.add path v x))) (ap (λ k. edit.remove k d) (sym same) ∙ gone) ∙ ap (λ l. or_missing (edit.add l v without)) (sym that)

pub moved_to : (from ks path ls : Tokens) (d v without new : Doc) → ks ≡ from → ls ≡ path → resolve from d ≡ Some v → pointwise bytes_eq from path ≡ false → edit.remove ks d ≡ Some without → edit.add ls v without ≡ Some new
    → change (move from path) d ≡ Ok new
moved_to from ks path ls d v without new same that at other gone there = moved_value from ks path ls d v without same that at other gone ∙ ap or_missing there

pub moved_nowhere : (from ks path ls : Tokens) (d v without : Doc) (e : OperationFault) → ks ≡ from → ls ≡ path → resolve from d ≡ Some v → pointwise bytes_eq from path ≡ false → edit.remove ks d ≡ Some without
    → IsMissing (edit.add ls v without) e → IsOperationFaultOf (change (move from path) d) e
moved_nowhere from ks path ls d v without e same that at other gone (inl none) = inl (moved_value from ks path ls d v without same that at other gone ∙ ap or_missing none.1 ∙ ap Err (sym none.0))
moved_nowhere from ks path ls d v without e same that at other gone (inr memory) = inr memory
