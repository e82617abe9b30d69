-- A patch that is made operation by operation.
use Rattle.std.proofs.Common.{◌≡◌, ℕ, suc, ◌+◌, ◌∷◌, List, Ok, Result, sym, ap, subst, ◌∙◌}
use Rattle.doc_tree.specs.Doc.{Doc}
use Rattle.doc_edits.specs.Operation.{Operation, op}
use Rattle.doc_edits.specs.OperationFault.{IsOperationFaultOf}
use Rattle.doc_edits.specs.declared.fault.OperationFault.{OperationFault}
use Rattle.doc_patch.specs.Fault.{IsFaultOf}
use Rattle.doc_patch.specs.Held.{capped, counted, sum}
use Rattle.doc_patch.specs.Patch.{go_on, patch_from}
use Rattle.doc_patch.specs.declared.fault.PatchFault.{PatchFault}
use Rattle.doc_patch.proofs.Counts.{capped_once}
use Rattle.doc_patch.proofs.Operations.{At, refused_at}

-- after one of those that are left
pub rest_next : (i j : ℕ) (o : Operation) (left : List Operation) (d e : Doc) (r : Result Doc PatchFault) → j ≡ suc i → op o d ≡ Ok e → patch_from i (o ∷ left) d ≡ r → patch_from j left e ≡ r
rest_next i j o left d e r next made is = ap (λ n. patch_from n left e) next ∙ ap (λ x. go_on i x (patch_from (suc i) left)) (sym made) ∙ is

pub counts_one : (f : Operation → Doc → ℕ) (o : Operation) (left : List Operation) (d e : Doc) (a b r : ℕ) → op o d ≡ Ok e → b ≡ capped (a + f o d) → capped (a + sum f (o ∷ left) d) ≡ r → capped (b + sum f left e) ≡ r
counts_one f o left d e a b r made counts is =
    ap (λ n. capped (n + sum f left e)) counts ∙ capped_once a (f o d) (sum f left e) ∙ ap (λ x. capped (a + (f o d + counted (sum f left) x))) (sym made) ∙ is

-- one of them is refused, and with it the patch
pub refused_here : (i : ℕ) (o : Operation) (left : List Operation) (d : Doc) (e : OperationFault) (f : PatchFault) (r : Result Doc PatchFault) → IsOperationFaultOf (op o d) e → At e i f → patch_from i (o ∷ left) d ≡ r → IsFaultOf r f
refused_here i o left d e f r refused at is = subst (λ x. IsFaultOf x f) is (refused_at i o left d e f refused at)
