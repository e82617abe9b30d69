-- A change for which documents were judged, on the same documents.
use Rattle.std.proofs.Common.{◌≡◌, List, sym, subst}
use Rattle.record_text.specs.Change.{Change}
use Rattle.doc_changes.specs.Judged.{IsReady}
use Rattle.doc_changes.specs.State.{Document, State}
use Rattle.doc_changes.specs.declared.judged.Judged.{Judged}

pub ready_on : (seen s : State) (ds : List Document) (c : Change) (j : Judged) → seen ≡ s → ds ≡ s.documents → IsReady seen.profile seen.documents c j → IsReady s.profile ds c j
ready_on seen s ds c j same are ready =
    subst (λ (l : List Document). IsReady s.profile l c j) (sym are) (subst (λ (t : State). IsReady t.profile t.documents c j) same ready)
