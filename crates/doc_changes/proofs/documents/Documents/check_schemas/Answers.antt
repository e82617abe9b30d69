use Rattle.std.proofs.Common.{◌≡◌, sym, subst, arith}
use Rattle.doc_tree.specs.TreeView.{view}
use Rattle.doc_schema.specs.Faults.{IsFaultless}
use Rattle.refusals.specs.declared.numbers.TheConstants.{NEWER_SCHEMA}
use Rattle.doc_changes.specs.Refusals.{plain}
use Rattle.doc_changes.specs.State.{AreOffered, Document}
use Rattle.doc_changes.specs.StateView.{named}
use Rattle.doc_changes.specs.declared.refusal.Refusal.{Refusal}
use Rattle.doc_changes.proofs.EachOffered.{all_at, all_end, all_more}
use Rattle.doc_changes.proofs.Judgements.{err_same}
use Rattle.doc_changes.proofs.documents.Documents.check_schemas.Goals as goal

pub loop-place-preserved : goal.loop-place-preserved
loop-place-preserved c = λ rest.
    c.loop-place.invariant
    (all_more (λ (d : Document). IsFaultless c.args.profile d.schema) c.args.self.now.documents c.loop-place.place (named c.stored_at-kept.result.0.now c.stored_at-kept.result.1.now) c.stored_at-kept.ensures
    (subst (λ t. IsFaultless c.args.profile (view t)) c.get.ensures c.in_ok-check_offered.ensures.offered) rest)

pub returns-in_err-check_offered-clause-refused : goal.returns-in_err-check_offered-clause-refused
returns-in_err-check_offered-clause-refused c =
    let ds = c.args.self.now.documents in
    let refused = c.in_err-check_offered.ensures.refused in
    err_same c.from_residual.result c.in_err-check_offered.field-0.0 (λ (r : Refusal). (r ≡ plain NEWER_SCHEMA) × (AreOffered c.args.profile ds → ⊥))
    (refused.0, λ all. refused.1 (subst (λ t. IsFaultless c.args.profile (view t)) (sym c.get.ensures) (all_at (λ (d : Document). IsFaultless c.args.profile d.schema) ds c.loop-place.place (named c.stored_at-kept.result.0.now c.stored_at-kept.result.1.now) c.stored_at-kept.ensures all)))
    c.from_residual.ensures.1

pub returns-clause-offered : goal.returns-clause-offered
returns-clause-offered c =
    c.loop-place.invariant (all_end (λ (d : Document). IsFaultless c.args.profile d.schema) c.args.self.now.documents c.loop-place.place (omega (arith, c.len-place-end.ensures.len)))
