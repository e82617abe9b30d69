use Rattle.std.proofs.Common.{◌∙◌, inl, inr, [], ◌∷◌, ap, refl, subst, sym}
use Rattle.doc_store.specs.declared.status.Status.{Status}
use Rattle.doc_store.specs.Formats.{status_of}
use Rattle.recorded_store.specs.Recorded.{RecordedView}
use Rattle.store_commits.specs.Account.{IsStanding, StoreView}
use Rattle.store_commits.specs.Run.{reply_of, seal}
use Rattle.store_commits.specs.declared.event.Reply.TheVariants.{Sealed}
use Rattle.jpstore.specs.Seals.{IsSealedAtEnd}
use Rattle.jpstore.proofs.sealing.seal_if_changed.Goals.{else-has_changed, then-has_changed}
use Rattle.jpstore.proofs.sealing.seal_if_changed.Goals as goal

pub returns-clause-sealed : goal.returns-clause-sealed
returns-clause-sealed g c = λ old begun.
    let disk = g.D.SectorDevice.disk in
    let now = c.args.store.now.store in
    let status = c.status.ensures.status ∙ ap (λ (v : StoreView g.row.D.Denot). status_of v.account) c.store.ensures in
    elim c.if-has_changed.branch [
      | then-has_changed w ↦ subst (λ (v : RecordedView g.row.D.Denot). IsSealedAtEnd disk old now v.store) (sym w.store-is) (let has = c.has_changed.ensures.0 w.if-has_changed.true in record {
        events = seal ∷ [];
        said = reply_of (λ done. Sealed) w.seal.result ∷ [];
        how = inl ((sym (ap (λ (t : Status). t.broken) status) ∙ has.0, λ same. has.1 (ap (λ (t : Status). t.seq) status ∙ same ∙ begun)), (w.seal.result, w.seal.ensures.answer, refl, refl));
        ran = w.seal.ensures.ran;
      })
      | else-has_changed w ↦ subst (λ (v : RecordedView g.row.D.Denot). IsSealedAtEnd disk old now v.store) (sym w.store-is) (record {
        events = [];
        said = [];
        how = inr ((λ has. cc (c.has_changed.ensures.1 (ap (λ (t : Status). t.broken) status ∙ has.0, λ same. has.1 (sym (ap (λ (t : Status). t.seq) status) ∙ same ∙ sym begun)), w.if-has_changed.false)), refl, refl, refl);
        ran = c.runs_join.ensures.none now (subst (λ (v : StoreView g.row.D.Denot). IsStanding (disk v.device) v.account) c.store.ensures c.status.ensures.standing);
      })
    ]
