use Rattle.std.proofs.Common.{◌∙◌, inl, ap, arith, length}
use Rattle.sector_device.proofs.Moments.{started}
use Rattle.store_journal.specs.Models.{model}
use Rattle.store_commits.proofs.Modelled.{both_models}
use Rattle.doc_store.specs.Formats.{rides_in}
use Rattle.doc_store.proofs.Copies.{copied, none_or_copy}
use Rattle.doc_store.proofs.store.Store.copy_to.Goals as goal

-- nothing was called
pub returns-in_err-frames-clause-any_moment : goal.returns-in_err-frames-clause-any_moment
returns-in_err-frames-clause-any_moment g c = λ honest.
    let rides = rides_in c.args.format in
    started (model rides (g.E.SectorDevice.disk c.args.device.now)) _
    (both_models g.E.SectorDevice.disk g.met.E.SectorDevice.coherent g.met.E.SectorDevice.torn_coherent rides c.args.device.now honest) (λ image left. inl left)

pub returns-in-Ok-clause-copied : goal.returns-in-Ok-clause-copied
returns-in-Ok-clause-copied g c =
    let made = c.in_ok-frames.ensures in
    copied c.args.format c.args.identity c.args.self.now.account made.good made.within c.deref.result.now c.status-status.result c.rides.result (c.deref.ensures.value ∙ made.frames) c.status-status.ensures.status c.rides.ensures
    (g.E.SectorDevice.disk c.args.device.now) (g.E.SectorDevice.disk c.format_with.new.device) c.len.result
    (omega (arith, c.len.ensures, c.in_ok-frames.frames.ok, ap length c.deref.ensures.value)) c.in-Ok.ensures.ok

pub returns-in-Ok-clause-any_moment : goal.returns-in-Ok-clause-any_moment
returns-in-Ok-clause-any_moment g c = λ honest.
    let made = c.in_ok-frames.ensures in
    none_or_copy c.args.format c.args.identity c.args.self.now.account made.good made.within c.deref.result.now c.status-status.result c.rides.result (c.deref.ensures.value ∙ made.frames) c.status-status.ensures.status c.rides.ensures
    (g.E.SectorDevice.disk c.args.device.now) (g.E.SectorDevice.disk c.format_with.new.device) (c.format_with.ensures.any_moment honest)

pub returns-clause-any_moment : goal.returns-clause-any_moment
returns-clause-any_moment g c = λ honest.
    let made = c.in_ok-frames.ensures in
    none_or_copy c.args.format c.args.identity c.args.self.now.account made.good made.within c.deref.result.now c.status-status.result c.rides.result (c.deref.ensures.value ∙ made.frames) c.status-status.ensures.status c.rides.ensures
    (g.E.SectorDevice.disk c.args.device.now) (g.E.SectorDevice.disk c.format_with.new.device) (c.format_with.ensures.any_moment honest)
