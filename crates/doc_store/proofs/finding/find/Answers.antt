use Rattle.std.proofs.Common.{◌≡◌}
use Rattle.store_commits.specs.declared.replaying.ReplayFault.TheVariants.{Damaged}
use Rattle.doc_store.specs.Found.{carried_in}
use Rattle.doc_store.proofs.Opened.{not_loaded, not_replayed}
use Rattle.doc_store.proofs.Strict.{said_of}
use Rattle.doc_store.proofs.finding.find.Goals as goal

pub returns-in-Err-clause-refused : goal.returns-in-Err-clause-refused
returns-in-Err-clause-refused g c = not_loaded (g.D.SectorDevice.disk c.args.device) (g.D.SectorDevice.disk c.in-Err.fault.device) c.in-Err.fault.number c.in-Err.ensures.err

pub returns-in-Err-replay-clause-refused : goal.returns-in-Err-replay-clause-refused
returns-in-Err-replay-clause-refused g c =
    let first = c.in-Ok.opened.0 in
    let bytes = c.in-Ok.opened.1.items in
    let nothing = λ (is : c.in-Err-replay.fault ≡ Damaged). rw (c.deref.ensures.value, c.seq.ensures, c.version_of_frames-version.ensures.version, c.version.ensures, c.profile_of-profile.ensures, c.rides.ensures, c.rides-2.ensures) at (c.in-Err-replay.ensures.damaged is) in
    rw (c.number.ensures, c.into_device.ensures) (not_replayed g.D.SectorDevice.disk c.args.device first bytes c.in-Ok.ensures.ok c.in-Ok.ensures.tail c.in-Err-replay.fault nothing)

pub returns-in-Ok-replay-clause-notice : goal.returns-in-Ok-replay-clause-notice
returns-in-Ok-replay-clause-notice g c = λ honest.
    let first = c.in-Ok.opened.0 in
    said_of (g.D.SectorDevice.disk c.args.device).seen (carried_in first c.in-Ok.opened.1.items) c.in-Ok.opened.2 (c.in-Ok.ensures.ok.carries honest) (c.in-Ok.ensures.notice honest)
