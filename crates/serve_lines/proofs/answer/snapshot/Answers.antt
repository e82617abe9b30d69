use Rattle.std.proofs.Common.{Ok, Err, refl}
use Rattle.protocol.specs.Reply.{snapshot_reply, refusal_reply}
use Rattle.serve_lines.proofs.Shown.{is_snapshot_event}
use Rattle.serve_lines.proofs.answer.snapshot.Goals as goal

pub returns-in-Ok : goal.returns-in-Ok
returns-in-Ok g c =
    let used = c.in-Ok.used in
    (snapshot_reply used, refl, is_snapshot_event g.D.SectorDevice.disk c.args.store.now c.snapshot.new.self (Ok used) c.in-Ok.ensures.answer c.snapshot.ensures.history c.in-Ok.ensures.ran)

pub returns-in-Err : goal.returns-in-Err
returns-in-Err g c =
    let refusal = c.in-Err.refusal in
    (refusal_reply refusal, refl, is_snapshot_event g.D.SectorDevice.disk c.args.store.now c.snapshot.new.self (Err refusal) c.in-Err.ensures.answer c.snapshot.ensures.history c.in-Err.ensures.ran)
