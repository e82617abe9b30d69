use Rattle.std.proofs.Common.{Ok, Err, refl}
use Rattle.protocol.specs.Reply.{pump_reply, refusal_reply}
use Rattle.serve_lines.proofs.Shown.{is_pump_event}
use Rattle.serve_lines.proofs.answer.pump.Goals as goal

pub returns-in-Ok : goal.returns-in-Ok
returns-in-Ok g c =
    let step = c.in-Ok.pump in
    (pump_reply step, refl, is_pump_event g.D.SectorDevice.disk c.args.store.now c.pump.new.self c.args.most (Ok step) c.in-Ok.ensures.answer c.pump.ensures.history c.in-Ok.ensures.ran)

pub returns-in-Err : goal.returns-in-Err
returns-in-Err g c =
    let refusal = c.in-Err.refusal in
    (refusal_reply refusal, refl, is_pump_event g.D.SectorDevice.disk c.args.store.now c.pump.new.self c.args.most (Err refusal) c.in-Err.ensures.answer c.pump.ensures.history c.in-Err.ensures.ran)
