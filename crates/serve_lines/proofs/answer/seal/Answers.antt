use Rattle.std.proofs.Common.{Ok, Err, refl}
use Rattle.protocol.specs.Reply.{refusal_reply, sealed_reply}
use Rattle.serve_lines.proofs.Shown.{is_seal_event}
use Rattle.serve_lines.proofs.answer.seal.Goals as goal

pub returns-in-Ok : goal.returns-in-Ok
returns-in-Ok g c = (sealed_reply, refl, is_seal_event g.D.SectorDevice.disk c.args.store.now c.seal.new.self (Ok tt) c.in-Ok.ensures.answer c.seal.ensures.history c.in-Ok.ensures.ran)

pub returns-in-Err : goal.returns-in-Err
returns-in-Err g c =
    let refusal = c.in-Err.refusal in
    (refusal_reply refusal, refl, is_seal_event g.D.SectorDevice.disk c.args.store.now c.seal.new.self (Err refusal) c.in-Err.ensures.answer c.seal.ensures.history c.in-Err.ensures.ran)
