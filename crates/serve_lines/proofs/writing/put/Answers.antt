use Rattle.std.proofs.Common.{◌≡◌, ◌++◌, ◌∙◌, List, ℕ, subst}
use Rattle.serve_lines.specs.Progress.{HasWritten}
use Rattle.protocol.specs.Reply.{line_of}
use Rattle.protocol.specs.Says.{Says}
use Rattle.protocol.specs.declared.reply.Reply.{Reply}
use Rattle.serve_lines.proofs.Telling.{tells_written}
use Rattle.serve_lines.proofs.writing.put.Goals as goal

pub returns-in-Ok : goal.returns-in-Ok
returns-in-Ok g c = λ before told said s t.
    let sent = c.in_ok-send-in-Line.ensures in
    let says : c.in-Line.line.items ≡ line_of said = subst (λ (r : Reply). Says r said) c.in-Line.is s in
    subst (λ (line : List ℕ). HasWritten before (g.W.Write.contents c.write_all.new.self) c.send.new.outbox (told ++ line)) (c.as_slice.ensures.value ∙ says)
    (tells_written before (g.W.Write.contents c.send.new.writer) (g.W.Write.contents c.write_all.new.self) c.send.new.outbox told c.as_slice.result.now sent.empty c.in-Ok.ensures.bytes (sent.told before told t))
