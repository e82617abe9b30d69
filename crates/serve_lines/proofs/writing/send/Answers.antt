use Rattle.serve_lines.proofs.Telling.{tells_sent}
use Rattle.serve_lines.proofs.writing.send.Goals as goal

pub returns-in-Ok-clause-told : goal.returns-in-Ok-clause-told
returns-in-Ok-clause-told g c = λ before told t.
    tells_sent before (g.W.Write.contents c.args.writer.now) (g.W.Write.contents c.write_all.new.self) c.args.outbox.now c.clear.new.self told c.as_slice.result.now c.as_slice.ensures c.in-Ok.ensures.bytes c.clear.ensures t
