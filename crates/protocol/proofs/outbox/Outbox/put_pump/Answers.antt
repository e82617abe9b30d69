use Rattle.std.proofs.Common.{◌++◌, ap, ◌∙◌, sym}
use Rattle.protocol.proofs.Texts.{line_of-pump_reply, joined_five}
use Rattle.protocol.proofs.outbox.Outbox.put_pump.Goals as goal

pub returns : goal.returns
returns c =
    let old = c.args.self.now.bytes.items in
    joined_five old _ _ _ _ _ _ _ _ _ _ c.put.ensures.text (c.put-2.ensures.text ∙ ap (λ t. c.put.new.self.bytes.items ++ t) (c.as_bytes.ensures.value ∙ c.copy_word.ensures.word)) c.put-3.ensures.text c.put_number.ensures.text c.put-4.ensures.text
    ∙ ap (λ t. old ++ t) (sym (line_of-pump_reply c.args.pump))
