use Rattle.std.proofs.Common.{◌++◌, ap, ◌∙◌, sym, decimal}
use Rattle.protocol.proofs.Texts.{line_of-refusal_reply, joined_nine}
use Rattle.protocol.proofs.outbox.Outbox.put_refusal.Goals as goal

pub returns : goal.returns
returns c =
    let old = c.args.self.now.bytes.items in
    joined_nine old _ _ _ _ _ _ _ _ _ _ _ _ _ _ _ _ _ _ c.open_refusal.ensures.text c.put.ensures.text (c.put-2.ensures.text ∙ ap (λ t. c.put.new.self.bytes.items ++ t) (c.as_bytes.ensures.value ∙ c.name.ensures)) c.put-3.ensures.text (c.put_number.ensures.text ∙ ap (λ n. c.put-3.new.self.bytes.items ++ decimal n) c.from.ensures) c.put-4.ensures.text c.put_member.ensures.text c.put_member-2.ensures.text c.put-5.ensures.text
    ∙ ap (λ t. old ++ t) (sym (line_of-refusal_reply c.args.refusal))
