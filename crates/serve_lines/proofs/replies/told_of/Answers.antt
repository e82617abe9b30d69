use Rattle.std.proofs.Common.{Some, Bool, if◌then◌else◌, ap, sym, ◌∙◌, inl, inr, refl, subst}
use Rattle.doc_changes.specs.Marks.{mark_of}
use Rattle.doc_changes.specs.Refusals.{plain}
use Rattle.refusals.specs.declared.numbers.TheConstants.{MEMORY}
use Rattle.protocol.specs.Reply.{other_mark_reply, refusal_reply}
use Rattle.protocol.specs.Says.{Says}
use Rattle.protocol.specs.declared.reply.Reply.{Reply}
use Rattle.serve_lines.specs.Session.{shown_reply}
use Rattle.serve_lines.proofs.Saying.{says_shown}
use Rattle.serve_lines.proofs.replies.told_of.Goals as goal

pub returns-then-asks_another_mark : goal.returns-then-asks_another_mark
returns-then-asks_another_mark g c =
    let present = other_mark_reply (mark_of c.args.key.now c.args.store.now.account.state.marks) in
    let asks = sym c.asks_another_mark.ensures ∙ c.if-asks_another_mark.true in
    elim c.present_mark.ensures [
      | inl told ↦ (present, told, inl (ap (λ (b : Bool). if b then present else shown_reply c.args.said) (sym asks)))
      | inr memory ↦ (refusal_reply (plain MEMORY), memory, inr (asks, refl))
    ]

pub returns-else-asks_another_mark : goal.returns-else-asks_another_mark
returns-else-asks_another_mark g c =
    let present = other_mark_reply (mark_of c.args.key.now c.args.store.now.account.state.marks) in
    let other = sym c.asks_another_mark.ensures ∙ c.if-asks_another_mark.false in (
      shown_reply c.args.said,
      subst (λ (r : Reply). Says r (shown_reply c.args.said)) (sym c.shown.ensures) (says_shown c.args.said),
      inl (ap (λ (b : Bool). if b then present else shown_reply c.args.said) (sym other)),
    )
