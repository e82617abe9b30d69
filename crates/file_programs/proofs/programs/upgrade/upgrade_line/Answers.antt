use Rattle.std.proofs.Common.{◌≡◌, ℕ, IfOk, subst}
use Rattle.doc_store.specs.Formats.{number_of}
use Rattle.file_programs.specs.Upgrades.{upgrade_reply}
use Rattle.protocol.specs.Reply.{line_of}
use Rattle.file_programs.proofs.programs.upgrade.upgrade_line.Goals as goal

pub returns : goal.returns
returns c =
    let now = c.number.result in
    let before = c.number-2.result in
    subst (λ (n : ℕ). IfOk c.shown_line.result (λ line. line.items ≡ line_of (upgrade_reply n (number_of c.args.before)))) c.number.ensures
    (subst (λ (n : ℕ). IfOk c.shown_line.result (λ line. line.items ≡ line_of (upgrade_reply now n))) c.number-2.ensures (c.shown_line.ensures (upgrade_reply now before) (λ log sent. sent)))
