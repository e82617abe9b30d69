use Rattle.std.proofs.Common.{◌≡◌, ℕ, IfOk, subst}
use Rattle.file_programs.specs.Calls.{format_reply}
use Rattle.protocol.specs.Reply.{line_of}
use Rattle.file_programs.proofs.programs.format.format_line.Goals as goal

pub returns : goal.returns
returns c =
    let sectors = c.args.sectors in
    subst (λ (n : ℕ). IfOk c.shown_line.result (λ line. line.items ≡ line_of (format_reply n sectors))) c.capacity.ensures (c.shown_line.ensures (format_reply c.capacity.result sectors) (λ log sent. sent))
