use Rattle.std.proofs.Common.{◌≡◌, ℕ, List, IfOk, subst}
use Rattle.file_programs.specs.Notices.{worded_slots}
use Rattle.protocol.specs.Reply.{line_of}
use Rattle.file_programs.proofs.notices.slots_line.Goals as goal

pub returns : goal.returns
returns c =
    subst (λ (word : List ℕ). IfOk c.shown_line.result (λ line. line.items ≡ line_of (worded_slots word))) c.word_of.ensures (c.shown_line.ensures (worded_slots c.word_of.result.now) (λ log sent. sent))
