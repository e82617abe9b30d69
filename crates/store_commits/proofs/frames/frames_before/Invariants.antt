use Rattle.std.proofs.Common.{◌≡◌, ◌+◌, ◌++◌, drop, length, map}
use Rattle.record_text.specs.Change.{change_of}
use Rattle.store_commits.specs.Inside.{frames_before}
use Rattle.store_commits.proofs.frames.frames_before.Given as goal

-- the frames of the changes that are left stand behind, and their number is known
abbrev pub invariant-loop-command : goal.invariant-loop-command
invariant-loop-command l =
    (l.frames.items ++ frames_before l.rides l.more l.last (map change_of (drop l.command-index l.commands)) ≡ frames_before l.rides l.more l.seq (map change_of l.commands))
    × (l.left + l.command-index ≡ length l.commands + l.more)
