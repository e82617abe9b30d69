use Rattle.std.proofs.Common.{◌-◌, ◌++◌, List, length}
use Rattle.store_salvage.specs.Gathering.{Placed}
use Rattle.damaged_files.specs.Frames.{AreFramesFrom, IsFramesText, lines_of_frames}
use Rattle.damaged_files.proofs.frames.frames_text.Given as goal

-- whatever frames are left, with the lines so far theirs are those of all
abbrev pub invariant-loop-from : goal.invariant-loop-from
invariant-loop-from l =
    (ps : List Placed) → AreFramesFrom l.version l.bytes l.from ps → IsFramesText l.version l.part l.bytes l.check l.begin (l.text.items ++ lines_of_frames l.part l.check ps)

abbrev pub decreases-loop-from : goal.decreases-loop-from
decreases-loop-from l = length l.bytes - l.from
