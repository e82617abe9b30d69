use Rattle.std.proofs.Common.{◌≡◌, ◌+◌, ◌-◌, ℕ, [], ◌++◌, length, take, drop, ap, ◌∙◌, arith, length-drop}
use Rattle.std.proofs.lemmas.List.{drop-take}
use Rattle.std.proofs.lemmas.Slice.{put_mid-paste}
use Rattle.slot_journal.proofs.Moved.{moved_front}
use Rattle.slot_journal.proofs.known.shift.Goals as goal

pub returns-then-from-gt0-clause-front : goal.returns-then-from-gt0-clause-front
returns-then-from-gt0-clause-front c = moved_front c.args.from c.args.to c.args.buffer.now c.copy_within.new.self c.requires.order c.requires.within c.copy_within.ensures.after
