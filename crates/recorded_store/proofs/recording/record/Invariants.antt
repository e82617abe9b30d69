use Rattle.std.proofs.Common.{◌≡◌, ◌≤◌, ◌+◌, drop, length}
use Rattle.change_history.specs.History.{newest, with_each}
use Rattle.store_commits.specs.Given.{bytes_each}
use Rattle.recorded_store.specs.Numbers.{Rise, numbers_in, told_with}
use Rattle.recorded_store.proofs.recording.record.Given as goal

abbrev pub invariant-loop-reply : goal.invariant-loop-reply
invariant-loop-reply l = record {
  each : length (numbers_in (drop l.reply-index l.reply-items)) ≡ length l.given;
  rise : Rise (newest l.history.history.floor l.history.history.told) (numbers_in (drop l.reply-index l.reply-items));
  room : length l.history.history.told + length l.given ≤ l.history.capacity;
  told : with_each l.history.history (told_with (numbers_in (drop l.reply-index l.reply-items)) l.given)
      ≡ with_each l.fn.history.history (told_with (numbers_in l.fn.committed.replies.items) (bytes_each l.fn.committed.frames.items));
}
