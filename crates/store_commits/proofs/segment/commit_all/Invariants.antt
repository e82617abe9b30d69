use Rattle.std.proofs.Common.{◌≤◌, ◌+◌, ◌*◌, List, length, vec_len, vec_capacity}
use Rattle.std.specs.Vec.Iter.{into_iter_items}
use Rattle.doc_changes.specs.State.{State}
use Rattle.store_commits.specs.Account.{Account, with_copy}
use Rattle.store_commits.specs.Batch.{Slot}
use Rattle.store_commits.specs.Copying.{HasSpare, copy_of, target_of}
use Rattle.store_commits.specs.Given.{bytes_each}
use Rattle.store_commits.specs.Inside.{IsStored, LeavesNumbers, account_of, ArePlanned, HasCome, bytes_in, each_in, replies_in}
use Rattle.store_commits.proofs.segment.commit_all.Given as goal

abbrev pub invariant-loop-segment : goal.invariant-loop-segment
invariant-loop-segment g l = record {
  come : (s : State) (slots : List Slot) (end : Account) → IsStored (g.D.SectorDevice.disk l.fn.journal.device) l.fn.journal s (target_of l.fn.copy)
      → ArePlanned (with_copy (account_of l.fn.journal s) (copy_of (target_of l.fn.copy))) l.fn.segments.items slots end
      → HasCome g.D.SectorDevice.disk l.fn.journal s (target_of l.fn.copy) slots end l.journal (target_of l.copy) (into_iter_items l.segment-iterator) l.committed.replies.items (bytes_each l.committed.frames.items);
  grows : HasSpare l.copy (bytes_in (into_iter_items l.segment-iterator));
  numbers : LeavesNumbers l.journal (2 * length (into_iter_items l.segment-iterator) + 1);
  room : vec_len l.committed.replies + replies_in (into_iter_items l.segment-iterator) ≤ vec_capacity l.committed.replies;
  places : vec_len l.committed.frames + each_in (into_iter_items l.segment-iterator) ≤ vec_capacity l.committed.frames;
}
