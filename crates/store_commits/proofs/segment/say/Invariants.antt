use Rattle.std.proofs.Common.{◌≡◌, ◌≤◌, ◌+◌, ◌++◌, map, length, vec_len, vec_capacity}
use Rattle.std.specs.Vec.Iter.{into_iter_items}
use Rattle.store_commits.specs.Inside.{answered}
use Rattle.store_commits.proofs.segment.say.Given as goal

abbrev pub invariant-loop-reply : goal.invariant-loop-reply
invariant-loop-reply l = record {
  said : l.said.items ≡ l.fn.said.items ++ map (answered l.fate) l.yielded;
  left : l.fn.replies.items ≡ l.yielded ++ into_iter_items l.reply-iterator;
  room : vec_len l.said + length (into_iter_items l.reply-iterator) ≤ vec_capacity l.said;
  len : vec_len l.said + length (into_iter_items l.reply-iterator) ≡ vec_len l.fn.said + length l.fn.replies.items;
  capacity : vec_capacity l.fn.said ≤ vec_capacity l.said;
}
