use Rattle.std.proofs.Common.{◌≡◌, ◌≤◌, ◌+◌, ◌++◌, map, length, vec_len, vec_capacity}
use Rattle.std.specs.Vec.Iter.{into_iter_items}
use Rattle.refusals.specs.declared.numbers.TheConstants.{BROKEN}
use Rattle.doc_changes.specs.Refusals.{plain}
use Rattle.store_commits.specs.declared.event.Reply.TheVariants.{Refused}
use Rattle.store_commits.proofs.batch.say_broken.Given as goal

abbrev pub invariant-loop : goal.invariant-loop
invariant-loop l = record {
  said : l.said.items ≡ l.fn.said.items ++ map (λ _. Refused (plain BROKEN)) l.yielded;
  left : l.fn.transactions.items ≡ l.yielded ++ into_iter_items l.iterator';
  room : vec_len l.said + length (into_iter_items l.iterator') ≤ vec_capacity l.said;
}
