use Rattle.std.proofs.Common.{◌≡◌, ◌++◌, List, None, length, map}
use Rattle.std.specs.Vec.Iter.{into_iter_items}
use Rattle.record_text.specs.Change.{Change, change_of}
use Rattle.doc_changes.specs.State.{Good}
use Rattle.doc_machine.specs.Transaction.{AreMade, first_refused, kept_by_all, large_refusal}
use Rattle.doc_machine.proofs.machine.trial.Trial.step_each.Given as goal

abbrev pub invariant-loop-command : goal.invariant-loop-command
invariant-loop-command l = record {
  made : AreMade l.fn.self (map change_of l.yielded) l.self;
  refused : (rest : List Change) → first_refused 0 0 l.fn.self.state (map change_of l.yielded ++ rest) ≡ first_refused l.place l.kept l.self.state rest;
  kept : l.kept ≡ kept_by_all l.fn.self.state (map change_of l.yielded);
  within : large_refusal l.kept ≡ None;
  left : l.fn.commands.items ≡ l.yielded ++ into_iter_items l.command-iterator;
  place : l.place ≡ length l.yielded;
  good : Good l.self.state;
}
