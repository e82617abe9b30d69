use Rattle.std.proofs.Common.{ℕ, subst}
use Rattle.store_parts.specs.Copies.{IsCommitAt, IsFoundAt}
use Rattle.store_parts.proofs.Commits.{lacks_of, old_of}
use Rattle.store_parts.proofs.findings.copy_at.Goals as goal

pub returns-in-Some : goal.returns-in-Some
returns-in-Some c =
    let size = c.args.size in
    let slots = c.args.slots.now in
    let place = c.args.place in
    let best = c.args.best.now in
    let held = c.in-Some.held in
    let found = subst (IsFoundAt size slots place) c.in-Some.is c.in_ok-held_in.ensures in
    let commit = subst (λ (n : ℕ). IsCommitAt size slots n held.slot held.tail.items) found.1 found.0.commit in
    record {
      valid = (held.tail.items, commit);
      begun = c.begins_slot-begun.ensures;
      old = (
        λ yes. old_of size slots place best held.slot held.tail.items c.requires.best commit (c.lacks_twin.ensures.0 yes),
        λ old. c.lacks_twin.ensures.1 (lacks_of size slots place best c.requires.best old),
      );
    }
