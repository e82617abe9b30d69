use Rattle.std.proofs.Common.{◌≡◌, ap, ◌∙◌}
use Rattle.commit_slots.specs.declared.slot.Slot.{Slot}
use Rattle.commit_slots.proofs.Said.{said_in, said_is}
use Rattle.commit_slots.proofs.found.said_in.Goals as goal

pub returns : goal.returns
returns c = λ sectors slot tail of is.
    let said : Slot = record { number = c.number_of.result; length = c.u64_at.result; seq = c.u64_at-2.result; opens = c.u64_at-3.result; sectors = c.u64_at-4.result; half = c.u32_at.result; blocks = c.u32_at-2.result; check = c.u32_at-3.result; identity = c.u128_at.result } in
    let read : said ≡ said_in c.args.first.now = λ i. record {
      number = c.number_of.ensures i;
      length = c.u64_at.ensures i;
      seq = c.u64_at-2.ensures i;
      opens = c.u64_at-3.ensures i;
      sectors = c.u64_at-4.ensures i;
      half = c.u32_at.ensures i;
      blocks = c.u32_at-2.ensures i;
      check = c.u32_at-3.ensures i;
      identity = c.u128_at.ensures i;
    } in
    read ∙ ap said_in is ∙ said_is sectors slot tail of
