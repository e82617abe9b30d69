use Rattle.std.proofs.Common.{◌≡◌, ◌<◌, ◌+◌, ◌-◌, ℕ, [], min, take, drop, length, get_or, sym, ap, ◌∙◌, arith}
use Rattle.commit_slots.specs.Slots.{count_of}
use Rattle.commit_slots.proofs.Said.{tail_read}
use Rattle.commit_slots.proofs.Tails.{tail_size, tail_bytes}
use Rattle.commit_slots.proofs.found.tail_in.Goals as goal

pub loop-k-preserved : goal.loop-k-preserved
loop-k-preserved c =
    let slot = c.args.slot.now in
    let k = c.loop-k.k in
    let tail = c.loop-k.tail.items in
    let more = c.extend_from_slice.new.self.items in
    let from = c.piece_start-from.result in
    let count = c.min-count.result in
    let count_is : count ≡ min (512 - from) (c.args.bytes - length tail) = omega (arith, c.min-count.ensures, c.len.ensures, c.loop-k.tail.ok.0) in
    let below : k < count_of c.args.bytes = omega (arith, c.loop-k-test.true, c.sectors_of_tail-k-end.ensures) in
    let whole : length (get_or slot k []) ≡ 512 = c.told-slot k (omega (arith, below, c.requires.short, c.requires.whole)) in
    let size = c.loop-k.invariant.size in
    let same : from + count - from ≡ count = omega arith in
    let part = take (from + count - from) (drop from (get_or slot k [])) in
    let part_is : part ≡ take count (drop from (get_or slot k [])) = ap (λ (n : ℕ). take n (drop from (get_or slot k []))) same in
    record {
      size = tail_size slot k c.args.bytes from count tail part more c.piece_start-from.ensures count_is below whole size part_is c.in_ok-extend_from_slice.ensures.items;
      read = tail_bytes slot k c.args.bytes from count tail part more c.piece_start-from.ensures count_is below whole size part_is c.in_ok-extend_from_slice.ensures.items c.loop-k.invariant.read;
    }

pub returns-clause-read : goal.returns-clause-read
returns-clause-read c = λ one was size held.
    let long : length c.loop-k.tail.items ≡ c.args.bytes = omega (arith, c.loop-k.invariant.size, c.loop-k-test.false, c.sectors_of_tail-k-end.ensures) in
    tail_read one was c.loop-k.tail.items c.args.slot.now (long ∙ sym size) c.loop-k.invariant.read held
