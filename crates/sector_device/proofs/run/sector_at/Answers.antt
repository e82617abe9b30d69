use Rattle.std.proofs.Common.{◌≡◌, ℕ, ◌+◌, ◌-◌, ◌*◌, ◌≤◌, ◌++◌, List, [], length, take, drop, replicate, get_or, refl, ap, ◌∙◌, arith}
use Rattle.std.proofs.lemmas.List.{length-append, length-drop, length-take, take_all}
use Rattle.sector_device.proofs.Built.{built_start, built_put}
use Rattle.sector_device.proofs.Filled.{built_byte, both_byte}
use Rattle.sector_device.proofs.run.sector_at.Goals as goal

pub returns : goal.returns
returns c =
    let front = c.args.front.now in
    let bytes = c.args.bytes.now in
    let passed = c.min-passed.result in
    let from = c.min-from.result in
    let count = c.min-count.result in
    let left = drop passed front in
    let left_size : length left ≡ length front - passed = length-drop passed front in
    let head = take (length front - passed) left in
    let head_is : head ≡ left = take_all (length front - passed) left (omega (arith, left_size)) in
    let head_size : length head ≡ length front - passed = ap length head_is ∙ left_size in
    let part = take count (drop from bytes) in
    let part_size : length part ≤ count = omega (arith, length-take count (drop from bytes)) in
    let fits : length head + length part ≤ 512 = omega (arith, head_size, part_size, c.min-count.ensures, c.requires.short) in
    let first = built_put 0 (length head) [] (replicate 512 0) c.put.new.sector _ head built_start c.put.ensures.front c.put.ensures.rest refl (omega arith) (omega (arith, fits)) in
    let both = built_put (length head) (length head + length part) head c.put.new.sector c.put-2.new.sector _ part first c.put-2.ensures.front c.put-2.ensures.rest (ap (λ (n : ℕ). take n (drop from bytes)) (omega arith)) refl fits in
    record {
      whole = c.put-2.array_long;
      same = λ i lt. built_byte (length head + length part) i (head ++ part) c.put-2.new.sector both (length-append head part) fits lt
          ∙ ap (λ (l : List ℕ). get_or (l ++ part) i 0) head_is
          ∙ both_byte front bytes (512 * c.args.k) passed from count i (omega (arith, c.min-passed.ensures)) (omega (arith, c.min-from.ensures)) (omega (arith, c.min-count.ensures, head_size)) lt;
    }
