use Rattle.std.proofs.Common.{◌≡◌, ℕ, ◌+◌, ◌-◌, ◌*◌, ◌≤◌, ◌++◌, List, [], length, take, drop, replicate, get_or, refl, ap, ◌∙◌, arith}
use Rattle.std.proofs.lemmas.List.{length-append, length-drop, length-take, take_all}
use Rattle.commit_slots.proofs.Built.{built_start, built_put}
use Rattle.commit_slots.proofs.Filled.{built_byte, both_byte, piece_from}
use Rattle.commit_slots.proofs.spread.piece_at.Goals as goal

pub returns : goal.returns
returns c =
    let front = c.args.front.now in
    let bytes = c.args.bytes.now in
    let passed = c.min-passed.result in
    let from = c.min-from.result in
    let count = c.min-count.result in
    let left = drop passed front in
    let left_size : length left ≡ length front - passed = length-drop passed front in
    let head = take (60 - passed) left in
    let head_is : head ≡ left = take_all (60 - passed) left (omega (arith, left_size, c.told-front)) in
    let head_size : length head ≡ length front - passed = ap length head_is ∙ left_size in
    let part = take count (drop from bytes) in
    let part_size : length part ≤ count = omega (arith, length-take count (drop from bytes)) in
    let fits : length head + length part ≤ 484 = omega (arith, head_size, part_size, c.min-count.ensures, c.told-front) in
    let whole : length front ≡ 60 = c.told-front in
    let room : length head ≡ 60 - passed = omega (arith, head_size, whole) in
    let end : 60 - passed + length part ≤ 484 = omega (arith, fits, room) in
    let first = built_put 0 (60 - passed) [] (replicate 484 0) c.put.new.piece _ head built_start c.put.ensures.front c.put.ensures.rest refl (omega (arith, room)) (omega arith) in
    let both = built_put (60 - passed) (60 - passed + length part) head c.put.new.piece c.put-2.new.piece _ part first c.put-2.ensures.front c.put-2.ensures.rest (ap (λ (n : ℕ). take n (drop from bytes)) (omega arith)) refl end in
    piece_from c.args.k (front ++ bytes) c.put-2.new.piece c.put-2.array_long
    (λ i lt. built_byte (60 - passed + length part) i (head ++ part) c.put-2.new.piece both (length-append head part ∙ ap (λ (n : ℕ). n + length part) room) end lt
    ∙ ap (λ (l : List ℕ). get_or (l ++ part) i 0) head_is
    ∙ both_byte front bytes (484 * c.args.k) passed from count i (omega (arith, c.min-passed.ensures, c.told-front)) (omega (arith, c.min-from.ensures)) (omega (arith, c.min-count.ensures, head_size, c.told-front)) lt)
