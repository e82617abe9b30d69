-- The bytes of an append: those that fill blocks, and those after them.
use Rattle.std.proofs.Common.{◌≡◌, ℕ, ◌+◌, ◌-◌, ◌*◌, ◌/◌, ◌%◌, ◌≤◌, List, ◌++◌, length, take, drop, refl, ap, sym, ◌∙◌, arith, take-take, drop-drop, length-append, length-take-le}
use Rattle.std.proofs.lemmas.List.{drop-append-le, drop-take, length-drop, take-append-drop, take-append-le}
use Rattle.slot_commits.specs.States.{blocks_of}

-- so many blocks of the old bytes are the first of the new ones
pub blocks_same : (bytes more : List ℕ) (n : ℕ) → 4096 * n ≤ length bytes → blocks_of n (bytes ++ more) ≡ blocks_of n bytes
blocks_same bytes more n within = take-append-le (4096 * n) bytes more within

-- a buffer that has the bytes after the old blocks, and more behind them
pub filled_is : (bytes more buffer filled : List ℕ) → take (length bytes % 4096) buffer ≡ drop (4096 * (length bytes / 4096)) bytes
    → take (length bytes % 4096 + length more) filled ≡ take (length bytes % 4096) buffer ++ more → take (length bytes % 4096 + length more) filled ≡ drop (4096 * (length bytes / 4096)) (bytes ++ more)
filled_is bytes more buffer filled was put = put ∙ ap (λ (l : List ℕ). l ++ more) was ∙ sym (drop-append-le (4096 * (length bytes / 4096)) bytes more (omega arith))

-- its whole blocks are those that are new
pub whole_is : (bytes more filled : List ℕ) (whole : ℕ) → whole ≡ (length bytes % 4096 + length more) / 4096 * 4096
    → take (length bytes % 4096 + length more) filled ≡ drop (4096 * (length bytes / 4096)) (bytes ++ more)
    → take whole filled ≡ drop (4096 * (length bytes / 4096)) (blocks_of (length (bytes ++ more) / 4096) (bytes ++ more))
whole_is bytes more filled whole is filled_as =
    let total : 4096 * (length bytes / 4096) + whole ≡ 4096 * (length (bytes ++ more) / 4096) = omega (arith, is, length-append bytes more) in
    sym (take-take whole (length bytes % 4096 + length more) filled (omega (arith, is))) ∙ ap (take whole) filled_as ∙ sym (drop-take (4096 * (length bytes / 4096)) whole (bytes ++ more))
    ∙ ap (λ (n : ℕ). drop (4096 * (length bytes / 4096)) (take n (bytes ++ more))) total

-- all whole blocks are the old ones and these
pub blocks_more : (bytes more : List ℕ) → blocks_of (length bytes / 4096) bytes ++ drop (4096 * (length bytes / 4096)) (blocks_of (length (bytes ++ more) / 4096) (bytes ++ more)) ≡ blocks_of (length (bytes ++ more) / 4096) (bytes ++ more)
blocks_more bytes more =
    let w = 4096 * (length bytes / 4096) in
    let v = 4096 * (length (bytes ++ more) / 4096) in
    let few : w ≤ v = omega (arith, length-append bytes more) in
    ap (λ (l : List ℕ). l ++ drop w (take v (bytes ++ more))) (sym (take-take w v (bytes ++ more) few ∙ blocks_same bytes more (length bytes / 4096) (omega arith))) ∙ take-append-drop w (take v (bytes ++ more))

-- the bytes after them
pub rest_is : (bytes more filled moved : List ℕ) (whole : ℕ) → whole ≡ (length bytes % 4096 + length more) / 4096 * 4096
    → take (length bytes % 4096 + length more) filled ≡ drop (4096 * (length bytes / 4096)) (bytes ++ more)
    → take (length bytes % 4096 + length more - whole) moved ≡ drop whole (take (length bytes % 4096 + length more) filled)
    → take (length (bytes ++ more) % 4096) moved ≡ drop (4096 * (length (bytes ++ more) / 4096)) (bytes ++ more)
rest_is bytes more filled moved whole is filled_as moved_as =
    let rest : length (bytes ++ more) % 4096 ≡ length bytes % 4096 + length more - whole = omega (arith, is, length-append bytes more) in
    let total : 4096 * (length bytes / 4096) + whole ≡ 4096 * (length (bytes ++ more) / 4096) = omega (arith, is, length-append bytes more) in
    ap (λ (n : ℕ). take n moved) rest ∙ moved_as ∙ ap (drop whole) filled_as ∙ drop-drop whole (4096 * (length bytes / 4096)) (bytes ++ more) ∙ ap (λ (n : ℕ). drop n (bytes ++ more)) total
