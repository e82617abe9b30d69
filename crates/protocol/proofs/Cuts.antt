-- The first line feed of some bytes.
use Rattle.std.proofs.Common.{◌≡◌, ◌≢◌, not, ◌<◌, ◌≤◌, ◌+◌, ◌-◌, ℕ, zero, suc, Bool, true, false, cond, eqb, List, [], ◌∷◌, ◌++◌, length, length-drop, take, drop, get_or, Option, Some, None, refl, ap, ap₂, ◌∙◌, sym, subst, arith, take-append-drop}
use Rattle.std.specs.List.{position, position_or_len}
use Rattle.std.proofs.Math.Seq.{drop-cons}
use Rattle.std.proofs.lemmas.Bool.{eqb-true, ltb-false, lt-ltb, le-ltb}
use Rattle.std.proofs.lemmas.List.Sums.{position_or_len_is}
use Rattle.memchr.specs.Find.{IsFirstByte, is_byte}
use Rattle.std.proofs.lemmas.List.{take_all}
use Rattle.std.proofs.lemmas.List.Quantifiers.{position-Some}
use Rattle.std.proofs.Math.Dec.{ltb}
use Rattle.protocol.specs.Lines.{line_feed, HasNoBreak}

abbrev is_feed : ℕ → Bool
is_feed b = eqb b line_feed

-- the place that a search finds
position_at : (bs : List ℕ) (i : ℕ) → position_or_len is_feed bs ≡ i → position is_feed bs ≡ cond (ltb i (length bs)) (Some i) None
position_at bs i e = ap (λ n. cond (ltb n (length bs)) (Some n) None) e

fails : (b : Bool) → (b ≡ true → ⊥) → b ≡ false
fails true h = absurd (h refl)
fails false h = refl

pub first_is : (bs : List ℕ) (r : Option ℕ) → IsFirstByte (is_byte line_feed) bs r → r ≡ position is_feed bs
first_is bs None h =
    let none : position_or_len is_feed bs ≡ length bs = position_or_len_is is_feed bs (length bs) 0 (omega arith) (λ k l. fails _ (h k (omega arith) l)) (λ l. absurd (omega arith)) in
    sym (position_at bs (length bs) none ∙ ap (λ t. cond t (Some (length bs)) None) (le-ltb (length bs) (length bs) (omega arith)))
first_is bs (Some i) h =
    let high = h.0.high in
    let found : position_or_len is_feed bs ≡ i = position_or_len_is is_feed bs i 0 (omega (arith, high)) (λ k l. fails _ (h.0.before k (omega arith) l)) (λ l. h.1) in
    sym (position_at bs i found ∙ ap (λ t. cond t (Some i) None) (lt-ltb i (length bs) high))

apart : (b : ℕ) → is_feed b ≡ false → b ≢ line_feed
apart b h e = let yes : is_feed b ≡ true = subst (λ (x : ℕ). is_feed x ≡ true) (sym e) refl in cc

HasNoBreak-take : (bs : List ℕ) (i : ℕ) → i ≤ length bs → ((k : ℕ) → k < i → is_feed (get_or bs k 0) ≡ false) → HasNoBreak (take i bs)
HasNoBreak-take bs zero h none = tt
HasNoBreak-take [] (suc i) h none = absurd (omega arith)
HasNoBreak-take (b ∷ bs) (suc i) h none = (apart b (none 0 (omega arith)), HasNoBreak-take bs i (omega arith) (λ k l. none (suc k) (omega arith)))

pub cut_found : (bs : List ℕ) (i : ℕ) → position is_feed bs ≡ Some i → (bs ≡ take i bs ++ line_feed ∷ take (length bs - (i + 1)) (drop (i + 1) bs)) × HasNoBreak (take i bs)
cut_found bs i h =
    let found = position-Some is_feed bs i 0 h in
    let whole : take (length bs - (i + 1)) (drop (i + 1) bs) ≡ drop (i + 1) bs = take_all (length bs - (i + 1)) (drop (i + 1) bs) (omega (arith, length-drop (i + 1) bs)) in
    let feed : drop i bs ≡ line_feed ∷ drop (i + 1) bs = (let next : suc i ≡ i + 1 = omega arith in drop-cons bs i 0 found.0 ∙ ap₂ (λ x n. x ∷ drop n bs) (eqb-true (get_or bs i 0) line_feed found.1) next) in
    (sym (take-append-drop i bs) ∙ ap (λ t. take i bs ++ t) (feed ∙ ap (λ t. line_feed ∷ t) (sym whole)), HasNoBreak-take bs i (omega arith) found.2)

none_before : (bs : List ℕ) → length bs ≤ position_or_len is_feed bs → HasNoBreak bs
none_before [] h = tt
none_before (b ∷ bs) h = go (is_feed b) refl h (λ l. none_before bs l)
  where
    go : (t : Bool) → is_feed b ≡ t → length (b ∷ bs) ≤ cond (not t) (1 + position_or_len is_feed bs) 0 → (length bs ≤ position_or_len is_feed bs → HasNoBreak bs) → HasNoBreak (b ∷ bs)
    go true e l more = absurd (omega arith)
    go false e l more = (apart b e, more (omega arith))

pub cut_none : (bs : List ℕ) → position is_feed bs ≡ None → HasNoBreak bs
cut_none bs h = none_before bs (ltb-false _ _ (go (ltb (position_or_len is_feed bs) (length bs)) h))
  where
    go : (t : Bool) → cond t (Some (position_or_len is_feed bs)) None ≡ None → t ≡ false
    go true e = cc
    go false e = refl
