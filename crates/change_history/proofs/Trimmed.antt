-- What stays of transactions of which the oldest go.
use Rattle.std.proofs.Common.{◌≡◌, ℕ, ◌+◌, ◌-◌, ◌<◌, ◌≤◌, Bool, true, false, if◌then◌else◌, nat_lt, List, [], ◌∷◌, ◌++◌, length, length-append, refl, sym, ap, subst, ◌∙◌, append_assoc, append-nil, arith}
use Rattle.std.proofs.lemmas.Bool.{lt-ltb, ltb-true, le-ltb, ltb-false}
use Rattle.change_history.specs.History.{History, Told, bytes_of, newest, IsKept, Rises, trimmed, with_told, with_each}
use Rattle.change_history.specs.Follows.{IsNewest}

pub bytes-append : (xs ys : List Told) → bytes_of (xs ++ ys) ≡ bytes_of xs + bytes_of ys
bytes-append [] ys = omega arith
bytes-append (x ∷ xs) ys = let e = bytes-append xs ys in omega (arith, e)

pub newest-append : (floor : ℕ) (xs ys : List Told) → newest floor (xs ++ ys) ≡ newest (newest floor xs) ys
newest-append floor [] ys = refl
newest-append floor (x ∷ xs) ys = newest-append x.last xs ys

abbrev pub all : ℕ → ℕ → List Told → History
all limit floor told = record { limit = limit; floor = floor; told = told }

-- ---- a step, by what its test says

pub one_goes : (limit floor : ℕ) (t : Told) (ts : List Told) → limit < bytes_of (t ∷ ts) → trimmed limit floor (t ∷ ts) ≡ trimmed limit t.last ts
one_goes limit floor t ts over = ap (λ b. if b then trimmed limit t.last ts else all limit floor (t ∷ ts)) (lt-ltb limit (bytes_of (t ∷ ts)) over)

pub all_stay : (limit floor : ℕ) (ts : List Told) → bytes_of ts ≤ limit → trimmed limit floor ts ≡ all limit floor ts
all_stay limit floor [] fit = refl
all_stay limit floor (t ∷ ts) fit = ap (λ b. if b then trimmed limit t.last ts else all limit floor (t ∷ ts)) (le-ltb limit (bytes_of (t ∷ ts)) fit)

-- ---- what was trimmed, with more

Again : ℕ → History → ℕ → List Told → List Told → Type 0
Again limit h floor told more = trimmed limit h.floor (h.told ++ more) ≡ trimmed limit floor (told ++ more)

over_more : (limit : ℕ) (xs ys : List Told) → limit < bytes_of xs → limit < bytes_of (xs ++ ys)
over_more limit xs ys over = let e = bytes-append xs ys in omega (arith, e)

again_by : (limit floor : ℕ) (t : Told) (ts more : List Told) (b : Bool) → nat_lt limit (bytes_of (t ∷ ts)) ≡ b
    → Again limit (trimmed limit t.last ts) t.last ts more → Again limit (if b then trimmed limit t.last ts else all limit floor (t ∷ ts)) floor (t ∷ ts) more
unfolding Again
again_by limit floor t ts more true e rest = rest ∙ sym (one_goes limit floor t (ts ++ more) (over_more limit (t ∷ ts) more (ltb-true _ _ e)))
again_by limit floor t ts more false e rest = refl

again : (limit floor : ℕ) (told more : List Told) → Again limit (trimmed limit floor told) floor told more
unfolding Again
again limit floor [] more = refl
again limit floor (t ∷ ts) more = again_by limit floor t ts more (nat_lt limit (bytes_of (t ∷ ts))) refl (again limit t.last ts more)

pub trimmed_again : (limit floor : ℕ) (told more : List Told) → trimmed limit (trimmed limit floor told).floor ((trimmed limit floor told).told ++ more) ≡ trimmed limit floor (told ++ more)
unfolding Again
trimmed_again = again

limit_by : (limit floor : ℕ) (t : Told) (ts : List Told) (b : Bool) → (trimmed limit t.last ts).limit ≡ limit → (if b then trimmed limit t.last ts else all limit floor (t ∷ ts)).limit ≡ limit
limit_by limit floor t ts true rest = rest
limit_by limit floor t ts false rest = refl

pub trimmed-limit : (limit floor : ℕ) (told : List Told) → (trimmed limit floor told).limit ≡ limit
trimmed-limit limit floor [] = refl
trimmed-limit limit floor (t ∷ ts) = limit_by limit floor t ts (nat_lt limit (bytes_of (t ∷ ts))) (trimmed-limit limit t.last ts)

-- ---- each after one another

from_one : (limit floor : ℕ) (told : List Told) (t : Told) (ts : List Told) → with_each (trimmed limit floor (told ++ t ∷ [])) ts ≡ trimmed limit floor (told ++ t ∷ ts)
from_one limit floor told t [] = refl
from_one limit floor told t (s ∷ ts) =
    let h = trimmed limit floor (told ++ t ∷ []) in
    let next : with_told h s ≡ trimmed limit floor (told ++ t ∷ [] ++ s ∷ []) = ap (λ n. trimmed n h.floor (h.told ++ s ∷ [])) (trimmed-limit limit floor (told ++ t ∷ [])) ∙ trimmed_again limit floor (told ++ t ∷ []) (s ∷ []) in
    ap (λ k. with_each k ts) next ∙ from_one limit floor (told ++ t ∷ []) s ts ∙ ap (trimmed limit floor) (append_assoc told (t ∷ []) (s ∷ ts))

pub each_at_once : (h : History) (more : List Told) → bytes_of h.told ≤ h.limit → with_each h more ≡ trimmed h.limit h.floor (h.told ++ more)
each_at_once h [] fit = sym (ap (trimmed h.limit h.floor) (append-nil h.told) ∙ all_stay h.limit h.floor h.told fit)
each_at_once h (t ∷ ts) fit = from_one h.limit h.floor h.told t ts

-- ---- with one more: what is too large alone leaves none, and for each other room is made before

pub none_stays : (limit floor : ℕ) (ts : List Told) (t : Told) → limit < length t.frames → trimmed limit floor (ts ++ t ∷ []) ≡ all limit t.last []
none_stays limit floor [] t over = one_goes limit floor t [] (omega (arith, over))
none_stays limit floor (s ∷ ts) t over =
    let e = bytes-append ts (t ∷ []) in
    one_goes limit floor s (ts ++ t ∷ []) (omega (arith, over, e)) ∙ none_stays limit s.last ts t over

WithRoom : ℕ → History → ℕ → List Told → Told → Type 0
WithRoom limit h floor ts t = trimmed limit floor (ts ++ t ∷ []) ≡ all limit h.floor (h.told ++ t ∷ [])

room_by : (limit floor : ℕ) (s : Told) (ts : List Told) (t : Told) (b : Bool) → nat_lt (limit - length t.frames) (bytes_of (s ∷ ts)) ≡ b → length t.frames ≤ limit
    → WithRoom limit (trimmed (limit - length t.frames) s.last ts) s.last ts t
    → WithRoom limit (if b then trimmed (limit - length t.frames) s.last ts else all (limit - length t.frames) floor (s ∷ ts)) floor (s ∷ ts) t
unfolding WithRoom
room_by limit floor s ts t true e fit rest =
    let more = bytes-append ts (t ∷ []) in
    one_goes limit floor s (ts ++ t ∷ []) (let over = ltb-true _ _ e in omega (arith, over, more)) ∙ rest
room_by limit floor s ts t false e fit rest =
    let more = bytes-append ts (t ∷ []) in
    all_stay limit floor (s ∷ (ts ++ t ∷ [])) (let under = ltb-false _ _ e in omega (arith, under, more))

room : (limit floor : ℕ) (ts : List Told) (t : Told) → length t.frames ≤ limit → WithRoom limit (trimmed (limit - length t.frames) floor ts) floor ts t
unfolding WithRoom
room limit floor [] t fit = all_stay limit floor (t ∷ []) (omega (arith, fit))
room limit floor (s ∷ ts) t fit = room_by limit floor s ts t (nat_lt (limit - length t.frames) (bytes_of (s ∷ ts))) refl fit (room limit s.last ts t fit)

pub room_first : (limit floor : ℕ) (ts : List Told) (t : Told) → length t.frames ≤ limit
    → trimmed limit floor (ts ++ t ∷ []) ≡ all limit (trimmed (limit - length t.frames) floor ts).floor ((trimmed (limit - length t.frames) floor ts).told ++ t ∷ [])
unfolding WithRoom
room_first = room

-- ---- the newest that fit

newest_by : (limit floor : ℕ) (t : Told) (ts : List Told) (b : Bool) → nat_lt limit (bytes_of (t ∷ ts)) ≡ b → IsNewest limit t.last ts (trimmed limit t.last ts)
    → IsNewest limit floor (t ∷ ts) (if b then trimmed limit t.last ts else all limit floor (t ∷ ts))
newest_by limit floor t ts true e n = record {
  gone = t ∷ n.gone;
  whole = ap (λ l. t ∷ l) n.whole;
  after = n.after;
  fits = n.fits;
  longest = longer (trimmed limit t.last ts).told n.gone n.whole n.longest;
}
  where
    longer : (kept gone : List Told) → ts ≡ gone ++ kept → ((front : List Told) (s : Told) → gone ≡ front ++ s ∷ [] → limit < bytes_of (s ∷ kept)) → (front : List Told) (s : Told) → t ∷ gone ≡ front ++ s ∷ [] → limit < bytes_of (s ∷ kept)
    longer kept gone whole before [] s is =
        let same : t ≡ s = cc in
        let none : gone ≡ [] = cc in
        let rest : ts ≡ kept = whole ∙ ap (λ g. g ++ kept) none in
        subst (λ x. limit < bytes_of (x ∷ kept)) same (subst (λ k. limit < bytes_of (t ∷ k)) rest (ltb-true _ _ e))
    longer kept gone whole before (f ∷ front) s is = before front s (cc)
newest_by limit floor t ts false e n = record {
  gone = [];
  whole = refl;
  after = refl;
  fits = ltb-false _ _ e;
  longest = λ front s is. absurd (no_end front s is);
}
  where
    no_end : (front : List Told) (s : Told) → [] ≡ front ++ s ∷ [] → ⊥
    no_end [] s is = absurd (cc)
    no_end (f ∷ front) s is = absurd (cc)

no_end : (front : List Told) (s : Told) → [] ≡ front ++ s ∷ [] → ⊥
no_end [] s is = absurd (cc)
no_end (f ∷ front) s is = absurd (cc)

pub newest_stay : (limit floor : ℕ) (told : List Told) → IsNewest limit floor told (trimmed limit floor told)
newest_stay limit floor [] = record { gone = []; whole = refl; after = refl; fits = omega arith; longest = λ front s is. absurd (no_end front s is) }
newest_stay limit floor (t ∷ ts) = newest_by limit floor t ts (nat_lt limit (bytes_of (t ∷ ts))) refl (newest_stay limit t.last ts)

-- ---- one more at the end

pub rises-push : (floor : ℕ) (ts : List Told) (t : Told) → Rises floor ts → newest floor ts < t.last → Rises floor (ts ++ t ∷ [])
rises-push floor [] t up over = (over, tt)
rises-push floor (s ∷ ts) t up over = (up.0, rises-push s.last ts t up.1 over)

pub bytes-push : (ts : List Told) (t : Told) → bytes_of (ts ++ t ∷ []) ≡ bytes_of ts + length t.frames
bytes-push ts t = let e = bytes-append ts (t ∷ []) in omega (arith, e)

pub kept_push : (limit floor : ℕ) (ts : List Told) (t : Told) → IsKept (all limit floor ts) → newest floor ts < t.last → bytes_of ts + length t.frames ≤ limit → IsKept (all limit floor (ts ++ t ∷ []))
kept_push limit floor ts t kept over fit = record {
  rises = rises-push floor ts t kept.rises over;
  within = let e = bytes-push ts t in omega (arith, e, fit);
}

-- ---- the oldest goes

pub over_first : (most : ℕ) (t : Told) (ts : List Told) → most < bytes_of (t ∷ ts) → (floor : ℕ) → trimmed most t.last ts ≡ trimmed most floor (t ∷ ts)
over_first most t ts over floor = sym (one_goes most floor t ts over)

-- ---- what is so of what stays

split_length : (whole gone kept : List Told) → whole ≡ gone ++ kept → length kept ≤ length whole
split_length whole gone kept e = let same = ap length e in let sum = length-append gone kept in omega (arith, same, sum)

pub length-trimmed : (limit floor : ℕ) (ts : List Told) → length (trimmed limit floor ts).told ≤ length ts
length-trimmed limit floor ts = let n = newest_stay limit floor ts in split_length ts n.gone (trimmed limit floor ts).told n.whole

pub newest-trimmed : (limit floor : ℕ) (ts : List Told) → newest (trimmed limit floor ts).floor (trimmed limit floor ts).told ≡ newest floor ts
newest-trimmed limit floor ts =
    let n = newest_stay limit floor ts in
    let kept = (trimmed limit floor ts).told in
    ap (λ f. newest f kept) n.after ∙ sym (newest-append floor n.gone kept) ∙ ap (newest floor) (sym n.whole)

pub bytes-trimmed : (limit floor : ℕ) (ts : List Told) → bytes_of (trimmed limit floor ts).told ≤ limit
bytes-trimmed limit floor ts = (newest_stay limit floor ts).fits

pub length-told : (h : History) (t : Told) → length (with_told h t).told ≤ length h.told + 1
length-told h t = let shorter = length-trimmed h.limit h.floor (h.told ++ t ∷ []) in let sum = length-append h.told (t ∷ []) in omega (arith, shorter, sum)

pub newest-told : (h : History) (t : Told) → newest (with_told h t).floor (with_told h t).told ≡ t.last
newest-told h t = newest-trimmed h.limit h.floor (h.told ++ t ∷ []) ∙ newest-append h.floor h.told (t ∷ [])
