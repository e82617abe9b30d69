-- The transactions after a change.
use Rattle.std.proofs.Common.{◌≡◌, ℕ, zero, suc, ◌+◌, ◌<◌, ◌≤◌, Bool, true, false, if◌then◌else◌, cond, nat_eq, nat_lt, ◌-◌, List, [], ◌∷◌, ◌++◌, length, get_or, drop, Option, Some, None, Result, Ok, Err, inl, inr, refl, sym, ap, subst, ◌∙◌, append_assoc, add-one, arith}
use Rattle.std.proofs.lemmas.Bool.{cases_lt, eq-eqb, eqb-true, ne_eqb, lt-ltb}
use Rattle.std.proofs.lemmas.Cmp.{nat_cmp_total, ranked}
use Rattle.std.proofs.lemmas.List.Sorted.{searchable_from_sorted}
use Rattle.std.specs.Cmp.{nat_cmp_is}
use Rattle.std.specs.List.Sorted.{IsBinarySearchResult, IsNonDecreasingBy, IsSearchInRange}
use Rattle.std.specs.Ordering.{is_lt, nat_cmp, ordering_index}
use Rattle.std.specs.declared.cmp.Ordering.{Ordering}
use Rattle.std.specs.declared.cmp.Ordering.TheVariants.{Less, Equal, Greater}
use Rattle.change_history.specs.History.{History, Told, bytes_of, newest, Rises, since, trimmed}
use Rattle.change_history.specs.Follows.{Follows}
use Rattle.change_history.proofs.Trimmed.{all, newest-append, newest_stay}

-- ---- a step, by what its test says

pub since_here : (floor : ℕ) (ts : List Told) (from : ℕ) → from ≡ floor → since floor ts from ≡ Some ts
since_here floor [] from e = ap (λ b. if b then Some [] else None) (eq-eqb from floor e)
since_here floor (t ∷ ts) from e = ap (λ b. if b then Some (t ∷ ts) else since t.last ts from) (eq-eqb from floor e)

since_further : (floor : ℕ) (t : Told) (ts : List Told) (from : ℕ) → (from ≡ floor → ⊥) → since floor (t ∷ ts) from ≡ since t.last ts from
since_further floor t ts from ne = ap (λ b. if b then Some (t ∷ ts) else since t.last ts from) (ne_eqb from floor ne)

since_none : (floor from : ℕ) → (from ≡ floor → ⊥) → since floor [] from ≡ None
since_none floor from ne = ap (λ b. if b then Some [] else None) (ne_eqb from floor ne)

-- ---- those that follow

empty_by : (floor from : ℕ) (rest : List Told) (b : Bool) → nat_eq from floor ≡ b → (if b then Some [] else None) ≡ Some rest → Follows floor [] from rest
empty_by floor from rest true e is = record { before = []; whole = (cc); ends = sym (eqb-true from floor e) }
empty_by floor from rest false e is = absurd (cc)

follows_by : (floor : ℕ) (t : Told) (ts : List Told) (from : ℕ) (rest : List Told) (b : Bool) → nat_eq from floor ≡ b → (if b then Some (t ∷ ts) else since t.last ts from) ≡ Some rest
    → (since t.last ts from ≡ Some rest → Follows t.last ts from rest) → Follows floor (t ∷ ts) from rest
follows_by floor t ts from rest true e is later = record { before = []; whole = (cc); ends = sym (eqb-true from floor e) }
follows_by floor t ts from rest false e is later = let f = later is in record { before = t ∷ f.before; whole = ap (λ l. t ∷ l) f.whole; ends = f.ends }

pub follows : (floor : ℕ) (told : List Told) (from : ℕ) (rest : List Told) → since floor told from ≡ Some rest → Follows floor told from rest
follows floor [] from rest is = empty_by floor from rest (nat_eq from floor) refl is
follows floor (t ∷ ts) from rest is = follows_by floor t ts from rest (nat_eq from floor) refl is (follows t.last ts from rest)

newest_over : (floor : ℕ) (ts rest : List Told) → Rises floor (ts ++ rest) → floor ≤ newest floor ts
newest_over floor [] rest up = omega arith
newest_over floor (t ∷ ts) rest up = let later = newest_over t.last ts rest up.1 in let first = up.0 in omega (arith, later, first)

split_at : (floor : ℕ) (before rest : List Told) → Rises floor (before ++ rest) → since floor (before ++ rest) (newest floor before) ≡ Some rest
split_at floor [] rest up = since_here floor rest floor refl
split_at floor (t ∷ before) rest up =
    let later = newest_over t.last before rest up.1 in
    let first = up.0 in
    since_further floor t (before ++ rest) (newest t.last before) (λ e. omega (arith, later, first, e)) ∙ split_at t.last before rest up.1

pub answered : (floor : ℕ) (told : List Told) (from : ℕ) (rest : List Told) → Rises floor told → Follows floor told from rest → since floor told from ≡ Some rest
answered floor told from rest up f =
    ap (λ l. since floor l from) f.whole
    ∙ ap (since floor (f.before ++ rest)) (sym f.ends)
    ∙ split_at floor f.before rest (subst (Rises floor) f.whole up)

pub go_on : (floor : ℕ) (told : List Told) (from : ℕ) (first rest : List Told) → Rises floor told → since floor told from ≡ Some (first ++ rest) → since floor told (newest from first) ≡ Some rest
go_on floor told from first rest up is =
    let f = follows floor told from (first ++ rest) is in
    answered floor told (newest from first) rest up (record {
      before = f.before ++ first;
      whole = f.whole ∙ sym (append_assoc f.before first rest);
      ends = newest-append floor f.before first ∙ ap (λ n. newest n first) f.ends;
    })

-- ---- as a binary search finds them

over_floor : (floor : ℕ) (ts : List Told) (i : ℕ) (d : Told) → Rises floor ts → i < length ts → floor < (get_or ts i d).last
over_floor floor [] i d up lt = absurd (omega (arith, lt))
over_floor floor (t ∷ ts) zero d up lt = up.0
over_floor floor (t ∷ ts) (suc i) d up lt = let later = over_floor t.last ts i d up.1 (omega (arith, lt)) in let first = up.0 in omega (arith, later, first)

found_at : (floor : ℕ) (ts : List Told) (i : ℕ) (d : Told) → Rises floor ts → i < length ts → since floor ts (get_or ts i d).last ≡ Some (drop (suc i) ts)
found_at floor [] i d up lt = absurd (omega (arith, lt))
found_at floor (t ∷ ts) zero d up lt = let first = up.0 in since_further floor t ts t.last (λ e. omega (arith, first, e)) ∙ since_here t.last ts t.last refl
found_at floor (t ∷ ts) (suc i) d up lt =
    let over = over_floor floor (t ∷ ts) (suc i) d up lt in
    since_further floor t ts (get_or ts i d).last (λ e. omega (arith, over, e)) ∙ found_at t.last ts i d up.1 (omega (arith, lt))

none_at : (floor : ℕ) (ts : List Told) (from : ℕ) → (from ≡ floor → ⊥) → ((i : ℕ) (d : Told) → i < length ts → (get_or ts i d).last ≡ from → ⊥) → since floor ts from ≡ None
none_at floor [] from ne others = since_none floor from ne
none_at floor (t ∷ ts) from ne others =
    since_further floor t ts from ne ∙ none_at t.last ts from (λ e. others 0 t (omega arith) (sym e)) (λ i d lt. others (suc i) d (omega (arith, lt)))

next_over : (floor : ℕ) (ts : List Told) (i : ℕ) (d : Told) → Rises floor ts → suc i < length ts → (get_or ts i d).last < (get_or ts (suc i) d).last
next_over floor [] i d up lt = absurd (omega (arith, lt))
next_over floor (t ∷ ts) zero d up lt = over_floor t.last ts 0 d up.1 (omega (arith, lt))
next_over floor (t ∷ ts) (suc i) d up lt = next_over t.last ts i d up.1 (omega (arith, lt))

rise : (floor : ℕ) (ts : List Told) (from : ℕ) → Rises floor ts → IsNonDecreasingBy (λ (t : Told). ordering_index (nat_cmp t.last from)) ts
rise floor ts from up = searchable_from_sorted nat_cmp_total (λ (t : Told). t.last) ts from
    (λ k d low lt. rw add-one (ap is_lt (sym (nat_cmp_is (get_or ts (suc k) d).last (get_or ts k d).last Greater (next_over floor ts k d up (omega (arith, lt)))))))

not_equal : (x y : ℕ) (o : Ordering) → nat_cmp x y ≡ o → (o ≡ Equal → ⊥) → x ≡ y → ⊥
not_equal x y Less is ne same = let r = ranked x y Less (sym is) in omega (arith, r, same)
not_equal x y Equal is ne same = ne refl
not_equal x y Greater is ne same = let r = ranked x y Greater (sym is) in omega (arith, r, same)

pub found : (floor : ℕ) (ts : List Told) (from i : ℕ) → Rises floor ts → i < length ts → IsBinarySearchResult (λ (t : Told). nat_cmp t.last from) ts (Ok i) → since floor ts from ≡ Some (drop (i + 1) ts)
found floor [] from i up lt is = absurd (omega (arith, lt))
found floor (t ∷ ts) from i up lt is =
    let same : (get_or (t ∷ ts) i t).last ≡ from = ranked (get_or (t ∷ ts) i t).last from Equal (sym (is t)) in
    rw add-one (ap (since floor (t ∷ ts)) (sym same) ∙ found_at floor (t ∷ ts) i t up lt)

pub missing : (floor : ℕ) (ts : List Told) (from i : ℕ) → (from ≡ floor → ⊥) → Rises floor ts → i ≤ length ts → IsBinarySearchResult (λ (t : Told). nat_cmp t.last from) ts (Err i) → since floor ts from ≡ None
missing floor ts from i ne up le parted = let p = parted (rise floor ts from up) in none_at floor ts from ne (λ j d lt. elim (cases_lt j i) [ inl under ↦ not_equal _ _ Less (p.0 j d (omega arith) under) (λ e. absurd (cc)) | inr over ↦ not_equal _ _ Greater (p.1 j d over lt) (λ e. absurd (cc)) ])

-- ---- the last of them

pub newest-last : (floor : ℕ) (ts : List Told) (d : Told) → 0 < length ts → newest floor ts ≡ (get_or ts (length ts - 1) d).last
newest-last floor [] d lt = absurd (omega (arith, lt))
newest-last floor (t ∷ []) d lt = refl
newest-last floor (t ∷ s ∷ ts) d lt = newest-last t.last (s ∷ ts) d (omega arith) ∙ ap (λ n. (get_or (t ∷ s ∷ ts) n d).last) last_one
  where
    last_one : suc (length (s ∷ ts) - 1) ≡ length (t ∷ s ∷ ts) - 1
    last_one = omega arith

-- ---- once the oldest went

none_below : (floor : ℕ) (ts : List Told) (from : ℕ) → Rises floor ts → from < floor → since floor ts from ≡ None
none_below floor ts from up below = none_at floor ts from (λ e. omega (arith, below, e)) (λ i d lt e. let over = over_floor floor ts i d up lt in omega (arith, below, over, e))

Unmoved : History → ℕ → List Told → ℕ → Type 0
Unmoved h floor told from = (from < h.floor → since h.floor h.told from ≡ None) × (h.floor ≤ from → since h.floor h.told from ≡ since floor told from)

floor_rises : (limit floor : ℕ) (t : Told) (ts : List Told) → Rises t.last ts → t.last ≤ (trimmed limit t.last ts).floor
floor_rises limit floor t ts up =
    let n = newest_stay limit t.last ts in
    let after = n.after in
    let over = newest_over t.last n.gone (trimmed limit t.last ts).told (subst (Rises t.last) n.whole up) in
    omega (arith, after, over)

unmoved_by : (limit floor : ℕ) (t : Told) (ts : List Told) (from : ℕ) (b : Bool) → Rises floor (t ∷ ts) → Unmoved (trimmed limit t.last ts) t.last ts from
    → Unmoved (if b then trimmed limit t.last ts else all limit floor (t ∷ ts)) floor (t ∷ ts) from
unfolding Unmoved
unmoved_by limit floor t ts from true up later =
    let first = up.0 in
    let over = floor_rises limit floor t ts up.1 in (
      later.0,
      λ le. later.1 le ∙ sym (since_further floor t ts from (λ e. omega (arith, first, over, le, e))),
    )
unmoved_by limit floor t ts from false up later = (λ below. none_below floor (t ∷ ts) from up below, λ le. refl)

unmoved : (limit floor : ℕ) (told : List Told) (from : ℕ) → Rises floor told → Unmoved (trimmed limit floor told) floor told from
unfolding Unmoved
unmoved limit floor [] from up = (λ below. none_below floor [] from up below, λ le. refl)
unmoved limit floor (t ∷ ts) from up = unmoved_by limit floor t ts from (nat_lt limit (bytes_of (t ∷ ts))) up (unmoved limit t.last ts from up.1)

pub gone_below : (limit floor : ℕ) (told : List Told) (from : ℕ) → Rises floor told → from < (trimmed limit floor told).floor → since (trimmed limit floor told).floor (trimmed limit floor told).told from ≡ None
unfolding Unmoved
gone_below limit floor told from up = (unmoved limit floor told from up).0

pub same_after : (limit floor : ℕ) (told : List Told) (from : ℕ) → Rises floor told → (trimmed limit floor told).floor ≤ from → since (trimmed limit floor told).floor (trimmed limit floor told).told from ≡ since floor told from
unfolding Unmoved
same_after limit floor told from up = (unmoved limit floor told from up).1

-- ---- the numbers of those that follow

rises_after : (floor : ℕ) (before rest : List Told) → Rises floor (before ++ rest) → Rises (newest floor before) rest
rises_after floor [] rest up = up
rises_after floor (t ∷ before) rest up = rises_after t.last before rest up.1

pub rises_from : (floor : ℕ) (told : List Told) (from : ℕ) (rest : List Told) → Rises floor told → Follows floor told from rest → Rises from rest
rises_from floor told from rest up f = subst (λ n. Rises n rest) f.ends (rises_after floor f.before rest (subst (Rises floor) f.whole up))
