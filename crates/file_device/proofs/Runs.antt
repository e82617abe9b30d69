-- Runs of sectors over images.
use Rattle.std.proofs.Common.{◌≡◌, ◌≢◌, ◌⊎◌, inl, inr, ⊎_elim, ℕ, zero, suc, ◌+◌, ◌/◌, ◌≤◌, ◌<◌, List, [], length, set, get_or, refl, ap, subst, sym, ◌∙◌, arith, length-set, Bool, Option, None, Some}
use Rattle.std.proofs.Math.Numerals.{add-one}
use Rattle.std.proofs.lemmas.Bool.{cases_eq, cases_lt}
use Rattle.std.proofs.lemmas.List.{get_or-set_same, get_or-set_other, get_or_past, set_past, set-set, set-get_or, ext_get_or}
use Rattle.sector_device.specs.Disk.{Image, OrReplaced, OrTorn, IsDamage, IsTornFrom}
use Rattle.sector_device.specs.History.{OrWritten}
use Rattle.sector_device.specs.Sectors.{IsNear}
use Rattle.sector_device.proofs.Chosen.{torn_from_each}
use Rattle.file_device.specs.Runs.{put_run, IsOver, IsTornOver, IsOverBy, IsOverSome}

-- what a sector of an image over another is
abbrev Either : ℕ → Image → ℕ → Image → ℕ → List ℕ → Type 0
Either first run count before k sector = (sector ≡ get_or before k []) ⊎ ((j : ℕ) × (j < count) × (k ≡ first + j) × (sector ≡ get_or run j []))

plain_self : (first : ℕ) (run : Image) (count : ℕ) (image : Image) → IsOver first run count image image
plain_self first run count image = record { length_is = refl; each = λ k. inl refl }

plain_nothing : (first : ℕ) (run before image : Image) → IsOver first run 0 before image → image ≡ before
plain_nothing first run before image over = ext_get_or [] image before over.length_is (λ k lt. one k (over.each k))
  where
    one : (k : ℕ) → Either first run 0 before k (get_or image k []) → get_or image k [] ≡ get_or before k []
    one k (inl same) = same
    one k (inr placed) = absurd (omega (arith, placed.1))

plain_again : (first : ℕ) (run : Image) (count : ℕ) (before mid image : Image) → IsOver first run count before mid → IsOver first run count mid image → IsOver first run count before image
plain_again first run count before mid image earlier later = record { length_is = later.length_is ∙ earlier.length_is; each = λ k. one k (later.each k) }
  where
    one : (k : ℕ) → Either first run count mid k (get_or image k []) → Either first run count before k (get_or image k [])
    one k (inl same) = subst (Either first run count before k) (sym same) (earlier.each k)
    one k (inr placed) = inr placed

pub over_more : (first : ℕ) (run : Image) (count : ℕ) (before image : Image) → IsOver first run count before image → IsOver first run (count + 1) before image
over_more first run count before image over = record { length_is = over.length_is; each = λ k. one k (over.each k) }
  where
    one : (k : ℕ) → Either first run count before k (get_or image k []) → Either first run (count + 1) before k (get_or image k [])
    one k (inl same) = inl same
    one k (inr placed) = inr (placed.0, omega (arith, placed.1), placed.2, placed.3)

-- a sector that is replaced, or lies past the end
set_or_past : (image : Image) (at : ℕ) (content : List ℕ) → (get_or (set image at content) at [] ≡ content) ⊎ (set image at content ≡ image)
set_or_past image at content = ⊎_elim (λ inside. inl (get_or-set_same image at content [] inside)) (λ past. inr (set_past image at content past)) (cases_lt at (length image))

over_placed : (first : ℕ) (run : Image) (count : ℕ) (before image : Image) → IsOver first run (count + 1) before image → get_or (set image (first + count) (get_or run count [])) (first + count) [] ≡ get_or run count []
    → IsOver first run (count + 1) before (set image (first + count) (get_or run count []))
over_placed first run count before image over here = record {
  length_is = length-set image (first + count) (get_or run count []) ∙ over.length_is;
  each = λ k. one k (cases_eq k (first + count));
}
  where
    one : (k : ℕ) → (k ≡ first + count) ⊎ (k ≢ first + count) → Either first run (count + 1) before k (get_or (set image (first + count) (get_or run count [])) k [])
    one k (inl is) = inr (count, omega arith, is, ap (λ (m : ℕ). get_or (set image (first + count) (get_or run count [])) m []) is ∙ here)
    one k (inr other) = subst (Either first run (count + 1) before k) (sym (get_or-set_other image (first + count) k (get_or run count []) [] other)) (over.each k)

pub over_set : (first : ℕ) (run : Image) (count : ℕ) (before image : Image) → IsOver first run count before image → IsOver first run (count + 1) before (set image (first + count) (get_or run count []))
over_set first run count before image over =
    let more = over_more first run count before image over in
    ⊎_elim (λ here. over_placed first run count before image more here) (λ past. subst (IsOver first run (count + 1) before) (sym past) more) (set_or_past image (first + count) (get_or run count []))

plain_written : (first : ℕ) (run : Image) (count : ℕ) (old mid : Image → Type 0) → ((image : Image) → mid image → IsOverSome None old first run count image)
    → (image : Image) → OrReplaced mid (first + count) (get_or run count []) image → IsOverSome None old first run (count + 1) image
plain_written first run count old mid each image (inl same) = let from = each image same in (from.0, from.1, over_more first run count from.0 image from.2)
plain_written first run count old mid each image (inr new) =
    let from = each new.0 new.1 in
    (from.0, from.1, subst (IsOver first run (count + 1) from.0) (sym new.2) (over_set first run count from.0 new.0 from.2))

pub put_run_more : (image : Image) (first : ℕ) (run : Image) (count : ℕ) → put_run image first run (count + 1) ≡ set (put_run image first run count) (first + count) (get_or run count [])
put_run_more image first run count = ap (put_run image first run) (add-one count)

-- a write that is gathered behind the run: what reached the system of it and the run is what may have of the run, or that and the write
module _ (first : ℕ) (run : Image) (count : ℕ) (content : List ℕ) (inside : count < length run) (before image : Image) (over : IsOver first (set run count content) (count + 1) before image) where
  abbrev without : Image
  without = set image (first + count) (get_or before (first + count) [])

  same_there : get_or without (first + count) [] ≡ get_or before (first + count) []
  same_there = ⊎_elim (λ lt. get_or-set_same image (first + count) (get_or before (first + count) []) [] lt)
      (λ past. ap (λ (i : Image). get_or i (first + count) []) (set_past image (first + count) (get_or before (first + count) []) past) ∙ get_or_past image (first + count) [] past ∙ sym (get_or_past before (first + count) [] (subst (λ (n : ℕ). n ≤ first + count) over.length_is past)))
      (cases_lt (first + count) (length image))

  elsewhere : (k : ℕ) → k ≢ first + count → Either first (set run count content) (count + 1) before k (get_or image k []) → Either first run count before k (get_or image k [])
  elsewhere k other (inl same) = inl same
  elsewhere k other (inr placed) =
      let below : placed.0 < count = omega (arith, placed.1, placed.2, other) in
      let apart : placed.0 ≢ count = omega (arith, below) in
      inr (placed.0, below, placed.2, placed.3 ∙ get_or-set_other run count placed.0 content [] apart)

  over_without : IsOver first run count before without
  over_without = record {
    length_is = length-set image (first + count) (get_or before (first + count) []) ∙ over.length_is;
    each = λ k. one k (cases_eq k (first + count));
  }
    where
      one : (k : ℕ) → (k ≡ first + count) ⊎ (k ≢ first + count) → Either first run count before k (get_or without k [])
      one k (inl is) = inl (subst (λ (m : ℕ). get_or without m [] ≡ get_or before m []) (sym is) same_there)
      one k (inr other) = subst (Either first run count before k) (sym (get_or-set_other image (first + count) k (get_or before (first + count) []) [] other)) (elsewhere k other (over.each k))

  -- it is the image without the write, if the sector is as before, or that with the write
  there : Either first (set run count content) (count + 1) before (first + count) (get_or image (first + count) []) → (image ≡ without) ⊎ (image ≡ set without (first + count) content)
  there (inl same) = inl (sym (set-get_or image (first + count) []) ∙ ap (λ (s : List ℕ). set image (first + count) s) same)
  there (inr placed) =
      let is : placed.0 ≡ count = omega (arith, placed.2) in
      let holds : get_or image (first + count) [] ≡ content = placed.3 ∙ ap (λ (j : ℕ). get_or (set run count content) j []) is ∙ get_or-set_same run count content [] inside in
      inr (sym (set-get_or image (first + count) []) ∙ ap (λ (s : List ℕ). set image (first + count) s) holds ∙ sym (set-set image (first + count) (get_or before (first + count) []) content))

  pub plain_gathered : (old : Image → Type 0) → ((i : Image) → IsOver first run count before i → old i) → OrReplaced old (first + count) content image
  plain_gathered old each = ⊎_elim (λ is. inl (subst old (sym is) (each without over_without))) (λ is. inr (without, each without over_without, is)) (there (over.each (first + count)))

module _ (torn : List ℕ → Bool) (first : ℕ) (run : Image) where
  abbrev Torn : ℕ → Image → ℕ → List ℕ → Type 0
  Torn count before k sector = (sector ≡ get_or before k []) ⊎ ((j : ℕ) × (j < count) × (k ≡ first + j) × (sector ≡ get_or run j [])) ⊎ (IsNear first count k × IsDamage torn sector)

  torn_self : (count : ℕ) (image : Image) → IsTornOver torn first run count image image
  torn_self count image = record { size = refl; each = λ k. inl refl }

  torn_nothing : (before image : Image) → IsTornOver torn first run 0 before image → image ≡ before
  torn_nothing before image over = ext_get_or [] image before over.size (λ k lt. one k (over.each k))
    where
      one : (k : ℕ) → Torn 0 before k (get_or image k []) → get_or image k [] ≡ get_or before k []
      one k (inl same) = same
      one k (inr (inl placed)) = absurd (omega (arith, placed.1))
      one k (inr (inr damage)) = absurd (omega (arith, damage.0.1))

  torn_again : (count : ℕ) (before mid image : Image) → IsTornOver torn first run count before mid → IsTornOver torn first run count mid image → IsTornOver torn first run count before image
  torn_again count before mid image earlier later = record { size = later.size ∙ earlier.size; each = λ k. one k (later.each k) }
    where
      one : (k : ℕ) → Torn count mid k (get_or image k []) → Torn count before k (get_or image k [])
      one k (inl same) = subst (Torn count before k) (sym same) (earlier.each k)
      one k (inr other) = inr other

  one_further : (count k : ℕ) (before : Image) (sector : List ℕ) → Torn count before k sector → Torn (count + 1) before k sector
  one_further count k before sector (inl same) = inl same
  one_further count k before sector (inr (inl placed)) = inr (inl (placed.0, omega (arith, placed.1), placed.2, placed.3))
  one_further count k before sector (inr (inr damage)) = inr (inr ((damage.0.0, omega (arith, damage.0.1), damage.0.2), damage.1))

  torn_written : (count : ℕ) (old mid : Image → Type 0) → ((image : Image) → mid image → IsOverSome (Some torn) old first run count image)
      → (image : Image) → OrTorn torn mid (first + count) (get_or run count []) image → IsOverSome (Some torn) old first run (count + 1) image
  torn_written count old mid each image new =
      let from = each new.0 new.1 in
      (from.0, from.1, record { size = new.2.size ∙ from.2.size; each = λ k. one from.0 k (from.2.each k) (new.2.each k) })
    where
      one : (before : Image) (k : ℕ) → Torn count before k (get_or new.0 k []) → (get_or image k [] ≡ get_or new.0 k []) ⊎ ((k ≡ first + count) × (get_or image k [] ≡ get_or run count [])) ⊎ ((k / 8 ≡ (first + count) / 8) × IsDamage torn (get_or image k []))
          → Torn (count + 1) before k (get_or image k [])
      one before k earlier (inl same) = subst (Torn (count + 1) before k) (sym same) (one_further count k before (get_or new.0 k []) earlier)
      one before k earlier (inr (inl here)) = inr (inl (count, omega arith, here.0, here.1))
      one before k earlier (inr (inr damage)) = inr (inr ((count, omega arith, damage.0), damage.1))

  -- a write that is gathered after the run
  module _ (count : ℕ) (content : List ℕ) (inside : count < length run) (before image : Image) (over : IsTornOver torn first (set run count content) (count + 1) before image) where
    last_or : (k : ℕ) → (get_or image k [] ≡ get_or before k []) ⊎ ((j : ℕ) × (j < count + 1) × (k ≡ first + j) × (get_or image k [] ≡ get_or (set run count content) j [])) ⊎ (IsNear first (count + 1) k × IsDamage torn (get_or image k []))
        → Torn count before k (get_or image k []) ⊎ ((k ≡ first + count) × (get_or image k [] ≡ content)) ⊎ ((k / 8 ≡ (first + count) / 8) × IsDamage torn (get_or image k []))
    last_or k (inl same) = inl (inl same)
    last_or k (inr (inl placed)) = ⊎_elim
        (λ is. inr (inl (placed.2 ∙ ap (λ (j : ℕ). first + j) is, placed.3 ∙ ap (λ (j : ℕ). get_or (set run count content) j []) is ∙ get_or-set_same run count content [] inside)))
        (λ other. inl (inr (inl (placed.0, omega (arith, placed.1, other), placed.2, placed.3 ∙ get_or-set_other run count placed.0 content [] other))))
        (cases_eq placed.0 count)
    last_or k (inr (inr damage)) = ⊎_elim
        (λ is. inr (inr (damage.0.2 ∙ ap (λ (j : ℕ). (first + j) / 8) is, damage.1)))
        (λ other. inl (inr (inr ((damage.0.0, omega (arith, damage.0.1, other), damage.0.2), damage.1))))
        (cases_eq damage.0.0 count)

    pub torn_gathered : (old : Image → Type 0) → ((i : Image) → IsTornOver torn first run count before i → old i) → OrTorn torn old (first + count) content image
    torn_gathered old all =
        torn_from_each torn old (Torn count before) before (first + count) content (λ k lt. inl refl)
        (λ i size each. all i (record { size = size; each = λ k. ⊎_elim (each k) (λ past. inl (get_or_past i k [] (omega (arith, past, size)) ∙ sym (get_or_past before k [] past))) (cases_lt k (length before)) }))
        image over.size (λ k lt. last_or k (over.each k))

-- of both
pub over_self : (torn : Option (List ℕ → Bool)) (first : ℕ) (run : Image) (count : ℕ) (image : Image) → IsOverBy torn first run count image image
over_self None first run count image = plain_self first run count image
over_self (Some torn) first run count image = torn_self torn first run count image

pub over_nothing : (torn : Option (List ℕ → Bool)) (first : ℕ) (run before image : Image) → IsOverBy torn first run 0 before image → image ≡ before
over_nothing None first run before image over = plain_nothing first run before image over
over_nothing (Some torn) first run before image over = torn_nothing torn first run before image over

pub over_again : (torn : Option (List ℕ → Bool)) (first : ℕ) (run : Image) (count : ℕ) (before mid image : Image) → IsOverBy torn first run count before mid → IsOverBy torn first run count mid image → IsOverBy torn first run count before image
over_again None first run count before mid image earlier later = plain_again first run count before mid image earlier later
over_again (Some torn) first run count before mid image earlier later = torn_again torn first run count before mid image earlier later

-- one more write that reached the system, or may have
pub over_some_set : (torn : Option (List ℕ → Bool)) (first : ℕ) (run : Image) (count : ℕ) (old mid : Image → Type 0) → ((image : Image) → mid image → IsOverSome torn old first run count image)
    → (image : Image) → OrWritten torn mid (first + count) (get_or run count []) image → IsOverSome torn old first run (count + 1) image
over_some_set None first run count old mid each image new = plain_written first run count old mid each image new
over_some_set (Some torn) first run count old mid each image new = torn_written torn first run count old mid each image new

pub gathered_left : (torn : Option (List ℕ → Bool)) (first : ℕ) (run : Image) (count : ℕ) (content : List ℕ) → count < length run → (before image : Image) → IsOverBy torn first (set run count content) (count + 1) before image
    → (old : Image → Type 0) → ((i : Image) → IsOverBy torn first run count before i → old i) → OrWritten torn old (first + count) content image
gathered_left None first run count content inside before image over old each = plain_gathered first run count content inside before image over old each
gathered_left (Some torn) first run count content inside before image over old each = torn_gathered torn first run count content inside before image over old each

pub put_run_set : (image : Image) (first : ℕ) (run : Image) (count : ℕ) (content : List ℕ) (k : ℕ) → k ≤ count → put_run image first (set run count content) k ≡ put_run image first run k
put_run_set image first run count content zero le = refl
put_run_set image first run count content (suc k) le =
    let other : k ≢ count = omega (arith, le) in
    ap (λ (i : Image). set i (first + k) (get_or (set run count content) k [])) (put_run_set image first run count content k (omega (arith, le))) ∙ ap (λ (s : List ℕ). set (put_run image first run k) (first + k) s) (get_or-set_other run count k content [] other)
