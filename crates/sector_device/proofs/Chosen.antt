-- An image of which each sector is given, and one from which a write may have torn another.
use Rattle.std.proofs.Common.{◌≡◌, ◌⊎◌, inl, inr, ⊎_elim, ℕ, zero, suc, ◌+◌, ◌/◌, ◌≤◌, ◌<◌, List, [], ◌∷◌, length, get_or, refl, ap, subst, sym, ◌∙◌, arith, Bool}
use Rattle.std.proofs.lemmas.Bool.{cases_lt}
use Rattle.std.proofs.lemmas.List.{get_or_past}
use Rattle.sector_device.specs.Disk.{Image, OrTorn, IsTornFrom, IsDamage}

-- `count` sectors, from number `first` on
made : ℕ → ℕ → (ℕ → List ℕ) → Image
made first zero sector = []
made first (suc count) sector = sector first ∷ made (suc first) count sector

made_size : (first count : ℕ) (sector : ℕ → List ℕ) → length (made first count sector) ≡ count
unfolding made
made_size first zero sector = refl
made_size first (suc count) sector = ap suc (made_size (suc first) count sector)

made_at : (first count k : ℕ) (sector : ℕ → List ℕ) → k < count → get_or (made first count sector) k [] ≡ sector (first + k)
unfolding made
made_at first zero k sector lt = absurd (omega (arith, lt))
made_at first (suc count) zero sector lt = ap sector (let e : first ≡ first + 0 = omega arith in e)
made_at first (suc count) (suc k) sector lt = made_at (suc first) count k sector (omega (arith, lt)) ∙ ap sector (let e : suc first + k ≡ first + suc k = omega arith in e)

module _ (torn : List ℕ → Bool) (old : Image → Type 0) (holds : ℕ → List ℕ → Type 0) (seen : Image) (at : ℕ) (content : List ℕ)
    (own : (k : ℕ) → k < length seen → holds k (get_or seen k []))
    (all : (image : Image) → length image ≡ length seen → ((k : ℕ) → k < length seen → holds k (get_or image k [])) → old image)
    (image : Image) (size : length image ≡ length seen) where
  abbrev Each : ℕ → Type 0
  Each k = holds k (get_or image k []) ⊎ ((k ≡ at) × (get_or image k [] ≡ content)) ⊎ ((k / 8 ≡ at / 8) × IsDamage torn (get_or image k []))

  -- the sector as it was, if the write made it what it is
  without : (k : ℕ) → Each k → List ℕ
  without k (inl same) = get_or image k []
  without k (inr new) = get_or seen k []

  held : (k : ℕ) → k < length seen → (each : Each k) → holds k (without k each)
  unfolding without
  held k lt (inl same) = same
  held k lt (inr new) = own k lt

  from : (k : ℕ) (each : Each k) → (get_or image k [] ≡ without k each) ⊎ ((k ≡ at) × (get_or image k [] ≡ content)) ⊎ ((k / 8 ≡ at / 8) × IsDamage torn (get_or image k []))
  unfolding without
  from k (inl same) = inl refl
  from k (inr new) = inr new

  module _ (each : (k : ℕ) → k < length seen → Each k) where
    sector : (k : ℕ) → (k < length seen) ⊎ (length seen ≤ k) → List ℕ
    sector k (inl lt) = without k (each k lt)
    sector k (inr past) = []

    before : Image
    before = made 0 (length seen) (λ k. sector k (cases_lt k (length seen)))

    before_size : length before ≡ length seen
    unfolding before
    before_size = made_size 0 (length seen) (λ k. sector k (cases_lt k (length seen)))

    before_at : (k : ℕ) → k < length seen → get_or before k [] ≡ sector k (cases_lt k (length seen))
    unfolding before
    before_at k lt = made_at 0 (length seen) k (λ n. sector n (cases_lt n (length seen))) lt ∙ ap (λ (n : ℕ). sector n (cases_lt n (length seen))) (let e : 0 + k ≡ k = omega arith in e)

    sector_held : (k : ℕ) (place : (k < length seen) ⊎ (length seen ≤ k)) → k < length seen → holds k (sector k place)
    unfolding sector
    sector_held k (inl lt) inside = held k lt (each k lt)
    sector_held k (inr past) inside = absurd (omega (arith, past, inside))

    sector_from : (k : ℕ) (place : (k < length seen) ⊎ (length seen ≤ k)) → (get_or image k [] ≡ sector k place) ⊎ ((k ≡ at) × (get_or image k [] ≡ content)) ⊎ ((k / 8 ≡ at / 8) × IsDamage torn (get_or image k []))
    unfolding sector
    sector_from k (inl lt) = from k (each k lt)
    sector_from k (inr past) = inl (get_or_past image k [] (omega (arith, past, size)))

    -- an image of which each sector is old, new or torn is left by the write
    pub torn_from_each : OrTorn torn old at content image
    torn_from_each = (before, all before before_size (λ k lt. subst (holds k) (sym (before_at k lt)) (sector_held k (cases_lt k (length seen)) lt)), record { size = size ∙ sym before_size; each = λ k. one k (cases_lt k (length seen)) })
      where
        one : (k : ℕ) → (k < length seen) ⊎ (length seen ≤ k) → (get_or image k [] ≡ get_or before k []) ⊎ ((k ≡ at) × (get_or image k [] ≡ content)) ⊎ ((k / 8 ≡ at / 8) × IsDamage torn (get_or image k []))
        one k (inl lt) = ⊎_elim (λ same. inl (same ∙ sym (before_at k lt))) inr (sector_from k (cases_lt k (length seen)))
        one k (inr past) = inl (get_or_past image k [] (omega (arith, past, size)) ∙ sym (get_or_past before k [] (omega (arith, past, before_size))))
