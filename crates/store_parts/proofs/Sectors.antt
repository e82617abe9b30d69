-- Bytes that are read sector by sector.
use Rattle.std.proofs.Common.{◌≡◌, ◌⊎◌, inl, inr, ℕ, ◌+◌, ◌-◌, ◌*◌, ◌/◌, ◌%◌, ◌≤◌, ◌<◌, List, [], ◌∷◌, ◌++◌, length, min, get_or, replicate, take, ap, sym, subst, ◌∙◌, arith, length-append, Contains}
use Rattle.std.proofs.lemmas.Bool.{cases_lt}
use Rattle.std.proofs.lemmas.List.{length-take, length-replicate, get_or_append_left, get_or-append_right, get_or-take, get_or-replicate}
use Rattle.std.proofs.lemmas.List.Elements.{Contains-append_left, Contains-push}
use Rattle.sector_device.specs.Disk.{Image}
use Rattle.sector_device.specs.Sectors.{byte_at, IsRead}
use Rattle.store_parts.specs.Parts.{IsReadBut}

-- all of them were read
pub read_all : (image : Image) (start count : ℕ) (bytes : List ℕ) → IsRead image start count bytes → IsReadBut image start count [] bytes
read_all image start count bytes read = record { size = read.size; each = λ i lt. inl (read.begins i (let size = read.size in omega (arith, lt, size))) }

-- what is said of a byte
abbrev IsByte : Image → ℕ → List ℕ → List ℕ → ℕ → Type 0
IsByte image start unread bytes i = (byte_at image start i ≡ get_or bytes i 0) ⊎ (Contains unread (start + i / 512) × (get_or bytes i 0 ≡ 0))

-- a sector more, of which each byte is the device's, or a zero of a sector that was not read
joined : (image : Image) (start k all n : ℕ) (unread more_unread bytes sector more : List ℕ) → IsReadBut image start (min all (512 * k)) unread bytes → 512 * k < all → n ≡ min (all - 512 * k) 512
    → length sector ≡ n → more ≡ bytes ++ sector → ((x : ℕ) → Contains unread x → Contains more_unread x)
    → ((j : ℕ) → j < n → (byte_at image (start + k) j ≡ get_or sector j 0) ⊎ (Contains more_unread (start + k) × (get_or sector j 0 ≡ 0)))
    → IsReadBut image start (min all (512 * (k + 1))) more_unread more
joined image start k all n unread more_unread bytes sector more read lt n_is whole is kept new = record {
  size = ap length is ∙ length-append bytes sector ∙ omega (arith, full, n_is, whole, lt);
  each = λ i below. subst (λ (l : List ℕ). IsByte image start more_unread l i) (sym is) (one i below (cases_lt i (512 * k)));
}
  where
    full : length bytes ≡ 512 * k
    full = let size = read.size in omega (arith, size, lt)

    old : (i : ℕ) → i < 512 * k → IsByte image start unread bytes i → IsByte image start more_unread (bytes ++ sector) i
    old i low (inl same) = inl (same ∙ sym (get_or_append_left bytes sector 0 i (omega (arith, full, low))))
    old i low (inr none) = inr (kept (start + i / 512) none.0, get_or_append_left bytes sector 0 i (omega (arith, full, low)) ∙ none.1)

    last : (i j : ℕ) → i ≡ 512 * k + j → j < 512 → (byte_at image (start + k) j ≡ get_or sector j 0) ⊎ (Contains more_unread (start + k) × (get_or sector j 0 ≡ 0)) → IsByte image start more_unread (bytes ++ sector) i
    last i j place small byte =
        let row : i / 512 ≡ k = omega (arith, place, small) in
        let column : i % 512 ≡ j = omega (arith, place, small) in
        let first : j / 512 ≡ 0 = omega (arith, small) in
        let rest : j % 512 ≡ j = omega (arith, small) in
        let within : get_or (bytes ++ sector) i 0 ≡ get_or sector j 0 = get_or-append_right bytes sector (512 * k) i 0 full (omega (arith, place)) ∙ ap (λ (m : ℕ). get_or sector m 0) (omega (arith, place)) in
        let there : byte_at image start i ≡ byte_at image (start + k) j = ap (λ (m : ℕ). get_or (get_or image (start + m) []) (i % 512) 0) row ∙ ap (λ (m : ℕ). get_or (get_or image (start + k) []) m 0) (column ∙ sym rest) ∙ ap (λ (m : ℕ). get_or (get_or image m []) (j % 512) 0) (omega (arith, first)) in
        by byte there within row
      where
        by : (byte_at image (start + k) j ≡ get_or sector j 0) ⊎ (Contains more_unread (start + k) × (get_or sector j 0 ≡ 0)) → byte_at image start i ≡ byte_at image (start + k) j → get_or (bytes ++ sector) i 0 ≡ get_or sector j 0 → i / 512 ≡ k
            → IsByte image start more_unread (bytes ++ sector) i
        by (inl same) there within row = inl (there ∙ same ∙ sym within)
        by (inr none) there within row = inr (subst (λ (m : ℕ). Contains more_unread (start + m)) (sym row) none.0, within ∙ none.1)

    one : (i : ℕ) → i < min all (512 * (k + 1)) → (i < 512 * k) ⊎ (512 * k ≤ i) → IsByte image start more_unread (bytes ++ sector) i
    one i below (inl low) = old i low (read.each i (omega (arith, below, low)))
    one i below (inr high) = last i (i - 512 * k) (omega (arith, high)) (omega (arith, below, high)) (new (i - 512 * k) (omega (arith, below, high, n_is)))

-- a sector more that was read
pub read_more : (image : Image) (start k all n : ℕ) (unread bytes sector more : List ℕ) → IsReadBut image start (min all (512 * k)) unread bytes → 512 * k < all → n ≡ min (all - 512 * k) 512
    → IsRead image (start + k) n sector → more ≡ bytes ++ sector → IsReadBut image start (min all (512 * (k + 1))) unread more
read_more image start k all n unread bytes sector more read lt n_is new is =
    joined image start k all n unread unread bytes sector more read lt n_is new.size is (λ x has. has) (λ j below. inl (new.begins j (let size = new.size in omega (arith, below, size))))

-- the bytes in place of a sector
abbrev pub zeros : List ℕ
zeros = replicate 512 0

zeros_long : length zeros ≡ 512
zeros_long = length-replicate {A = ℕ} 512 0

-- a sector more that was not
pub skip_more : (image : Image) (start k all n : ℕ) (unread more_unread bytes more : List ℕ) → IsReadBut image start (min all (512 * k)) unread bytes → 512 * k < all → n ≡ min (all - 512 * k) 512
    → more ≡ bytes ++ take n zeros → more_unread ≡ unread ++ (start + k) ∷ [] → IsReadBut image start (min all (512 * (k + 1))) more_unread more
skip_more image start k all n unread more_unread bytes more read lt n_is is told =
    joined image start k all n unread more_unread bytes (take n zeros) more read lt n_is
    (omega (arith, n_is, length-take n zeros, zeros_long))
    is
    (λ x has. subst (λ (l : List ℕ). Contains l x) (sym told) (Contains-append_left unread ((start + k) ∷ []) x has))
    (λ j below. inr (subst (λ (l : List ℕ). Contains l (start + k)) (sym told) (Contains-push unread (start + k)), get_or-take n zeros j 0 below ∙ get_or-replicate 512 j 0 0 (omega (arith, below, n_is))))
