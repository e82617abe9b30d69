-- What a device carries while it is formatted.
use Rattle.std.proofs.Common.{◌≡◌, ◌≢◌, ◌⊎◌, ⊎_elim, inl, inr, ℕ, ◌+◌, ◌*◌, ◌/◌, ◌%◌, ◌<◌, ◌≤◌, List, [], length, take, replicate, get_or, refl, ap, sym, subst, ◌∙◌, arith, Bool, Option, None, Some}
use Rattle.std.proofs.lemmas.Bool.{cases_eq, cases_lt}
use Rattle.sector_device.specs.Disk.{Image}
use Rattle.sector_device.specs.Sectors.{byte_at}
use Rattle.commit_slots.specs.Sealed.{Verifies, beginning, magic, number_of}
use Rattle.commit_slots.specs.Slots.{Counts, IsCopy, IsHeld, IsSlotOf, block_start, count_of, slot_sector, slot_start}
use Rattle.commit_slots.specs.Finding.{HasNone, IsMarked}
use Rattle.commit_slots.specs.Fresh.{IsFresh}
use Rattle.commit_slots.specs.declared.slot.Slot.{Slot}
use Rattle.commit_slots.proofs.Mixed.{in_slots, is_held_or_not, its_sector, some_sectors}
use Rattle.slot_commits.specs.Formats.{IsAllMade, IsFirst, IsMade, IsOfSlots, IsRest, IsUnmade, PlanOver, numbered}
use Rattle.slot_commits.specs.Pairs.{KeepsOutside}
use Rattle.slot_commits.specs.States.{HoldsBlocks, State, slot_of, tail_of}
use Rattle.slot_commits.specs.Tears.{IsToldBy, IsTornBy}
use Rattle.slot_commits.proofs.Either.{noticed}
use Rattle.slot_commits.proofs.Firsts.{slot_begins}
use Rattle.slot_commits.proofs.Recovers.{sector_magic}
use Rattle.commit_slots.proofs.Said.{one_length, one_slot, sector_number, sector_verifies}

-- zeros are no sector of a slot
zeros_begin : (n : ℕ) → take 12 (replicate 512 0) ≡ beginning → ⊥
zeros_begin n same = let first : 0 ≡ 74 = ap (λ (l : List ℕ). get_or l 0 0) same in absurd (omega (arith, first))

zeros_magic : (n : ℕ) → take 8 (replicate 512 0) ≡ magic → ⊥
zeros_magic n same = let first : 0 ≡ 74 = ap (λ (l : List ℕ). get_or l 0 0) same in absurd (omega (arith, first))

zeros_verify : Verifies (replicate 512 0) → ⊥
zeros_verify verifies = let first : 0 ≡ 74 = ap (λ (l : List ℕ). get_or l 0 0) verifies.begins in absurd (omega (arith, first))

-- ---- before the first sectors are written: none of them begins a slot, unless it is torn

pub record Unbegun (torn : Option (List ℕ → Bool)) (image : Image) : Type 0 where
  pub zeroth : (take 8 (get_or image 0 []) ≡ magic → ⊥) ⊎ IsTornBy torn (get_or image 0 [])
  pub others : (k : ℕ) → (k ≡ 32) ⊎ (k ≡ 64) ⊎ (k ≡ 96) → (take 12 (get_or image k []) ≡ beginning → ⊥) ⊎ IsTornBy torn (get_or image k [])

module _ (torn : Option (List ℕ → Bool)) (slot : Slot) (tail : List ℕ) where
  unmarked : (image : Image) (k : ℕ) → (IsMarked image → ⊥) → (k ≡ 32) ⊎ (k ≡ 64) ⊎ (k ≡ 96) → take 12 (get_or image k []) ≡ beginning → ⊥
  unmarked image k never (inl is) begins = never (inr (inl (subst (λ (n : ℕ). take 12 (get_or image n []) ≡ beginning) is begins)))
  unmarked image k never (inr (inl is)) begins = never (inr (inr (inl (subst (λ (n : ℕ). take 12 (get_or image n []) ≡ beginning) is begins))))
  unmarked image k never (inr (inr is)) begins = never (inr (inr (inr (subst (λ (n : ℕ). take 12 (get_or image n []) ≡ beginning) is begins))))

  pub unbegun_rest : (before image : Image) → (IsMarked before → ⊥) → PlanOver torn (IsRest slot tail) before image → Unbegun torn image
  unbegun_rest before image never over = record {
    zeroth = elim (over.each 0) [
      | inl same ↦ inl (λ is. never (inl (ap (take 8) (sym same) ∙ is)))
      | inr (inl rest) ↦ inl (λ is. let zeros = rest.1.zeros (inl (omega arith)) in zeros_magic 0 (ap (take 8) (sym zeros) ∙ is))
      | inr (inr damage) ↦ inr damage.1
    ];
    others = λ k at. elim (over.each k) [
      | inl same ↦ inl (λ is. unmarked before k never at (ap (take 12) (sym same) ∙ is))
      | inr (inl rest) ↦ inl (λ is. let zeros = rest.1.zeros (inl (whole_place k at)) in zeros_begin 0 (ap (take 12) (sym zeros) ∙ is))
      | inr (inr damage) ↦ inr damage.1
    ];
  }
    where
      whole_place : (k : ℕ) → (k ≡ 32) ⊎ (k ≡ 64) ⊎ (k ≡ 96) → k % 32 ≡ 0
      whole_place k (inl is) = omega (arith, is)
      whole_place k (inr (inl is)) = omega (arith, is)
      whole_place k (inr (inr is)) = omega (arith, is)

pub unbegun_outside : (torn : Option (List ℕ → Bool)) (count : ℕ) (before image : Image) → KeepsOutside 128 count before image → Unbegun torn before → Unbegun torn image
unbegun_outside torn count before image outside so_far = record {
  zeroth = subst (λ (s : List ℕ). (take 8 s ≡ magic → ⊥) ⊎ IsTornBy torn s) (sym (outside.same 0 (inl (omega arith)))) so_far.zeroth;
  others = λ k at. subst (λ (s : List ℕ). (take 12 s ≡ beginning → ⊥) ⊎ IsTornBy torn s) (sym (outside.same k (inl (low k at)))) (so_far.others k at);
}
  where
    low : (k : ℕ) → (k ≡ 32) ⊎ (k ≡ 64) ⊎ (k ≡ 96) → k < 128
    low k (inl is) = omega (arith, is)
    low k (inr (inl is)) = omega (arith, is)
    low k (inr (inr is)) = omega (arith, is)

-- no copy is valid then
unbegun_none : (torn : Option (List ℕ → Bool)) (image : Image) → IsToldBy torn → Unbegun torn image → HasNone image
unbegun_none torn image told unbegun slot tail copy valid = one (cases_eq (slot_start slot.number copy) 0)
  where
    first : get_or image (slot_start slot.number copy + 0) [] ≡ slot_sector slot tail 0
    first = valid.held 0 (some_sectors slot tail copy image valid).0

    at : (n : ℕ) → slot_start slot.number copy ≡ n → get_or image n [] ≡ slot_sector slot tail 0
    at n is = let there : n ≡ slot_start slot.number copy + 0 = omega (arith, is) in ap (λ (k : ℕ). get_or image k []) there ∙ first

    verifies : (n : ℕ) → slot_start slot.number copy ≡ n → Verifies (get_or image n [])
    verifies n is = subst Verifies (sym (at n is)) (sector_verifies slot tail 0)

    place : slot_start slot.number copy ≢ 0 → (slot_start slot.number copy ≡ 32) ⊎ (slot_start slot.number copy ≡ 64) ⊎ (slot_start slot.number copy ≡ 96)
    place other = elim (cases_eq (slot_start slot.number copy) 32) [
      | inl is ↦ inl is
      | inr not_32 ↦ elim (cases_eq (slot_start slot.number copy) 64) [
        | inl is ↦ inr (inl is)
        | inr not_64 ↦ inr (inr (omega (arith, valid.one_of_two, other, not_32, not_64)))
      ]
    ]

    one : (slot_start slot.number copy ≡ 0) ⊎ (slot_start slot.number copy ≢ 0) → ⊥
    one (inl is) = elim unbegun.zeroth [
      | inl never ↦ never (ap (take 8) (at 0 is) ∙ sector_magic slot tail)
      | inr damage ↦ noticed torn (get_or image 0 []) told damage (verifies 0 is)
    ]
    one (inr other) = elim (unbegun.others (slot_start slot.number copy) (place other)) [
      | inl never ↦ never (ap (take 12) (at (slot_start slot.number copy) refl) ∙ slot_begins slot tail 0)
      | inr damage ↦ noticed torn (get_or image (slot_start slot.number copy) []) told damage (verifies (slot_start slot.number copy) refl)
    ]

pub unbegun_unmade : (torn : Option (List ℕ → Bool)) (image : Image) → IsToldBy torn → Unbegun torn image → IsUnmade torn image
unbegun_unmade None image told unbegun = (unbegun_none None image told unbegun, unmarked_now)
  where
    no_torn : (P : Type 0) → P ⊎ ⊥ → P
    no_torn P (inl p) = p
    no_torn P (inr never) = absurd never

    unmarked_now : IsMarked image → ⊥
    unmarked_now (inl zeroth) = no_torn (take 8 (get_or image 0 []) ≡ magic → ⊥) unbegun.zeroth zeroth
    unmarked_now (inr (inl first)) = no_torn (take 12 (get_or image 32 []) ≡ beginning → ⊥) (unbegun.others 32 (inl refl)) first
    unmarked_now (inr (inr (inl second))) = no_torn (take 12 (get_or image 64 []) ≡ beginning → ⊥) (unbegun.others 64 (inr (inl refl))) second
    unmarked_now (inr (inr (inr third))) = no_torn (take 12 (get_or image 96 []) ≡ beginning → ⊥) (unbegun.others 96 (inr (inr refl))) third
unbegun_unmade (Some t) image told unbegun = (unbegun_none (Some t) image told unbegun, ⊎_elim inl (λ damage. inr (inr damage)) unbegun.zeroth)

-- ---- the first sectors are being written: the others are settled

module _ (torn : Option (List ℕ → Bool)) (told : IsToldBy torn) (slot : Slot) (tail : List ℕ) (base image : Image) (of : IsSlotOf (length base) slot tail) (rests : (k : ℕ) → k < 128 → IsRest slot tail k (get_or base k [])) (over : PlanOver torn (IsFirst slot tail) base image) where
  of_numbered : (n : ℕ) → n ≤ 1 → IsSlotOf (length image) (numbered slot n) tail
  of_numbered n low = subst (λ (m : ℕ). IsSlotOf m (numbered slot n) tail) (sym over.size)
      record {
        sectors_is = of.sectors_is;
        sectors_fit = of.sectors_fit;
        half_fits = of.half_fits;
        length_is = of.length_is;
        length_fits = of.length_fits;
        tail_fits = of.tail_fits;
        number_fits = omega (arith, low);
        seq_fits = of.seq_fits;
        opens_fits = of.opens_fits;
        identity_fits = of.identity_fits;
        blocks_fit = of.blocks_fit;
        check_fits = of.check_fits;
      }

  -- a sector that verifies is one of these copies
  rest_ours : (k : ℕ) → k < 128 → Verifies (get_or base k []) → (k % 32 < count_of (length tail)) × (get_or base k [] ≡ slot_sector (numbered slot (k / 64)) tail (k % 32))
  rest_ours k lt verifies = elim (cases_lt 0 (k % 32)) [
    | inl some ↦ elim (cases_lt (k % 32) (count_of (length tail))) [
      | inl few ↦ (few, (rests k lt).part some few)
      | inr many ↦ absurd (zeros_verify (subst Verifies ((rests k lt).zeros (inr many)) verifies))
    ]
    | inr none ↦ absurd (zeros_verify (subst Verifies ((rests k lt).zeros (inl (omega (arith, none)))) verifies))
  ]

  ours : (k : ℕ) → k < 128 → Verifies (get_or image k []) → (k % 32 < count_of (length tail)) × (get_or image k [] ≡ slot_sector (numbered slot (k / 64)) tail (k % 32))
  ours k lt verifies = elim (over.each k) [
    | inl same ↦ let rest = rest_ours k lt (subst Verifies same verifies) in (rest.0, same ∙ rest.1)
    | inr (inl first) ↦ (omega (arith, first.1.0), first.1.1 ∙ ap (λ (n : ℕ). slot_sector (numbered slot (k / 64)) tail n) (sym first.1.0))
    | inr (inr damage) ↦ absurd (noticed torn (get_or image k []) told damage.1 verifies)
  ]

  pub made_fresh : IsFresh 2 image
  made_fresh k lt verifies =
      let mine = ours k lt verifies in
      let low : k / 64 ≤ 1 = omega (arith, lt) in
      omega (arith, ap number_of mine.1, sector_number (numbered slot (k / 64)) tail (k % 32) (of_numbered (k / 64) low).number_fits, low)

  abbrev Has : ℕ → ℕ → Type 0
  Has n copy = IsHeld (numbered slot n) tail (slot_start n copy) image

  is_ours : (other : Slot) (rest : List ℕ) (place : ℕ) → IsCopy other rest place image → (other.number ≤ 1) × Has other.number place
  is_ours other rest place valid = (omega (arith, number_is, low), held)
    where
      low : ((slot_start other.number place + 0) / 64) ≤ 1
      low = omega (arith, valid.one_of_two)

      some : 0 < count_of (length rest)
      some = (some_sectors other rest place image valid).0

      mine : get_or image (slot_start other.number place + 0) [] ≡ slot_sector (numbered slot ((slot_start other.number place + 0) / 64)) tail 0
      mine = let here : (slot_start other.number place + 0) % 32 ≡ 0 = omega arith in
          (ours (slot_start other.number place + 0) (in_slots other rest place image valid 0 (omega arith)) (its_sector other rest place image valid 0 some).0).1 ∙ ap (λ (k : ℕ). slot_sector (numbered slot ((slot_start other.number place + 0) / 64)) tail k) here

      number_is : other.number ≡ ((slot_start other.number place + 0) / 64)
      number_is = sym (its_sector other rest place image valid 0 some).1 ∙ ap number_of mine ∙ sector_number (numbered slot ((slot_start other.number place + 0) / 64)) tail 0 (of_numbered ((slot_start other.number place + 0) / 64) low).number_fits

      long : length tail ≡ length rest
      long = one_length (length image) (numbered slot ((slot_start other.number place + 0) / 64)) other tail rest (of_numbered ((slot_start other.number place + 0) / 64) low) valid.of (one_slot (length image) (numbered slot ((slot_start other.number place + 0) / 64)) other tail rest (of_numbered ((slot_start other.number place + 0) / 64) low) valid.of (sym mine ∙ valid.held 0 some))

      held : Has other.number place
      held k lt =
          let few : k < count_of (length rest) = omega (arith, lt, long) in
          let short : k < 32 = omega (arith, few, valid.of.tail_fits) in
          let pair : (slot_start other.number place + k) / 64 ≡ other.number = omega (arith, number_is, short, valid.one_of_two) in
          let part : (slot_start other.number place + k) % 32 ≡ k = omega (arith, short) in
          (ours (slot_start other.number place + k) (in_slots other rest place image valid k short) (its_sector other rest place image valid k few).0).1 ∙ (λ i. slot_sector (numbered slot (pair i)) tail (part i))

  moved : (n copy m place : ℕ) → m ≡ n → place ≡ copy → Has m place → Has n copy
  moved n copy m place number same has = subst (λ (a : ℕ). Has a copy) number (subst (λ (b : ℕ). Has m b) same has)

  counted : (n copy : ℕ) → n ≤ 1 → copy ≤ 1 → Has n copy → ((m place : ℕ) → m ≤ 1 → place ≤ 1 → Has m place → (m < n) ⊎ ((m ≡ n) × (copy ≤ place))) → Counts (numbered slot n) tail copy image
  counted n copy low one_of_two held best = record {
    valid = record { one_of_two = one_of_two; of = of_numbered n low; held = held };
    highest = λ other rest place valid. let mine = is_ours other rest place valid in best other.number place mine.0 valid.one_of_two mine.1;
  }

  -- one of them counts, or none is held
  abbrev Some' : Type 0
  Some' = (n : ℕ) × (copy : ℕ) × (n ≤ 1) × Counts (numbered slot n) tail copy image

  abbrev None' : Type 0
  None' = (n copy : ℕ) → n ≤ 1 → copy ≤ 1 → Has n copy → ⊥

  either : Some' ⊎ None'
  either = one (is_held_or_not (numbered slot 1) tail (slot_start 1 0) image) (is_held_or_not (numbered slot 1) tail (slot_start 1 1) image) (is_held_or_not (numbered slot 0) tail (slot_start 0 0) image) (is_held_or_not (numbered slot 0) tail (slot_start 0 1) image)
    where
      no_one : (Has 1 0 → ⊥) → (Has 1 1 → ⊥) → (m place : ℕ) → m ≡ 1 → place ≤ 1 → Has m place → ⊥
      no_one first mate m place is low has = elim (cases_lt place 1) [
        | inl zeroth ↦ first (moved 1 0 m place is (omega (arith, zeroth)) has)
        | inr above ↦ mate (moved 1 1 m place is (omega (arith, above, low)) has)
      ]

      one : (Has 1 0 ⊎ (Has 1 0 → ⊥)) → (Has 1 1 ⊎ (Has 1 1 → ⊥)) → (Has 0 0 ⊎ (Has 0 0 → ⊥)) → (Has 0 1 ⊎ (Has 0 1 → ⊥)) → Some' ⊎ None'
      one (inl a) b c d = inl (
        1,
        0,
        omega arith,
        counted 1 0 (omega arith) (omega arith) a (λ m place low place_low has. elim (cases_lt m 1) [
          | inl less ↦ inl less
          | inr above ↦ inr (omega (arith, low, above), omega arith)
        ]),
      )
      one (inr no_a) (inl b) c d = inl (
        1,
        1,
        omega arith,
        counted 1 1 (omega arith) (omega arith) b (λ m place low place_low has. elim (cases_lt m 1) [
          | inl less ↦ inl less
          | inr above ↦ let is : m ≡ 1 = omega (arith, low, above) in elim (cases_lt place 1) [
            | inl zeroth ↦ absurd (no_a (moved 1 0 m place is (omega (arith, zeroth)) has))
            | inr high ↦ inr (is, high)
          ]
        ]),
      )
      one (inr no_a) (inr no_b) (inl c) d = inl (
        0,
        0,
        omega arith,
        counted 0 0 (omega arith) (omega arith) c (λ m place low place_low has. elim (cases_lt m 1) [
          | inl less ↦ inr (omega (arith, less), omega arith)
          | inr above ↦ absurd (no_one no_a no_b m place (omega (arith, low, above)) place_low has)
        ]),
      )
      one (inr no_a) (inr no_b) (inr no_c) (inl d) = inl (
        0,
        1,
        omega arith,
        counted 0 1 (omega arith) (omega arith) d (λ m place low place_low has. elim (cases_lt m 1) [
          | inl less ↦ let is : m ≡ 0 = omega (arith, less) in elim (cases_lt place 1) [
            | inl zeroth ↦ absurd (no_c (moved 0 0 m place is (omega (arith, zeroth)) has))
            | inr high ↦ inr (is, high)
          ]
          | inr above ↦ absurd (no_one no_a no_b m place (omega (arith, low, above)) place_low has)
        ]),
      )
      one (inr no_a) (inr no_b) (inr no_c) (inr no_d) = inr none
        where
          none : None'
          none n copy low copy_low has = elim (cases_lt n 1) [
            | inl less ↦ elim (cases_lt copy 1) [
              | inl zeroth ↦ no_c (moved 0 0 n copy (omega (arith, less)) (omega (arith, zeroth)) has)
              | inr high ↦ no_d (moved 0 1 n copy (omega (arith, less)) (omega (arith, high, copy_low)) has)
            ]
            | inr above ↦ no_one no_a no_b n copy (omega (arith, low, above)) copy_low has
          ]

  none_valid : None' → HasNone image
  none_valid none other rest place valid = let mine = is_ours other rest place valid in none other.number place mine.0 valid.one_of_two mine.1

  -- a state that is held so far
  module _ (c : State) (names : slot ≡ slot_of c (length base) 0) (tail_is : tail ≡ tail_of c) (holds : HoldsBlocks c.blocks c base) where
    pub made_holds : HoldsBlocks c.blocks c image
    made_holds i lt = ap (λ (n : ℕ). byte_at image (block_start n c.half) i) over.size ∙ ap (λ (s : List ℕ). get_or s (i % 512) 0) behind ∙ holds i lt
      where
        behind : get_or image (block_start (length base) c.half + i / 512) [] ≡ get_or base (block_start (length base) c.half + i / 512) []
        behind = elim (over.each (block_start (length base) c.half + i / 512)) [
          | inl same ↦ same
          | inr (inl first) ↦ absurd (omega (arith, first.0))
          | inr (inr damage) ↦ absurd (omega (arith, damage.0))
        ]

    pub named_as : (n : ℕ) → numbered slot n ≡ slot_of c (length image) n
    named_as n = ap (λ (s : Slot). numbered s n) names ∙ ap (λ (m : ℕ). slot_of c m n) (sym over.size)

    first_of : IsOfSlots torn image
    first_of = elim (over.each 0) [
      | inl same ↦ inl (λ is. let zeros = (rests 0 (omega arith)).zeros (inl (omega arith)) in zeros_magic 0 (ap (take 8) (sym (same ∙ zeros)) ∙ is))
      | inr (inl first) ↦ inr (inl (ap (take 12) first.1.1 ∙ slot_begins (numbered slot (0 / 64)) tail 0))
      | inr (inr damage) ↦ inr (inr damage.1)
    ]

    is_made : Some' → IsMade torn c image
    is_made some = record {
      carries = record {
        number = some.0;
        copy = some.1;
        counted = subst (λ (t : List ℕ). Counts (slot_of c (length image) some.0) t some.1 image) tail_is (subst (λ (s : Slot). Counts s tail some.1 image) (named_as some.0) some.3);
        begins = made_holds;
      };
      fresh = made_fresh;
      first = first_of;
    }

-- if no sector tears, a first sector that is written makes its copy whole
module _ (slot : Slot) (tail : List ℕ) (base image : Image) (of : IsSlotOf (length base) slot tail) (rests : (k : ℕ) → k < 128 → IsRest slot tail k (get_or base k [])) (over : PlanOver None (IsFirst slot tail) base image) where
  pub whole_by_first : (n copy : ℕ) → n ≤ 1 → copy ≤ 1 → get_or image (slot_start n copy) [] ≡ slot_sector (numbered slot n) tail 0 → IsHeld (numbered slot n) tail (slot_start n copy) image
  whole_by_first n copy low copy_low first k lt = elim (cases_lt 0 k) [
    | inl some ↦ elim (over.each (slot_start n copy + k)) [
      | inl same ↦ same ∙ (rests (slot_start n copy + k) inside).part (omega (arith, some, short)) (omega (arith, short, lt)) ∙ (λ i. slot_sector (numbered slot (pair i)) tail (part i))
      | inr (inl other) ↦ absurd (omega (arith, other.1.0, some, short))
      | inr (inr damage) ↦ absurd damage.1
    ]
    | inr none ↦ let zeroth : k ≡ 0 = omega (arith, none) in let at : slot_start n copy + k ≡ slot_start n copy = omega (arith, zeroth) in
        ap (λ (m : ℕ). get_or image m []) at ∙ first ∙ ap (λ (m : ℕ). slot_sector (numbered slot n) tail m) (sym zeroth)
  ]
    where
      short : k < 32
      short = omega (arith, lt, of.tail_fits)

      inside : slot_start n copy + k < 128
      inside = omega (arith, short, copy_low)

      pair : (slot_start n copy + k) / 64 ≡ n
      pair = omega (arith, short, low, copy_low)

      part : (slot_start n copy + k) % 32 ≡ k
      part = omega (arith, short)

  begun : (n copy : ℕ) → n ≤ 1 → copy ≤ 1 → take 12 (get_or image (slot_start n copy) []) ≡ beginning → IsHeld (numbered slot n) tail (slot_start n copy) image
  begun n copy low copy_low begins = elim (over.each (slot_start n copy)) [
    | inl same ↦ let zeros = (rests (slot_start n copy) (omega (arith, copy_low))).zeros (inl (omega arith)) in absurd (zeros_begin 0 (ap (take 12) (sym (same ∙ zeros)) ∙ begins))
    | inr (inl first) ↦ whole_by_first n copy low copy_low (first.1.1 ∙ ap (λ (m : ℕ). slot_sector (numbered slot m) tail 0) (omega (arith, low, copy_low)))
    | inr (inr damage) ↦ absurd damage.1
  ]

  zeroth_begun : take 8 (get_or image 0 []) ≡ magic → IsHeld (numbered slot 0) tail (slot_start 0 0) image
  zeroth_begun is = elim (over.each 0) [
    | inl same ↦ let zeros = (rests 0 (omega arith)).zeros (inl (omega arith)) in absurd (zeros_magic 0 (ap (take 8) (sym (same ∙ zeros)) ∙ is))
    | inr (inl first) ↦ whole_by_first 0 0 (omega arith) (omega arith) (first.1.1 ∙ ap (λ (m : ℕ). slot_sector (numbered slot m) tail 0) (omega arith))
    | inr (inr damage) ↦ absurd damage.1
  ]

  pub none_marked : ((n copy : ℕ) → n ≤ 1 → copy ≤ 1 → IsHeld (numbered slot n) tail (slot_start n copy) image → ⊥) → IsMarked image → ⊥
  none_marked none (inl zeroth) = none 0 0 (omega arith) (omega arith) (zeroth_begun zeroth)
  none_marked none (inr (inl first)) = none 0 1 (omega arith) (omega arith) (begun 0 1 (omega arith) (omega arith) first)
  none_marked none (inr (inr (inl second))) = none 1 0 (omega arith) (omega arith) (begun 1 0 (omega arith) (omega arith) second)
  none_marked none (inr (inr (inr third))) = none 1 1 (omega arith) (omega arith) (begun 1 1 (omega arith) (omega arith) third)

-- so no store is there, or all of it
pub made_or_not : (torn : Option (List ℕ → Bool)) (told : IsToldBy torn) (slot : Slot) (tail : List ℕ) (base image : Image) (of : IsSlotOf (length base) slot tail) (rests : (k : ℕ) → k < 128 → IsRest slot tail k (get_or base k [])) (over : PlanOver torn (IsFirst slot tail) base image)
    (c : State) → slot ≡ slot_of c (length base) 0 → tail ≡ tail_of c → HoldsBlocks c.blocks c base → IsUnmade torn image ⊎ IsMade torn c image
made_or_not None told slot tail base image of rests over c names tail_is holds = elim (either None told slot tail base image of rests over) [
  | inl some ↦ inr (is_made None told slot tail base image of rests over c names tail_is holds some)
  | inr none ↦ inl (none_valid None told slot tail base image of rests over none, none_marked slot tail base image of rests over none)
]
made_or_not (Some t) told slot tail base image of rests over c names tail_is holds = elim (either (Some t) told slot tail base image of rests over) [
  | inl some ↦ inr (is_made (Some t) told slot tail base image of rests over c names tail_is holds some)
  | inr none ↦ inl (none_valid (Some t) told slot tail base image of rests over none, first_of (Some t) told slot tail base image of rests over c names tail_is holds)
]

-- all of it, once each first sector is written
pub all_made : (slot : Slot) (tail : List ℕ) (base image : Image) (of : IsSlotOf (length base) slot tail) (rests : (k : ℕ) → k < 128 → IsRest slot tail k (get_or base k [])) (over : PlanOver None (IsFirst slot tail) base image)
    (c : State) → slot ≡ slot_of c (length base) 0 → tail ≡ tail_of c → HoldsBlocks c.blocks c base → c.blocks ≡ length c.bytes / 4096
    → ((place : ℕ) → place < 4 → get_or image (32 * place) [] ≡ slot_sector (numbered slot (place / 2)) tail 0) → IsAllMade c image
all_made slot tail base image of rests over c names tail_is holds blocks_are written = record {
  stands = record {
    of = named 1 (λ s t. IsSlotOf (length image) s t) (of_numbered None tt slot tail base image of rests over 1 (omega arith));
    first = held 1 0 (omega arith) (omega arith) (written 2 (omega arith));
    mate = held 1 1 (omega arith) (omega arith) (written 3 (omega arith));
    fresh = made_fresh None tt slot tail base image of rests over;
    begins = subst (λ (n : ℕ). HoldsBlocks n c image) blocks_are (made_holds None tt slot tail base image of rests over c names tail_is holds);
  };
  earlier = λ copy low. elim (cases_lt copy 1) [
    | inl zeroth ↦ let is : 0 ≡ copy = omega (arith, zeroth) in subst (λ (k : ℕ). IsHeld (slot_of c (length image) 0) (tail_of c) (slot_start 0 k) image) is (held 0 0 (omega arith) (omega arith) (written 0 (omega arith)))
    | inr above ↦ let is : 1 ≡ copy = omega (arith, above, low) in subst (λ (k : ℕ). IsHeld (slot_of c (length image) 0) (tail_of c) (slot_start 0 k) image) is (held 0 1 (omega arith) (omega arith) (written 1 (omega arith)))
  ];
  first = ap (take 12) (written 0 (omega arith)) ∙ slot_begins (numbered slot (0 / 2)) tail 0;
}
  where
    named : (n : ℕ) (P : Slot → List ℕ → Type 0) → P (numbered slot n) tail → P (slot_of c (length image) n) (tail_of c)
    named n P p = subst (λ (t : List ℕ). P (slot_of c (length image) n) t) tail_is (subst (λ (s : Slot). P s tail) (named_as None tt slot tail base image of rests over c names tail_is holds n) p)

    held : (n copy : ℕ) → n ≤ 1 → copy ≤ 1 → get_or image (slot_start n copy) [] ≡ slot_sector (numbered slot n) tail 0 → IsHeld (slot_of c (length image) n) (tail_of c) (slot_start n copy) image
    held n copy low copy_low first = named n (λ s t. IsHeld s t (slot_start n copy) image) (whole_by_first slot tail base image of rests over n copy low copy_low first)
