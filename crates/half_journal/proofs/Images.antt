-- What a run of writes and a commit sector make of an image.
use Rattle.std.proofs.Common.{◌≡◌, ◌≢◌, ◌⊎◌, inl, inr, ℕ, ◌+◌, ◌-◌, ◌*◌, ◌/◌, ◌%◌, ◌≤◌, ◌<◌, ◌^◌, List, [], length, set, get_or, drop, ap, subst, sym, ◌∙◌, arith, length-set}
use Rattle.std.proofs.Math.Nat.{mul-le-mul_right}
use Rattle.std.proofs.lemmas.Bool.{cases_lt}
use Rattle.std.proofs.lemmas.List.{get_or-set_same, get_or-set_other, get_or-drop}
use Rattle.sector_device.specs.Disk.{HasShape, Image}
use Rattle.half_journal.specs.States.{HalfState, CarriesInHalf, Holds, commit_of}
use Rattle.half_journal.specs.Layout.{sector_of, half_size, half_start, half_capacity, IsFormat, IsHalfSized}
use Rattle.sector_device.specs.Sectors.{IsSectorOf, byte_at, Over, KeepsOthers, SectorsHold, sectors_of}

-- where a run of writes meets the first n bytes of the sectors from start on, it writes these
abbrev pub Agrees : ℕ → List ℕ → ℕ → ℕ → ℕ → List ℕ → Type 0
Agrees start all n first count run = (i j : ℕ) → i < n → j < count → start + i / 512 ≡ first + j → get_or run (512 * j + i % 512) 0 ≡ get_or all i 0

pub agrees_none : (start : ℕ) (all : List ℕ) (n first : ℕ) (run : List ℕ) → Agrees start all n first 0 run
agrees_none start all n first run i j low within place = absurd (omega (arith, within))

-- a run of the bytes themselves, from their sector q on
pub agrees_behind : (start : ℕ) (all : List ℕ) (n q count : ℕ) → Agrees start all n (start + q) count (drop (512 * q) all)
agrees_behind start all n q count i j low within place =
    get_or-drop (512 * q) all (512 * j + i % 512) 0 ∙ ap (λ (k : ℕ). get_or all k 0) (omega (arith, place))

-- a run of all bytes
pub run_holds : (image : Image) (first : ℕ) (bytes : List ℕ) → SectorsHold image first (sectors_of (length bytes)) bytes → Holds image first bytes (length bytes)
run_holds image first bytes written i lt = (written (i / 512) (omega (arith, lt))).same (i % 512) (omega arith) ∙ ap (λ (n : ℕ). get_or bytes n 0) (omega arith)

-- a run over some bytes that it agrees with leaves them
pub kept_over : (start : ℕ) (all : List ℕ) (n first count : ℕ) (run : List ℕ) (before image : Image) → Holds before start all n → Agrees start all n first count run → Over first count run before image → Holds image start all n
kept_over start all n first count run before image holds agrees over i lt = elim (over.each (start + i / 512)) [
  | inl same ↦ ap (λ (s : List ℕ). get_or s (i % 512) 0) same ∙ holds i lt
  | inr h ↦ h.3.same (i % 512) (omega arith) ∙ agrees i h.0 lt h.1 h.2
]

-- a run of the bytes from sector q on, behind n bytes that are there, of which the first sectors are full
pub holds_more : (start : ℕ) (all : List ℕ) (n m q count : ℕ) (before image : Image) → Holds before start all n → Over (start + q) count (drop (512 * q) all) before image → SectorsHold image (start + q) count (drop (512 * q) all)
    → 512 * q ≤ n → ((i : ℕ) → n ≤ i → i < m → i < 512 * (q + count)) → Holds image start all m
holds_more start all n m q count before image holds over written full covers i lt = one (cases_lt i n)
  where
    one : (i < n) ⊎ (n ≤ i) → byte_at image start i ≡ get_or all i 0
    one (inl low) = kept_over start all n (start + q) count (drop (512 * q) all) before image holds (agrees_behind start all n q count) over i low
    one (inr high) =
        let j = i / 512 - q in
        let place : start + i / 512 ≡ start + q + j = omega (arith, high, full) in
        ap (λ (k : ℕ). get_or (get_or image k []) (i % 512) 0) place ∙ (written j (omega (arith, covers i high lt, high, full))).same (i % 512) (omega arith) ∙ agrees_behind start all m q count i j lt (omega (arith, covers i high lt, high, full)) place

-- the sectors of one half are none of the other's
pub apart_halves : (sectors half place count k : ℕ) → half ≤ 1 → place + count ≤ half_size sectors → half_start sectors half ≤ k → k < half_start sectors half + half_size sectors
    → (k < half_start sectors (1 - half) + place) ⊎ (half_start sectors (1 - half) + place + count ≤ k)
apart_halves sectors half place count k low room above below = elim (cases_lt half 1) [
  | inl first ↦ let is : half ≡ 0 = omega (arith, first) in inl (omega (arith, ap (half_start sectors) is, ap (λ (h : ℕ). half_start sectors (1 - h)) is, above, below))
  | inr second ↦ let is : half ≡ 1 = omega (arith, second, low) in inr (omega (arith, ap (half_start sectors) is, ap (λ (h : ℕ). half_start sectors (1 - h)) is, room, above, below))
]

-- a half lies on the device
pub half_within : (sectors half : ℕ) → half ≤ 1 → 3 ≤ sectors → half_start sectors half + half_size sectors ≤ sectors
half_within sectors half low sized = omega (arith, mul-le-mul_right (half_size sectors) low, sized)

-- so a run in the one agrees with the bytes of the other
pub agrees_apart : (sectors half first place count : ℕ) (all run : List ℕ) (n : ℕ) → half ≤ 1 → first ≡ half_start sectors (1 - half) + place → place + count ≤ half_size sectors → n ≤ half_capacity sectors → Agrees (half_start sectors half) all n first count run
agrees_apart sectors half first place count all run n low first_is room fits i j lt within same =
    let row : i / 512 < half_size sectors = omega (arith, lt, fits) in
    elim (apart_halves sectors half place count (half_start sectors half + i / 512) low room (omega arith) (omega (arith, row))) [
      | inl before ↦ absurd (omega (arith, before, same, first_is))
      | inr behind ↦ absurd (omega (arith, behind, same, within, first_is))
    ]

-- what an image carries stays under a run that agrees with it
pub carries_over : (before image : Image) (c : HalfState) (first count : ℕ) (run : List ℕ) → CarriesInHalf c before → Over first count run before image → 0 < first
    → Agrees (half_start (length before) c.half) c.bytes (length c.bytes) first count run → CarriesInHalf c image
carries_over before image c first count run carries over positive agrees = record {
  sized = subst (IsHalfSized) (sym over.length_is) carries.sized;
  version_fits = carries.version_fits;
  half_fits = carries.half_fits;
  fits = subst (λ (n : ℕ). length c.bytes ≤ half_capacity n) (sym over.length_is) carries.fits;
  seq_fits = carries.seq_fits;
  opens_fits = carries.opens_fits;
  commit = first_same ∙ carries.commit ∙ ap (λ (n : ℕ). sector_of (commit_of c n)) (sym over.length_is);
  begins = subst (λ (s : ℕ). Holds image (half_start s c.half) c.bytes (length c.bytes)) (sym over.length_is)
      (kept_over (half_start (length before) c.half) c.bytes (length c.bytes) first count run before image carries.begins agrees over);
}
  where
    first_same : get_or image 0 [] ≡ get_or before 0 []
    first_same = elim (over.each 0) [
      | inl same ↦ same
      | inr h ↦ absurd (omega (arith, h.2, positive))
    ]

-- all but sector 0 stays where that is replaced
pub byte_kept : (before image : Image) (start : ℕ) (content : List ℕ) (i : ℕ) → image ≡ set before 0 content → 0 < start → byte_at image start i ≡ byte_at before start i
byte_kept before image start content i is positive =
    let other : start + i / 512 ≢ 0 = omega (arith, positive) in
    ap (λ (m : Image). byte_at m start i) is ∙ ap (λ (s : List ℕ). get_or s (i % 512) 0) (get_or-set_other before 0 (start + i / 512) content [] other)

-- sector 0 replaced, over sectors behind it that hold some bytes
pub sectors_kept : (before image : Image) (first count : ℕ) (bytes content : List ℕ) → image ≡ set before 0 content → 0 < first → SectorsHold before first count bytes → SectorsHold image first count bytes
sectors_kept before image first count bytes content is positive holds j within =
    let other : first + j ≢ 0 = omega (arith, positive) in
    subst (IsSectorOf bytes j) (sym (ap (λ (m : Image). get_or m (first + j) []) is ∙ get_or-set_other before 0 (first + j) content [] other)) (holds j within)

-- sector 0 replaced, over bytes that a half begins with
pub named : (before image : Image) (c : HalfState) → IsHalfSized (length before) → IsFormat c.version → c.half ≤ 1 → c.seq < 2 ^ 64 → c.opens < 2 ^ 64 → length c.bytes ≤ half_capacity (length before)
    → Holds before (half_start (length before) c.half) c.bytes (length c.bytes) → image ≡ set before 0 (sector_of (commit_of c (length before))) → CarriesInHalf c image
named before image c sized format_fits low seq_fits opens_fits fits holds is =
    let commit = sector_of (commit_of c (length before)) in
    let wide : length before ≡ length image = sym (ap length is ∙ length-set before 0 commit) in
    record {
      sized = subst (IsHalfSized) wide sized;
      version_fits = format_fits;
      half_fits = low;
      seq_fits = seq_fits;
      opens_fits = opens_fits;
      commit = ap (λ (i : Image). get_or i 0 []) is ∙ get_or-set_same before 0 commit [] (omega (arith, sized.at_least)) ∙ ap (λ (s : ℕ). sector_of (commit_of c s)) wide;
      fits = subst (λ (s : ℕ). length c.bytes ≤ half_capacity s) wide fits;
      begins = subst (λ (s : ℕ). Holds image (half_start s c.half) c.bytes (length c.bytes)) wide (λ i lt. byte_kept before image (half_start (length before) c.half) commit i is (omega arith) ∙ holds i lt);
    }

-- the first commit sector of a device, over all bytes that it names
pub formatted : (before image : Image) (sectors : ℕ) (c : HalfState) → HasShape sectors before → IsHalfSized sectors → c.version ≡ 2 → c.half ≤ 1 → c.seq < 2 ^ 64 → c.opens < 2 ^ 64 → length c.bytes ≤ half_capacity sectors
    → Holds before (half_start sectors c.half) c.bytes (length c.bytes) → image ≡ set before 0 (sector_of (commit_of c sectors)) → CarriesInHalf c image
formatted before image sectors c shape =
    subst (λ (n : ℕ). IsHalfSized n → c.version ≡ 2 → c.half ≤ 1 → c.seq < 2 ^ 64 → c.opens < 2 ^ 64 → length c.bytes ≤ half_capacity n → Holds before (half_start n c.half) c.bytes (length c.bytes) → image ≡ set before 0 (sector_of (commit_of c n)) → CarriesInHalf c image) shape.count
    (λ sized two low seq_fits opens_fits fits holds is. named before image c sized (record { at_least = omega (arith, two); at_most = omega (arith, two) }) low seq_fits opens_fits fits holds is)

-- the sectors of a part, and those of the whole
pub others_wider : (start place count size : ℕ) (old new : Image) → KeepsOthers (start + place) count old new → place + count ≤ size → KeepsOthers start size old new
others_wider start place count size old new others room k positive (inl low) = others k positive (inl (omega (arith, low)))
others_wider start place count size old new others room k positive (inr high) = others k positive (inr (omega (arith, high, room)))
