-- A store in format 3 that becomes one in format 2, in place.
use Rattle.std.proofs.Common.{◌≡◌, ◌≢◌, ◌⊎◌, inl, inr, ⊎_elim, ℕ, ◌+◌, ◌-◌, ◌/◌, ◌%◌, ◌<◌, ◌≤◌, ◌^◌, List, [], ◌++◌, length, set, get_or, take, Bool, true, false, None, refl, ap, subst, sym, ◌∙◌, arith, Result, length-set, replicate}
use Rattle.std.proofs.lemmas.List.{ext_get_or, get_or-replicate, get_or-set_other, get_or-set_same, length-replicate}
use Rattle.sector_device.specs.Disk.{Disk, Image, IsCoherent, IsDamage, IsTearing, IsTornFrom, LeavesOnly, OrTorn, Syncs, Tears, tearing}
use Rattle.sector_device.specs.Sectors.{IsSectorOf, SectorsHold, TornOver, TornSome}
use Rattle.sector_device.proofs.Moments.{goes_on, leaves_weaker, left_now, started}
use Rattle.commit_slots.specs.Fresh.{IsFresh}
use Rattle.commit_slots.specs.Sealed.{IsNoticed, Verifies, number_of}
use Rattle.commit_slots.specs.Slots.{block_start}
use Rattle.commit_slots.specs.declared.slot.Slot.{Slot}
use Rattle.slot_commits.specs.Asides.{IsAside}
use Rattle.slot_commits.specs.Damages.{IsDamaged}
use Rattle.slot_commits.specs.Loads.{number_end}
use Rattle.slot_commits.specs.Pairs.{KeepsOutside, OutsideSome}
use Rattle.slot_commits.specs.States.{CarriesInSlots, Stands, State}
use Rattle.slot_commits.proofs.Damaged.{slots_carry}
use Rattle.slot_journal.specs.Known.{IsFormed as IsSlotFormed, Knows as SlotKnows}
use Rattle.slot_journal.specs.declared.known.Known.{Known}
use Rattle.half_journal.specs.Layout.{HasNoSector, IsOf as IsCommitOf, half_capacity, half_start as start_in_half, sector_of}
use Rattle.half_journal.specs.States.{CarriesInHalf, HalfState, Holds, commit_of}
use Rattle.half_journal.proofs.Images.{named}
use Rattle.half_journal.proofs.Views.{read_same}
use Rattle.store_journal.specs.Carries.{Carried, Carries, EitherCarried, half_of, state_of, turned}
use Rattle.store_journal.specs.Held.{IsInSlots, bytes_in, in_half}
use Rattle.store_journal.specs.Layout.{FitsBetween}
use Rattle.store_journal.specs.Models.{IsTold, model, weak}
use Rattle.store_journal.specs.Turning.{HasNoSlots, commit_turned}
use Rattle.store_journal.specs.declared.held.Held.TheVariants.{InSlots}
use Rattle.store_journal.proofs.Seen.{carries_half}
use Rattle.store_journal.proofs.Slots.{riding_at}
use Rattle.store_journal.proofs.Upgrades.{half_kept}
use Rattle.store_journal.proofs.Weak.{never, told_never, weak_coherent, weak_leaves}

-- ---- calls

-- a sync after a run
pub synced : {T E : Type 0} (old mid new : Disk) (P : Image → Type 0) (result : Result T E) → IsCoherent mid → LeavesOnly old mid P → Syncs mid new result → LeavesOnly old new P
synced old mid new P result coherent so_far syncs = goes_on old mid new P so_far syncs.time (λ image left. left_now old mid P coherent so_far image (syncs.adds_none image left))

-- a write of one sector
pub torn_write : (torn : List ℕ → Bool) (old mid : Disk) (at : ℕ) (content : List ℕ) → IsCoherent (tearing torn old) → Tears torn old mid at content → LeavesOnly (tearing torn old) (tearing torn mid) (OrTorn torn (old.torn_left torn) at content)
torn_write torn old mid at content coherent tears =
    goes_on (tearing torn old) (tearing torn old) (tearing torn mid) (OrTorn torn (old.torn_left torn) at content)
    (started (tearing torn old) (OrTorn torn (old.torn_left torn) at content) coherent (λ image left. (image, left, record { size = refl; each = λ k. inl refl }))) tears.time tears.adds

-- a run of whole blocks leaves all but its sectors
torn_outside : (torn : List ℕ → Bool) (bytes : List ℕ) (before image : Image) → TornOver torn 8 120 bytes before image → KeepsOutside 8 120 before image
torn_outside torn bytes before image over = record {
  size = over.size;
  same = λ k apart. elim (over.each k) [
    | inl same ↦ same
    | inr (inl h) ↦ absurd (⊎_elim (λ low. omega (arith, low, h.2)) (λ high. omega (arith, high, h.1, h.2)) apart)
    | inr (inr h) ↦ absurd (⊎_elim (λ low. omega (arith, low, h.0.1, h.0.2)) (λ high. omega (arith, high, h.0.1, h.0.2)) apart)
  ];
}

pub wiped : (torn : List ℕ → Bool) (old mid : Disk) (bytes : List ℕ) → LeavesOnly (tearing torn old) (tearing torn mid) (TornSome torn 8 120 bytes (old.torn_left torn)) → LeavesOnly (tearing torn old) (tearing torn mid) (OutsideSome (old.torn_left torn) 8 120)
wiped torn old mid bytes run =
    leaves_weaker (tearing torn old) (tearing torn mid) (TornSome torn 8 120 bytes (old.torn_left torn)) (OutsideSome (old.torn_left torn) 8 120) (λ image some. (some.0, some.1, torn_outside torn bytes some.0 image some.2)) run

-- a sector of no bytes
pub zero_sector : (content : List ℕ) (j : ℕ) → IsSectorOf [] j content → content ≡ replicate 512 0
zero_sector content j is = ext_get_or {A = ℕ} 0 content (replicate 512 0) (is.whole ∙ sym (length-replicate {A = ℕ} 512 0)) (λ i lt. let low : i < 512 = omega (arith, lt, is.whole) in is.same i low ∙ sym (get_or-replicate {A = ℕ} 512 i 0 0 low))

pub zeros_there : (image : Image) → SectorsHold image 8 120 [] → HasNoSlots image
zeros_there image written k above below =
    let at : 8 + (k - 8) ≡ k = omega (arith, above) in
    zero_sector (get_or image k []) (k - 8) (subst (λ (n : ℕ). IsSectorOf [] (k - 8) (get_or image n [])) at (written (k - 8) (omega (arith, above, below))))

-- ---- the target is aside

pub target_aside : (sectors size : ℕ) (c : State) → c.half ≡ 0 → FitsBetween sectors (length c.bytes) → IsAside sectors c (start_in_half sectors 1) size
target_aside sectors size c zeroth between k j needed lt near =
    let start : block_start sectors c.half ≡ block_start sectors 0 = ap (block_start sectors) zeroth in
    ⊎_elim (λ low. absurd (omega (arith, low, between.apart, near))) (λ both. absurd (omega (arith, both.1, start, between.apart, near))) needed

-- ---- sector 0 is written

-- an image in which that isn't done, or sector 0 is torn, carries what it carried
survives : (number : ℕ) (c : State) (torn : List ℕ → Bool) (content : List ℕ) (before image : Image) → IsNoticed torn → IsTornFrom torn 0 content before image → (get_or image 0 [] ≡ get_or before 0 []) ⊎ IsDamage torn (get_or image 0 []) → Stands number c before
    → CarriesInSlots c image × IsFresh (number + 1) image
survives number c torn content before image noticed from zero stands = (slots_carry number c before image stands damaged 0 (omega arith) one, fresh)
  where
    damaged : IsDamaged before image
    damaged = record {
      size = from.size;
      slots = λ k low. elim (from.each k) [
        | inl same ↦ inl same
        | inr (inl new) ↦ ⊎_elim (λ same. inl (subst (λ (n : ℕ). get_or image n [] ≡ get_or before n []) (sym new.0) same)) (λ damage. inr (λ verifies. noticed (get_or image 0 []) damage.1 (subst (λ (n : ℕ). Verifies (get_or image n [])) new.0 verifies))) zero
        | inr (inr near) ↦ inr (λ verifies. noticed (get_or image k []) near.1.1 verifies)
      ];
    }

    one : (k : ℕ) → k / 8 ≢ 0 → get_or image k [] ≡ get_or before k []
    one k other = elim (from.each k) [
      | inl same ↦ same
      | inr (inl new) ↦ absurd (other (omega (arith, new.0)))
      | inr (inr near) ↦ absurd (other (omega (arith, near.0)))
    ]

    fresh : IsFresh (number + 1) image
    fresh k low verifies = elim (damaged.slots k low) [
      | inl same ↦ subst (λ (s : List ℕ). number_of s < number + 1) (sym same) (stands.fresh k low (subst Verifies same verifies))
      | inr other ↦ absurd (other verifies)
    ]

behind : (torn : List ℕ → Bool) (content : List ℕ) (before image : Image) → IsTornFrom torn 0 content before image → (k : ℕ) → 128 ≤ k → get_or image k [] ≡ get_or before k []
behind torn content before image from k high = elim (from.each k) [
  | inl same ↦ same
  | inr (inl new) ↦ absurd (omega (arith, new.0, high))
  | inr (inr near) ↦ absurd (omega (arith, near.0, high))
]

-- the numbers of what is known
pub record IsTurning (sectors : ℕ) (known : Known) (c : Carried) (target : List ℕ) : Type 0 where
  pub formed : IsSlotFormed sectors known
  pub end : known.slot.number < number_end
  pub half : known.slot.half ≡ 0
  pub between : FitsBetween known.slot.sectors known.slot.length
  pub fits : length target ≤ half_capacity known.slot.sectors
  pub seq_fits : c.seq < 2 ^ 64
  pub opens_fits : c.opens < 2 ^ 64
  pub knows : SlotKnows known (state_of c known.slot.blocks)

module _ (sectors : ℕ) (known : Known) (c : Carried) (target : List ℕ) (turning : IsTurning sectors known c target) where
  abbrev Next : Carried
  Next = turned false 0 c target

  abbrev Content : List ℕ
  Content = sector_of (commit_turned known.slot (length target))

  zeroth : c.half ≡ 0
  zeroth = ap (λ (s : Slot). s.half) (sym turning.knows.slot_is) ∙ turning.half

  pub aside : IsAside sectors (state_of c known.slot.blocks) (start_in_half known.slot.sectors 1) ((length target + 511) / 512)
  aside =
      let long : known.slot.length ≡ length c.bytes = ap (λ (s : Slot). s.length) turning.knows.slot_is in
      subst (λ (n : ℕ). IsAside n (state_of c known.slot.blocks) (start_in_half known.slot.sectors 1) ((length target + 511) / 512)) turning.formed.size
      (target_aside known.slot.sectors ((length target + 511) / 512) (state_of c known.slot.blocks) zeroth (subst (FitsBetween known.slot.sectors) long turning.between))

  past : 128 ≤ start_in_half known.slot.sectors 1
  past = omega (arith, turning.between.apart)

  names : commit_turned known.slot (length target) ≡ commit_of (half_of Next) known.slot.sectors
  names =
      let other : 1 ≡ 1 - c.half = omega (arith, zeroth) in
      λ i. record { format = 2; half = other i; length = length target; seq = (turning.knows.slot_is i).seq; opens = (turning.knows.slot_is i).opens; sectors = known.slot.sectors }

  -- sector 0 replaced, over the target
  pub named_all : (seen : Image) → length seen ≡ known.slot.sectors → Holds seen (start_in_half known.slot.sectors 1) target (length target) → CarriesInHalf (half_of Next) (set seen 0 Content)
  named_all seen wide holds =
      let other : 1 ≡ 1 - c.half = omega (arith, zeroth) in
      named seen (set seen 0 Content) (half_of Next) (record { at_least = omega (arith, wide, turning.between.sized.at_least); at_most = omega (arith, wide, turning.between.sized.at_most) }) (record { at_least = omega arith; at_most = omega arith }) (omega arith)
      turning.seq_fits turning.opens_fits (subst (λ (n : ℕ). length target ≤ half_capacity n) (sym wide) turning.fits)
      (subst (λ (n : ℕ). Holds seen (start_in_half n (1 - c.half)) target (length target)) (sym wide) (subst (λ (h : ℕ). Holds seen (start_in_half known.slot.sectors h) target (length target)) other holds))
      (ap (set seen 0) (ap sector_of names ∙ ap (λ (n : ℕ). sector_of (commit_of (half_of Next) n)) (sym wide)))

  -- another image that has these sectors
  pub named_too : (seen image : Image) → length seen ≡ known.slot.sectors → Holds seen (start_in_half known.slot.sectors 1) target (length target) → length image ≡ length seen → get_or image 0 [] ≡ Content → ((k : ℕ) → 128 ≤ k → get_or image k [] ≡ get_or seen k [])
      → CarriesInHalf (half_of Next) image
  named_too seen image wide holds size zero same =
      let other : 1 - c.half ≡ 1 = omega (arith, zeroth) in
      let long : length (set seen 0 Content) ≡ length seen = length-set seen 0 Content in
      half_kept (half_of Next) (set seen 0 Content) image 128 other (subst (λ (n : ℕ). 128 ≤ start_in_half n 1) (sym (long ∙ wide)) past) (size ∙ sym long)
      (zero ∙ sym (get_or-set_same seen 0 Content [] (omega (arith, wide, turning.between.sized.at_least)))) (λ k high. let away : k ≢ 0 = omega (arith, high) in same k high ∙ sym (get_or-set_other seen 0 k Content [] away)) (named_all seen wide holds)

  module _ (m1 : Disk) (tears : (torn : List ℕ → Bool) → IsTearing torn m1) (size : m1.sectors ≡ sectors) (is : IsInSlots m1 known c) (wide : length m1.seen ≡ known.slot.sectors)
      (alone : (torn : List ℕ → Bool) (image : Image) → m1.torn_left torn image → image ≡ m1.seen) (holds : Holds m1.seen (start_in_half known.slot.sectors 1) target (length target)) where
    -- while it is written
    named_image : (torn : List ℕ → Bool) (image : Image) → IsTold m1.sectors torn → length image ≡ m1.sectors → OrTorn torn (m1.torn_left torn) 0 Content image → EitherCarried c Next image
    named_image torn image told long (before, left, from) = elim (from.each 0) [
      | inl same ↦ inl (stays (inl same))
      | inr (inl new) ↦ inr (carries_half Next image refl refl (named_too m1.seen image wide holds (long ∙ known_size) new.1 (λ k high. behind torn Content before image from k high ∙ ap (λ (i : Image). get_or i k []) (alone torn before left))))
      | inr (inr damage) ↦ inl (stays (inr damage.1))
    ]
      where
        known_size : m1.sectors ≡ length m1.seen
        known_size = size ∙ sym turning.formed.size ∙ sym wide

        weak_left : (weak m1).left before
        weak_left = (torn, told, left)

        none : (get_or image 0 [] ≡ get_or before 0 []) ⊎ IsDamage torn (get_or image 0 []) → HasNoSector image
        none zero commit of fits same = ⊎_elim (λ was. is.none before weak_left commit (subst (λ (n : ℕ). IsCommitOf n commit) from.size of) fits (sym was ∙ same))
            (λ damage. told.other (get_or image 0 []) damage.1 commit (subst (λ (n : ℕ). IsCommitOf n commit) long of) fits same) zero

        stays : (get_or image 0 [] ≡ get_or before 0 []) ⊎ IsDamage torn (get_or image 0 []) → Carries c image
        stays zero =
            let kept = survives known.slot.number (state_of c known.slot.blocks) torn Content before image told.noticed from zero (is.stands before weak_left) in
            riding_at c is.rides_is is.version_is m1.sectors (omega (arith, size, turning.formed.at_least)) (omega (arith, size, turning.formed.at_most)) known.slot.blocks (known.slot.number + 1) image (omega (arith, turning.end)) long (none zero) kept.1 kept.0

    pub name_moment : (m2 : Disk) → m2.sectors ≡ m1.sectors → ((torn : List ℕ → Bool) → LeavesOnly (tearing torn m1) (tearing torn m2) (OrTorn torn (m1.torn_left torn) 0 Content)) → LeavesOnly (weak m1) (weak m2) (EitherCarried c Next)
    name_moment m2 same run = weak_leaves m1 m2 (λ torn. OrTorn torn (m1.torn_left torn) 0 Content) (EitherCarried c Next) same (λ torn told. run torn) named_image

    -- while slots are wiped
    wiped_image : (m2 : Disk) (torn : List ℕ → Bool) (image : Image) → ((image : Image) → m2.torn_left torn image → image ≡ set m1.seen 0 Content) → OutsideSome (m2.torn_left torn) 8 120 image → CarriesInHalf (half_of Next) image
    wiped_image m2 torn image done (before, left, outside) =
        let is_set = done before left in
        named_too m1.seen image wide holds (outside.size ∙ ap length is_set ∙ length-set m1.seen 0 Content)
        (outside.same 0 (inl (omega arith)) ∙ ap (λ (i : Image). get_or i 0 []) is_set ∙ get_or-set_same m1.seen 0 Content [] (omega (arith, wide, turning.between.sized.at_least)))
        (λ k high. let away : k ≢ 0 = omega (arith, high) in outside.same k (inr (omega (arith, high))) ∙ ap (λ (i : Image). get_or i k []) is_set ∙ get_or-set_other m1.seen 0 k Content [] away)

    pub wipe_moment : (m2 m3 : Disk) → m3.sectors ≡ m2.sectors → ((torn : List ℕ → Bool) (image : Image) → m2.torn_left torn image → image ≡ set m1.seen 0 Content)
        → ((torn : List ℕ → Bool) → LeavesOnly (tearing torn m2) (tearing torn m3) (OutsideSome (m2.torn_left torn) 8 120)) → LeavesOnly (weak m2) (weak m3) (CarriesInHalf (half_of Next))
    wipe_moment m2 m3 same done run = weak_leaves m2 m3 (λ torn. OutsideSome (m2.torn_left torn) 8 120) (CarriesInHalf (half_of Next)) same (λ torn told. run torn) (λ torn image told long. wiped_image m2 torn image (done torn))

-- then each image carries it
pub half_done : (m2 m3 : Disk) (next : HalfState) → IsCoherent m3 → ((torn : List ℕ → Bool) → IsTearing torn m3) → LeavesOnly (weak m2) (weak m3) (CarriesInHalf next) → (image : Image) → m3.left image → CarriesInHalf next image
half_done m2 m3 next coherent tears run image left =
    left_now (weak m2) (weak m3) (CarriesInHalf next) (weak_coherent m3 coherent tears) run image (never, told_never m3.sectors, (tears never).adds image left)

pub wipe_either : (m2 m3 : Disk) (c next : Carried) → next.rides ≡ false → next.identity ≡ 0 → LeavesOnly (weak m2) (weak m3) (CarriesInHalf (half_of next)) → LeavesOnly (weak m2) (weak m3) (EitherCarried c next)
wipe_either m2 m3 c next plain none = leaves_weaker (weak m2) (weak m3) (CarriesInHalf (half_of next)) (EitherCarried c next) (λ image carries. inr (carries_half next image plain none carries))

pub aside_either : (old m1 : Disk) (c next : Carried) → c.rides ≡ true → LeavesOnly (model c.rides old) (model c.rides m1) (Carries c) → LeavesOnly (weak old) (weak m1) (EitherCarried c next)
aside_either old m1 c next rides leaves =
    leaves_weaker (weak old) (weak m1) (Carries c) (EitherCarried c next) (λ image carries. inl carries) (subst (λ (b : Bool). LeavesOnly (model b old) (model b m1) (Carries c)) rides leaves)

-- ---- the old bytes are still read

reads_same : (known : Known) (before image : Image) → ((k : ℕ) → 128 ≤ k → get_or image k [] ≡ get_or before k []) → bytes_in image (InSlots known None) ≡ bytes_in before (InSlots known None)
reads_same known before image same =
    let start = block_start known.slot.sectors known.slot.half in
    let held = in_half None known.slot in
    let front = read_same before image start held (λ i lt. ap (λ (s : List ℕ). get_or s (i % 512) 0) (same (start + i / 512) (omega arith))) in
    ap (λ (l : List ℕ). l ++ take (known.slot.length - held) known.tail.items) front

pub named_reads : (m1 m2 : Disk) (known : Known) (content : List ℕ) → IsCoherent m2 → IsTearing never m2 → ((image : Image) → m1.torn_left never image → image ≡ m1.seen) → LeavesOnly (tearing never m1) (tearing never m2) (OrTorn never (m1.torn_left never) 0 content)
    → bytes_in m2.seen (InSlots known None) ≡ bytes_in m1.seen (InSlots known None)
named_reads m1 m2 known content coherent tears alone run =
    let now = left_now (tearing never m1) (tearing never m2) (OrTorn never (m1.torn_left never) 0 content) tears.coherent run m2.seen (tears.adds m2.seen coherent.seen) in
    reads_same known m1.seen m2.seen (λ k high. behind never content now.0 m2.seen now.2 k high ∙ ap (λ (i : Image). get_or i k []) (alone now.0 now.1))

pub wiped_reads : (m1 m2 m3 : Disk) (known : Known) (content : List ℕ) → IsCoherent m3 → IsTearing never m3 → ((image : Image) → m2.torn_left never image → image ≡ set m1.seen 0 content)
    → LeavesOnly (tearing never m2) (tearing never m3) (OutsideSome (m2.torn_left never) 8 120) → bytes_in m3.seen (InSlots known None) ≡ bytes_in m1.seen (InSlots known None)
wiped_reads m1 m2 m3 known content coherent tears done run =
    let now = left_now (tearing never m2) (tearing never m3) (OutsideSome (m2.torn_left never) 8 120) tears.coherent run m3.seen (tears.adds m3.seen coherent.seen) in
    reads_same known m1.seen m3.seen (λ k high. let away : k ≢ 0 = omega (arith, high) in now.2.same k (inr (omega (arith, high))) ∙ ap (λ (i : Image). get_or i k []) (done now.0 now.1) ∙ get_or-set_other m1.seen 0 k content [] away)
