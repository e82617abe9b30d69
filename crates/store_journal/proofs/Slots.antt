-- A commit in format 3, said of what a journal carries, over the disk model whose sectors tear.
use Rattle.std.proofs.Common.{◌≡◌, inl, inr, ⊎_elim, ℕ, ◌+◌, ◌-◌, ◌*◌, ◌/◌, ◌%◌, ◌<◌, ◌≤◌, ◌^◌, List, [], ◌++◌, length, take, drop, get_or, Bool, true, Option, None, Some, refl, ap, subst, sym, ◌∙◌, arith, Result, Ok, Err, OnOk, OnErr}
use Rattle.std.specs.Int.{w32, from_be_bytes}
use Rattle.std.proofs.lemmas.List.{get_or-take, length-take}
use Rattle.std.proofs.lemmas.Result.{on_ok_weaker}
use Rattle.std.proofs.lemmas.Nat.{from_be_bytes-to_be_bytes_4}
use Rattle.sector_device.specs.Disk.{Disk, Image, IsCoherent, IsTearing, LeavesOnly, tearing}
use Rattle.sector_device.specs.Sectors.{byte_at}
use Rattle.sector_device.proofs.Moments.{left_now}
use Rattle.commit_slots.specs.Fresh.{IsFresh}
use Rattle.commit_slots.specs.Sealed.{beginning}
use Rattle.commit_slots.specs.Slots.{block_start}
use Rattle.commit_slots.specs.declared.slot.Slot.{Slot}
use Rattle.slot_commits.specs.Firsts.{KeepsFirst, LeavesFirst}
use Rattle.slot_commits.specs.Loads.{number_end}
use Rattle.slot_commits.specs.Puts.{EitherBelow, Put}
use Rattle.slot_commits.specs.States.{CarriesInSlots, HoldsBlocks, Stands, State}
use Rattle.slot_commits.proofs.Either.{stands_carries}
use Rattle.slot_journal.specs.Journaled.{appended as slot_appended_state, named_after, slot_appended, switched as slot_switched_state}
use Rattle.slot_journal.specs.Known.{IsFormed as IsSlotFormed, IsOtherHalf, Knows as SlotKnows}
use Rattle.slot_journal.specs.declared.known.Known.{Known}
use Rattle.half_journal.specs.Layout.{Fits, HasNoSector, IsOf as IsCommitOf, sector_of}
use Rattle.half_journal.specs.declared.commit_sector.Commit.{Commit}
use Rattle.half_journal.proofs.Views.{begun_at, read_same}
use Rattle.store_journal.specs.Carries.{Carried, Carries, EitherCarried, state_of}
use Rattle.store_journal.specs.Held.{IsInSlots, IsOf, SparesOther, Tried, is_settled, next_of, other_bytes}
use Rattle.store_journal.specs.declared.held.Awaiting.{Awaiting}
use Rattle.store_journal.specs.Models.{IsTold, model, weak}
use Rattle.store_journal.specs.declared.held.Held.TheVariants.{InSlots}
use Rattle.store_journal.proofs.Seen.{carries_riding, slots_bytes}
use Rattle.store_journal.proofs.Weak.{leaves_both, never, told_never, weak_leaves}

-- ---- sector 0

-- one that begins as a slot does names no other format
pub slot_is_none : (commit : Commit) → Fits commit → commit.format ≤ 2 → take 12 (sector_of commit) ≡ beginning → ⊥
slot_is_none commit fits low begins =
    let three : commit.format ≡ 3 = sym (from_be_bytes-to_be_bytes_4 commit.format fits.format) ∙ ap (λ (l : List ℕ). from_be_bytes w32 (drop 8 l)) begins in
    omega (arith, three, low)

pub first_none : (sectors : ℕ) (torn : List ℕ → Bool) (old : Image → Type 0) (image : Image) → IsTold sectors torn → length image ≡ sectors → ((before : Image) → old before → (length before ≡ sectors) × HasNoSector before) → KeepsFirst (Some torn) old image → HasNoSector image
first_none sectors torn old image told wide was (before, left, first) commit of fits is =
    let of_all = subst (λ (n : ℕ). IsCommitOf n commit) wide of in
    ⊎_elim (λ same. let here = was before left in here.1 commit (subst (λ (n : ℕ). IsCommitOf n commit) (sym here.0) of_all) fits (sym same ∙ is))
    (⊎_elim (λ begins. slot_is_none commit fits of.format_fits.at_most (ap (take 12) (sym is) ∙ begins)) (λ damage. told.other (get_or image 0 []) damage.1 commit of_all fits is)) first

-- ---- a commit

-- an image at any moment carries what it is to carry
module _ (c : Carried) (rides : c.rides ≡ true) (version : c.version ≡ 2) (sectors : ℕ) (least : 160 ≤ sectors) (most : sectors ≤ 2 ^ 32) where
  pub riding_at : (blocks number : ℕ) (image : Image) → number ≤ number_end → length image ≡ sectors → HasNoSector image → IsFresh number image → CarriesInSlots (state_of c blocks) image → Carries c image
  riding_at blocks number image end wide none fresh carries = carries_riding c image blocks rides (record {
    sized = record { at_least = omega (arith, wide, least); at_most = omega (arith, wide, most) };
    version_is = version;
    none = none;
    in_slots = carries;
    numbers = λ k low verifies. omega (arith, fresh k low verifies, end);
  })

-- the images of a device whose slots are known
known_images : (old : Disk) (known : Known) (c : Carried) → ((t : List ℕ → Bool) → IsTearing t old) → IsInSlots old known c → (torn : List ℕ → Bool) → IsTold old.sectors torn → (before : Image) → (tearing torn old).left before → (length before ≡ old.sectors) × HasNoSector before
known_images old known c tears is torn told before left = (((tears torn).coherent.shape before left).count, is.none before (torn, told, left))

-- sector 0 now
pub none_now : (old new : Disk) (known : Known) (c : Carried) → ((t : List ℕ → Bool) → IsTearing t old) → ((t : List ℕ → Bool) → IsTearing t new) → new.sectors ≡ old.sectors → IsInSlots old known c
    → ((torn : List ℕ → Bool) → LeavesFirst (Some torn) old new) → (image : Image) → (weak new).left image → HasNoSector image
none_now old new known c tears tears_new size is first image left =
    let told = subst (λ (n : ℕ). IsTold n left.0) size left.1 in
    first_none old.sectors left.0 (tearing left.0 old).left image told (((tears_new left.0).coherent.shape image left.2).count ∙ size) (known_images old known c tears is left.0 told)
    (left_now (tearing left.0 old) (tearing left.0 new) (KeepsFirst (Some left.0) (tearing left.0 old).left) (tears_new left.0).coherent (first left.0) image left.2)

-- a commit of known slots that was made or failed
pub slots_tried : {T E : Type 0} (old new : Disk) (known now : Known) (c next : Carried) (blocks : ℕ) (result : Result T E) → ((t : List ℕ → Bool) → IsTearing t old) → IsCoherent new → ((t : List ℕ → Bool) → IsTearing t new) → new.sectors ≡ old.sectors
    → IsSlotFormed old.sectors known → known.slot.number + 2 ≤ number_end → IsInSlots old known c → next.rides ≡ true → next.version ≡ 2
    → ((torn : List ℕ → Bool) → IsTold old.sectors torn → Put (Some torn) old new known.slot.number (state_of c known.slot.blocks) (state_of next blocks) result)
    → ((torn : List ℕ → Bool) → LeavesFirst (Some torn) old new)
    → OnOk result (now.slot.number ≡ known.slot.number + 1) → OnOk result (now.slot.blocks ≡ blocks) → OnOk result (SlotKnows now (state_of next blocks)) → OnErr result (now.slot ≡ known.slot) → OnErr result (SlotKnows now (state_of c known.slot.blocks))
    → Tried old new (InSlots now None) c next result
slots_tried {T} {E} old new known now c next blocks result tears coherent tears_new size formed end is rides_next version_next put first number_is blocks_is knows_next slot_is knows_still = by result put number_is blocks_is knows_next slot_is knows_still
  where
    moment : (r : Result T E) → ((torn : List ℕ → Bool) → IsTold old.sectors torn → Put (Some torn) old new known.slot.number (state_of c known.slot.blocks) (state_of next blocks) r) → LeavesOnly (model c.rides old) (model c.rides new) (EitherCarried c next)
    moment r put =
        subst (λ (b : Bool). LeavesOnly (model b old) (model b new) (EitherCarried c next)) (sym is.rides_is)
        (weak_leaves old new (λ torn image. EitherBelow (known.slot.number + 2) (state_of c known.slot.blocks) (state_of next blocks) image × KeepsFirst (Some torn) (tearing torn old).left image) (EitherCarried c next) size
        (λ torn told. leaves_both (tearing torn old) (tearing torn new) (EitherBelow (known.slot.number + 2) (state_of c known.slot.blocks) (state_of next blocks)) (KeepsFirst (Some torn) (tearing torn old).left) (put torn told).any_moment (first torn))
        (λ torn image told wide both.
        let none = first_none old.sectors torn (tearing torn old).left image told wide (known_images old known c tears is torn told) both.1 in
        ⊎_elim (λ was. inl (riding_at c is.rides_is is.version_is old.sectors formed.at_least formed.at_most known.slot.blocks (known.slot.number + 2) image end wide none both.0.1 was))
        (λ will. inr (riding_at next rides_next version_next old.sectors formed.at_least formed.at_most blocks (known.slot.number + 2) image end wide none both.0.1 will)) both.0.0))

    by : (r : Result T E) → ((torn : List ℕ → Bool) → IsTold old.sectors torn → Put (Some torn) old new known.slot.number (state_of c known.slot.blocks) (state_of next blocks) r)
        → OnOk r (now.slot.number ≡ known.slot.number + 1) → OnOk r (now.slot.blocks ≡ blocks) → OnOk r (SlotKnows now (state_of next blocks)) → OnErr r (now.slot ≡ known.slot) → OnErr r (SlotKnows now (state_of c known.slot.blocks)) → Tried old new (InSlots now None) c next r
    by (Ok value) put number_is blocks_is knows_next slot_is knows_still = record {
      any_moment = moment (Ok value) put;
      done = record {
        rides_is = rides_next;
        version_is = version_next;
        knows = subst (λ (n : ℕ). SlotKnows now (state_of next n)) (sym blocks_is) knows_next;
        stands = λ image left. subst (λ (n : ℕ). Stands now.slot.number (state_of next n) image) (sym blocks_is)
            (subst (λ (n : ℕ). Stands n (state_of next blocks) image) (sym number_is) ((put left.0 (subst (λ (n : ℕ). IsTold n left.0) size left.1)).done image left.2));
        none = none_now old new known c tears tears_new size is first;
      };
      stays = tt;
    }
    by (Err fault) put number_is blocks_is knows_next slot_is knows_still = record {
      any_moment = moment (Err fault) put;
      done = tt;
      stays = slots_bytes new.seen now c (subst (λ (s : Slot). SlotKnows now (state_of c s.blocks)) (sym slot_is) knows_still)
          ((coherent.shape new.seen coherent.seen).count ∙ size ∙ sym formed.size ∙ ap (λ (s : Slot). s.sectors) (sym slot_is))
          (subst (λ (s : Slot). HoldsBlocks (length c.bytes / 4096) (state_of c s.blocks) new.seen) (sym slot_is) (put never (told_never old.sectors)).stays);
    }

-- ---- the calls, by whether an opening waits

pub if_settled : {T E : Type 0} {old new : Disk} {known now : Known} {c next : Carried} {result : Result T E} (awaits : Option Awaiting) → is_settled awaits ≡ true → IsOf old (InSlots known awaits) c → (IsInSlots old known c → Tried old new (InSlots now None) c next result)
    → Tried old new (InSlots now awaits) c next result
if_settled None settled is tried = tried is
if_settled (Some awaiting) settled is tried = absurd (cc settled)

pub in_slots : {disk : Disk} {known : Known} {c : Carried} (awaits : Option Awaiting) → is_settled awaits ≡ true → IsOf disk (InSlots known awaits) c → IsInSlots disk known c
in_slots None settled is = is
in_slots (Some awaiting) settled is = absurd (cc settled)

pub still_slots : {disk : Disk} {known : Known} {c : Carried} (awaits : Option Awaiting) → is_settled awaits ≡ true → IsInSlots disk known c → IsOf disk (InSlots known awaits) c
still_slots None settled is = is
still_slots (Some awaiting) settled is = absurd (cc settled)

pub none_settled : (awaits : Option Awaiting) → is_settled awaits ≡ true → awaits ≡ None
none_settled None settled = refl
none_settled (Some awaiting) settled = absurd (cc settled)

pub next_settled : (awaits : Option Awaiting) (slot : Slot) → is_settled awaits ≡ true → next_of awaits slot ≡ slot.number + 1
next_settled None slot settled = refl
next_settled (Some awaiting) slot settled = absurd (cc settled)

-- the other half is read as before
pub slots_spares : (known : Known) (awaits : Option Awaiting) (old new : Image) → ((k : ℕ) → IsOtherHalf known k → get_or new k [] ≡ get_or old k []) → SparesOther (InSlots known awaits) old new
slots_spares known awaits old new others n fits =
    read_same old new (block_start known.slot.sectors (1 - known.slot.half)) n
    (λ i lt. ap (λ (s : List ℕ). get_or s (i % 512) 0) (others (block_start known.slot.sectors (1 - known.slot.half) + i / 512) (record { from = omega arith; below = omega (arith, lt, fits) })))

-- an append
module _ (known now : Known) (c : Carried) (more : List ℕ) (adds opens opens_next : ℕ) (next : Carried) (knows : SlotKnows known (state_of c known.slot.blocks)) (opens_is : opens ≡ opens_next)
    (next_is : next ≡ record { version = c.version; rides = c.rides; half = c.half; bytes = c.bytes ++ more; seq = c.seq + adds; opens = opens_next; identity = c.identity }) where
  abbrev named : ℕ
  named = named_after (length c.bytes) (length more)

  pub state_appended : slot_appended_state (state_of c known.slot.blocks) more adds opens ≡ state_of next named
  state_appended = (λ i. record { half = c.half; bytes = c.bytes ++ more; seq = c.seq + adds; opens = opens_is i; blocks = named; identity = c.identity }) ∙ ap (λ (d : Carried). state_of d named) (sym next_is)

  pub append_tried : {T E : Type 0} {result : Result T E} (old new : Disk) (check : ℕ) → ((t : List ℕ → Bool) → IsTearing t old) → IsCoherent new → ((t : List ℕ → Bool) → IsTearing t new) → new.sectors ≡ old.sectors
      → IsSlotFormed old.sectors known → known.slot.number + 2 ≤ number_end → IsInSlots old known c
      → ((torn : List ℕ → Bool) → IsTold old.sectors torn → Put (Some torn) old new known.slot.number (state_of c known.slot.blocks) (slot_appended_state (state_of c known.slot.blocks) more adds opens) result)
      → ((torn : List ℕ → Bool) → LeavesFirst (Some torn) old new)
      → OnOk result (now.slot ≡ slot_appended known.slot (length more) adds opens check) → OnErr result (now.slot ≡ known.slot) → OnOk result (SlotKnows now (slot_appended_state (state_of c known.slot.blocks) more adds opens)) → OnErr result (SlotKnows now (state_of c known.slot.blocks))
      → Tried old new (InSlots now None) c next result
  append_tried {T} {E} {result} old new check tears coherent tears_new size formed end is put first slot_is slot_stays knows_next knows_still =
      slots_tried old new known now c next named result tears coherent tears_new size formed end is (ap (λ (d : Carried). d.rides) next_is ∙ is.rides_is) (ap (λ (d : Carried). d.version) next_is ∙ is.version_is)
      (λ torn told. subst (λ (s : State). Put (Some torn) old new known.slot.number (state_of c known.slot.blocks) s result) state_appended (put torn told)) first
      (on_ok_weaker result (λ same. ap (λ (s : Slot). s.number) same) slot_is)
      (on_ok_weaker result (λ same. ap (λ (s : Slot). s.blocks) same ∙ ap (λ (s : Slot). named_after s.length (length more)) knows.slot_is) slot_is)
      (on_ok_weaker result (λ will. subst (λ (s : State). SlotKnows now s) state_appended will) knows_next) slot_stays knows_still

-- a switch
pub switch_holds : (disk : Disk) (known : Known) (awaits : Option Awaiting) (c : Carried) (n : ℕ) (target : List ℕ) (adds : ℕ) → IsCoherent disk → known.slot.sectors ≡ disk.sectors → SlotKnows known (state_of c known.slot.blocks)
    → take (length target) (other_bytes disk.seen (InSlots known awaits) n) ≡ target → HoldsBlocks (length target / 4096) (slot_switched_state (state_of c known.slot.blocks) target adds) disk.seen
switch_holds disk known awaits c n target adds coherent size knows copied i lt =
    let few : i < length target = omega (arith, lt, length-take (4096 * (length target / 4096)) target) in
    let start : block_start (length disk.seen) (1 - c.half) ≡ block_start known.slot.sectors (1 - known.slot.half) = (λ j. block_start (((coherent.shape disk.seen coherent.seen).count ∙ sym size) j) (1 - (sym (ap (λ (s : Slot). s.half) knows.slot_is)) j)) in
    ap (λ (s : ℕ). byte_at disk.seen s i) start ∙ begun_at disk.seen (block_start known.slot.sectors (1 - known.slot.half)) n target copied i few
    ∙ sym (get_or-take (4096 * (length target / 4096)) target i 0 (omega (arith, lt, length-take (4096 * (length target / 4096)) target)))

-- a copy in the other half
pub slots_copy : (old new : Disk) (known : Known) (c : Carried) → ((t : List ℕ → Bool) → IsTearing t old) → ((t : List ℕ → Bool) → IsTearing t new) → new.sectors ≡ old.sectors → IsSlotFormed old.sectors known → known.slot.number < number_end → IsInSlots old known c
    → ((torn : List ℕ → Bool) → IsTold old.sectors torn → LeavesOnly (tearing torn old) (tearing torn new) (Stands known.slot.number (state_of c known.slot.blocks))) → ((torn : List ℕ → Bool) → LeavesFirst (Some torn) old new)
    → LeavesOnly (model c.rides old) (model c.rides new) (Carries c) × IsInSlots new known c
slots_copy old new known c tears tears_new size formed end is stands first = (
  subst (λ (b : Bool). LeavesOnly (model b old) (model b new) (Carries c)) (sym is.rides_is)
      (weak_leaves old new (λ torn image. Stands known.slot.number (state_of c known.slot.blocks) image × KeepsFirst (Some torn) (tearing torn old).left image) (Carries c) size
      (λ torn told. leaves_both (tearing torn old) (tearing torn new) (Stands known.slot.number (state_of c known.slot.blocks)) (KeepsFirst (Some torn) (tearing torn old).left) (stands torn told) (first torn))
      (λ torn image told wide both. riding_at c is.rides_is is.version_is old.sectors formed.at_least formed.at_most known.slot.blocks (known.slot.number + 1) image (omega (arith, end)) wide
      (first_none old.sectors torn (tearing torn old).left image told wide (known_images old known c tears is torn told) both.1) both.0.fresh (stands_carries known.slot.number (state_of c known.slot.blocks) image both.0))),
  record {
    rides_is = is.rides_is;
    version_is = is.version_is;
    knows = is.knows;
    stands = λ image left.
        let told = subst (λ (n : ℕ). IsTold n left.0) size left.1 in
        left_now (tearing left.0 old) (tearing left.0 new) (Stands known.slot.number (state_of c known.slot.blocks)) (tears_new left.0).coherent (stands left.0 told) image left.2;
    none = none_now old new known c tears tears_new size is first;
  },
)
