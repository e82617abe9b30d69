-- A commit, said of what a journal knows of its state.
use Rattle.std.proofs.Common.{◌≡◌, ℕ, ◌+◌, ◌-◌, ◌*◌, ◌/◌, ◌%◌, ◌≤◌, ◌<◌, ◌^◌, List, [], ◌++◌, length, take, drop, refl, ap, subst, sym, ◌∙◌, arith, length-append, if◌then◌else◌, Result, IsErr}
use Rattle.std.proofs.lemmas.List.{drop-append-le}
use Rattle.sector_device.specs.Disk.{Disk, Image}
use Rattle.sector_device.specs.Sectors.{IsSectorOf, KeepsOthers}
use Rattle.half_journal.specs.Known.{IsFormed, Knows, commit_after, half_begun, used_begun, version_begun}
use Rattle.half_journal.specs.Layout.{IsFormat, IsHalfSized, half_capacity, half_size, half_start}
use Rattle.half_journal.specs.States.{CarriesInHalf, HalfState, begun, commit_of, committed, one_more}
use Rattle.half_journal.specs.Writes.{CanWrite, HasCopied, IsPlaced, SparesOther, Tried, touched, written_first}
use Rattle.half_journal.specs.declared.commit_sector.Commit.{Commit}
use Rattle.half_journal.specs.declared.known.HalfKnown.{HalfKnown}
use Rattle.half_journal.specs.declared.update.Base.{Base}
use Rattle.half_journal.specs.declared.update.Base.TheVariants.{Kept, Written, Copied}
use Rattle.half_journal.specs.declared.update.Start.{Start}
use Rattle.half_journal.specs.declared.update.Update.{Update}
use Rattle.half_journal.proofs.Images.{others_wider}
use Rattle.half_journal.proofs.Since.{no_ok}
use Rattle.half_journal.proofs.Tail.{tail_after, touched_fits}

-- the numbers with which a commit begins are those of the state
begun_is : (base : Base) (known : HalfKnown) (c : HalfState) → Knows known c
    → (version_begun known.commit.format base ≡ (begun c base).version) × (half_begun known.commit.half base ≡ (begun c base).half) × (used_begun known.commit.length base ≡ length (begun c base).bytes)
begun_is Kept known c knows = (ap (λ (m : Commit). m.format) knows.commit_is, ap (λ (m : Commit). m.half) knows.commit_is, ap (λ (m : Commit). m.length) knows.commit_is)
begun_is (Written t v) known c knows = (refl, ap (λ (m : Commit). 1 - m.half) knows.commit_is, refl)
begun_is (Copied t v) known c knows = (refl, ap (λ (m : Commit). 1 - m.half) knows.commit_is, refl)

half_low : (base : Base) (half : ℕ) → half ≤ 1 → half_begun half base ≤ 1
half_low Kept half low = low
half_low (Written t v) half low = omega arith
half_low (Copied t v) half low = omega arith

first_fits : (base : Base) (used : ℕ) → length (written_first base) ≤ used_begun used base
first_fits Kept used = omega arith
first_fits (Written t v) used = omega arith
first_fits (Copied t v) used = omega arith

-- a commit that writes nothing into the other half
spares : (base : Base) (frames : List ℕ) (sectors half used : ℕ) (old new : Image) → SparesOther base frames → used / 512 + touched used (length frames) ≤ half_size sectors
    → (written_first base ≡ [] → KeepsOthers (half_start sectors (half_begun half base) + used / 512) (touched used (length frames)) old new) → KeepsOthers (half_start sectors half) (half_size sectors) old new
spares Kept frames sectors half used old new spare room others = others_wider (half_start sectors half) (used / 512) (touched used (length frames)) (half_size sectors) old new (others refl) room
spares (Written t v) frames sectors half used old new spare room others = absurd spare
spares (Copied t v) frames sectors half used old new spare room others =
    let kept = subst (λ (l : List ℕ). KeepsOthers (half_start sectors (1 - half) + used / 512) (touched used (length l)) old new) spare (others refl) in
    λ k positive apart. kept k positive (grind arith)

-- where the frames of a commit begin, and what it counts
pub record Starts (known : HalfKnown) (update : Update) (start : Start) (opens : ℕ) : Type 0 where
  pub version_is : start.version ≡ version_begun known.commit.format update.base
  pub half_is : start.half ≡ half_begun known.commit.half update.base
  pub used_is : start.used ≡ used_begun known.commit.length update.base
  pub target_is : start.target.now ≡ written_first update.base
  pub short : length start.front.now ≤ 512
  pub front : (c : HalfState) → known.commit.length ≡ length c.bytes → take (known.commit.length % 512) known.tail ≡ drop (512 * (known.commit.length / 512)) c.bytes
      → start.front.now ≡ drop (512 * (length (begun c update.base).bytes / 512)) (begun c update.base).bytes
  pub opens_is : opens ≡ (if update.counts_opening then one_more known.commit.opens else known.commit.opens)

module _ {known : HalfKnown} {update : Update} {start : Start} {opens : ℕ} (starts : Starts known update start opens) where
  abbrev used : ℕ
  used = start.used + length update.frames.now

  abbrev sector : Commit
  sector = record { format = start.version; half = start.half; length = used; seq = known.commit.seq + update.adds; opens = opens; sectors = known.commit.sectors }

  pub after : sector ≡ commit_after known.commit update
  after = λ i. record { format = starts.version_is i; half = starts.half_is i; length = starts.used_is i + length update.frames.now; seq = known.commit.seq + update.adds; opens = starts.opens_is i; sectors = known.commit.sectors }

  module _ (sectors : ℕ) (formed : IsFormed sectors known) (fits : used_begun known.commit.length update.base + length update.frames.now ≤ half_capacity known.commit.sectors) where
    pub used_fits : used ≤ half_capacity known.commit.sectors
    used_fits = omega (arith, starts.used_is, fits)

    pub low : start.half ≤ 1
    low = omega (arith, starts.half_is, half_low update.base known.commit.half formed.half_fits)

    pub placed : IsPlaced known.commit.sectors start
    placed = record {
      sized = subst IsHalfSized (sym formed.size) formed.sized;
      half_fits = low;
      target_fits = omega (arith, ap length starts.target_is, first_fits update.base known.commit.length, fits);
      short = starts.short;
    }

    pub formed_after : (new : ℕ) (tail : List ℕ) → new ≡ sectors → IsFormat (version_begun known.commit.format update.base) → IsFormed new (record { commit = sector; tail = tail })
    formed_after new tail same version = record {
      size = formed.size ∙ sym same;
      sized = subst IsHalfSized (sym same) formed.sized;
      version_fits = subst IsFormat (sym starts.version_is) version;
      half_fits = low;
      used_fits = subst (λ (n : ℕ). used ≤ half_capacity n) (formed.size ∙ sym same) used_fits;
    }

    -- a commit that writes nothing into the other half leaves it
    pub spared : (old new : Image) → SparesOther update.base update.frames.now → (start.target.now ≡ [] → KeepsOthers (half_start known.commit.sectors start.half + start.used / 512) (touched start.used (length update.frames.now)) old new)
        → KeepsOthers (half_start known.commit.sectors known.commit.half) (half_size known.commit.sectors) old new
    spared old new spare others =
        spares update.base update.frames.now known.commit.sectors known.commit.half start.used old new spare (touched_fits start.used (length update.frames.now) known.commit.sectors used_fits)
        (λ none. subst (λ (h : ℕ). KeepsOthers (half_start known.commit.sectors h + start.used / 512) (touched start.used (length update.frames.now)) old new) starts.half_is (others (starts.target_is ∙ none)))

  module _ (c : HalfState) (knows : Knows known c) where
    abbrev base : HalfState
    base = begun c update.base

    abbrev will : HalfState
    will = committed c update

    version_was : start.version ≡ base.version
    version_was = starts.version_is ∙ (begun_is update.base known c knows).0

    half_was : start.half ≡ base.half
    half_was = starts.half_is ∙ (begun_is update.base known c knows).1

    used_was : start.used ≡ length base.bytes
    used_was = starts.used_is ∙ (begun_is update.base known c knows).2

    used_will : used ≡ length will.bytes
    used_will = omega (arith, used_was, length-append base.bytes update.frames.now)

    pub names : sector ≡ commit_of will known.commit.sectors
    names = λ i. record {
      format = version_was i;
      half = half_was i;
      length = used_will i;
      seq = (knows.commit_is i).seq + update.adds;
      opens = (starts.opens_is ∙ ap (λ (m : Commit). if update.counts_opening then one_more m.opens else m.opens) knows.commit_is) i;
      sectors = known.commit.sectors;
    }

    front_is : start.front.now ≡ drop (512 * (start.used / 512)) base.bytes
    front_is =
        let long : known.commit.length ≡ length c.bytes = ap (λ (m : Commit). m.length) knows.commit_is in
        starts.front c long (subst (λ (n : ℕ). take (n % 512) known.tail ≡ drop (512 * (n / 512)) c.bytes) (sym long) knows.tail_is) ∙ ap (λ (n : ℕ). drop (512 * (n / 512)) base.bytes) (sym used_was)

    pub can_write : (disk : Disk) → known.commit.sectors ≡ disk.sectors → disk.honest → ((image : Image) → disk.left image → CarriesInHalf c image) → HasCopied update.base disk.seen (half_start known.commit.sectors (1 - c.half))
        → IsFormat (version_begun known.commit.format update.base) → known.commit.seq + update.adds < 2 ^ 64 → CanWrite disk update start sector c
    can_write disk size honest carried copied version seq = record {
      honest = honest;
      carried = carried;
      copied = subst (λ (n : ℕ). HasCopied update.base disk.seen (half_start n (1 - c.half))) size copied;
      half_is = half_was;
      used_is = used_was;
      front_is = front_is;
      names = names;
      version_fits = subst IsFormat (begun_is update.base known c knows).0 version;
      seq_fits = subst (λ (m : Commit). m.seq + update.adds < 2 ^ 64) knows.commit_is seq;
    }

    pub knows_after : (tail : List ℕ) → IsSectorOf (start.front.now ++ update.frames.now) (used / 512 - start.used / 512) tail → Knows (record { commit = sector; tail = tail }) will
    knows_after tail is_sector = record {
      commit_is = names;
      tail_is = subst (λ (n : ℕ). take (n % 512) tail ≡ drop (512 * (n / 512)) will.bytes) used_will
          (tail_after will.bytes (start.front.now ++ update.frames.now) (start.used / 512) (used / 512 - start.used / 512) used tail is_sector
          (ap (λ (l : List ℕ). l ++ update.frames.now) front_is ∙ sym (drop-append-le (512 * (start.used / 512)) base.bytes update.frames.now (omega (arith, used_was))))
          used_will (omega arith));
    }

-- a commit that failed, answered as such
pub tried_failed : {T E F : Type 0} {old new : Disk} {update : Update} {c : HalfState} (result : Result T E) (answer : Result T F) → IsErr answer → Tried old new update c result → Tried old new update c answer
tried_failed result answer err tried = record { any_moment = tried.any_moment; stays = tried.stays; done = no_ok _ answer err; zeros = no_ok _ answer err }
