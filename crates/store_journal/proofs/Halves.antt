-- A commit in formats 1 and 2, said of what a journal carries.
use Rattle.std.proofs.Common.{◌≡◌, inl, inr, ⊎_elim, ℕ, ◌-◌, List, length, take, Bool, false, ap, subst, sym, Result, Ok, Err, OnOk, OnErr}
use Rattle.sector_device.specs.Disk.{Disk, Image, IsCoherent, LeavesOnly}
use Rattle.sector_device.specs.Sectors.{Begins, KeepsOthers}
use Rattle.sector_device.proofs.Moments.{leaves_weaker, left_now}
use Rattle.half_journal.specs.Known.{IsFormed as IsHalfFormed, Knows as HalfKnows}
use Rattle.half_journal.specs.Layout.{half_size, half_start as start_in_half}
use Rattle.half_journal.specs.States.{CarriesInHalf, EitherInHalf, HalfState, committed}
use Rattle.half_journal.specs.Writes.{Tried as HalfTried}
use Rattle.half_journal.specs.declared.commit_sector.Commit.{Commit}
use Rattle.half_journal.specs.declared.known.HalfKnown.{HalfKnown}
use Rattle.half_journal.specs.declared.update.Update.{Update}
use Rattle.half_journal.proofs.Views.{begun_at, other_half}
use Rattle.store_journal.specs.Carries.{Carried, Carries, EitherCarried, half_of}
use Rattle.store_journal.specs.Held.{IsInHalf, SparesOther, Tried, bytes_in, other_bytes}
use Rattle.store_journal.specs.Models.{model}
use Rattle.store_journal.specs.declared.held.Held.TheVariants.{InHalf}
use Rattle.store_journal.proofs.Seen.{carries_half, half_bytes}

-- by the format
pub leaves_half : (c next : Carried) (old new : Disk) → c.rides ≡ false → next.rides ≡ false → c.identity ≡ 0 → next.identity ≡ 0 → LeavesOnly old new (EitherInHalf (half_of c) (half_of next)) → LeavesOnly (model c.rides old) (model c.rides new) (EitherCarried c next)
leaves_half c next old new plain plain_next none none_next leaves =
    subst (λ (r : Bool). LeavesOnly (model r old) (model r new) (EitherCarried c next)) (sym plain)
    (leaves_weaker old new (EitherInHalf (half_of c) (half_of next)) (EitherCarried c next) (λ image. ⊎_elim (λ was. inl (carries_half c image plain none was)) (λ will. inr (carries_half next image plain_next none_next will))) leaves)

-- a commit that was made or failed
pub half_tried : {T E : Type 0} (old new : Disk) (known now : HalfKnown) (c next : Carried) (update : Update) (result : Result T E) → known.commit.sectors ≡ old.sectors → HalfKnows known (half_of c) → c.rides ≡ false → next.rides ≡ false
    → c.identity ≡ 0 → next.identity ≡ 0 → HalfTried old new update (half_of c) result → half_of next ≡ committed (half_of c) update → OnOk result (HalfKnows now (half_of next)) → OnErr result (now ≡ known) → Tried old new (InHalf now) c next result
half_tried {T} {E} old new known now c next update result size knows plain plain_next none none_next tried next_is knows_next stays = by result tried knows_next stays
  where
    by : (r : Result T E) → HalfTried old new update (half_of c) r → OnOk r (HalfKnows now (half_of next)) → OnErr r (now ≡ known) → Tried old new (InHalf now) c next r
    by (Ok value) tried knows_next stays = record {
      any_moment = leaves_half c next old new plain plain_next none none_next (subst (λ (s : HalfState). LeavesOnly old new (EitherInHalf (half_of c) s)) (sym next_is) tried.any_moment);
      done = record { plain = plain_next; identity_is = none_next; knows = knows_next; carried = λ image left. subst (λ (s : HalfState). CarriesInHalf s image) (sym next_is) (tried.done image left) };
      stays = tt;
    }
    by (Err fault) tried knows_next stays = record {
      any_moment = leaves_half c next old new plain plain_next none none_next (subst (λ (s : HalfState). LeavesOnly old new (EitherInHalf (half_of c) s)) (sym next_is) tried.any_moment);
      done = tt;
      stays = subst (λ (k : HalfKnown). bytes_in new.seen (InHalf k) ≡ c.bytes) (sym stays)
          (half_bytes new.seen known c knows.commit_is (subst (λ (n : ℕ). Begins new.seen (start_in_half n c.half) c.bytes) (sym size) tried.stays));
    }

-- the other half is read as before
pub half_spares : (known : HalfKnown) (old new : Image) (sectors : ℕ) → IsHalfFormed sectors known → KeepsOthers (start_in_half known.commit.sectors known.commit.half) (half_size known.commit.sectors) old new → SparesOther (InHalf known) old new
half_spares known old new sectors formed others n fits = other_half old new known.commit.sectors known.commit.half n formed.half_fits fits others

-- a target that a copy has written
pub half_copied : (image : Image) (known : HalfKnown) (c : Carried) (n : ℕ) (target : List ℕ) → HalfKnows known (half_of c) → take (length target) (other_bytes image (InHalf known) n) ≡ target → Begins image (start_in_half known.commit.sectors (1 - c.half)) target
half_copied image known c n target knows copied =
    subst (λ (h : ℕ). Begins image (start_in_half known.commit.sectors (1 - h)) target) (ap (λ (m : Commit). m.half) knows.commit_is) (begun_at image (start_in_half known.commit.sectors (1 - known.commit.half)) n target copied)

-- a copy in the other half
pub half_copy : (old new : Disk) (known : HalfKnown) (c : Carried) → IsCoherent new → IsInHalf old known c → LeavesOnly old new (CarriesInHalf (half_of c)) → LeavesOnly (model c.rides old) (model c.rides new) (Carries c) × IsInHalf new known c
half_copy old new known c coherent is leaves = (
  subst (λ (r : Bool). LeavesOnly (model r old) (model r new) (Carries c)) (sym is.plain) (leaves_weaker old new (CarriesInHalf (half_of c)) (Carries c) (λ image carries. carries_half c image is.plain is.identity_is carries) leaves),
  record { plain = is.plain; identity_is = is.identity_is; knows = is.knows; carried = left_now old new (CarriesInHalf (half_of c)) coherent leaves },
)

pub knows_by : {T E : Type 0} {s t : HalfState} (now : HalfKnown) (result : Result T E) → t ≡ s → OnOk result (HalfKnows now s) → OnOk result (HalfKnows now t)
knows_by now result same knows = subst (λ (u : HalfState). OnOk result (HalfKnows now u)) (sym same) knows
