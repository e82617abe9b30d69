-- What was read is what the image carries, and a copy beside it leaves that.
use Rattle.std.proofs.Common.{◌≡◌, ℕ, ◌+◌, ◌-◌, ◌*◌, ◌/◌, ◌≤◌, List, [], length, get_or, refl, ap, subst, sym, ◌∙◌, arith, Result, Ok, Err, IfOk}
use Rattle.sector_device.specs.Charges.{IsSame}
use Rattle.sector_device.specs.Disk.{Disk, Image, HasShape, IsCoherent, LeavesOnly}
use Rattle.sector_device.specs.Sectors.{Begins, IsSectorOf, OverSome}
use Rattle.half_journal.specs.Known.{IsFormed, Knows}
use Rattle.half_journal.specs.Layout.{Fits, IsHalfSized, IsOf, half_capacity, half_size, half_start, sector_of}
use Rattle.half_journal.specs.States.{CarriesInHalf, HalfState, Holds, state_in}
use Rattle.half_journal.specs.declared.commit_sector.Commit.{Commit}
use Rattle.half_journal.specs.declared.known.HalfKnown.{HalfKnown}
use Rattle.half_journal.proofs.Committed.{since_agrees}
use Rattle.half_journal.proofs.Images.{agrees_apart, half_within}
use Rattle.half_journal.proofs.Since.{begin}
use Rattle.half_journal.proofs.Tail.{tail_after}

pub if_ok_both : {T E : Type 0} (result : Result T E) {P Q R : T → Type 0} → ((value : T) → P value → Q value → R value) → IfOk result P → IfOk result Q → IfOk result R
if_ok_both (Ok value) both first second = both value first second
if_ok_both (Err fault) both first second = tt

-- the bytes that a commit names lie on the device
pub named_room : (sectors start : ℕ) (commit : Commit) → IsHalfSized sectors → IsOf sectors commit → start ≡ half_start commit.sectors commit.half → 512 * start + commit.length ≤ 512 * sectors
named_room sectors start commit sized of is = omega (arith, is, ap (λ (n : ℕ). half_start n commit.half) of.sectors_is, half_within sectors commit.half of.half_fits sized.at_least, of.length_fits)

pub loaded : (image : Image) (commit : Commit) (bytes : List ℕ) (sectors start : ℕ) → HasShape sectors image → IsHalfSized sectors → get_or image 0 [] ≡ sector_of commit → IsOf sectors commit → Fits commit → start ≡ half_start commit.sectors commit.half
    → length bytes ≡ commit.length → Begins image start bytes → CarriesInHalf (state_in commit bytes) image
loaded image commit bytes sectors start shape sized spelled of fits start_is size begins = record {
  sized = subst IsHalfSized (sym shape.count) sized;
  version_fits = of.format_fits;
  half_fits = of.half_fits;
  fits = subst (λ (n : ℕ). length bytes ≤ half_capacity n) (sym shape.count) (omega (arith, of.length_fits, size));
  seq_fits = fits.seq;
  opens_fits = fits.opens;
  commit = spelled ∙ (λ i. sector_of record { format = commit.format; half = commit.half; length = sym size i; seq = commit.seq; opens = commit.opens; sectors = (of.sectors_is ∙ sym shape.count) i });
  begins = subst (λ (n : ℕ). Holds image n bytes (length bytes)) (start_is ∙ ap (λ (n : ℕ). half_start n commit.half) (of.sectors_is ∙ sym shape.count)) begins;
}

-- what is known of it
pub knows_read : (commit : Commit) (bytes tail : List ℕ) → length bytes ≡ commit.length → IsSectorOf bytes (commit.length / 512) tail → Knows (record { commit = commit; tail = tail }) (state_in commit bytes)
knows_read commit bytes tail size is_sector = record {
  commit_is = λ i. record { format = commit.format; half = commit.half; length = sym size i; seq = commit.seq; opens = commit.opens; sectors = commit.sectors };
  tail_is = tail_after bytes bytes 0 (commit.length / 512) (length bytes) tail is_sector refl refl (omega (arith, size));
}

-- writes into the half that doesn't count
pub copy_leaves : (known : HalfKnown) (c : HalfState) (old new : Disk) (start place count : ℕ) (bytes : List ℕ) → IsFormed old.sectors known → Knows known c → IsCoherent old → (new.honest → IsCoherent new) → IsSame old new
    → start ≡ half_start known.commit.sectors (1 - known.commit.half) → place + count ≤ half_size known.commit.sectors → old.honest → ((image : Image) → old.left image → CarriesInHalf c image)
    → LeavesOnly old new (OverSome (start + place) count bytes old.left) → LeavesOnly old new (CarriesInHalf c)
copy_leaves known c old new start place count bytes formed knows coherent_old coherent_new same start_is room honest carried run =
    let at_start = begin old known.commit.sectors (CarriesInHalf c) honest (λ h. coherent_old) (sym formed.size) carried in
    let half_is : known.commit.half ≡ c.half = ap (λ (m : Commit). m.half) knows.commit_is in
    let first_is : start + place ≡ half_start known.commit.sectors (1 - c.half) + place = ap (λ (n : ℕ). n + place) (start_is ∙ ap (λ (h : ℕ). half_start known.commit.sectors (1 - h)) half_is) in
    let fits : length c.bytes ≤ half_capacity known.commit.sectors = omega (arith, ap (λ (m : Commit). m.length) knows.commit_is, formed.used_fits, ap half_capacity formed.size) in
    (since_agrees c at_start new (start + place) count bytes coherent_new same (omega (arith, start_is))
    (agrees_apart known.commit.sectors c.half (start + place) place count c.bytes bytes (length c.bytes) (omega (arith, half_is, formed.half_fits)) first_is room fits) run).leaves
