-- What an image carries is determined.
use Rattle.std.proofs.Common.{◌≡◌, ℕ, length, refl, ap, sym, ◌∙◌, arith}
use Rattle.std.proofs.lemmas.List.{get_or_default, same_lists}
use Rattle.sector_device.specs.Disk.{Image}
use Rattle.sector_device.specs.Sectors.{byte_at}
use Rattle.half_journal.specs.Layout.{Fits, IsOf, half_start}
use Rattle.half_journal.specs.declared.commit_sector.Commit.{Commit}
use Rattle.half_journal.proofs.Fields.{one_commit}
use Rattle.half_journal.specs.States.{CarriesInHalf, HalfState, commit_of}

-- the commit sector of what an image carries in formats 1 and 2
module _ (image : Image) (c : HalfState) (carries : CarriesInHalf c image) where
  pub carried_fits : Fits (commit_of c (length image))
  carried_fits = record {
    format = omega (arith, carries.version_fits.at_most);
    half = omega (arith, carries.half_fits);
    length = omega (arith, carries.fits, carries.sized.at_most);
    seq = carries.seq_fits;
    opens = carries.opens_fits;
    sectors = omega (arith, carries.sized.at_most);
  }

  pub carried_is_of : IsOf (length image) (commit_of c (length image))
  carried_is_of = record { sectors_is = refl; format_fits = carries.version_fits; half_fits = carries.half_fits; length_fits = carries.fits }

pub carries_one : (image : Image) (c d : HalfState) → CarriesInHalf c image → CarriesInHalf d image → c ≡ d
carries_one image c d first second =
    let n = length image in
    let same = one_commit (commit_of c n) (commit_of d n) (carried_fits image c first) (carried_fits image d second) (sym first.commit ∙ second.commit) in
    let half_is : c.half ≡ d.half = ap (λ (m : Commit). m.half) same in
    let length_is : length c.bytes ≡ length d.bytes = ap (λ (m : Commit). m.length) same in
    let bytes_is : c.bytes ≡ d.bytes = same_lists c.bytes d.bytes length_is
    (λ i e lt.
    get_or_default c.bytes i e 0 lt ∙ sym (first.begins i lt) ∙ ap (λ (h : ℕ). byte_at image (half_start n h) i) half_is ∙ second.begins i (omega (arith, lt, length_is)) ∙ get_or_default d.bytes i 0 e (omega (arith, lt, length_is))) in
    let version_is = ap (λ (m : Commit). m.format) same in
    let seq_is = ap (λ (m : Commit). m.seq) same in
    let opens_is = ap (λ (m : Commit). m.opens) same in
    λ i. record { version = version_is i; half = half_is i; bytes = bytes_is i; seq = seq_is i; opens = opens_is i }
