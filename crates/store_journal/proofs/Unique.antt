-- What an image carries is determined.
use Rattle.std.proofs.Common.{◌≡◌, length, Bool, true, false, refl, sym, ◌∙◌}
use Rattle.sector_device.specs.Disk.{Image}
use Rattle.half_journal.specs.States.{commit_of}
use Rattle.half_journal.proofs.Unique.{carried_fits, carried_is_of, carries_one as one_half}
use Rattle.slot_commits.proofs.Either.{carries_one as one_state}
use Rattle.store_journal.specs.Carries.{Carried, Carries, CarriesIn, half_of, state_of}

in_half_one : (image : Image) (c d : Carried) → c.rides ≡ d.rides → CarriesIn false c image → CarriesIn false d image → c ≡ d
in_half_one image c d rides first second =
    let same : half_of c ≡ half_of d = one_half image (half_of c) (half_of d) first.0 second.0 in
    let none : c.identity ≡ d.identity = first.1 ∙ sym second.1 in
    λ i. record { version = (same i).version; rides = rides i; half = (same i).half; bytes = (same i).bytes; seq = (same i).seq; opens = (same i).opens; identity = none i }

riding_one : (image : Image) (c d : Carried) → c.rides ≡ d.rides → CarriesIn true c image → CarriesIn true d image → c ≡ d
riding_one image c d rides first second =
    let same : state_of c first.0 ≡ state_of d second.0 = one_state image (state_of c first.0) (state_of d second.0) first.1.in_slots second.1.in_slots in
    let version = first.1.version_is ∙ sym second.1.version_is in
    λ i. record { version = version i; rides = rides i; half = (same i).half; bytes = (same i).bytes; seq = (same i).seq; opens = (same i).opens; identity = (same i).identity }

-- an image in one format is in no other
apart : (image : Image) (c d : Carried) → CarriesIn false c image → CarriesIn true d image → ⊥
apart image c d first second =
    second.1.none (commit_of (half_of c) (length image)) (carried_is_of image (half_of c) first.0) (carried_fits image (half_of c) first.0) first.0.commit

pub carries_one : (image : Image) (c d : Carried) → Carries c image → Carries d image → c ≡ d
carries_one image c d = by c.rides d.rides refl refl
  where
    by : (a b : Bool) → c.rides ≡ a → d.rides ≡ b → CarriesIn a c image → CarriesIn b d image → c ≡ d
    by false false is also first second = in_half_one image c d (is ∙ sym also) first second
    by true true is also first second = riding_one image c d (is ∙ sym also) first second
    by false true is also first second = absurd (apart image c d first second)
    by true false is also first second = absurd (apart image d c second first)
