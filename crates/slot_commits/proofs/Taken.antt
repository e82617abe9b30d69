-- The slots, read one sector after another.
use Rattle.std.proofs.Common.{◌≡◌, ◌⊎◌, inl, inr, ℕ, ◌+◌, ◌<◌, ◌≤◌, List, [], ◌∷◌, ◌++◌, length, get_or, ap, subst, sym, ◌∙◌, arith, Result, Err, Bool, Option, None, Some}
use Rattle.std.proofs.lemmas.Bool.{cases_lt}
use Rattle.std.proofs.lemmas.List.{get_or_append_left, get_or_push, length_push}
use Rattle.sector_device.specs.Disk.{Disk, Image, Reads, tearing}
use Rattle.sector_device.specs.Sectors.{KeepsImages}
use Rattle.sector_device.specs.Charges.{Made}
use Rattle.sector_device.specs.Reads.{ReadCharges}
use Rattle.sector_device.specs.declared.read.ReadFault.{ReadFault}
use Rattle.sector_device.specs.declared.read.ReadFault.TheVariants.{Memory, Device}
use Rattle.sector_device.proofs.Charges.{failed_joined, made_joined}
use Rattle.sector_device.proofs.Moments.{goes_on, joined, leaves_weaker}
use Rattle.commit_slots.specs.Sealed.{Verifies, number_of}
use Rattle.commit_slots.specs.Finding.{BeginsAs}
use Rattle.commit_slots.specs.Fresh.{IsFresh}
use Rattle.slot_commits.specs.Tears.{tearing_by}

pub keeps_more : {T E : Type 0} {result : Result T E} (torn : Option (List ℕ → Bool)) (old mid new : Disk) (at : ℕ) (content : List ℕ) → KeepsImages (tearing_by torn old) (tearing_by torn mid)
    → Reads mid new at content result → ((t : List ℕ → Bool) → Reads (tearing t mid) (tearing t new) at content result) → KeepsImages (tearing_by torn old) (tearing_by torn new)
keeps_more None old mid new at content keeps plain tears = record {
  seen = plain.seen ∙ keeps.seen;
  left = λ image l. keeps.left image ((plain.left image).0 l);
  any_moment = goes_on old mid new old.left keeps.any_moment plain.time (λ image l. keeps.left image ((plain.left image).0 l));
}
keeps_more (Some t) old mid new at content keeps plain tears = record {
  seen = (tears t).seen ∙ keeps.seen;
  left = λ image l. keeps.left image (((tears t).left image).0 l);
  any_moment = goes_on (tearing t old) (tearing t mid) (tearing t new) (old.torn_left t) keeps.any_moment (tears t).time (λ image l. keeps.left image (((tears t).left image).0 l));
}

pub keeps_joined : (old mid new : Disk) → KeepsImages old mid → KeepsImages mid new → KeepsImages old new
keeps_joined old mid new first second = record {
  seen = second.seen ∙ first.seen;
  left = λ image l. first.left image (second.left image l);
  any_moment = joined old mid new old.left first.any_moment (leaves_weaker mid new mid.left old.left (λ image l. first.left image l) second.any_moment);
}

-- one sector more
pub begins_push : (slots : List (List ℕ)) (sector : List ℕ) (more image : Image) (k : ℕ) → more ≡ slots ++ sector ∷ [] → length slots ≡ k → sector ≡ get_or image k [] → BeginsAs slots image → BeginsAs more image
begins_push slots sector more image k is size sector_is begins j lt = one (cases_lt j k)
  where
    one : (j < k) ⊎ (k ≤ j) → get_or image j [] ≡ get_or more j []
    one (inl low) =
        let inside : j < length slots = omega (arith, low, size) in
        begins j inside ∙ sym (get_or_append_left slots (sector ∷ []) [] j inside) ∙ ap (λ (l : Image). get_or l j []) (sym is)
    one (inr high) =
        let here : j ≡ k = omega (arith, high, lt, ap length is, length_push slots sector, size) in
        ap (λ (n : ℕ). get_or image n []) here ∙ sym sector_is ∙ sym (get_or_push slots sector [] k size) ∙ ap (λ (l : Image). get_or l k []) (sym is) ∙ ap (λ (n : ℕ). get_or more n []) (sym here)

-- no number is above the highest
pub fresh_above : (slots image : Image) (highest : ℕ) → length slots ≡ 128 → BeginsAs slots image → ((k : ℕ) → k < length slots → Verifies (get_or slots k []) → number_of (get_or slots k []) ≤ highest) → IsFresh (highest + 1) image
fresh_above slots image highest size begins above k lt verifies =
    let inside : k < length slots = omega (arith, lt, size) in
    let same : get_or image k [] ≡ get_or slots k [] = begins k inside in
    omega (arith, above k inside (subst Verifies same verifies), ap number_of same)

-- reads after other calls
pub read_failed : (old mid new : Disk) (m n : ℕ) (fault : ReadFault) → Made old mid m → ReadCharges {T = Unit {0}} mid new n (Err fault) → ReadCharges {T = Unit {0}} old new (m + n) (Err fault)
read_failed old mid new m n Memory first some = (m + some.0, omega (arith, some.1), made_joined old mid new m some.0 first some.2)
read_failed old mid new m n Device first failed = failed_joined old mid new m n (m + n) (omega arith) first failed
