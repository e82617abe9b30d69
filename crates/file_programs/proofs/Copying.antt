-- A store copied into a file that was created for it.
use Rattle.std.proofs.Common.{◌≡◌, ◌⊎◌, Bool, true, inl, inr, ⊎_elim, ℕ, zero, suc, ◌<◌, List, [], length, take, Option, None, Some, get_or, refl, ap, sym, subst, ◌∙◌, arith}
use Rattle.std.proofs.lemmas.List.{get_or-take}
use Rattle.sector_device.specs.Disk.{Image}
use Rattle.sector_device.specs.History.{left_by, moment_of, seen_after, since_by, zeros_of}
use Rattle.sector_device.specs.declared.history.History.{History, Created}
use Rattle.half_journal.specs.Layout.{HasMagic}
use Rattle.file_device.specs.declared.file.FileDevice.{FileDevice}
use Rattle.file_device.specs.File.{file_disk}
use Rattle.store_journal.specs.Carries.{Carried, Carries}
use Rattle.store_journal.specs.Filling.{IsNone}
use Rattle.store_journal.specs.Models.{IsTold}
use Rattle.store_journal.specs.Opening.{LooksIn}
use Rattle.store_journal.proofs.Likes.{is_like}
use Rattle.store_commits.specs.Account.{Account}
use Rattle.doc_store.specs.Opening.{IsCopyOf}
use Rattle.doc_store.specs.declared.format.Format.{Format}
use Rattle.doc_store.specs.declared.format.Format.TheVariants.{Two, Three}
use Rattle.doc_store.specs.Formats.{rides_in}
use Rattle.file_programs.specs.Copies.{IsCopiedFile, IsFilled}
use Rattle.file_programs.specs.Identity.{IsChosen}

-- each sector of zeros, and one that isn't there, begins with none
zero_first : (n k : ℕ) → get_or (get_or (zeros_of n) k []) 0 0 ≡ 0
zero_first zero zero = refl
zero_first zero (suc k) = refl
zero_first (suc n) zero = refl
zero_first (suc n) (suc k) = zero_first n k

begins_with_zero : (n k size : ℕ) → 0 < size → get_or (take size (get_or (zeros_of n) k [])) 0 0 ≡ 0
begins_with_zero n k size some = get_or-take size (get_or (zeros_of n) k []) 0 0 some ∙ zero_first n k

-- so zeros look like no store
zeros_have_none : (n : ℕ) → HasMagic (zeros_of n) → ⊥
zeros_have_none n magic = let bad : 0 ≡ 74 = sym (begins_with_zero n 0 8 (omega arith)) ∙ ap (λ (l : List ℕ). get_or l 0 0) magic in absurd (omega (arith, bad))

begins_none : (n k : ℕ) (l : List ℕ) → get_or l 0 0 ≡ 74 → take 12 (get_or (zeros_of n) k []) ≡ l → ⊥
begins_none n k l first is = let bad : 0 ≡ 74 = sym (begins_with_zero n k 12 (omega arith)) ∙ ap (λ (l : List ℕ). get_or l 0 0) is ∙ first in absurd (omega (arith, bad))

zeros_unmarked : (n : ℕ) → LooksIn true (zeros_of n) → ⊥
zeros_unmarked n (inl magic) = zeros_have_none n magic
zeros_unmarked n (inr (inl first)) = begins_none n 32 _ refl first
zeros_unmarked n (inr (inr (inl second))) = begins_none n 64 _ refl second
zeros_unmarked n (inr (inr (inr third))) = begins_none n 96 _ refl third

-- and carry nothing
zeros_carry : (n : ℕ) (c : Carried) → Carries c (zeros_of n) → ⊥
zeros_carry n c carries = ⊎_elim (zeros_have_none n) (λ marked. zeros_unmarked n marked.1) (is_like c.rides c (zeros_of n) carries)

-- what a crash may leave of a device with that history, if no sector tears, or if those do that hold such bytes
abbrev Leaves : Format → ℕ → Account → History → (Image → Type 0) → Image → Type 0
Leaves format identity a p left image = left image ⊎ ((LooksIn (rides_in format) (seen_after p) → ⊥) × (IsNone (rides_in format) image ⊎ IsCopyOf format identity a image))

pub copied_file : (format : Format) (identity : ℕ) (asked : Option ℕ) (sectors : ℕ) (a : Account) (old new : FileDevice) → IsChosen asked identity → (file_disk old).sectors ≡ sectors → old.history ≡ Created sectors → IsFilled format identity (file_disk old) (file_disk new) a → IsCopiedFile sectors format asked a new
copied_file Two identity asked sectors a old new chosen size created filled = record {
  identity = identity;
  chosen = chosen;
  size = filled.size ∙ size;
  copies = filled.copies;
  any_moment = λ honest image since. ⊎_elim (λ before. inl (λ magic. zeros_have_none sectors (subst HasMagic before magic))) (λ h. h.1)
      (subst (λ (p : History). (image : Image) → since_by None new.history (moment_of p) image → Leaves Two identity a p (left_by None p) image) created (filled.any_moment honest).each image since);
}
copied_file Three identity asked sectors a old new chosen size created filled = record {
  identity = identity;
  chosen = chosen;
  size = filled.size ∙ size;
  copies = filled.copies;
  any_moment = λ honest image since. ⊎_elim (λ before. inl (subst (IsNone true) (sym before.2) (zeros_carry sectors))) (λ h. h.1)
      (subst (λ (p : History). (image : Image) → ((torn : List ℕ → Bool) × IsTold new.sectors torn × (length image ≡ new.sectors) × since_by (Some torn) new.history (moment_of p) image)
      → Leaves Three identity a p (λ i. (torn : List ℕ → Bool) × IsTold old.sectors torn × left_by (Some torn) p i) image) created (filled.any_moment honest).each image since);
}
