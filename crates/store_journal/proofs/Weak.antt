-- The disk model of format 3: whatever is said for each way to tear is said of it.
use Rattle.std.proofs.Common.{◌≡◌, inl, inr, ⊎_elim, ℕ, List, length, Bool, true, false, subst, ◌∙◌}
use Rattle.sector_device.specs.Disk.{Disk, Image, IsCoherent, IsTearing, LeavesOnly, tearing}
use Rattle.sector_device.specs.Sectors.{KeepsImages}
use Rattle.store_journal.specs.Models.{IsTold, model, weak}

-- no sector tears
abbrev pub never : List ℕ → Bool
never sector = false

pub told_never : (sectors : ℕ) → IsTold sectors never
told_never sectors = record { noticed = λ sector is. absurd (cc is); other = λ sector is. absurd (cc is) }

pub weak_coherent : (disk : Disk) → IsCoherent disk → ((torn : List ℕ → Bool) → IsTearing torn disk) → IsCoherent (weak disk)
weak_coherent disk plain tears = record {
  seen = (never, told_never disk.sectors, (tears never).adds disk.seen plain.seen);
  shape = λ image left. (tears left.0).coherent.shape image left.2;
  now = λ moment image le left. (left.0, left.1, ((tears left.0).coherent.shape image left.2).count, (tears left.0).coherent.now moment image le left.2);
  only_now = λ image since. (since.0, since.1, (tears since.0).coherent.only_now image since.3);
}

pub weak_leaves : (old new : Disk) (P : (List ℕ → Bool) → Image → Type 0) (Q : Image → Type 0) → new.sectors ≡ old.sectors → ((torn : List ℕ → Bool) → IsTold old.sectors torn → LeavesOnly (tearing torn old) (tearing torn new) (P torn))
    → ((torn : List ℕ → Bool) (image : Image) → IsTold old.sectors torn → length image ≡ old.sectors → P torn image → Q image) → LeavesOnly (weak old) (weak new) Q
weak_leaves old new P Q size each so = record {
  later = (each never (told_never old.sectors)).later;
  each = λ image since. let told = subst (λ (n : ℕ). IsTold n since.0) size since.1 in so since.0 image told (since.2 ∙ size) ((each since.0 told).each image since.3);
  before = λ moment image le since.
      let told = subst (λ (n : ℕ). IsTold n since.0) size since.1 in
      ⊎_elim (λ was. inl (since.0, told, since.2 ∙ size, was)) (λ p. inr (so since.0 image told (since.2 ∙ size) p)) ((each since.0 told).before moment image le since.3);
}

-- two things that are left
pub leaves_both : (old new : Disk) (P Q : Image → Type 0) → LeavesOnly old new P → LeavesOnly old new Q → LeavesOnly old new (λ image. P image × Q image)
leaves_both old new P Q first second = record {
  later = first.later;
  each = λ image since. (first.each image since, second.each image since);
  before = λ moment image le since.
      ⊎_elim (λ was. inl was) (λ p. ⊎_elim (λ was. inl was) (λ q. inr (p, q)) (second.before moment image le since)) (first.before moment image le since);
}

-- a read, or a sync, adds no image
pub weak_keeps : (old new : Disk) → new.sectors ≡ old.sectors → new.seen ≡ old.seen → ((torn : List ℕ → Bool) → IsTold old.sectors torn → KeepsImages (tearing torn old) (tearing torn new)) → KeepsImages (weak old) (weak new)
weak_keeps old new size seen each = record {
  seen = seen;
  left = λ image left. let told = subst (λ (n : ℕ). IsTold n left.0) size left.1 in (left.0, told, (each left.0 told).left image left.2);
  any_moment = weak_leaves old new (λ torn. old.torn_left torn) (weak old).left size (λ torn told. (each torn told).any_moment) (λ torn image told long left. (torn, told, left));
}

pub model_coherent : (rides : Bool) (disk : Disk) → IsCoherent disk → ((torn : List ℕ → Bool) → IsTearing torn disk) → IsCoherent (model rides disk)
model_coherent false disk coherent tears = coherent
model_coherent true disk coherent tears = weak_coherent disk coherent tears

pub both_kept : (old new : Disk) (rides : Bool) → KeepsImages old new → KeepsImages (weak old) (weak new) → KeepsImages (model rides old) (model rides new)
both_kept old new false plain torn = plain
both_kept old new true plain torn = torn
