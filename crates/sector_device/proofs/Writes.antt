-- Writes one after another, over a whole image and over one sector of it.
use Rattle.std.proofs.Common.{◌≡◌, ℕ, ◌/◌, List, [], ◌∷◌, ◌++◌, set, refl, ap, ◌∙◌, Bool, true, false, nat_eq, if◌then◌else◌, ◌||◌}
use Rattle.sector_device.specs.Disk.{Image}
use Rattle.sector_device.specs.Kept.{put_all, written_near, written_to}
use Rattle.sector_device.specs.declared.unsettled.Unsettled.{Unsettled}

pub put_push : (image : Image) (writes : List Unsettled) (write : Unsettled) → put_all image (writes ++ write ∷ []) ≡ set (put_all image writes) write.at write.content
put_push image [] write = refl
put_push image (first ∷ writes) write = put_push (set image first.at first.content) writes write

pub written_push : (i : ℕ) (writes : List Unsettled) (write : Unsettled) → written_to i (writes ++ write ∷ []) ≡ (if nat_eq write.at i then written_to i writes ++ write.content ∷ [] else written_to i writes)
written_push i [] write = refl
written_push i (first ∷ writes) write = one (nat_eq first.at i) (nat_eq write.at i) (written_push i writes write)
  where
    one : (here there : Bool) → written_to i (writes ++ write ∷ []) ≡ (if there then written_to i writes ++ write.content ∷ [] else written_to i writes)
        → (if here then first.content ∷ written_to i (writes ++ write ∷ []) else written_to i (writes ++ write ∷ []))
        ≡ (if there then (if here then first.content ∷ written_to i writes else written_to i writes) ++ write.content ∷ [] else (if here then first.content ∷ written_to i writes else written_to i writes))
    one true true is = ap (λ (l : List (List ℕ)). first.content ∷ l) is
    one true false is = ap (λ (l : List (List ℕ)). first.content ∷ l) is
    one false there is = is

or_turned : (x y z : Bool) → (x || (y || z)) ≡ ((x || y) || z)
or_turned true y z = refl
or_turned false y z = refl

or_false : (x : Bool) → (x || false) ≡ (false || x)
or_false true = refl
or_false false = refl

pub near_push : (i : ℕ) (writes : List Unsettled) (write : Unsettled) → written_near i (writes ++ write ∷ []) ≡ (written_near i writes || nat_eq (write.at / 8) (i / 8))
near_push i [] write = or_false (nat_eq (write.at / 8) (i / 8))
near_push i (first ∷ writes) write = ap (λ (b : Bool). nat_eq (first.at / 8) (i / 8) || b) (near_push i writes write) ∙ or_turned (nat_eq (first.at / 8) (i / 8)) (written_near i writes) (nat_eq (write.at / 8) (i / 8))
