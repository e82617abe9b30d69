-- What holds of an honest device since a run of calls began.
use Rattle.std.proofs.Common.{◌≡◌, ⊎_elim, ℕ, List, length, set, ◌∙◌, Result, IsErr, OnOk}
use Rattle.std.proofs.lemmas.Result.{MatchResult-from_err}
use Rattle.sector_device.specs.Disk.{Disk, Image, IsCoherent, LeavesOnly, OrReplaced}
use Rattle.sector_device.specs.Charges.{IsSame}
use Rattle.sector_device.specs.Sectors.{Over, OverSome}
use Rattle.sector_device.proofs.Moments.{joined, leaves_weaker, left_now, started}

pub no_ok : {T E : Type 0} (P : Type 0) (result : Result T E) → IsErr result → OnOk result P
no_ok P result err = MatchResult-from_err result (λ value. P) (λ fault. Unit {0}) err (λ fault. tt)

-- at any moment each image has P
pub record Since (before now : Disk) (sectors : ℕ) (P : Image → Type 0) : Type 0 where
  pub honest : now.honest
  pub coherent : IsCoherent now
  pub size : now.sectors ≡ sectors
  pub leaves : LeavesOnly before now P

pub begin : (before : Disk) (sectors : ℕ) (P : Image → Type 0) → before.honest → (before.honest → IsCoherent before) → before.sectors ≡ sectors → ((image : Image) → before.left image → P image) → Since before before sectors P
begin before sectors P honest coherent size here = record { honest = honest; coherent = coherent honest; size = size; leaves = started before P (coherent honest) here }

module _ {before now : Disk} {sectors : ℕ} {P : Image → Type 0} (since : Since before now sectors P) where
  pub left_has : (image : Image) → now.left image → P image
  left_has = left_now before now P since.coherent since.leaves

  pub wide : (image : Image) → now.left image → length image ≡ sectors
  wide image left = (since.coherent.shape image left).count ∙ since.size

  more : (next : Disk) → (next.honest → IsCoherent next) → IsSame now next → LeavesOnly now next P → Since before next sectors P
  more next coherent same leaves =
      let honest = same.honest.0 since.honest in
      record { honest = honest; coherent = coherent honest; size = same.size ∙ since.size; leaves = joined before now next P since.leaves leaves }

  -- a run of writes over which P stays
  pub since_run : (next : Disk) (first count : ℕ) (run : List ℕ) → (next.honest → IsCoherent next) → IsSame now next → ((image after : Image) → now.left image → P image → Over first count run image after → P after)
      → LeavesOnly now next (OverSome first count run now.left) → Since before next sectors P
  since_run next first count run coherent same stays leaves =
      more next coherent same (leaves_weaker now next (OverSome first count run now.left) P (λ image over. stays over.0 image over.1 (left_has over.0 over.1) over.2) leaves)

  -- no image is added
  pub since_settled : (next : Disk) → (next.honest → IsCoherent next) → IsSame now next → LeavesOnly now next now.left → Since before next sectors P
  since_settled next coherent same leaves = more next coherent same (leaves_weaker now next now.left P left_has leaves)

  -- sector 0 is replaced
  pub since_replaced : (next : Disk) (content : List ℕ) (Q : Image → Type 0) → ((image : Image) → P image → Q image) → ((image after : Image) → now.left image → after ≡ set image 0 content → Q after)
      → LeavesOnly now next (OrReplaced now.left 0 content) → LeavesOnly before next Q
  since_replaced next content Q weaker named leaves =
      joined before now next Q (leaves_weaker before now P Q weaker since.leaves)
      (leaves_weaker now next (OrReplaced now.left 0 content) Q (λ image. ⊎_elim (λ left. weaker image (left_has image left)) (λ from. named from.0 image from.1 from.2)) leaves)
