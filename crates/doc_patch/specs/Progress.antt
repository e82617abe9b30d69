-- A patch that is made of a document operation by operation.
use Rattle.std.specs.Prelude.{◌≡◌, ◌≤◌, ◌+◌, List, Some, length}
use Rattle.std.specs.Option.{ForSome}
use Rattle.doc_tree.specs.Doc.{Doc}
use Rattle.doc_tree.specs.Sound.{IsSound}
use Rattle.doc_edits.specs.Operation.{Operation}
use Rattle.doc_edits.specs.Size.{size}
use Rattle.doc_edits.specs.SizeChange.{IsKnown}
use Rattle.doc_patch.specs.Held.{capped, copied, siblings, sum}
use Rattle.doc_patch.specs.Keeping.{IsWhole, kept}
use Rattle.doc_patch.specs.Measured.{IsWithin}
use Rattle.doc_patch.specs.Patch.{patch, patch_from}
use Rattle.doc_patch.specs.Undo.{steps_back}
use Rattle.doc_patch.specs.declared.progress.Progress.{Progress}

-- The patch `os` of the document `before` led to `now` until here, and the operations `left` are still to be made.
pub record IsUnderWay (p : Progress) (left os : List Operation) (before now : Doc) : Type 0 where
  -- they make of this document what the patch makes
  pub rest : patch_from p.made left now ≡ patch os before
  pub few : p.made + length left ≤ 0xffff_ffff_ffff_ffff
  -- what was kept leads back
  pub back : steps_back (kept p.log) now ≡ Some before
  pub whole : IsWhole p.log
  pub known : ForSome p.known (λ k. IsKnown k now)
  -- what was counted, and what they count, is what the patch counts
  pub copies : capped (p.log.copied + sum copied left now) ≡ capped (sum copied os before)
  pub takes : capped (p.log.siblings + sum siblings left now) ≡ capped (sum siblings os before)
  pub len : p.len ≡ size before
  pub within : IsWithin before
  pub sound : IsSound before
