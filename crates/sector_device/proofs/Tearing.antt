-- What a call does of a device whose sectors tear, it does of one over it.
use Rattle.std.proofs.Common.{inl, refl, arith, ℕ, List, Bool, Result}
use Rattle.sector_device.specs.Disk.{Disk, Elapses, Reads, Syncs, Tears, tearing}
use Rattle.sector_device.specs.Coherence.{not_torn}
use Rattle.sector_device.specs.Fuse.{fuse_disk}
use Rattle.sector_device.specs.declared.fuse.Fuse.{Fuse}
use Rattle.sector_device.proofs.FailedOnce.{over}

module _ {D : Type 0} (disk : D → Disk) (old new : Fuse D) (torn : List ℕ → Bool) where
  fused : Elapses (tearing torn (disk old.device)) (tearing torn (disk new.device)) → Elapses (tearing torn (fuse_disk disk old)) (tearing torn (fuse_disk disk new))
  fused below = record { later = below.later; nothing_else = below.nothing_else; keeps = below.keeps }

  pub reads_fused : {T E : Type 0} (at : ℕ) (content : List ℕ) (result : Result T E) → Reads (tearing torn (disk old.device)) (tearing torn (disk new.device)) at content result → Reads (tearing torn (fuse_disk disk old)) (tearing torn (fuse_disk disk new)) at content result
  reads_fused at content result reads = record { time = fused reads.time; seen = reads.seen; left = reads.left; given = reads.given }

  pub tears_fused : (at : ℕ) (content : List ℕ) → Tears torn (disk old.device) (disk new.device) at content → Tears torn (fuse_disk disk old) (fuse_disk disk new) at content
  tears_fused at content tears = record { time = fused tears.time; adds = tears.adds }

  pub syncs_fused : {T E : Type 0} (result : Result T E) → Syncs (tearing torn (disk old.device)) (tearing torn (disk new.device)) result → Syncs (tearing torn (fuse_disk disk old)) (tearing torn (fuse_disk disk new)) result
  syncs_fused result syncs = record { honest = syncs.honest; time = fused syncs.time; seen = syncs.seen; adds_none = syncs.adds_none; settled = syncs.settled }

module _ (torn : List ℕ → Bool) where
  pub tears_too : (old new : Disk) (was is : Bool) (at : ℕ) (content : List ℕ) → Tears torn old new at content → Tears torn (over old was) (over new is) at content
  tears_too old new was is at content tears = record { time = record { later = tears.time.later; nothing_else = tears.time.nothing_else; keeps = tears.time.keeps }; adds = tears.adds }

  -- a device that was not touched
  pub tears_none : (disk : Disk) (at : ℕ) (content : List ℕ) → Tears torn disk disk at content
  tears_none disk at content = record { time = record { later = omega arith; nothing_else = λ moment image le left. inl left; keeps = λ moment image le left. left }; adds = λ image left. (image, left, not_torn torn at content image) }
