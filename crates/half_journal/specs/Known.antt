-- The properties of what an open journal knows of its state.
use Rattle.std.specs.Prelude.{◌≡◌, ℕ, ◌+◌, ◌-◌, ◌*◌, ◌/◌, ◌%◌, ◌≤◌, length, take, drop, if◌then◌else◌}
use Rattle.half_journal.specs.Layout.{IsFormat, IsHalfSized, half_capacity}
use Rattle.half_journal.specs.States.{HalfState, commit_of, one_more}
use Rattle.half_journal.specs.declared.commit_sector.Commit.{Commit}
use Rattle.half_journal.specs.declared.known.HalfKnown.{HalfKnown}
use Rattle.half_journal.specs.declared.update.Base.{Base}
use Rattle.half_journal.specs.declared.update.Base.TheVariants.{Kept, Written, Copied}
use Rattle.half_journal.specs.declared.update.Update.{Update}

-- its numbers fit a device of `sectors` sectors
pub record IsFormed (sectors : ℕ) (known : HalfKnown) : Type 0 where
  pub size : known.commit.sectors ≡ sectors
  pub sized : IsHalfSized sectors
  pub version_fits : IsFormat known.commit.format
  pub half_fits : known.commit.half ≤ 1
  pub used_fits : known.commit.length ≤ half_capacity sectors

-- so it has to be for this state: the commit, and the bytes of the last sector
pub record Knows (known : HalfKnown) (c : HalfState) : Type 0 where
  pub commit_is : known.commit ≡ commit_of c known.commit.sectors
  pub tail_is : take (length c.bytes % 512) known.tail ≡ drop (512 * (length c.bytes / 512)) c.bytes

-- the format, the half and the number of bytes with which a commit begins
abbrev pub version_begun : ℕ → Base → ℕ
version_begun version Kept = version
version_begun _ (Written target version) = version
version_begun _ (Copied target version) = version

abbrev pub half_begun : ℕ → Base → ℕ
half_begun half Kept = half
half_begun half (Written target version) = 1 - half
half_begun half (Copied target version) = 1 - half

abbrev pub used_begun : ℕ → Base → ℕ
used_begun used Kept = used
used_begun used (Written target version) = length target.now
used_begun used (Copied target version) = length target.now

-- the commit sector that the commit writes
abbrev pub commit_after : Commit → Update → Commit
commit_after commit update =
    record {
      format = version_begun commit.format update.base;
      half = half_begun commit.half update.base;
      length = used_begun commit.length update.base + length update.frames.now;
      seq = commit.seq + update.adds;
      opens = if update.counts_opening then one_more commit.opens else commit.opens;
      sectors = commit.sectors;
    }
