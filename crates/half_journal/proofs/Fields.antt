-- The fields of a commit sector are read again.
use Rattle.std.proofs.Common.{◌≡◌, ℕ, List, take, drop, sym, ◌∙◌, ap}
use Rattle.std.specs.Int.{w32, w64, from_be_bytes}
use Rattle.std.proofs.lemmas.Nat.{from_be_bytes-to_be_bytes_4, from_be_bytes-to_be_bytes_8}
use Rattle.half_journal.specs.Layout.{sector_of, Fits}
use Rattle.half_journal.specs.declared.commit_sector.Commit.{Commit}

-- what a sector says, if it is a commit sector
abbrev pub said_in : List ℕ → Commit
said_in s =
    record {
      format = from_be_bytes w32 (take 4 (drop 8 s));
      half = from_be_bytes w32 (take 4 (drop 12 s));
      length = from_be_bytes w64 (take 8 (drop 16 s));
      seq = from_be_bytes w64 (take 8 (drop 24 s));
      opens = from_be_bytes w64 (take 8 (drop 32 s));
      sectors = from_be_bytes w64 (take 8 (drop 40 s));
    }

pub said_is : (m : Commit) → Fits m → said_in (sector_of m) ≡ m
said_is m fits = λ i. record {
  format = from_be_bytes-to_be_bytes_4 m.format fits.format i;
  half = from_be_bytes-to_be_bytes_4 m.half fits.half i;
  length = from_be_bytes-to_be_bytes_8 m.length fits.length i;
  seq = from_be_bytes-to_be_bytes_8 m.seq fits.seq i;
  opens = from_be_bytes-to_be_bytes_8 m.opens fits.opens i;
  sectors = from_be_bytes-to_be_bytes_8 m.sectors fits.sectors i;
}

-- a sector is the commit sector of one commit
pub one_commit : (a b : Commit) → Fits a → Fits b → sector_of a ≡ sector_of b → a ≡ b
one_commit a b first second same = sym (said_is a first) ∙ ap said_in same ∙ said_is b second
