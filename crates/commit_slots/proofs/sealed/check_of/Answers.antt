use Rattle.std.proofs.Common.{◌≡◌, List, ℕ, ◌∙◌, ap, length, take, drop, arith}
use Rattle.std.proofs.lemmas.List.{take_all, length-drop}
use Rattle.std.specs.Int.{w32, to_be_bytes}
use Rattle.checksum.specs.Crc.{crc_of}
use Rattle.commit_slots.proofs.sealed.check_of.Goals as goal

rest_is : (sector : List ℕ) → length sector ≡ 512 → take 496 (drop 16 sector) ≡ drop 16 sector
rest_is sector whole = take_all 496 (drop 16 sector) (omega (arith, length-drop 16 sector, whole))

pub returns : goal.returns
returns c = c.to_be_bytes.ensures ∙ ap (to_be_bytes w32) (c.crc32c.ensures ∙ ap crc_of (rest_is c.args.sector.now c.told-sector))
