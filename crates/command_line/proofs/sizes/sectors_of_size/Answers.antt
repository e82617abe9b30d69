use Rattle.std.proofs.Common.{◌≡◌, ℕ, Option, ap, arith, unwrap_or}
use Rattle.command_line.proofs.sizes.sectors_of_size.Goals as goal
use Rattle.command_line.proofs.sizes.sectors_of_size.Goals.{else-sectors-ge-MIN_SECTORS-via-then-sectors-ge-MIN_SECTORS+else-sectors-le-MAX_SECTORS, else-sectors-ge-MIN_SECTORS-via-else-sectors-ge-MIN_SECTORS}

pub returns-else-sectors-ge-MIN_SECTORS-clause-held : goal.returns-else-sectors-ge-MIN_SECTORS-clause-held
returns-else-sectors-ge-MIN_SECTORS-clause-held c = λ sectors least most spells.
    let same : c.in_ok-sectors.sectors ≡ sectors = ap (λ (o : Option ℕ). unwrap_or o 0) (c.in_ok-sectors.ensures.held sectors most spells) in
    elim c.else-sectors-ge-MIN_SECTORS.branch [
      | else-sectors-ge-MIN_SECTORS-via-then-sectors-ge-MIN_SECTORS+else-sectors-le-MAX_SECTORS w ↦ absurd (omega (arith, same))
      | else-sectors-ge-MIN_SECTORS-via-else-sectors-ge-MIN_SECTORS w ↦ absurd (omega (arith, same))
    ]
