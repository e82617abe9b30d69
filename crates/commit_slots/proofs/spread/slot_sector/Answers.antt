use Rattle.std.proofs.Common.{◌++◌, ◌∙◌, List, ℕ, ap}
use Rattle.commit_slots.specs.Sealed.{sealed, rest_of}
use Rattle.commit_slots.specs.Slots.{piece_of, slot_sector}
use Rattle.commit_slots.proofs.spread.slot_sector.Goals as goal

pub returns : goal.returns
unfolding slot_sector
returns c =
    c.seal.ensures
    ∙ ap (λ (p : List ℕ). sealed (rest_of c.args.slot.now.number c.args.k p)) (c.piece_at.ensures ∙ ap (λ (n : List ℕ). piece_of c.args.k (n ++ c.args.tail.now)) c.numbers_of-numbers.ensures)
