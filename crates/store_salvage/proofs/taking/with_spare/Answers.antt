use Rattle.std.proofs.Common.{◌∙◌, List, ℕ, length, refl, subst, sym}
use Rattle.std.proofs.lemmas.Option.{slice_get_read}
use Rattle.frame_search.specs.Places.{StandsAt, logged_in}
use Rattle.store_salvage.specs.Gathering.{placed_of}
use Rattle.store_salvage.proofs.Gathers.{adds_one, of_found}
use Rattle.store_salvage.proofs.taking.with_spare.Goals as goal

pub returns-else-is_noted-clause-adds : goal.returns-else-is_noted-clause-adds
returns-else-is_noted-clause-adds c =
    let f = c.in-Some-2.found in
    let is = of_found _ c.in_ok-next_frame.field-0 f c.in-Some-2.is c.in_ok-next_frame.ensures.found in
    let parts = c.args.parts.now in
    let part = c.in-Some.part.now in
    adds_one parts (placed_of f) c.args.gathered c.with_change.result
    (record {
      place = c.args.spare.part;
      part = part;
      is = slice_get_read parts (length parts) c.args.spare.part part refl c.in-Some.ensures.lookup.3.0 c.in-Some.ensures.lookup.1;
      stands = subst (λ (l : List ℕ). StandsAt 3 l f.at (logged_in f) f.len) c.deref.ensures.value is.1;
      change = sym c.is_noted.ensures ∙ c.if-is_noted.false;
    })
    c.with_change.ensures.added
