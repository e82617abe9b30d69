use Rattle.std.proofs.Common.{◌≡◌, ◌||◌, ◌∙◌, ◌∷◌, [], ap, append-nil, false, refl, sym}
use Rattle.path_tables.proofs.Once.{more_on}
use Rattle.path_tables.specs.FilterTables.{picks_view}
use Rattle.path_tables.specs.Visiting.{refused_at}
use Rattle.path_tables.specs.declared.by_number.Listing.{Listing}
use Rattle.path_plans.specs.Planned.{choices_refused}
use Rattle.path_select.proofs.Gathering.{both_false}
use Rattle.path_select.specs.Indexed.{at_number}
use Rattle.path_tables.proofs.by_number.and_here.Goals as goal

pub returns : goal.returns
returns c =
    let x = c.args.index.now in
    let p = c.args.phase.now in
    let ss = picks_view p.picks.items in
    let u = at_number x c.args.number in
    let picked = c.in_ok-all_picked.field-0 in
    let h = c.in_ok-all_picked.ensures in
    let k = c.in_ok-found.ensures in
    let m : Listing = record { found = c.in_ok-found.found; visits = c.args.listing.visits } in
    let free : refused_at ss (u ∷ []) ≡ false = ap (λ b. b || false) (both_false (choices_refused ss u.1) _ h.0).0 in
    more_on x p (u ∷ []) c.args.listing m picked.items free (h.1 ∙ sym (append-nil _)) c.requires.begun.1 k.0 k.1 refl
