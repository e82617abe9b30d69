use Rattle.std.proofs.Common.{◌≡◌, ◌++◌, ◌∙◌, ◌∷◌, ◌-◌, [], ap, sym, drop, suc, arith}
use Rattle.std.proofs.lemmas.List.{map-append}
use Rattle.std.proofs.Math.Seq.{drop-cons}
use Rattle.path_select.specs.Paths.{location}
use Rattle.path_grammar.specs.Lent.{lent_place, lent_places}
use Rattle.path_select.proofs.Trails.{if_made, location-root, location-none, location-marked}
use Rattle.path_select.proofs.paths.+path_to.Goals as goal

pub returns-then-place-eq0 : goal.returns-then-place-eq0
returns-then-place-eq0 t c =
    if_made c.with_capacity.result (λ v h. ap lent_places h ∙ sym (location-root c.args.trail.now) ∙ ap (location c.args.trail.now) (sym c.if-place-eq0.true)) c.with_capacity.ensures.items

pub returns-in_ok-push-in-Some : goal.returns-in_ok-push-in-Some
returns-in_ok-push-in-Some t c =
    let ms = c.args.trail.now in
    let m = c.in-Some.mark.now in
    let n = c.args.place - 1 in
    let a = c.in-Some.ensures.lookup in
    let d = c.if-place-eq0.false in
    let k : suc n ≡ c.args.place = omega (arith, d) in
    ap lent_places c.in_ok-push-in-Some.ensures.items ∙ map-append lent_place c.in_ok-steps-in-Some.steps.items (m.step ∷ []) ∙ ap (λ l. l ++ lent_place m.step ∷ []) c.in_ok-steps-in-Some.ensures
    ∙ sym (location-marked ms m n a.3.0 (drop-cons ms n m a.3.0 ∙ ap (λ x. x ∷ drop (suc n) ms) (sym a.1))) ∙ ap (location ms) k

pub returns-in-None : goal.returns-in-None
returns-in-None t c =
    let a = c.in-None.ensures.lookup in
    let d = c.if-place-eq0.false in
    let h = a.3 in
    ap lent_places c.new.ensures.items ∙ sym (location-none c.args.trail.now c.args.place (omega (arith, h, d)))
