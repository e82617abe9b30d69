use Rattle.std.proofs.Common.{◌≡◌, ◌+◌, suc, map, drop, ap, subst, arith}
use Rattle.std.proofs.lemmas.List.{drop_all}
use Rattle.schema_references.proofs.Listed.{Listing, listed_all, listing, listing_on, next_left}
use Rattle.schema_references.proofs.whole.listed.Goals as goal

pub loop-name-init : goal.loop-name-init
loop-name-init c = listing (map (λ s. s.now) c.args.names.now) c.new.result c.new.ensures.empty

pub loop-name-preserved : goal.loop-name-preserved
loop-name-preserved c =
    let i = c.loop-name.name-index in
    let names = c.args.names.now in
    let one : suc i ≡ i + 1 = omega arith in
    subst (λ m. Listing (map (λ s. s.now) names) c.in_ok-all.all.names c.in_ok-all.all.are_different (map (λ s. s.now) (drop m names))) one
    (listing_on _ c.loop-name.all.names c.in_ok-all.all.names c.loop-name.all.are_different c.in_ok-all.all.are_different _ _ _ c.loop-name.invariant (next_left i names _ c.loop-name-test.true) c.in_ok-all.ensures.kept c.in_ok-all.ensures.known)

pub returns : goal.returns
returns c = listed_all _ c.loop-name.all.names c.loop-name.all.are_different _ c.loop-name.invariant (ap (map (λ s. s.now)) (drop_all c.loop-name.name-index c.args.names.now c.loop-name-test.false))
