use Rattle.std.proofs.Common.{◌≡◌, ◌<◌, length, map, sym, ap, ◌∙◌, arith}
use Rattle.std.proofs.Math.ListN.{get_or-map}
use Rattle.std.proofs.lemmas.List.{length-map}
use Rattle.std.specs.Str.{bytes_eq}
use Rattle.schema_nodes.proofs.Searches.{found_here, found_later}
use Rattle.schema_nodes.proofs.rules.number_in.Goals as goal

pub returns-then-eq : goal.returns-then-eq
returns-then-eq c =
    let l = c.loop-number in
    let ts = c.args.texts.now in
    let below : l.number < length ts = c.loop-number-test.true in
    found_here (map (λ s. s.now) ts) c.args.text.now _ l.number (rw (length-map ts (λ s. s.now)) below) _ (ap (λ p. bytes_eq p c.args.text.now) (get_or-map (λ s. s.now) ts l.number _) ∙ sym c.if-eq.ensures) l.invariant.1

pub loop-number-preserved : goal.loop-number-preserved
loop-number-preserved c =
    let l = c.loop-number in
    let ts = c.args.texts.now in
    let below : l.number < length ts = c.loop-number-test.true in
    (omega (arith, below), found_later (map (λ s. s.now) ts) c.args.text.now _ l.number (rw (length-map ts (λ s. s.now)) below) _ (ap (λ p. bytes_eq p c.args.text.now) (get_or-map (λ s. s.now) ts l.number _) ∙ sym c.if-eq.ensures) l.invariant.1)
