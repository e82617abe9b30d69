use Rattle.std.proofs.Common.{◌∙◌, ap}
use Rattle.doc_pointer.specs.Place.{resolve}
use Rattle.doc_edits.proofs.Tokens.{same_place}
use Rattle.doc_edits.proofs.size_change.extent_at.Goals as goal

pub returns-then-eq : goal.returns-then-eq
returns-then-eq c = λ d v is there.
    is c.in-Some.known c.in-Some.is v (ap (λ ks. resolve ks d) (same_place c.in-Some.known.path.now c.args.place.now c.eq.result c.eq.ensures c.if-eq.true) ∙ there)
