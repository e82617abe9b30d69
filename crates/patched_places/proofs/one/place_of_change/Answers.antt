use Rattle.doc_edits.specs.Change.{tokens_of}
use Rattle.patched_places.proofs.Agreeing.{kept_agrees}
use Rattle.patched_places.proofs.one.place_of_change.Goals as goal

pub returns-in-Some-reach_of-clause-some : goal.returns-in-Some-reach_of-clause-some
returns-in-Some-reach_of-clause-some c = λ before made h. kept_agrees (tokens_of c.in-Some-reach_of.place.now) before made (c.in-Some-reach_of.ensures.some before made h)
