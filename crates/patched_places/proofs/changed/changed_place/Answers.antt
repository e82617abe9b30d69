use Rattle.doc_edits.specs.Change.{tokens_of}
use Rattle.doc_patch.specs.Meaning.{operations}
use Rattle.patched_places.proofs.Agreeing.{reached_agrees}
use Rattle.patched_places.proofs.changed.changed_place.Goals as goal

pub returns-in-None-only_end-clause-some : goal.returns-in-None-only_end-clause-some
returns-in-None-only_end-clause-some c = reached_agrees (operations c.args.changes.now) (tokens_of c.in-Some.reached.now) c.in-Some.ensures.some
