use Rattle.doc_tree.specs.TreeView.{view}
use Rattle.doc_patch.specs.Meaning.{operations}
use Rattle.patched_places.proofs.Agreeing.{made_agrees}
use Rattle.patched_places.proofs.changed.changed_steps.Goals as goal

pub returns-in_ok-steps-in-Some-clause-some : goal.returns-in_ok-steps-in-Some-clause-some
returns-in_ok-steps-in-Some-clause-some c =
    let made = view c.args.made.now in
    made_agrees (operations c.args.changes.now) _ made c.in_ok-steps-in-Some.steps c.new.result.items c.new.ensures.items c.in_ok-steps-in-Some.ensures (λ before h. c.in-Some.ensures.some before made h)
