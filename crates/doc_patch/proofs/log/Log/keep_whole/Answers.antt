use Rattle.std.proofs.Common.{map, sym, ap, ◌∙◌}
use Rattle.std.proofs.lemmas.List.{map_push}
use Rattle.doc_tree.specs.TreeView.{view}
use Rattle.doc_patch.specs.Keeping.{kept}
use Rattle.doc_patch.specs.Undo.{steps_back}
use Rattle.doc_edits.specs.Back.{step_of}
use Rattle.doc_patch.proofs.Undoing.{others_left}
use Rattle.doc_patch.proofs.log.Log.keep_whole.Goals as goal

pub returns-in_ok-push-clause-back : goal.returns-in_ok-push-clause-back
returns-in_ok-push-clause-back c =
    let d = view c.args.tree.now in
    ap (λ ss. steps_back ss d) (ap (map step_of) c.in_ok-push.ensures.items ∙ map_push step_of c.args.self.now.steps.items c.in_ok-step.step)
    ∙ others_left (kept c.args.self.now) (step_of c.in_ok-step.step) d d (c.in_ok-step.ensures d)

pub returns-in_ok-push-clause-whole : goal.returns-in_ok-push-clause-whole
returns-in_ok-push-clause-whole c _ d e =
    let all = ap (map step_of) c.in_ok-push.ensures.items ∙ map_push step_of c.args.self.now.steps.items c.in_ok-step.step in
    let one = ap (λ ss. steps_back ss d) all ∙ others_left (kept c.args.self.now) (step_of c.in_ok-step.step) d (view c.args.tree.now) (c.in_ok-step.ensures d) in
    let other = ap (λ ss. steps_back ss e) all ∙ others_left (kept c.args.self.now) (step_of c.in_ok-step.step) e (view c.args.tree.now) (c.in_ok-step.ensures e) in
    one ∙ sym other
