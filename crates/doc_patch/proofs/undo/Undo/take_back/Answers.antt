use Rattle.std.proofs.Common.{◌≡◌, [], ◌∷◌, ◌++◌, map, is_some, sym, ap, ◌∙◌}
use Rattle.std.proofs.lemmas.List.{map_push}
use Rattle.doc_tree.specs.TreeView.{view}
use Rattle.doc_patch.specs.Undo.{steps_back}
use Rattle.doc_edits.specs.Back.{step_of}
use Rattle.doc_patch.proofs.Undoing.{last_can, others_left}
use Rattle.doc_patch.proofs.undo.Undo.take_back.Goals as goal

pub take_step_back-requires : goal.take_step_back-requires
take_step_back-requires c =
    let all : map step_of c.loop-step.steps.items ≡ map step_of c.pop.new.self.items ++ step_of c.in-Some.step ∷ [] = ap (map step_of) c.in-Some.ensures.items ∙ map_push step_of c.pop.new.self.items c.in-Some.step in
    last_can (map step_of c.pop.new.self.items) (step_of c.in-Some.step) (view c.loop-step.tree) (ap (λ ss. is_some (steps_back ss (view c.loop-step.tree))) (sym all) ∙ c.loop-step.invariant.1)

pub loop-step-preserved : goal.loop-step-preserved
loop-step-preserved c =
    let all : map step_of c.loop-step.steps.items ≡ map step_of c.pop.new.self.items ++ step_of c.in-Some.step ∷ [] = ap (map step_of) c.in-Some.ensures.items ∙ map_push step_of c.pop.new.self.items c.in-Some.step in
    let left = ap (λ ss. steps_back ss (view c.loop-step.tree)) all ∙ others_left (map step_of c.pop.new.self.items) (step_of c.in-Some.step) (view c.loop-step.tree) (view c.take_step_back.new.tree) c.take_step_back.ensures in
    (sym left ∙ c.loop-step.invariant.0, ap is_some (sym left) ∙ c.loop-step.invariant.1)
