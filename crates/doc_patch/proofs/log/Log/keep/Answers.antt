use Rattle.std.proofs.Common.{◌≡◌, [], ◌∷◌, ◌++◌, map, ap, ◌∙◌, subst, rules}
use Rattle.std.proofs.lemmas.List.{map_push}
use Rattle.doc_edits.specs.Keeping.{TakesBack}
use Rattle.doc_patch.specs.Keeping.{kept}
use Rattle.doc_patch.specs.Undo.{steps_back}
use Rattle.doc_edits.specs.Back.{step_of}
use Rattle.doc_patch.proofs.Undoing.{others_left}
use Rattle.doc_patch.proofs.log.Log.keep.Goals as goal

pub returns-in-Some-clause-back : goal.returns-in-Some-clause-back
returns-in-Some-clause-back c d e h =
    let items : c.push.new.self.items ≡ c.args.self.now.steps.items ++ c.in-Some.step ∷ [] = search rules in
    let taken = subst (λ o. TakesBack o d e) c.in-Some.is h in
    ap (λ ss. steps_back ss e) (ap (map step_of) items ∙ map_push step_of c.args.self.now.steps.items c.in-Some.step)
    ∙ others_left (kept c.args.self.now) (step_of c.in-Some.step) e d taken
