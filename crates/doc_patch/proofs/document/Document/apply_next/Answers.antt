use Rattle.std.proofs.Common.{◌+◌, ◌≤◌, ◌∙◌, ◌∷◌, length, sym, ap, arith}
use Rattle.doc_edits.specs.Meaning.{meaning}
use Rattle.doc_edits.specs.Operation.{change}
use Rattle.doc_patch.proofs.Single.{made_within}
use Rattle.doc_patch.proofs.document.Document.apply_next.Goals as goal

pub overflow_add-result : goal.overflow_add-result
overflow_add-result c =
    let few : c.args.progress.made + length (meaning c.args.operation.now ∷ c.requires.0) ≤ 0xffff_ffff_ffff_ffff = c.requires.3.few in
    omega (arith, few)

pub returns-in-Ok-clause-made : goal.returns-in-Ok-clause-made
returns-in-Ok-clause-made c = ap (change (meaning c.args.operation.now)) (sym c.self.view_is) ∙ made_within (meaning c.args.operation.now) _ _ c.in-Ok.ensures.made.0
