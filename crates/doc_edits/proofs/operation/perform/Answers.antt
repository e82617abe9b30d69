use Rattle.std.proofs.Common.{◌≡◌, sym, ap, ◌∙◌, subst, refl, inr, Ok, MatchResult, option_map}
use Rattle.std.proofs.lemmas.Result.{IfOk-from_err}
use Rattle.doc_tree.specs.TreeView.{view}
use Rattle.doc_edits.specs.Change.{tokens_of}
use Rattle.doc_edits.specs.Edit.{replace}
use Rattle.doc_edits.specs.SizeChange.{Grew}
use Rattle.doc_edits.specs.Meaning.{meaning}
use Rattle.doc_edits.specs.Operation.{change, gone, or_missing}
use Rattle.doc_edits.specs.OperationFault.{IsOperationFaultOf, IsMissing}
use Rattle.doc_edits.specs.declared.operation.Done.{Done}
use Rattle.doc_edits.proofs.Performed.{refused_as, refused_missing, nothing_known, with_most}
use Rattle.doc_edits.proofs.Restored.{readied}
use Rattle.doc_edits.proofs.operation.perform.Goals as goal

pub returns-in_err-add-in-Add-clause-made : goal.returns-in_err-add-in-Add-clause-made
returns-in_err-add-in-Add-clause-made c = refused_as c.args.operation.now _ (view c.args.tree.now) c.from_residual.result _ _ c.in-Add.is c.in_err-add-in-Add.ensures.made c.from_residual.ensures.1

pub returns-in_err-add-in-Add-clause-grown : goal.returns-in_err-add-in-Add-clause-grown
returns-in_err-add-in-Add-clause-grown c = IfOk-from_err c.from_residual.result _ c.from_residual.ensures.0

pub returns-in_err-add-in-Add-clause-known : goal.returns-in_err-add-in-Add-clause-known
returns-in_err-add-in-Add-clause-known c = IfOk-from_err c.from_residual.result _ c.from_residual.ensures.0

pub returns-in_err-add-in-Add-clause-sound : goal.returns-in_err-add-in-Add-clause-sound
returns-in_err-add-in-Add-clause-sound c _ = IfOk-from_err c.from_residual.result _ c.from_residual.ensures.0

pub returns-in_err-remove-in-Remove-clause-made : goal.returns-in_err-remove-in-Remove-clause-made
returns-in_err-remove-in-Remove-clause-made c = refused_as c.args.operation.now _ (view c.args.tree.now) c.from_residual-in_err-remove-in-Remove.result _ _ c.in-Remove.is c.in_err-remove-in-Remove.ensures.made c.from_residual-in_err-remove-in-Remove.ensures.1

pub returns-in_err-remove-in-Remove-clause-grown : goal.returns-in_err-remove-in-Remove-clause-grown
returns-in_err-remove-in-Remove-clause-grown c = IfOk-from_err c.from_residual-in_err-remove-in-Remove.result _ c.from_residual-in_err-remove-in-Remove.ensures.0

pub returns-in_err-remove-in-Remove-clause-known : goal.returns-in_err-remove-in-Remove-clause-known
returns-in_err-remove-in-Remove-clause-known c = IfOk-from_err c.from_residual-in_err-remove-in-Remove.result _ c.from_residual-in_err-remove-in-Remove.ensures.0

pub returns-in_err-remove-in-Remove-clause-sound : goal.returns-in_err-remove-in-Remove-clause-sound
returns-in_err-remove-in-Remove-clause-sound c _ = IfOk-from_err c.from_residual-in_err-remove-in-Remove.result _ c.from_residual-in_err-remove-in-Remove.ensures.0

pub returns-in_err-value-in-Replace-clause-made : goal.returns-in_err-value-in-Replace-clause-made
returns-in_err-value-in-Replace-clause-made c = refused_as c.args.operation.now _ (view c.args.tree.now) c.from_residual-in_err-value-in-Replace.result _ _ c.in-Replace.is (inr refl) c.from_residual-in_err-value-in-Replace.ensures.1

pub returns-in_err-value-in-Replace-clause-grown : goal.returns-in_err-value-in-Replace-clause-grown
returns-in_err-value-in-Replace-clause-grown c = IfOk-from_err c.from_residual-in_err-value-in-Replace.result _ c.from_residual-in_err-value-in-Replace.ensures.0

pub returns-in_err-value-in-Replace-clause-known : goal.returns-in_err-value-in-Replace-clause-known
returns-in_err-value-in-Replace-clause-known c = IfOk-from_err c.from_residual-in_err-value-in-Replace.result _ c.from_residual-in_err-value-in-Replace.ensures.0

pub returns-in_err-value-in-Replace-clause-sound : goal.returns-in_err-value-in-Replace-clause-sound
returns-in_err-value-in-Replace-clause-sound c _ = IfOk-from_err c.from_residual-in_err-value-in-Replace.result _ c.from_residual-in_err-value-in-Replace.ensures.0

pub returns-in_err-replace-in-Replace-clause-made : goal.returns-in_err-replace-in-Replace-clause-made
returns-in_err-replace-in-Replace-clause-made c =
    let ks = tokens_of c.tokens.result.now in
    let d = view c.args.tree.now in
    let e = c.in_err-replace-in-Replace.field-0.0 in
    let here = subst (λ v. IsMissing (replace ks v d) e) c.in_ok-value-in-Replace.ensures.same c.in_err-replace-in-Replace.ensures.made in
    let there = subst (λ k. IsMissing (replace k (view c.in-Replace.value) d) e) c.tokens.ensures here in
    refused_as c.args.operation.now _ d c.from_residual-in_err-replace-in-Replace.result e _ c.in-Replace.is (refused_missing _ e there) c.from_residual-in_err-replace-in-Replace.ensures.1

pub returns-in_err-replace-in-Replace-clause-grown : goal.returns-in_err-replace-in-Replace-clause-grown
returns-in_err-replace-in-Replace-clause-grown c = IfOk-from_err c.from_residual-in_err-replace-in-Replace.result _ c.from_residual-in_err-replace-in-Replace.ensures.0

pub returns-in_err-replace-in-Replace-clause-known : goal.returns-in_err-replace-in-Replace-clause-known
returns-in_err-replace-in-Replace-clause-known c = IfOk-from_err c.from_residual-in_err-replace-in-Replace.result _ c.from_residual-in_err-replace-in-Replace.ensures.0

pub returns-in_err-replace-in-Replace-clause-sound : goal.returns-in_err-replace-in-Replace-clause-sound
returns-in_err-replace-in-Replace-clause-sound c _ = IfOk-from_err c.from_residual-in_err-replace-in-Replace.result _ c.from_residual-in_err-replace-in-Replace.ensures.0

pub returns-in_err-growth-in-Test-clause-made : goal.returns-in_err-growth-in-Test-clause-made
returns-in_err-growth-in-Test-clause-made c = refused_as c.args.operation.now _ (view c.args.tree.now) c.from_residual-in_err-growth-in-Test.result _ _ c.in-Test.is c.in_err-growth-in-Test.ensures.made c.from_residual-in_err-growth-in-Test.ensures.1

pub returns-in_err-growth-in-Test-clause-grown : goal.returns-in_err-growth-in-Test-clause-grown
returns-in_err-growth-in-Test-clause-grown c = IfOk-from_err c.from_residual-in_err-growth-in-Test.result _ c.from_residual-in_err-growth-in-Test.ensures.0

pub returns-in_err-growth-in-Test-clause-known : goal.returns-in_err-growth-in-Test-clause-known
returns-in_err-growth-in-Test-clause-known c = IfOk-from_err c.from_residual-in_err-growth-in-Test.result _ c.from_residual-in_err-growth-in-Test.ensures.0

pub returns-in_err-growth-in-Test-clause-sound : goal.returns-in_err-growth-in-Test-clause-sound
returns-in_err-growth-in-Test-clause-sound c _ = IfOk-from_err c.from_residual-in_err-growth-in-Test.result _ c.from_residual-in_err-growth-in-Test.ensures.0

pub returns-in_ok-add-in-Add-clause-made : goal.returns-in_ok-add-in-Add-clause-made
returns-in_ok-add-in-Add-clause-made c = ap (λ o. change (meaning o) (view c.args.tree.now)) c.in-Add.is ∙ c.in_ok-add-in-Add.ensures.made

pub returns-in_ok-add-in-Add-clause-grown : goal.returns-in_ok-add-in-Add-clause-grown
returns-in_ok-add-in-Add-clause-grown c = subst (λ (o : Done). Grew c.args.most o.growth (view c.args.tree.now) (view c.add.new.tree)) (sym c.of.ensures) (c.in_ok-add-in-Add.ensures.grown c.args.most)

pub returns-in_ok-add-in-Add-clause-known : goal.returns-in_ok-add-in-Add-clause-known
returns-in_ok-add-in-Add-clause-known c = nothing_known c.of.result.known _ (ap (λ (o : Done). o.known) c.of.ensures)

pub returns-in_ok-add-in-Add-clause-sound : goal.returns-in_ok-add-in-Add-clause-sound
returns-in_ok-add-in-Add-clause-sound c = c.in_ok-add-in-Add.ensures.sound

pub returns-in_ok-remove-in-Remove-clause-made : goal.returns-in_ok-remove-in-Remove-clause-made
returns-in_ok-remove-in-Remove-clause-made c = ap (λ o. change (meaning o) (view c.args.tree.now)) c.in-Remove.is ∙ c.in_ok-remove-in-Remove.ensures.made

pub returns-in_ok-remove-in-Remove-clause-sound : goal.returns-in_ok-remove-in-Remove-clause-sound
returns-in_ok-remove-in-Remove-clause-sound c = c.in_ok-remove-in-Remove.ensures.sound

pub returns-in_ok-replace-in-Replace-clause-made : goal.returns-in_ok-replace-in-Replace-clause-made
returns-in_ok-replace-in-Replace-clause-made c =
    let ks = tokens_of c.tokens.result.now in
    let d = view c.args.tree.now in
    ap (λ o. change (meaning o) (view c.args.tree.now)) c.in-Replace.is ∙ ap (λ k. or_missing (replace k (view c.in-Replace.value) d)) (sym c.tokens.ensures)
    ∙ ap (λ v. or_missing (replace ks v d)) (sym c.in_ok-value-in-Replace.ensures.same) ∙ ap or_missing c.in_ok-replace-in-Replace.ensures.made

pub returns-in_err-moved-in-Move-clause-made : goal.returns-in_err-moved-in-Move-clause-made
returns-in_err-moved-in-Move-clause-made c = refused_as c.args.operation.now _ (view c.args.tree.now) c.from_residual-in_err-moved-in-Move.result _ _ c.in-Move.is c.in_err-moved-in-Move.ensures.made c.from_residual-in_err-moved-in-Move.ensures.1

pub returns-in_err-moved-in-Move-clause-grown : goal.returns-in_err-moved-in-Move-clause-grown
returns-in_err-moved-in-Move-clause-grown c = IfOk-from_err c.from_residual-in_err-moved-in-Move.result _ c.from_residual-in_err-moved-in-Move.ensures.0

pub returns-in_err-moved-in-Move-clause-known : goal.returns-in_err-moved-in-Move-clause-known
returns-in_err-moved-in-Move-clause-known c = IfOk-from_err c.from_residual-in_err-moved-in-Move.result _ c.from_residual-in_err-moved-in-Move.ensures.0

pub returns-in_err-moved-in-Move-clause-sound : goal.returns-in_err-moved-in-Move-clause-sound
returns-in_err-moved-in-Move-clause-sound c _ = IfOk-from_err c.from_residual-in_err-moved-in-Move.result _ c.from_residual-in_err-moved-in-Move.ensures.0

pub returns-in_ok-moved-in-Move-clause-made : goal.returns-in_ok-moved-in-Move-clause-made
returns-in_ok-moved-in-Move-clause-made c = ap (λ o. change (meaning o) (view c.args.tree.now)) c.in-Move.is ∙ c.in_ok-moved-in-Move.ensures.made

pub returns-in_ok-moved-in-Move-clause-gone : goal.returns-in_ok-moved-in-Move-clause-gone
returns-in_ok-moved-in-Move-clause-gone c = λ stays. ap (λ o. gone (meaning o) (view c.args.tree.now)) (sym c.in-Move.is)

pub returns-in_ok-add-in-Add-clause-gone : goal.returns-in_ok-add-in-Add-clause-gone
returns-in_ok-add-in-Add-clause-gone c = λ stays. ap (λ (o : Done). option_map view o.gone) c.of.ensures ∙ c.in_ok-add-in-Add.ensures.gone ∙ ap (λ o. gone (meaning o) (view c.args.tree.now)) (sym c.in-Add.is)

pub returns-in_ok-remove-in-Remove-clause-gone : goal.returns-in_ok-remove-in-Remove-clause-gone
returns-in_ok-remove-in-Remove-clause-gone c = λ stays. ap (λ (o : Done). option_map view o.gone) c.of-in-Remove.ensures ∙ c.in_ok-remove-in-Remove.ensures.gone ∙ ap (λ o. gone (meaning o) (view c.args.tree.now)) (sym c.in-Remove.is)

pub returns-in-Copy-clause-gone : goal.returns-in-Copy-clause-gone
returns-in-Copy-clause-gone c =
    readied c.copy_value.result _ _ c.copy_value.ensures.gone (λ done is stays. is ∙ ap (λ o. gone (meaning o) (view c.args.tree.now)) (sym c.in-Copy.is))

pub returns-in-Copy-clause-made : goal.returns-in-Copy-clause-made
returns-in-Copy-clause-made c =
    subst (λ o. MatchResult c.copy_value.result (λ _. change (meaning o) (view c.args.tree.now) ≡ Ok (view c.copy_value.new.tree)) (IsOperationFaultOf (change (meaning o) (view c.args.tree.now)))) (sym c.in-Copy.is) c.copy_value.ensures.made

pub returns-in-Copy-clause-grown : goal.returns-in-Copy-clause-grown
returns-in-Copy-clause-grown c = with_most c.copy_value.result c.args.most (λ m (done : Done). Grew m done.growth (view c.args.tree.now) (view c.copy_value.new.tree)) c.copy_value.ensures.grown

pub returns-in-Copy-clause-known : goal.returns-in-Copy-clause-known
returns-in-Copy-clause-known c = c.copy_value.ensures.known

pub returns-in-Copy-clause-sound : goal.returns-in-Copy-clause-sound
returns-in-Copy-clause-sound c = c.copy_value.ensures.sound

pub returns-in_ok-growth-in-Test-clause-made : goal.returns-in_ok-growth-in-Test-clause-made
returns-in_ok-growth-in-Test-clause-made c = ap (λ o. change (meaning o) (view c.args.tree.now)) c.in-Test.is ∙ c.in_ok-growth-in-Test.ensures.made

pub returns-in_ok-growth-in-Test-clause-grown : goal.returns-in_ok-growth-in-Test-clause-grown
returns-in_ok-growth-in-Test-clause-grown c = c.in_ok-growth-in-Test.ensures.grown c.args.most

pub returns-in_ok-growth-in-Test-clause-known : goal.returns-in_ok-growth-in-Test-clause-known
returns-in_ok-growth-in-Test-clause-known c = c.requires

pub returns-in_ok-growth-in-Test-clause-sound : goal.returns-in_ok-growth-in-Test-clause-sound
returns-in_ok-growth-in-Test-clause-sound c sound = sound
