use Rattle.std.proofs.Common.{◌≡◌, None, Some, inl, length, option_map, refl, sym, ap, ap₂, ◌∙◌, arith}
use Rattle.std.specs.Cmp.Lexicographic.{pointwise}
use Rattle.std.specs.Str.{bytes_eq}
use Rattle.doc_tree.specs.Doc.{height}
use Rattle.doc_tree.specs.Sound.{IsSound}
use Rattle.doc_tree.specs.TreeView.{view}
use Rattle.doc_pointer.specs.Place.{resolve}
use Rattle.doc_edits.specs.Change.{tokens_of}
use Rattle.doc_edits.specs.Edit as edit
use Rattle.doc_edits.specs.Keeping.{IsOriginOf}
use Rattle.doc_edits.specs.Operation.{change, move}
use Rattle.doc_edits.specs.OperationFault.{IsOperationFaultOf}
use Rattle.doc_edits.specs.declared.fault.TheConstants.{MISSING}
use Rattle.doc_edits.proofs.OperationGrowths.{moved, Reaches}
use Rattle.doc_edits.proofs.Knowing.{put_known}
use Rattle.doc_edits.proofs.Missing.{refused_same}
use Rattle.doc_edits.proofs.Restored.{chosen, none_chosen, move_ready}
use Rattle.doc_edits.proofs.Tokens.{tokens_len, same_tokens}
use Rattle.doc_edits.proofs.Moves.{moved_onto_itself, moved_from_nothing, moved_nowhere, moved_to}
use Rattle.doc_edits.proofs.moving.move_value.Goals as goal

pub returns-then-eq-clause-made : goal.returns-then-eq-clause-made
returns-then-eq-clause-made c =
    let same : c.eq.result ≡ pointwise bytes_eq c.args.from.now c.args.path.now = c.eq.ensures ∙ same_tokens c.tokens-from.result.now c.tokens-path.result.now ∙ ap₂ (pointwise bytes_eq) c.tokens-from.ensures c.tokens-path.ensures in
    moved_onto_itself c.args.from.now c.args.path.now (view c.args.tree.now) (view c.in-Some.field-0.now) (sym c.in-Some.ensures) (sym same ∙ c.if-eq.true)

pub returns-in_default-2-clause-made : goal.returns-in_default-2-clause-made
returns-in_default-2-clause-made c =
    let same : c.eq.result ≡ pointwise bytes_eq c.args.from.now c.args.path.now = c.eq.ensures ∙ same_tokens c.tokens-from.result.now c.tokens-path.result.now ∙ ap₂ (pointwise bytes_eq) c.tokens-from.ensures c.tokens-path.ensures in
    let d = view c.args.tree.now in
    let from = tokens_of c.tokens-from.result.now in
    let none = none_chosen c.in_ok-origin.field-0 (edit.remove from d ≡ None) (λ o. IsSound d → IsOriginOf o from d) c.in_default-2.is c.in_ok-origin.ensures in
    moved_from_nothing c.args.from.now from c.args.path.now d (view c.in-Some.field-0.now) MISSING c.tokens-from.ensures (sym c.in-Some.ensures) (sym same ∙ c.if-eq.false) (inl (refl, none))

pub returns-in_err-value-clause-made : goal.returns-in_err-value-clause-made
returns-in_err-value-clause-made c =
    let same : c.eq.result ≡ pointwise bytes_eq c.args.from.now c.args.path.now = c.eq.ensures ∙ same_tokens c.tokens-from.result.now c.tokens-path.result.now ∙ ap₂ (pointwise bytes_eq) c.tokens-from.ensures c.tokens-path.ensures in
    let d = view c.args.tree.now in
    let e = c.in_err-value.field-0.0 in
    refused_same c.from_residual-in_err-value.result e _ (IsOperationFaultOf (change (move c.args.from.now c.args.path.now) d))
    (moved_from_nothing c.args.from.now _ c.args.path.now d (view c.in-Some.field-0.now) e c.tokens-from.ensures (sym c.in-Some.ensures) (sym same ∙ c.if-eq.false) c.in_err-value.ensures.made) c.from_residual-in_err-value.ensures.1

pub returns-in-Ok-clause-made : goal.returns-in-Ok-clause-made
returns-in-Ok-clause-made c =
    let same : c.eq.result ≡ pointwise bytes_eq c.args.from.now c.args.path.now = c.eq.ensures ∙ same_tokens c.tokens-from.result.now c.tokens-path.result.now ∙ ap₂ (pointwise bytes_eq) c.tokens-from.ensures c.tokens-path.ensures in
    let d = view c.args.tree.now in
    let v = view c.in_ok-value.field-0.value in
    let at : resolve c.args.from.now d ≡ Some v = ap (λ ks. resolve ks d) (sym c.tokens-from.ensures) ∙ c.in_ok-value.ensures.taken in
    moved_to c.args.from.now _ c.args.path.now _ d v _ (view c.put_moved.new.tree) c.tokens-from.ensures c.tokens-path.ensures at (sym same ∙ c.if-eq.false) c.in_ok-value.ensures.made c.in-Ok.ensures.made

pub returns-in-Ok-clause-grown : goal.returns-in-Ok-clause-grown
returns-in-Ok-clause-grown c =
    let from = c.tokens-from.result.now in
    let path = c.tokens-path.result.now in
    let answers = c.reach_of_move-reach.ensures in
    let reach : Reaches c.args.most (length (tokens_of from)) (length (tokens_of path)) (height (view c.in_ok-value.field-0.value)) c.reach_of_move-reach.result.reach = record {
      deep = λ x. let r = answers.deep x in omega (arith, r, tokens_len path);
      high = λ low x. let r = answers.high (omega (arith, low, tokens_len from)) x in omega (arith, r, tokens_len path);
    } in
    moved c.args.most (tokens_of from) (tokens_of path) (view c.args.tree.now) (view c.remove.new.tree) (view c.put_moved.new.tree) c.in_ok-value.field-0 c.in-Ok.field-0.placed c.reach_of_move-reach.result.reach c.saturating_add.result
    c.in_ok-value.ensures.taken c.in_ok-value.ensures.shrunk c.in-Ok.ensures.made c.in-Ok.ensures.placed reach c.saturating_add.ensures

pub returns-in-Ok-clause-known : goal.returns-in-Ok-clause-known
returns-in-Ok-clause-known c =
    let v = view c.in_ok-value.field-0.value in
    let of = c.extent_at-extent.ensures (view c.args.tree.now) v c.requires c.in_ok-value.ensures.taken in
    put_known _ v (view c.remove.new.tree) (view c.put_moved.new.tree) c.in-Ok.ensures.made (c.reach_of_move-reach.ensures.known, of.1)

pub returns-in-Ok-clause-back : goal.returns-in-Ok-clause-back
returns-in-Ok-clause-back c = λ sound.
    let d = view c.args.tree.now in
    let from = tokens_of c.tokens-from.result.now in
    let origin = chosen c.in_ok-origin.field-0 c.in-Some-2.origin (edit.remove from d ≡ None) (λ o. IsSound d → IsOriginOf o from d) c.in-Some-2.is c.in_ok-origin.ensures in
    move_ready (tokens_of c.in-Ok.field-0.path.items) (tokens_of c.tokens-path.result.now) (option_map view c.in-Ok.field-0.placed.old) c.in-Some-2.origin from (view c.in_ok-value.field-0.value) d (view c.remove.new.tree) (view c.put_moved.new.tree)
    c.in-Ok.ensures.path c.in-Ok.ensures.old (origin sound) c.in_ok-value.ensures.taken c.in_ok-value.ensures.made c.in-Ok.ensures.made

pub returns-after-value-clause-made : goal.returns-after-value-clause-made
returns-after-value-clause-made c =
    let same : c.eq.result ≡ pointwise bytes_eq c.args.from.now c.args.path.now = c.eq.ensures ∙ same_tokens c.tokens-from.result.now c.tokens-path.result.now ∙ ap₂ (pointwise bytes_eq) c.tokens-from.ensures c.tokens-path.ensures in
    let d = view c.args.tree.now in
    let v = view c.in_ok-value.field-0.value in
    let at : resolve c.args.from.now d ≡ Some v = ap (λ ks. resolve ks d) (sym c.tokens-from.ensures) ∙ c.in_ok-value.ensures.taken in
    moved_nowhere c.args.from.now _ c.args.path.now _ d v _ c.in-Err.field-0.fault c.tokens-from.ensures c.tokens-path.ensures at (sym same ∙ c.if-eq.false) c.in_ok-value.ensures.made c.in-Err.ensures.made
