use Rattle.std.proofs.Common.{map, ap, ◌∙◌}
use Rattle.doc_tree.specs.TreeView.{view}
use Rattle.doc_patch.specs.Undo.{steps_back}
use Rattle.doc_edits.specs.Back.{step_of}
use Rattle.doc_patch.proofs.log.Log.apply_kept.Goals as goal

pub returns-in_err-growth-clause-back : goal.returns-in_err-growth-clause-back
returns-in_err-growth-clause-back c =
    let d = view c.args.tree.now in
    ap (steps_back (map step_of c.reserve.new.self.items)) (c.in_err-growth.ensures.unchanged c.requires.sound) ∙ ap (λ xs. steps_back (map step_of xs) d) c.in_ok-reserve.ensures.items

pub returns-in_err-measure-clause-back : goal.returns-in_err-measure-clause-back
returns-in_err-measure-clause-back c =
    let d = view c.args.tree.now in
    let e = view c.perform_kept.new.tree in
    c.keep.ensures.back d e (c.in_ok-growth.ensures.back c.requires.sound) ∙ ap (λ xs. steps_back (map step_of xs) d) c.in_ok-reserve.ensures.items

pub returns-clause-back : goal.returns-clause-back
returns-clause-back c =
    let d = view c.args.tree.now in
    let e = view c.perform_kept.new.tree in
    c.keep.ensures.back d e (c.in_ok-growth.ensures.back c.requires.sound) ∙ ap (λ xs. steps_back (map step_of xs) d) c.in_ok-reserve.ensures.items
