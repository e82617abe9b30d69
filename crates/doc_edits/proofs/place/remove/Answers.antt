use Rattle.std.proofs.Common.{option_map, sym, ap, ◌∙◌, arith}
use Rattle.doc_tree.specs.TreeView.{view}
use Rattle.doc_pointer.specs.Place.{resolve}
use Rattle.doc_edits.specs.Change.{tokens_of}
use Rattle.doc_edits.specs.Edit as edit
use Rattle.doc_edits.specs.SizeChange.{old_size}
use Rattle.doc_edits.proofs.Growths.{removed, removed_was_there, value_at-resolve}
use Rattle.doc_edits.proofs.Soundness.{AreUtf8-tokens_of, remove_sound, resolve_sound}
use Rattle.doc_edits.proofs.Walk.{as_str_step}
use Rattle.doc_edits.proofs.place.remove.Goals as goal

pub returns-in-Some-clause-taken : goal.returns-in-Some-clause-taken
returns-in-Some-clause-taken c =
    let d = view c.args.tree.now in
    let path = as_str_step c.args.path.now c.token-item.result c.as_str.result.now (omega arith) c.token-item.is c.as_str.ensures.value in
    ap (λ ks. resolve ks d) path ∙ sym (value_at-resolve c.as_str.result.now _ d) ∙ sym c.in_ok-old.ensures.taken ∙ ap (option_map view) c.in-Some.is

pub returns-in-Some-clause-shrunk : goal.returns-in-Some-clause-shrunk
returns-in-Some-clause-shrunk c =
    let d = view c.args.tree.now in
    let e = view c.change_at.new.tree in
    let path = as_str_step c.args.path.now c.token-item.result c.as_str.result.now (omega arith) c.token-item.is c.as_str.ensures.value in
    let made = ap (λ ks. edit.remove ks d) path ∙ c.in_ok-old.ensures.made in
    let s = c.in_ok-old.ensures.sized in
    let taken = ap old_size c.in-Some.is in
    removed (tokens_of c.args.path.now) d e _ c.in_ok-old.field-0.beside s.0 made c.unwrap_or.ensures s.1 (omega (arith, s.2, taken))

pub returns-in-None-clause-made : goal.returns-in-None-clause-made
returns-in-None-clause-made c =
    absurd (removed_was_there c.as_str.result.now _ (view c.args.tree.now) (view c.change_at.new.tree) c.in_ok-old.ensures.made (sym c.in_ok-old.ensures.taken ∙ ap (option_map view) c.in-None.is))

pub returns-in-Some-clause-sound : goal.returns-in-Some-clause-sound
returns-in-Some-clause-sound c sound =
    let d = view c.args.tree.now in
    let ks = tokens_of c.args.path.now in
    let path = as_str_step c.args.path.now c.token-item.result c.as_str.result.now (omega arith) c.token-item.is c.as_str.ensures.value in
    let made = ap (λ ks. edit.remove ks d) path ∙ c.in_ok-old.ensures.made in
    (resolve_sound ks d (view c.in-Some.value) (returns-in-Some-clause-taken c) sound, remove_sound ks d (view c.change_at.new.tree) made (AreUtf8-tokens_of c.args.path.now) sound)

pub returns-in-None-clause-unchanged : goal.returns-in-None-clause-unchanged
returns-in-None-clause-unchanged c =
    absurd (removed_was_there c.as_str.result.now _ (view c.args.tree.now) (view c.change_at.new.tree) c.in_ok-old.ensures.made (sym c.in_ok-old.ensures.taken ∙ ap (option_map view) c.in-None.is))
