use Rattle.std.proofs.Common.{sym, ap, ◌∙◌, arith}
use Rattle.doc_pointer.specs.Place.{resolve}
use Rattle.doc_tree.specs.TreeView.{view}
use Rattle.doc_edits.specs.Change.{tokens_of}
use Rattle.doc_edits.specs.Edit as edit
use Rattle.doc_edits.specs.SizeChange.{old_size}
use Rattle.doc_edits.specs.Size.{size}
use Rattle.doc_edits.proofs.Growths.{replaced, bytes_of, value_at-resolve}
use Rattle.doc_edits.proofs.Tokens.{tokens_len}
use Rattle.doc_edits.proofs.Soundness.{AreUtf8-tokens_of, replace_sound}
use Rattle.doc_edits.proofs.Walk.{as_str_step}
use Rattle.doc_edits.proofs.place.replace.Goals as goal

pub returns-clause-grown : goal.returns-clause-grown
returns-clause-grown c =
    let d = view c.args.tree.now in
    let path = as_str_step c.args.path.now c.token-item.result c.as_str.result.now (omega arith) c.token-item.is c.as_str.ensures.value in
    let made = ap (λ ks. edit.replace ks (view c.args.value) d) path ∙ c.in_ok-made.ensures.made in
    let s = c.in_ok-made.ensures.sized in
    replaced (tokens_of c.args.path.now) (view c.args.value) d (view c.change_at.new.tree) c.saturating_add-reach.result c.text_len_within-gained.result c.old_len.result (old_size c.in_ok-made.made.old) made
    (omega (arith, c.height.ensures.height, c.saturating_add-reach.ensures, tokens_len c.args.path.now)) (λ short. c.old_len.ensures (omega (arith, s.1, short))) (bytes_of c.text_len_within-gained.result (size (view c.args.value)) c.text_len_within-gained.ensures) s.1 s.0

pub returns-clause-sound : goal.returns-clause-sound
returns-clause-sound c =
    let d = view c.args.tree.now in
    let path = as_str_step c.args.path.now c.token-item.result c.as_str.result.now (omega arith) c.token-item.is c.as_str.ensures.value in
    let made = ap (λ ks. edit.replace ks (view c.args.value) d) path ∙ c.in_ok-made.ensures.made in
    replace_sound (tokens_of c.args.path.now) (view c.args.value) d (view c.change_at.new.tree) made (AreUtf8-tokens_of c.args.path.now)

pub returns-clause-gone : goal.returns-clause-gone
returns-clause-gone c =
    let d = view c.args.tree.now in
    let path = as_str_step c.args.path.now c.token-item.result c.as_str.result.now (omega arith) c.token-item.is c.as_str.ensures.value in
    c.in_ok-made.ensures.taken ∙ value_at-resolve c.as_str.result.now _ d ∙ ap (λ ks. resolve ks d) (sym path)
