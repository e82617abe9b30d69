use Rattle.std.proofs.Common.{ap, ◌∙◌, arith}
use Rattle.doc_tree.specs.TreeView.{view}
use Rattle.doc_edits.specs.Change.{tokens_of}
use Rattle.doc_edits.specs.Edit as edit
use Rattle.doc_edits.specs.SizeChange.{old_size}
use Rattle.doc_edits.proofs.Soundness.{AreUtf8-tokens_of, add_sound}
use Rattle.doc_edits.proofs.Walk.{as_str_step}
use Rattle.doc_edits.proofs.place.insert.Goals as goal

pub returns-clause-placed : goal.returns-clause-placed
returns-clause-placed c =
    let s = c.in_ok-made.ensures.sized in
    record {
      beside = s.0;
      old = old_size c.in_ok-made.made.old;
      came = s.1;
      went = λ short. c.old_len.ensures (omega (arith, s.3, short));
      sum = s.2;
      low = s.3;
    }

pub returns-clause-sound : goal.returns-clause-sound
returns-clause-sound c =
    let d = view c.args.tree.now in
    let path = as_str_step c.args.path.now c.token-item.result c.as_str.result.now (omega arith) c.token-item.is c.as_str.ensures.value in
    let made = ap (λ ks. edit.add ks (view c.args.value) d) path ∙ c.in_ok-made.ensures.made in
    add_sound (tokens_of c.args.path.now) (view c.args.value) d (view c.change_at.new.tree) made (AreUtf8-tokens_of c.args.path.now)
