use Rattle.json.specs.Print.{escape_byte}
use Rattle.std.proofs.Common.{subst, sym}
use Rattle.doc_tree.specs.TreeView.{view}
use Rattle.doc_patch.specs.Plain.{BeginsWithPointer, BeginsWithValue}
use Rattle.doc_patch.proofs.plain.path_and_value.Goals as goal

pub returns : goal.returns
unfolding escape_byte
returns c =
    record {
      behind_path = c.in_ok-path.rest.now;
      behind_value = c.in_ok-strip_bytes.field-0.now;
      path = subst (λ t. BeginsWithPointer c.args.bytes.now t c.in_ok-path.rest.now) (sym c.path.view_is) c.in_ok-path.ensures;
      value = subst (λ x. BeginsWithValue c.in_ok-strip_bytes.field-0.now (view c.in_ok-value.value) x) c.in_ok-strip_bytes-2.ensures c.in_ok-value.ensures;
      between = c.in_ok-strip_bytes.ensures;
    }
