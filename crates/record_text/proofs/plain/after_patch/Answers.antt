use Rattle.json.specs.Print.{escape_byte}
use Rattle.doc_tree.specs.TreeView.{view}
use Rattle.record_text.proofs.Patches.{after_patch}
use Rattle.record_text.proofs.plain.after_patch.Goals as goal

pub returns : goal.returns
unfolding escape_byte
returns c =
    after_patch c.args.name.now (view c.args.ops.now) c.args.body.now c.in_ok-strip_bytes.field-0.now c.in_ok-rest.rest.now
    c.in_ok-strip_bytes-2.field-0.now c.in_ok-rest-2.rest.now c.strip_bytes-3.result
    c.in_ok-strip_bytes.ensures c.in_ok-rest.ensures c.in_ok-strip_bytes-2.ensures c.in_ok-rest-2.ensures c.strip_bytes-3.ensures
