use Rattle.std.proofs.Common.{rules, arith, ◌≡◌, ◌≤◌, length}
use Rattle.std.proofs.lemmas.Bool.{leb-true}
use Rattle.doc_tree.specs.Doc.{height}
use Rattle.doc_tree.specs.TreeView.{view}
use Rattle.record_text.proofs.Patches.{is_patch_text}
use Rattle.record_text.proofs.plain.is_patch_text.Goals as goal

pub returns-then-is_empty : goal.returns-then-is_empty
returns-then-is_empty c = λ low.
    let none : length c.in-Some.rest.now ≡ 0 = search rules in
    let is = c.height.ensures.height in
    let shallow : height (view c.args.ops.now) ≤ 126 = (let less = leb-true c.height.result 126 low in omega (arith, is, less)) in
    is_patch_text c.args.name.now (view c.args.ops.now) c.args.body.now c.in-Some.rest.now c.in-Some.ensures none c.utf8.name c.height.ensures.sound shallow
