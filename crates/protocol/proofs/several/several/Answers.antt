use Rattle.std.proofs.Common.{arith, rules}
use Rattle.std.proofs.lemmas.Result.{IfOk-weaker}
use Rattle.doc_tree.specs.Cursor.{ahead}
use Rattle.doc_tree.specs.TreeView.{elements_view}
use Rattle.protocol.specs.Read.{AreCommands, AreSeveral}
use Rattle.protocol.specs.Request.{objects_of}
use Rattle.protocol.proofs.Objects.{as_several, not_several}
use Rattle.protocol.proofs.several.several.Goals as goal

pub returns-in_default : goal.returns-in_default
returns-in_default c = λ cs same range. c.in_default.ensures (objects_of cs) same

pub returns-then-not-is_countable : goal.returns-then-not-is_countable
returns-then-not-is_countable c =
    let trees = c.in-Some.changes in
    not_several (ahead c.args.members) trees.items c.in-Some.ensures (λ many.
    let len = c.len.ensures in
    let ok = trees.ok in
    let yes = c.is_countable.ensures.1 (omega (arith, len, ok, many.0), omega (arith, len, ok, many.1)) in
    let no = c.if-not-is_countable.true in
    absurd (cc (yes, no)))

pub returns : goal.returns
returns c =
    let trees = c.in-Some.changes in
    let len = c.len.ensures in
    let ok = trees.ok in
    let yes = c.is_countable.ensures.0 (search rules) in
    IfOk-weaker c.commands_in.result (AreCommands (elements_view trees.items)) (AreSeveral (ahead c.args.members))
    (as_several (ahead c.args.members) trees.items c.in-Some.ensures (omega (arith, len, ok, yes.0), omega (arith, len, ok, yes.1))) c.commands_in.ensures
