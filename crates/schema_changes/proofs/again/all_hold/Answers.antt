use Rattle.std.proofs.Common.{◌≤◌, length, arith}
use Rattle.doc_tree.specs.TreeView.{view}
use Rattle.schema_levels.specs.Bits.{size}
use Rattle.schema_levels.proofs.Searching.{still}
use Rattle.schema_changes.proofs.Told.{again_told}
use Rattle.schema_changes.proofs.again.all_hold.Goals as goal

pub returns-clause-value : goal.returns-clause-value
returns-clause-value c = λ known table.
    let len = c.fill.auto.words in
    let room : length c.args.nodes.now ≤ size c.fill.new.words = omega (arith, len, c.requires.judging_len, c.requires.room) in
    again_told c.args.nodes.now known table (view c.args.value.now) c.args.asked.now c.requires.order c.fill.new.words c.collect_anew.new.found c.judge_marked.new.passed c.is_list-in_list.result room c.collect_anew.ensures c.judge_marked.ensures.value
    c.each_holds.result c.is_list-in_list.ensures c.each_holds.ensures.value

pub each_holds-requires-clause-searched : goal.each_holds-requires-clause-searched
each_holds-requires-clause-searched c = still _ _ c.args.nodes.now c.judge_marked.ensures.same c.requires.searched
