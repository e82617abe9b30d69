use Rattle.std.proofs.Common.{◌∙◌, ap, arith}
use Rattle.path_tables.proofs.Answered.{told_done, told_next}
use Rattle.path_plans.specs.Planned.{passes, test_refused}
use Rattle.path_tables.specs.FilterTables.{answer, asked_view}
use Rattle.path_select.specs.Indexed.{at_number}
use Rattle.path_tables.proofs.tables.told_by.Goals as goal

pub loop-number-preserved : goal.loop-number-preserved
loop-number-preserved c =
    let x = c.args.index.now in
    let l = c.loop-number in
    let t = asked_view c.args.asked.now in
    let d = (at_number x l.number).1 in
    let lt = c.loop-number-test.true in
    let n = c.len-count.ensures ∙ x.walk.listed.ok.0 in
    told_next x t l.number l.all.items c.push.new.self.items c.in_ok-said.said _ (omega (arith, lt, n)) l.invariant c.in_ok-push.ensures.items
    (c.in_ok-said.ensures (test_refused t d) (passes t d) c.node_passes-found.ensures)

pub returns : goal.returns
returns c =
    let x = c.args.index.now in
    let l = c.loop-number in
    let t = asked_view c.args.asked.now in
    let d = (at_number x 0).1 in
    let f = c.loop-number-test.false in
    let n = c.len-count.ensures ∙ x.walk.listed.ok.0 in (
      told_done x t l.number l.all.items _ (omega (arith, f, n)) l.invariant,
      c.in_ok-top.ensures (test_refused t d) (passes t d) c.node_passes-first.ensures ∙ ap (λ u. answer t u.1) c.requires.index.0,
    )
