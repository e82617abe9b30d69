use Rattle.std.proofs.Common.{◌++◌, ◌∙◌, ◌+◌, drop, nat_lt, false, sym, ap, inl, arith}
use Rattle.path_eval.specs.NodeView.{listed_of}
use Rattle.protocol.specs.Reply.{line_of, nodes_reply}
use Rattle.protocol.specs.Rows.{rows_left}
use Rattle.protocol.proofs.Written.{line_begins, line_done, line_over, line_within, part_over, row_added}
use Rattle.protocol.proofs.nodes.nodes_line.Goals as goal

pub loop-number-init : goal.loop-number-init
loop-number-init c =
    let all = listed_of c.args.nodes.now in
    ap (λ t. t ++ rows_left false all) c.in_ok-begun.ensures ∙ sym (line_begins all)

pub loop-number-preserved : goal.loop-number-preserved
loop-number-preserved c =
    let all = listed_of c.args.nodes.now in
    let l = c.loop-number in
    row_added all l.number l.line.items c.in_ok-longer.longer.items (line_of (nodes_reply all)) c.in_ok-longer.ensures l.invariant

pub returns-then-len-gt-REPLY_BYTES : goal.returns-then-len-gt-REPLY_BYTES
returns-then-len-gt-REPLY_BYTES c =
    let all = listed_of c.args.nodes.now in
    let l = c.loop-number in
    let longer = c.in_ok-longer.longer in
    let goes_on = row_added all l.number l.line.items longer.items (line_of (nodes_reply all)) c.in_ok-longer.ensures l.invariant in
    inl (c.plain.ensures, part_over (nat_lt 0 (l.number + 1)) all (drop (l.number + 1) all) longer.items goes_on (omega (arith, c.if-len-gt-REPLY_BYTES.true, c.len.ensures, longer.ok)))

pub returns-then-len : goal.returns-then-len
returns-then-len c =
    let all = listed_of c.args.nodes.now in
    let l = c.loop-number in
    let line = c.in_ok-whole.whole in
    let is = line_done all l.number l.line.items line.items (omega (arith, c.len-number-end.ensures, c.loop-number-test.false)) l.invariant c.in_ok-whole.ensures in
    inl (c.plain-then-len.ensures, line_over (nodes_reply all) line.items is (omega (arith, c.if-len.true, c.len-2.ensures, line.ok)))

pub returns : goal.returns
returns c =
    let all = listed_of c.args.nodes.now in
    let l = c.loop-number in
    let line = c.in_ok-whole.whole in
    let is = line_done all l.number l.line.items line.items (omega (arith, c.len-number-end.ensures, c.loop-number-test.false)) l.invariant c.in_ok-whole.ensures in
    (is, line_within (nodes_reply all) line.items is (omega (arith, c.if-len.false, c.len-2.ensures, line.ok)))
