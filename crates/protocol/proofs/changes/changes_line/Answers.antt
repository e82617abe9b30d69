use Rattle.std.proofs.Common.{◌∙◌, List, ℕ, Option, option_map, inl, arith}
use Rattle.protocol.specs.Changes.{changes_reply}
use Rattle.protocol.proofs.Written.{line_over, line_within}
use Rattle.protocol.proofs.changes.changes_line.Goals as goal

pub returns-then-len : goal.returns-then-len
returns-then-len c = λ ts told.
    let line = c.in_ok-whole.whole in
    let reply = changes_reply (option_map (λ id. id.now) c.args.identity) c.args.seq c.args.from ts in
    inl (c.plain.ensures, line_over reply line.items (c.in_ok-whole.ensures ts told) (omega (arith, c.if-len.true, c.len.ensures, line.ok)))

pub returns : goal.returns
returns c = λ ts told.
    let line = c.in_ok-whole.whole in
    let reply = changes_reply (option_map (λ id. id.now) c.args.identity) c.args.seq c.args.from ts in
    let is = c.in_ok-whole.ensures ts told in
    (is, line_within reply line.items is (omega (arith, c.if-len.false, c.len.ensures, line.ok)))
