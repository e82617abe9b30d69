use Rattle.std.proofs.Common.{◌<◌, ◌^◌, sym, ◌∙◌, arith, rules}
use Rattle.doc_edits.proofs.Indices.{index_below_at, index_below_none, index_below_past}
use Rattle.doc_edits.proofs.index.index_within.Goals as goal

pub returns-in_err-index-clause-named : goal.returns-in_err-index-clause-named
returns-in_err-index-clause-named c =
    let small : c.args.bound < 2 ^ 64 = search rules in
    c.from_residual.ensures ∙ sym (index_below_none c.args.bound c.args.token.now (λ i less. c.in_err-index.ensures i (omega (arith, less, small))))

pub returns-then-index-bound-clause-named : goal.returns-then-index-bound-clause-named
returns-then-index-bound-clause-named c =
    let small : c.args.bound < 2 ^ 64 = search rules in
    sym (index_below_at c.in_ok-index.index c.args.bound c.args.token.now (omega arith) c.if-index-bound.true c.in_ok-index.ensures)

pub returns-else-index-bound-clause-named : goal.returns-else-index-bound-clause-named
returns-else-index-bound-clause-named c =
    let small : c.in_ok-index.index < 2 ^ 64 = search rules in
    sym (index_below_past c.in_ok-index.index c.args.bound c.args.token.now small c.if-index-bound.false c.in_ok-index.ensures)
