use Rattle.std.proofs.Common.{◌≡◌}
use Rattle.doc_patch.specs.Meaning.{meanings}
use Rattle.judged_patches.proofs.Starting.{begun, on_err}
use Rattle.judged_patches.proofs.apply.make.Goals as goal

pub make_each-requires : goal.make_each-requires
make_each-requires c =
    let os = meanings c.operations-operations.result.now in
    let start = c.args.document.now in
    (os, start, begun c.begin-progress.result c.operations-operations.result.now start c.if-operations-gt-MOST_OPERATIONS.false c.begin-progress.ensures)

pub returns-in_err-progress-clause-unchanged : goal.returns-in_err-progress-clause-unchanged
returns-in_err-progress-clause-unchanged c =
    let os = meanings c.operations-operations.result.now in
    let start = c.args.document.now in
    let begins = begun c.begin-progress.result c.operations-operations.result.now start c.if-operations-gt-MOST_OPERATIONS.false c.begin-progress.ensures in
    on_err c.from_residual-in_err-progress.result (c.make_each.new.document ≡ start) (c.in_err-progress.ensures.made os start begins).1

pub finish-requires : goal.finish-requires
finish-requires c =
    let os = meanings c.operations-operations.result.now in
    let start = c.args.document.now in
    let begins = begun c.begin-progress.result c.operations-operations.result.now start c.if-operations-gt-MOST_OPERATIONS.false c.begin-progress.ensures in
    (os, start, c.in_ok-progress.ensures.made os start begins)

pub returns-clause-back : goal.returns-clause-back
returns-clause-back c =
    let os = meanings c.operations-operations.result.now in
    let start = c.args.document.now in
    let begins = begun c.begin-progress.result c.operations-operations.result.now start c.if-operations-gt-MOST_OPERATIONS.false c.begin-progress.ensures in
    (c.finish.ensures os start (c.in_ok-progress.ensures.made os start begins)).1
