use Rattle.std.proofs.Common.{rules, subst}
use Rattle.doc_patch.specs.Meaning.{meanings}
use Rattle.doc_patch.specs.Progress.{IsUnderWay}
use Rattle.judged_patches.proofs.apply.+make_each.Goals as goal

pub make_each-requires : goal.make_each-requires
make_each-requires t c =
    let os = c.requires.0 in
    let start = c.requires.1 in
    let next = subst (λ l. IsUnderWay c.args.progress (meanings l) os start c.args.document.now) c.in-Some.ensures.cases.0 c.requires.2 in
    (search rules, (os, start, c.in_ok-progress-in-Some.ensures.under_way (meanings c.in-Some.others.now) os start next))
