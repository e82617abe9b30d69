use Rattle.std.proofs.Common.{◌∙◌, sym}
use Rattle.std.proofs.lemmas.Result.{err_from_is_err_and}
use Rattle.store_commits.proofs.LogReplays.{patch_not_there, patch_refused, patch_there}
use Rattle.store_commits.proofs.log_replay.take_logged.Goals as goal

-- it may not come there
pub returns-in_default-after-clause-damaged : goal.returns-in_default-after-clause-damaged
returns-in_default-after-clause-damaged c = λ damaged.
    patch_not_there c.args.bytes.now c.args.place c.args.place c.args.machine c.in-Some.kind c.in-Some.frame c.in-Some.changes c.in-Some.ensures (sym c.after.ensures ∙ c.in_default-after.is)

-- it isn't taken
pub returns-in_err-after-clause-damaged : goal.returns-in_err-after-clause-damaged
returns-in_err-after-clause-damaged c =
    let is = c.in-Some.ensures in
    let p = err_from_is_err_and c.from_residual.result c.from_residual.ensures.1 in
    rw (p.1, p.2) (λ damaged. patch_refused c.args.bytes.now c.args.place c.in-Some-after.next c.args.machine c.in-Some.kind c.in-Some.frame c.in-Some.changes is
    (c.in_err-after.ensures is.ops is.read is.sound damaged))

pub returns-in-Some-clause-taken : goal.returns-in-Some-clause-taken
returns-in-Some-clause-taken c =
    let is = c.in-Some.ensures in
    let said = c.in_ok-after.ensures is.ops is.read is.sound in
    patch_there c.args.bytes.now c.args.place c.in-Some-after.next c.args.machine c.in-Some.kind c.in-Some.frame c.in-Some.changes is c.in_ok-after.after c.in_ok-after.len
    (sym c.after.ensures ∙ c.in-Some-after.is) said.0 said.1 said.2
