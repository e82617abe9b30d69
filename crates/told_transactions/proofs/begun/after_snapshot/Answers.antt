use Rattle.std.proofs.Common.{◌<◌, length, arith}
use Rattle.told_transactions.proofs.Filling.{among_all, change_after, kept_after, none_after, of_none, of_snapshot}
use Rattle.told_transactions.proofs.begun.after_snapshot.Goals as goal

pub frames-init : goal.frames-init
frames-init c = λ log is_log is. among_all log c.args.bytes.now is_log is

pub frames-preserved : goal.frames-preserved
frames-preserved c = λ log is_log is.
    let l = c.frames in
    let f = c.in-Some.frame in
    let long = c.in-Some.ensures.length in
    let some : 0 < length l.rest.now = omega (arith, long) in
    kept_after log is_log l.rest.now f.kind f.seq f.body.now c.in-Some.behind.now c.in-Some.ensures.begins (l.invariant log is_log is) some (of_snapshot f.kind c.in-Kept.is)

pub returns-in-Last : goal.returns-in-Last
returns-in-Last c = λ log is_log is.
    let l = c.frames in
    let f = c.in-Some.frame in
    change_after log is_log l.rest.now f.kind f.seq f.body.now c.in-Some.behind.now c.in-Some.ensures.begins (l.invariant log is_log is) (of_none f.kind c.in-Last.is)

pub returns : goal.returns
returns c = λ log is_log is. none_after log is_log c.frames.rest.now (c.frames.invariant log is_log is) c.in_default.ensures.begins
