use Rattle.std.proofs.Common.{sym, subst, length, ℕ, arith}
use Rattle.told_transactions.proofs.Transactions.{HasRead, answer_whole, ending, ends, goes_on, has_frame, none_read, not_ending, not_numbered}
use Rattle.told_transactions.proofs.begun.transaction_at.Goals as goal

pub frames-init : goal.frames-init
frames-init c = record { read = λ t more are is. none_read c.args.before t more c.args.bytes.now are is; within = omega arith }

pub returns-in_default-number_after : goal.returns-in_default-number_after
returns-in_default-number_after c = λ t more are is.
    let f = c.in-Some.frame in
    not_numbered c.args.before t more c.frames.last c.frames.rest.now are (c.frames.invariant.read t more are is) f.kind f.seq f.body.now c.in-Some.behind.now c.in-Some.ensures.begins c.in_default-number_after.ensures

pub returns-in-Last : goal.returns-in-Last
returns-in-Last c = λ t more are is.
    let f = c.in-Some.frame in
    let number = c.in-Some-number_after.ensures in
    let whole = ends c.args.before t more c.frames.last c.frames.rest.now are (c.frames.invariant.read t more are is) f.kind f.seq f.body.now c.in-Some.behind.now c.in-Some.ensures.begins number.1 (ending f.kind c.in-Last.is) in
    answer_whole c.args.before t more c.frames.last c.in-Some-number_after.next f.kind c.args.bytes.now c.in-Some.behind.now is number.0 whole

pub frames-preserved : goal.frames-preserved
frames-preserved c = record {
  read = λ t more are is.
      (let f = c.in-Some.frame in
      let number = c.in-Some-number_after.ensures in
      subst (λ (n : ℕ). HasRead c.args.before t more n c.in-Some.behind.now) (sym number.0)
      (goes_on c.args.before t more c.frames.last c.frames.rest.now are (c.frames.invariant.read t more are is) f.kind f.seq f.body.now c.in-Some.behind.now c.in-Some.ensures.begins number.1 (not_ending f.kind c.in-More.is)));
  within = (let low = c.frames.invariant.within in let long = c.in-Some.ensures.length in omega (arith, low, long));
}

pub returns : goal.returns
returns c = λ t more are is. has_frame c.args.before t more c.frames.last c.frames.rest.now are (c.frames.invariant.read t more are is) c.in_default.ensures.begins
