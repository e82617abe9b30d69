use Rattle.std.proofs.Common.{arith}
use Rattle.command_line.proofs.Sized.{one_way}
use Rattle.command_line.proofs.sizes.split_unit.Goals as goal

pub returns-in-Some-clause-one : goal.returns-in-Some-clause-one
returns-in-Some-clause-one c = one_way c.args.text.now c.in-Some.digits.now 75 (λ e. omega arith) (λ digit. omega arith) c.in-Some.ensures

pub returns-in-Some-before-clause-one : goal.returns-in-Some-before-clause-one
returns-in-Some-before-clause-one c = one_way c.args.text.now c.in-Some-before.digits.now 77 (λ e. omega arith) (λ digit. omega arith) c.in-Some-before.ensures

pub returns-in-Some-before-2-clause-one : goal.returns-in-Some-before-2-clause-one
returns-in-Some-before-2-clause-one c = one_way c.args.text.now c.in-Some-before-2.digits.now 71 (λ e. omega arith) (λ digit. omega arith) c.in-Some-before-2.ensures
