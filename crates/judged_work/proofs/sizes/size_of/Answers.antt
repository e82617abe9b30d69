use Rattle.std.proofs.Common.{arith}
use Rattle.judged_work.proofs.Lengths.{of_list, of_object}
use Rattle.judged_work.proofs.sizes.size_of.Goals as goal

pub returns-in-List : goal.returns-in-List
returns-in-List c = omega (arith, of_list c.args.value.now c.in-List.items c.in-List.is)

pub returns-in-Object : goal.returns-in-Object
returns-in-Object c = omega (arith, of_object c.args.value.now c.in-Object.members c.in-Object.is)
