use Rattle.std.proofs.Common.{refl}
use Rattle.change_history.proofs.After.{since_here}
use Rattle.change_history.proofs.laws.all_follow_the_floor.Goals as goal

pub returns : goal.returns
returns c = λ floor told. since_here floor told floor refl
