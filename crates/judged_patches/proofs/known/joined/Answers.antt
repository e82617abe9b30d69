use Rattle.judged_patches.proofs.Chains.{joined_agrees}
use Rattle.judged_patches.proofs.known.joined.Goals as goal

pub returns-in-Ok : goal.returns-in-Ok
returns-in-Ok c = λ schema old made h k. joined_agrees c.args.places.items c.args.more.items c.append.new.self.items schema old made c.in-Ok.ensures.items h k
