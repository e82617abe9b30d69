use Rattle.store_commits.proofs.Plans.{further_said}
use Rattle.store_commits.proofs.plan.Planning.refuse.Goals as goal

pub returns : goal.returns
returns c = λ a slots t trial refuses is. further_said a slots c.args.self.now trial is t c.args.refusal refuses c.push.new.self c.in_ok-push.ensures.items
