use Rattle.change_history.proofs.After.{answered, follows, rises_from}
use Rattle.change_history.proofs.laws.what_follows_is_answered.Goals as goal

pub returns : goal.returns
returns c = record { follows = follows; answered = answered; rises = rises_from }
