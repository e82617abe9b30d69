use Rattle.std.proofs.Common.{◌∙◌, sym, subst, None, Some, Option}
use Rattle.std.specs.Option.{option_map}
use Rattle.change_history.specs.History.{Ring, newest}
use Rattle.told_transactions.specs.Begun.{BeginsWithLog, IsFilled}
use Rattle.told_transactions.proofs.Filling.{begins_empty, begins_other, begins_whole, logged_in}
use Rattle.told_transactions.proofs.begun.history_of_log.Goals as goal

pub filled-requires : goal.filled-requires
filled-requires c = (c.requires.0.transactions, logged_in c.requires.0 c.requires.1, sym (c.after_snapshot.ensures c.requires.0 c.requires.1 c.requires.2))

pub returns-in_default : goal.returns-in_default
returns-in_default c = λ log is_log is.
    let made : IsFilled c.args.limit log.transactions (option_map (λ (h : Ring). h.history) c.in_ok-history.field-0) = c.in_ok-history.ensures log.transactions (logged_in log is_log) (sym (c.after_snapshot.ensures log is_log is)) in
    let none : IsFilled c.args.limit log.transactions None = subst (λ (o : Option Ring). IsFilled c.args.limit log.transactions (option_map (λ (h : Ring). h.history) o)) c.in_default.is made in
    subst (BeginsWithLog c.args.limit c.args.last log) (sym c.new.ensures) (begins_empty c.args.limit c.args.last log none)

pub returns-then-newest-last : goal.returns-then-newest-last
returns-then-newest-last c = λ log is_log is.
    let h = c.in-Some.history.history in
    let made : IsFilled c.args.limit log.transactions (option_map (λ (h : Ring). h.history) c.in_ok-history.field-0) = c.in_ok-history.ensures log.transactions (logged_in log is_log) (sym (c.after_snapshot.ensures log is_log is)) in
    let some : IsFilled c.args.limit log.transactions (Some h) = subst (λ (o : Option Ring). IsFilled c.args.limit log.transactions (option_map (λ (h : Ring). h.history) o)) c.in-Some.is made in
    begins_whole c.args.limit c.args.last log h some (sym c.newest.ensures.value ∙ c.if-newest-last.true)

pub returns-else-newest-last : goal.returns-else-newest-last
returns-else-newest-last c = λ log is_log is.
    let h = c.in-Some.history.history in
    let made : IsFilled c.args.limit log.transactions (option_map (λ (h : Ring). h.history) c.in_ok-history.field-0) = c.in_ok-history.ensures log.transactions (logged_in log is_log) (sym (c.after_snapshot.ensures log is_log is)) in
    let some : IsFilled c.args.limit log.transactions (Some h) = subst (λ (o : Option Ring). IsFilled c.args.limit log.transactions (option_map (λ (h : Ring). h.history) o)) c.in-Some.is made in
    subst (BeginsWithLog c.args.limit c.args.last log) (sym c.new-else-newest-last.ensures)
    (begins_other c.args.limit c.args.last log h (logged_in log is_log) some (λ same. c.if-newest-last.false (c.newest.ensures.value ∙ same)))
