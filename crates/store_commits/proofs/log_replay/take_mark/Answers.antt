use Rattle.store_commits.proofs.log_replay.take_mark.Goals as goal

-- the change spells no mark
pub returns-in_default-clause-damaged : goal.returns-in_default-clause-damaged
returns-in_default-clause-damaged c = λ damaged new takes. c.in_default.ensures takes.0 takes.1
