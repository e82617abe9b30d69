use Rattle.std.proofs.Common.{refl}
use Rattle.record_text.specs.Change.{change_of}
use Rattle.record_text.specs.Frame.{entry}
use Rattle.frame_search.proofs.Begun.{as_2, of_2, same_2}
use Rattle.frame_search.proofs.search.entry_in_2.Goals as goal

pub returns-clause-ok : goal.returns-clause-ok
returns-clause-ok c =
    as_2 2 c.args.bytes.now (entry c.in_ok-command.seq (change_of c.in_ok-command.command)) c.in_ok-command.len refl c.in_ok-command.ensures.ok

pub returns-clause-read : goal.returns-clause-read
returns-clause-read c = λ l n b.
    let read = c.in_ok-command.ensures.read l.entry n (of_2 2 c.args.bytes.now l n refl b) in
    (same_2 2 c.args.bytes.now (entry c.in_ok-command.seq (change_of c.in_ok-command.command)) l n refl b read.0, read.1)
