use Rattle.std.proofs.Common.{refl}
use Rattle.record_text.specs.Change.{change_of}
use Rattle.frame_search.proofs.Begun.{as_1, of_1, same_1}
use Rattle.frame_search.proofs.search.entry_in_1.Goals as goal

pub returns-clause-ok : goal.returns-clause-ok
returns-clause-ok c = as_1 1 c.args.bytes.now (change_of c.in_ok-command.command) c.in_ok-command.len refl c.in_ok-command.ensures.ok

pub returns-clause-read : goal.returns-clause-read
returns-clause-read c = λ l n b.
    let read = c.in_ok-command.ensures.read l.entry.change n (of_1 1 c.args.bytes.now l n refl b) in
    (same_1 1 c.args.bytes.now (change_of c.in_ok-command.command) l n refl b read.0, read.1)
