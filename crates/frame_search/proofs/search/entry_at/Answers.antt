use Rattle.frame_search.proofs.Begun.{ok_3, ok_at, of_3, read_at, two}
use Rattle.frame_search.proofs.search.entry_at.Goals as goal

pub returns-then-version-eq3-clause-ok : goal.returns-then-version-eq3-clause-ok
returns-then-version-eq3-clause-ok c = ok_3 c.args.version c.args.bytes.now c.read_frame_as.result c.if-version-eq3.true c.read_frame_as.ensures.ok

pub returns-then-version-eq3-clause-read : goal.returns-then-version-eq3-clause-read
returns-then-version-eq3-clause-read c = λ l n b. c.read_frame_as.ensures.read l n (of_3 c.args.version c.args.bytes.now l n c.if-version-eq3.true b)

pub returns-then-version-eq1-clause-ok : goal.returns-then-version-eq1-clause-ok
returns-then-version-eq1-clause-ok c = ok_at c.args.version 1 c.args.bytes.now c.entry_in_1.result c.if-version-eq1.true c.entry_in_1.ensures.ok

pub returns-then-version-eq1-clause-read : goal.returns-then-version-eq1-clause-read
returns-then-version-eq1-clause-read c = λ l n b. c.entry_in_1.ensures.read l n (read_at c.args.version 1 c.args.bytes.now l n c.if-version-eq1.true b)

pub returns-clause-ok : goal.returns-clause-ok
returns-clause-ok c =
    ok_at c.args.version 2 c.args.bytes.now c.entry_in_2.result (two c.args.version c.requires c.if-version-eq3.false c.if-version-eq1.false) c.entry_in_2.ensures.ok

pub returns-clause-read : goal.returns-clause-read
returns-clause-read c = λ l n b.
    c.entry_in_2.ensures.read l n (read_at c.args.version 2 c.args.bytes.now l n (two c.args.version c.requires c.if-version-eq3.false c.if-version-eq1.false) b)
