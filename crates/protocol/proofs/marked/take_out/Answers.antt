use Rattle.protocol.proofs.Marks.{takes_none, takes_one}
use Rattle.protocol.proofs.marked.take_out.Goals as goal

pub returns-in-Some : goal.returns-in-Some
returns-in-Some c =
    let t = c.take.ensures in
    takes_one c.args.name.now c.args.members.now.entries c.take.new.self.entries c.in-Some.field-0-0 c.in-Some.value t.entries c.in-Some.ensures.back c.in-Some.ensures.absent

pub returns : goal.returns
returns c = takes_none c.args.name.now c.args.members.now.entries c.take.new.self.entries c.in-None.ensures.value c.take.ensures.entries
