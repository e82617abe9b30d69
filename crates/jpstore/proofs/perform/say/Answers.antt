use Rattle.std.proofs.Common.{ap}
use Rattle.command_line.specs.Call.{asked_of}
use Rattle.file_programs.specs.Faults.{line_of_fault}
use Rattle.jpstore.specs.Reasons.{reason_of}
use Rattle.jpstore.proofs.Saying.{said_both}
use Rattle.jpstore.proofs.perform.say.Goals as goal

pub returns : goal.returns
returns g c =
    let contents = g.E.Write.contents in
    let order = c.args.order.now in
    said_both c.say_why.result (reason_of c.args.fault (asked_of order.call) order.why) (contents c.args.errors.now) (contents c.complain.new.errors) (contents c.say_why.new.errors)
    (line_of_fault c.args.fault) c.in_ok-complain.ensures c.say_why.ensures.said (λ none. ap contents (c.say_why.ensures.silent none))
