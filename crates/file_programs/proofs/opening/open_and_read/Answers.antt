use Rattle.file_programs.proofs.NotOpened.{unopened_in}
use Rattle.file_programs.proofs.opening.open_and_read.Goals as goal

pub returns-clause-opened : goal.returns-clause-opened
returns-clause-opened g c = c.strictly_on.ensures.opened c.args.held c.in_ok-device.ensures.history

pub returns-clause-noticed : goal.returns-clause-noticed
returns-clause-noticed g c = c.strictly_on.ensures.noticed c.args.held c.in_ok-device.ensures.history

pub returns-clause-read : goal.returns-clause-read
returns-clause-read g c = c.strictly_on.ensures.read c.args.held c.in_ok-device.ensures.history

pub returns-clause-refused : goal.returns-clause-refused
returns-clause-refused g c =
    let device = c.in_ok-device.device in
    unopened_in c.strictly_on.result c.args.strictness c.args.held device.sectors device.failures c.in_ok-device.ensures.failures (c.strictly_on.ensures.refused c.args.held c.in_ok-device.ensures.history)
