use Rattle.doc_store.specs.Formats.{status_of}
use Rattle.protocol.specs.Reply.{line_of}
use Rattle.status_lines.specs.Status.{status_reply}
use Rattle.file_programs.specs.Copies.{account_copied}
use Rattle.file_programs.proofs.Chosen.{shows_none, some_chosen}
use Rattle.file_programs.proofs.Copying.{copied_file}
use Rattle.file_programs.proofs.programs.copy.copy_store.Goals as goal

pub returns-in-Ok-clause-copied : goal.returns-in-Ok-clause-copied
returns-in-Ok-clause-copied g c =
    let made = c.in_ok-device.ensures in
    copied_file c.args.format c.in_ok-identity.identity c.args.new.identity c.args.new.sectors c.args.store.now.account c.in_ok-device.device c.fill.new.device c.in_ok-identity.ensures made.sectors made.history c.in-Ok.ensures.copied

pub returns-in_err-identity-clause-shown : goal.returns-in_err-identity-clause-shown
returns-in_err-identity-clause-shown g c =
    let chosen = some_chosen c.args.new.identity in
    record {
      identity = chosen.0;
      chosen = chosen.1;
      shown = shows_none c.from_residual.result _ (line_of (status_reply (status_of (account_copied c.args.format chosen.0 c.args.store.now.account c.args.new.sectors)))) (g.O.Write.contents c.args.writer.now) c.from_residual.ensures.1;
    }
