use Rattle.std.proofs.Common.{IfOk, subst}
use Rattle.doc_store.specs.declared.format.Format.{Format}
use Rattle.file_programs.specs.Copies.{IsCopiedFile, ShowsCopy}
use Rattle.file_programs.proofs.programs.copy.copy_file.Goals as goal

pub returns-clause-opened : goal.returns-clause-opened
returns-clause-opened g c = c.in_ok-store.ensures.opened c.args.held c.in_ok-device.ensures.history

pub returns-clause-noticed : goal.returns-clause-noticed
returns-clause-noticed g c = c.in_ok-store.ensures.noticed c.args.held c.in_ok-device.ensures.history

pub returns-clause-copied : goal.returns-clause-copied
returns-clause-copied g c =
    subst (λ (f : Format). IfOk c.copy_store-copied.result (IsCopiedFile c.args.new.sectors f c.args.new.identity c.in_ok-store.store.account)) c.format_of_copy-format.ensures c.copy_store-copied.ensures.copied

pub returns-clause-shown : goal.returns-clause-shown
returns-clause-shown g c =
    subst (λ (f : Format). ShowsCopy c.args.new.sectors f c.args.new.identity c.in_ok-store.store.account c.copy_store-copied.result (g.O.Write.contents c.args.writer.now) (g.O.Write.contents c.copy_store-copied.new.writer)) c.format_of_copy-format.ensures c.copy_store-copied.ensures.shown
