use Rattle.std.proofs.Common.{ℕ, subst, sym}
use Rattle.std.proofs.lemmas.Result.{err_from_is_err_and}
use Rattle.sector_device.specs.declared.history.History.{History}
use Rattle.sector_device.specs.declared.history.History.TheVariants.{Opened}
use Rattle.sector_device.specs.History.{disk_after, seen_after}
use Rattle.file_device.specs.File.{file_disk}
use Rattle.store_journal.specs.Outdated.{IsOutdated}
use Rattle.doc_store.specs.Strict.{IsSaidOf}
use Rattle.damaged_files.specs.Dump.{dump_of}
use Rattle.damaged_files.specs.Shown.{Shows}
use Rattle.file_programs.specs.Reads.{IsNotLooked}
use Rattle.file_programs.proofs.Reading.{read_in, refused_in}
use Rattle.file_programs.proofs.programs.dump.dump_file.Goals as goal

pub returns-clause-dumped : goal.returns-clause-dumped
returns-clause-dumped g c =
    let looked = c.in_ok-looked.looked in
    let was = c.in_ok-device.ensures.history in
    let e = c.in_ok-looked.ensures in
    record {
      found = read_in c.args.held c.in_ok-device.device looked.device looked.machine was e.stands;
      newest = λ honest out. e.newest honest (subst (λ (p : History). IsOutdated (seen_after p)) (sym was) out);
      said = λ honest. subst (λ (p : History). IsSaidOf (seen_after p) looked.notice) was (e.notice honest);
      taken = e.taken;
      good = e.good;
      shown = subst (λ (seq : ℕ). Shows c.show_documents-shown.result (dump_of looked.machine.documents seq) (g.O.Write.contents c.args.writer.now) (g.O.Write.contents c.show_documents-shown.new.writer)) c.seq-seq.ensures.seq c.show_documents-shown.ensures;
    }

pub returns-in_err-looked-clause-refused : goal.returns-in_err-looked-clause-refused
returns-in_err-looked-clause-refused g c =
    let p = err_from_is_err_and c.from_residual-in_err-looked.result c.from_residual-in_err-looked.ensures.1 in
    let fault = c.in_err-looked.field-0.0 in
    let first = c.in_ok-device.device in
    let refused = refused_in c.args.strictness c.args.held first fault.device fault.number c.in_ok-device.ensures.history c.in_err-looked.ensures.refused in
    rw (p.1, p.2) (first.sectors, subst (λ (n : ℕ). IsNotLooked c.args.strictness (disk_after first.sectors (Opened c.args.held) n) (file_disk fault.device) fault.number) c.in_ok-device.ensures.failures refused)
