use Rattle.std.proofs.Common.{ℕ, IfOk, IfSome, subst}
use Rattle.sector_device.specs.Disk.{Image}
use Rattle.store_parts.specs.Copies.{AreToldOn}
use Rattle.std.proofs.lemmas.Result.{err_from_is_err_and}
use Rattle.doc_store.specs.declared.opening.Strictness.TheVariants.{AnyState}
use Rattle.file_programs.specs.Reads.{IsFoundIn, IsUnlookedOn, refused_by}
use Rattle.file_programs.proofs.Reading.{found_on, told_of, unlooked_in}
use Rattle.file_programs.proofs.programs.deep.check_deep.Goals as goal

pub returns-clause-examined : goal.returns-clause-examined
returns-clause-examined g c =
    let first = c.in_ok-device.device in
    let device = c.in_ok-device-2.device in
    let found = c.in_ok-device-2.found in
    let is = c.in_ok-device-2.ensures.found c.args.held c.in_ok-device.ensures.history in
    let told = c.tell_damages-told.ensures in
    record {
      found = found_on c.args.held 0 device c.tell_damages-told.new.device found told.same told.later (subst (λ (n : ℕ). IsFoundIn c.args.held n device found) c.in_ok-device.ensures.failures is);
      copies = λ h. subst (λ (image : Image). IfOk c.tell_damages-told.result (λ t. IfSome t.examined.found (AreToldOn image))) (c.in_ok-device-2.ensures.seen c.args.held c.in_ok-device.ensures.history (told.same.honest h)) (told.copies h);
      told = told_of c.tell_damages-told.result _ _ c.refused_by.result (refused_by found) _ _ told.same.size c.refused_by.ensures told.examined told.condition told.shown;
    }

pub returns-in_err-device-2-clause-refused : goal.returns-in_err-device-2-clause-refused
returns-in_err-device-2-clause-refused g c =
    let p = err_from_is_err_and c.from_residual-in_err-device-2.result c.from_residual-in_err-device-2.ensures.1 in
    let fault = c.in_err-device-2.field-0.0 in
    let first = c.in_ok-device.device in
    let refused = c.in_err-device-2.ensures.refused c.args.held c.in_ok-device.ensures.history in
    rw (p.1, p.2) (unlooked_in AnyState c.args.held first.sectors fault (subst (λ (n : ℕ). IsUnlookedOn AnyState c.args.held first.sectors n fault) c.in_ok-device.ensures.failures refused))
