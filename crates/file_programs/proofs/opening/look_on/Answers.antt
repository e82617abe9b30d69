use Rattle.std.proofs.Common.{◌≡◌, ◌∙◌, false, inl, inr, subst, sym}
use Rattle.sector_device.specs.Disk.{Image}
use Rattle.file_device.specs.File.{file_disk}
use Rattle.store_commits.specs.Images.{Stands}
use Rattle.doc_store.specs.Strict.{IsSaidOf, IsTaken}
use Rattle.doc_store.proofs.Strict.{not_true}
use Rattle.file_programs.proofs.Reading.{cut_off, not_looked, same_size}
use Rattle.file_programs.proofs.opening.look_on.Goals as goal

pub returns-in-Err-clause-refused : goal.returns-in-Err-clause-refused
returns-in-Err-clause-refused c = not_looked c.args.strictness (file_disk c.args.device) (file_disk c.in-Err.fault.device) c.in-Err.fault.number (inl c.in-Err.ensures.err)

pub returns-in-Err-clause-size_err : goal.returns-in-Err-clause-size_err
returns-in-Err-clause-size_err c = λ honest. c.in-Err.ensures.err.same.size

pub returns-in-Err-look-clause-size_err : goal.returns-in-Err-look-clause-size_err
returns-in-Err-look-clause-size_err c = λ honest.
    let e = c.in-Err-look.ensures in
    same_size c.in-Ok.device c.in-Err-look.fault.device (e.honest_err honest) honest (e.unwritten_err honest false).seen ∙ c.in-Ok.ensures.ok.same.size

pub returns-then-not-takes-clause-size_err : goal.returns-then-not-takes-clause-size_err
returns-then-not-takes-clause-size_err c = λ honest.
    let e = c.in-Ok-look.ensures in
    same_size c.in-Ok.device c.in-Ok-look.looked.device (e.honest honest) honest (e.unwritten honest false).seen ∙ c.in-Ok.ensures.ok.same.size

pub returns-in-Err-look-clause-refused : goal.returns-in-Err-look-clause-refused
returns-in-Err-look-clause-refused c =
    let fault = c.in-Err-look.fault in
    not_looked c.args.strictness (file_disk c.args.device) (file_disk fault.device) fault.number (inr (c.in-Ok.device, c.in-Ok.ensures.ok, c.in-Err-look.ensures.honest_err, c.in-Err-look.ensures.refused))

pub returns-then-not-takes-clause-refused : goal.returns-then-not-takes-clause-refused
returns-then-not-takes-clause-refused c =
    let looked = c.in-Ok-look.looked in
    let e = c.in-Ok-look.ensures in
    let newest = c.in-Ok.ensures.ok in
    let none : IsTaken c.args.strictness looked.notice → ⊥ = λ taken. not_true c.takes.result c.if-not-takes.true (c.takes.ensures.1 taken) in
    cut_off c.args.strictness looked.notice (file_disk c.args.device) (file_disk looked.device) looked.machine none
    (λ honest. subst (Stands looked.machine) (newest.keeps (e.honest honest) false).seen (e.stands honest))
    (λ honest. subst (λ (i : Image). IsSaidOf i looked.notice) (newest.keeps (e.honest honest) false).seen (e.notice honest))

pub returns-clause-stands : goal.returns-clause-stands
returns-clause-stands c = λ honest.
    let looked = c.in-Ok-look.looked in
    subst (Stands looked.machine) (c.in-Ok.ensures.ok.keeps (c.in-Ok-look.ensures.honest honest) false).seen (c.in-Ok-look.ensures.stands honest)

pub returns-clause-newest : goal.returns-clause-newest
returns-clause-newest c = λ honest. c.in-Ok.ensures.ok.newest (c.in-Ok-look.ensures.honest honest)

pub returns-clause-notice : goal.returns-clause-notice
returns-clause-notice c = λ honest.
    let looked = c.in-Ok-look.looked in
    subst (λ (i : Image). IsSaidOf i looked.notice) (c.in-Ok.ensures.ok.keeps (c.in-Ok-look.ensures.honest honest) false).seen (c.in-Ok-look.ensures.notice honest)

pub returns-clause-seen : goal.returns-clause-seen
returns-clause-seen c = λ honest.
    let e = c.in-Ok-look.ensures in
    (e.unwritten honest false).seen ∙ (c.in-Ok.ensures.ok.keeps (e.honest honest) false).seen

pub returns-in-Err-clause-seen_err : goal.returns-in-Err-clause-seen_err
returns-in-Err-clause-seen_err c = λ honest. (c.in-Err.ensures.err.keeps honest false).seen

pub returns-in-Err-look-clause-seen_err : goal.returns-in-Err-look-clause-seen_err
returns-in-Err-look-clause-seen_err c = λ honest.
    let e = c.in-Err-look.ensures in
    (e.unwritten_err honest false).seen ∙ (c.in-Ok.ensures.ok.keeps (e.honest_err honest) false).seen

pub returns-then-not-takes-clause-seen_err : goal.returns-then-not-takes-clause-seen_err
returns-then-not-takes-clause-seen_err c = λ honest.
    let e = c.in-Ok-look.ensures in
    (e.unwritten honest false).seen ∙ (c.in-Ok.ensures.ok.keeps (e.honest honest) false).seen
