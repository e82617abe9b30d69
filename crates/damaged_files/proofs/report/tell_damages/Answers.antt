use Rattle.std.proofs.Common.{◌∙◌, Bool, List, subst}
use Rattle.std.specs.Io.KnownBytes.{Appends}
use Rattle.damaged_files.specs.Damages.{damages_of, report_of}
use Rattle.damaged_files.specs.declared.damage.Damage.{Damage}
use Rattle.damaged_files.proofs.report.tell_damages.Goals as goal

pub returns-clause-shown : goal.returns-clause-shown
returns-clause-shown g c =
    let before = g.O.Write.contents c.args.writer.now in
    let after = g.O.Write.contents c.show_report.new.writer in
    subst (λ (b : Bool). Appends before after (report_of b (damages_of c.args.refused c.in_ok-examined.examined))) c.has_checksums.ensures
    (subst (λ (ds : List Damage). Appends before after (report_of c.has_checksums.result ds)) (c.deref.ensures.value ∙ c.in_ok-damages.ensures) c.in_ok-show_report.ensures)
