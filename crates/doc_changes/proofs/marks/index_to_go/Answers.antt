use Rattle.std.proofs.Common.{sym, ◌∙◌, arith, map}
use Rattle.doc_changes.specs.MarkView.{mark_in}
use Rattle.doc_changes.proofs.Marked.{goes_first, goes_found, goes_none, length-seen}
use Rattle.doc_changes.proofs.marks.index_to_go.Goals as goal

pub returns-in-Some : goal.returns-in-Some
returns-in-Some c =
    let few = c.requires in
    goes_found c.args.key.now (map mark_in c.args.marks.now) c.in-Some.index (omega (arith, few, length-seen c.args.marks.now)) (sym c.find.ensures ∙ c.in-Some.is)

pub returns-in-None : goal.returns-in-None
returns-in-None c =
    let full = c.if-marks-eq-MARKS.true in
    goes_first c.args.key.now (map mark_in c.args.marks.now) (omega (arith, full, length-seen c.args.marks.now)) (sym c.find.ensures ∙ c.in-None.is)

pub returns-in-None-2 : goal.returns-in-None-2
returns-in-None-2 c =
    let few = c.requires in
    let size = length-seen c.args.marks.now in
    goes_none c.args.key.now (map mark_in c.args.marks.now) (omega (arith, few, size)) (λ full. c.if-marks-eq-MARKS.false (sym size ∙ full)) (sym c.find.ensures ∙ c.in-None.is)
