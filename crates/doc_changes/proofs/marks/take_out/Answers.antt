use Rattle.std.proofs.Common.{List, map, subst}
use Rattle.doc_changes.specs.MarkPlaces.{GoesAt, IsMore}
use Rattle.doc_changes.specs.MarkView.{mark_in}
use Rattle.doc_changes.specs.Marks.{Mark}
use Rattle.doc_changes.specs.declared.mark.Mark.{Mark as Held}
use Rattle.doc_changes.proofs.Marked.{sets_more, sets_over}
use Rattle.doc_changes.proofs.marks.take_out.Goals as goal

pub returns-in-Some-clause-sets : goal.returns-in-Some-clause-sets
returns-in-Some-clause-sets c = λ value seq.
    let key = c.args.key.now in
    let m : Mark = record { key = key; value = value; seq = seq } in
    sets_over m c.args.held.now.items c.remove.new.self.items c.in-Some.index c.remove.result
    (subst (λ (xs : List Held). GoesAt key (map mark_in xs) c.in-Some.index) c.as_slice.ensures.value c.in-Some.ensures) c.remove.ensures.value c.remove.ensures.items

pub returns-in-None-clause-sets : goal.returns-in-None-clause-sets
returns-in-None-clause-sets c = λ value seq.
    let key = c.args.key.now in
    let m : Mark = record { key = key; value = value; seq = seq } in
    sets_more m (map mark_in c.args.held.now.items) (subst (λ (xs : List Held). IsMore key (map mark_in xs)) c.as_slice.ensures.value c.in-None.ensures)
