use Rattle.std.proofs.Common.{ℕ, List, Some, sym, ◌∙◌, ap, arith, map}
use Rattle.doc_changes.specs.MarkView.{mark_in}
use Rattle.doc_changes.specs.MarkPlaces.{place_from}
use Rattle.doc_changes.specs.Marks.{mark_of}
use Rattle.doc_changes.specs.declared.mark.Mark.{Mark as Held}
use Rattle.doc_changes.proofs.Marked.{absent, mark_there, place_within}
use Rattle.doc_changes.proofs.marks.Marks.get.Goals as goal

pub index-requires : goal.index-requires
index-requires c =
    let low = place_within c.args.key.now c.as_slice.result.now c.in-Some.index (sym c.find.ensures ∙ c.in-Some.is) in
    omega (arith, low, c.as_slice.ensures.len)

pub returns-in-None : goal.returns-in-None
returns-in-None c =
    let key = c.args.key.now in
    sym (ap (mark_of key) c.self.view_is) ∙ ap (λ (xs : List Held). mark_of key (map mark_in xs)) (sym c.as_slice.ensures.value) ∙ (absent 0 key (map mark_in c.as_slice.result.now) (sym c.find.ensures ∙ c.in-None.is)).0

pub returns-in-Some : goal.returns-in-Some
returns-in-Some c =
    let key = c.args.key.now in
    let es = c.self.inside.held.items in
    let place = ap (λ (xs : List Held). place_from 0 key (map mark_in xs)) (sym c.as_slice.ensures.value) ∙ sym c.find.ensures ∙ c.in-Some.is in
    sym (ap (mark_of key) c.self.view_is) ∙ mark_there key es c.in-Some.index c.index.result.now place c.index.ensures
