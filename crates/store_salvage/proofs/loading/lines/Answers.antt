use Rattle.std.proofs.Common.{◌≡◌, ◌∙◌, ◌++◌, ◌∷◌, [], ap, append_assoc, drop, List, ℕ}
use Rattle.std.proofs.lemmas.List.{take_rest}
use Rattle.doc_tree.specs.TreeView.{view}
use Rattle.record_text.specs.Change.{create}
use Rattle.record_text.specs.Frame.{body_of, entry}
use Rattle.doc_changes.specs.StateView.{lent_of}
use Rattle.store_salvage.proofs.Spelled.{headless, line_goes, storable_at}
use Rattle.store_salvage.proofs.loading.lines.Goals as goal

pub creation_frame-requires : goal.creation_frame-requires
creation_frame-requires c =
    let d = lent_of c.at-lent.result in
    (c.storable_documents_are_framed.ensures d (storable_at c.args.look.now.documents c.loop-place.place d c.len-place-end.ensures.good.storable c.at-lent.ensures.document)).small

pub loop-place-preserved : goal.loop-place-preserved
loop-place-preserved c =
    let before = c.loop-place.lines.items in
    let e = entry c.at-lent.result.revision (create c.at-lent.result.name.now (view c.at-lent.result.schema.now) (view c.at-lent.result.doc.now)) in
    let grown : c.extend_from_slice.new.self.items ≡ before ++ body_of e.change =
    c.in_ok-extend_from_slice.ensures.items ∙ ap (λ (l : List ℕ). before ++ l) (take_rest c.deref.result.now 12 ∙ ap (drop 12) (c.deref.ensures.value ∙ c.in_ok-frame.ensures) ∙ headless e) in
    line_goes c.args.look.now.documents c.loop-place.place (lent_of c.at-lent.result) before c.push.new.self.items c.at-lent.ensures.document
    (c.in_ok-push.ensures.items ∙ ap (λ (l : List ℕ). l ++ 10 ∷ []) grown ∙ append_assoc before (body_of e.change) (10 ∷ []))
    ∙ c.loop-place.invariant
