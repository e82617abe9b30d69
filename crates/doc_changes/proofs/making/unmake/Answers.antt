use Rattle.std.proofs.Common.{sym, ◌∙◌, ap, subst, map, string_bytes, is_some, arith}
use Rattle.std.proofs.lemmas.Result.{IfOk-at_ok}
use Rattle.std.proofs.lemmas.List.{length-map}
use Rattle.doc_changes.specs.State.{AreDistinct}
use Rattle.doc_changes.specs.Undo.{documents_before, IsThere}
use Rattle.doc_changes.specs.StateView.{document_of, named}
use Rattle.doc_changes.specs.declared.undo.Undo.{Undo}
use Rattle.doc_changes.proofs.Entries.{no_key}
use Rattle.doc_changes.proofs.Undoing.{absent_at, inserted, map_popped}
use Rattle.doc_changes.proofs.making.unmake.Goals as goal

pub shift_insert-requires-clause-below_len : goal.shift_insert-requires-clause-below_len
shift_insert-requires-clause-below_len c =
    let ds = map document_of c.args.documents.now.entries in
    let apart = subst (λ (u : Undo). AreDistinct (documents_before u ds)) c.in-Removed.is c.requires.distinct in
    let none = no_key (string_bytes c.in-Removed.name) c.args.documents.now.entries (absent_at ds c.in-Removed.index (named (string_bytes c.in-Removed.name) c.in-Removed.stored) apart) in
    λ has. (let contrary = sym (ap is_some none) ∙ has in absurd (cc contrary))

pub returns-in-Added-clause-before : goal.returns-in-Added-clause-before
returns-in-Added-clause-before c =
    let ds = map document_of c.args.documents.now.entries in
    let some = subst (λ (u : Undo). IsThere u ds) c.in-Added.is c.requires.there in
    map_popped c.args.documents.now.entries c.pop-last.new.self.entries c.pop-last.result c.pop-last.ensures.entries
    (c.pop-last.ensures.found.1 (omega (arith, some, length-map c.args.documents.now.entries document_of)))
    ∙ ap (λ (u : Undo). documents_before u ds) (sym c.in-Added.is)

pub returns-in-Removed-clause-before : goal.returns-in-Removed-clause-before
returns-in-Removed-clause-before c =
    let es = c.args.documents.now.entries in
    let ds = map document_of es in
    let apart = subst (λ (u : Undo). AreDistinct (documents_before u ds)) c.in-Removed.is c.requires.distinct in
    let within = subst (λ (u : Undo). IsThere u ds) c.in-Removed.is c.requires.there in
    let absent = absent_at ds c.in-Removed.index (named (string_bytes c.in-Removed.name) c.in-Removed.stored) apart in
    ap (map document_of) (IfOk-at_ok _ c.unwrap-old.ensures c.shift_insert.ensures.entries)
    ∙ inserted c.in-Removed.name c.in-Removed.stored es c.in-Removed.index (omega (arith, within, length-map es document_of)) absent
    ∙ ap (λ (u : Undo). documents_before u ds) (sym c.in-Removed.is)
