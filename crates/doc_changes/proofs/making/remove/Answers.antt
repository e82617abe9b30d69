use Rattle.std.proofs.Common.{◌+◌, ◌<◌, sym, ◌∙◌, ap, subst, map, insert, remove, length, arith, is_some, if◌then◌else◌}
use Rattle.std.proofs.lemmas.List.{length-map}
use Rattle.std.specs.Option.{IfSome}
use Rattle.indexmap.proofs.SetLemmas.{map-insert}
use Rattle.doc_changes.specs.StateView.{document_of}
use Rattle.doc_changes.proofs.Entries.{is_some-find-map, removed}
use Rattle.doc_changes.proofs.Undoing.{insert-remove}
use Rattle.doc_changes.proofs.making.remove.Goals as goal

pub unwrap-index-requires : goal.unwrap-index-requires
unwrap-index-requires c = c.get_index_of.ensures.found ∙ sym (is_some-find-map c.args.name.now c.args.documents.now.entries) ∙ c.requires.found

pub returns-clause-after : goal.returns-clause-after
returns-clause-after c =
    ap (map document_of) c.shift_remove_index.ensures.entries
    ∙ removed c.args.name.now c.args.documents.now.entries c.unwrap-index.result (sym c.get_index_of.ensures.index ∙ c.unwrap-index.ensures)

pub returns-clause-undo : goal.returns-clause-undo
returns-clause-undo c =
    let es = c.args.documents.now.entries in
    let i = c.unwrap-index.result in
    let e = c.unwrap-name.result in
    let within = subst (λ o. IfSome o (λ n. n < length es)) c.unwrap-index.ensures c.get_index_of.ensures.within in
    let size = sym (ap (λ o. length c.shift_remove_index.new.self.entries + (if is_some o then 1 else 0)) c.unwrap-name.ensures) ∙ c.shift_remove_index.ensures.len in
    record {
      back = ap (λ l. insert (map document_of l) i (document_of e)) c.shift_remove_index.ensures.entries
          ∙ sym (map-insert document_of (remove es i) i e)
          ∙ ap (map document_of) (insert-remove es i e (sym c.shift_remove_index.ensures.entry ∙ c.unwrap-name.ensures));
      there = omega (arith, within, size, length-map c.shift_remove_index.new.self.entries document_of);
    }
