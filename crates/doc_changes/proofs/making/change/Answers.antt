use Rattle.std.proofs.Common.{◌≡◌, sym, ◌∙◌, ap, map, Some, is_some, position, string_bytes, bytes_eq, slice_get, List, ℕ}
use Rattle.std.specs.Map.{keys_of, values_of}
use Rattle.std.specs.Option.{option_copied_mut}
use Rattle.indexmap.specs.Layout.{set_value_at}
use Rattle.doc_changes.specs.State.{Document, changed, find}
use Rattle.doc_changes.specs.Undo.{with_rules}
use Rattle.doc_changes.specs.StateView.{document_of, named}
use Rattle.doc_changes.proofs.Entries.{found_at, is_some-find-map, written}
use Rattle.doc_changes.proofs.Goodness.{found_changed}
use Rattle.doc_changes.proofs.Undoing.{changed-back, keeps_name}
use Rattle.doc_changes.proofs.making.change.Goals as goal

pub unwrap-index-requires : goal.unwrap-index-requires
unwrap-index-requires c =
    c.get_index_of.ensures.found ∙ sym (is_some-find-map c.as_str.result.now c.args.documents.now.entries)
    ∙ ap (λ (n : List ℕ). is_some (find n (map document_of c.args.documents.now.entries))) c.as_str.ensures.value ∙ c.requires.found

at : (c : goal.After-documents-1) → position (λ k. bytes_eq (string_bytes c.args.name) (string_bytes k)) (keys_of c.args.documents.now.entries) ≡ Some c.unwrap-index.result
at c =
    ap (λ (n : List ℕ). position (λ k. bytes_eq n (string_bytes k)) (keys_of c.args.documents.now.entries)) (sym c.as_str.ensures.value)
    ∙ sym c.get_index_of.ensures.index ∙ c.unwrap-index.ensures

value : (c : goal.After-documents-1) → slice_get (values_of c.args.documents.now.entries) c.unwrap-index.result ≡ Some c.unwrap-stored.result.now
value c = sym c.get_index_mut.ensures.value ∙ ap option_copied_mut c.unwrap-stored.ensures

made : (c : goal.After-documents-1) → map document_of (set_value_at c.args.documents.now.entries c.unwrap-index.result c.replace-rules.new.stored)
    ≡ changed (with_rules c.args.rules c.args.revision) (string_bytes c.args.name) (map document_of c.args.documents.now.entries)
made c =
    written (with_rules c.args.rules c.args.revision) (string_bytes c.args.name) c.args.documents.now.entries c.unwrap-index.result c.unwrap-stored.result.now
    c.replace-rules.new.stored (at c) (value c) c.replace-rules.ensures.made

pub returns-clause-after : goal.returns-clause-after
returns-clause-after c = made c

pub returns-clause-undo : goal.returns-clause-undo
returns-clause-undo c =
    let name = string_bytes c.args.name in
    let ds = map document_of c.args.documents.now.entries in
    let was = c.unwrap-stored.result.now in
    let f = with_rules c.args.rules c.args.revision in
    let keeps = keeps_name c.args.rules c.args.revision in
    let found = found_at name c.args.documents.now.entries c.unwrap-index.result was (at c) (value c) in
    let back = ap (λ (d : Document). with_rules c.replace-rules.result was.revision d) (sym (c.replace-rules.ensures.made name)) ∙ c.replace-rules.ensures.back name in
    record {
      back = ap (changed (with_rules c.replace-rules.result was.revision) name) (made c)
          ∙ changed-back f (with_rules c.replace-rules.result was.revision) name ds (named name was) keeps found back;
      there = ap (λ (l : List Document). is_some (find name l)) (made c) ∙ found_changed f name name ds keeps ∙ c.requires.found;
    }
