use Rattle.std.proofs.Common.{◌≡◌, sym, ◌∙◌, ap, subst, map, Some, is_some, position, string_bytes, bytes_eq, slice_get, List, ℕ}
use Rattle.std.specs.Map.{keys_of, values_of}
use Rattle.std.specs.Option.{option_copied_mut}
use Rattle.doc_patch.specs.Measured.{CanReverse}
use Rattle.doc_changes.specs.State.{Document, find}
use Rattle.doc_changes.specs.Undo.{reversed_doc}
use Rattle.doc_changes.specs.StateView.{document_of, named}
use Rattle.doc_changes.proofs.Entries.{found_at, is_some-find-map, same_some, written}
use Rattle.doc_changes.proofs.patching.take_back.Goals as goal

pub unwrap-index-requires : goal.unwrap-index-requires
unwrap-index-requires c =
    c.get_index_of.ensures.found ∙ sym (is_some-find-map c.as_str.result.now c.args.documents.now.entries)
    ∙ ap (λ (n : List ℕ). is_some (find n (map document_of c.args.documents.now.entries))) c.as_str.ensures.value ∙ ap is_some c.requires.found

at : (c : goal.After-drop-name) → position (λ k. bytes_eq (string_bytes c.args.name) (string_bytes k)) (keys_of c.args.documents.now.entries) ≡ Some c.unwrap-index.result
at c =
    ap (λ (n : List ℕ). position (λ k. bytes_eq n (string_bytes k)) (keys_of c.args.documents.now.entries)) (sym c.as_str.ensures.value)
    ∙ sym c.get_index_of.ensures.index ∙ c.unwrap-index.ensures

value : (c : goal.After-drop-name) → slice_get (values_of c.args.documents.now.entries) c.unwrap-index.result ≡ Some c.unwrap-stored.result.now
value c = sym c.get_index_mut.ensures.value ∙ ap option_copied_mut c.unwrap-stored.ensures

pub reverse-requires : goal.reverse-requires
reverse-requires c =
    let n = string_bytes c.args.name in
    let es = c.args.documents.now.entries in
    let was = c.unwrap-stored.result.now in
    let at_it : position (λ k. bytes_eq n (string_bytes k)) (keys_of es) ≡ Some c.unwrap-index.result =
    ap (λ (m : List ℕ). position (λ k. bytes_eq m (string_bytes k)) (keys_of es)) (sym c.as_str.ensures.value) ∙ sym c.get_index_of.ensures.index ∙ c.unwrap-index.ensures in
    let value_it : slice_get (values_of es) c.unwrap-index.result ≡ Some was = sym c.get_index_mut.ensures.value ∙ ap option_copied_mut c.unwrap-stored.ensures in
    let same = same_some (find n (map document_of es)) c.requires.document (named n was) c.requires.found (found_at n es c.unwrap-index.result was at_it value_it) in
    subst (λ (d : Document). CanReverse c.args.reversal d.doc) same c.requires.can

pub returns-clause-before : goal.returns-clause-before
returns-clause-before c =
    written (reversed_doc c.args.reversal c.args.revision) (string_bytes c.args.name) c.args.documents.now.entries c.unwrap-index.result c.unwrap-stored.result.now c.reverse.new.stored (at c) (value c) c.reverse.ensures
