use Rattle.std.proofs.Common.{◌≡◌, Some, is_none, option_map, string_bytes, sym, ap, ◌∙◌}
use Rattle.std.proofs.lemmas.Result.{IfOk-weaker}
use Rattle.std.specs.Option.{option_and_then}
use Rattle.doc_pointer.specs.Reading.{pointer_of}
use Rattle.doc_tree.specs.TreeView.{view}
use Rattle.schema_rules.specs.References.{reached, spelled_by}
use Rattle.schema_references.proofs.references.names_none.Goals as goal

pub returns-in-Some : goal.returns-in-Some
returns-in-Some c =
    let r = view c.args.root.now in
    let v = view c.args.value.now in
    let same : spelled_by r v ≡ Some c.as_str.result.now = sym (ap (λ t. spelled_by (view t) v) c.tree.ensures) ∙ sym c.in_ok-text.ensures.found ∙ ap (option_map string_bytes) c.in-Some.is ∙ ap Some (sym c.as_str.ensures.value) in
    IfOk-weaker c.leads_nowhere.result _ _ (λ b h. h ∙ sym (ap (λ o. is_none (reached r (option_and_then pointer_of o) o)) same)) c.leads_nowhere.ensures
