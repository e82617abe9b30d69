use Rattle.std.proofs.Common.{length, sym, ap, ◌∙◌}
use Rattle.doc_tree.specs.Lists.{elements_list}
use Rattle.schema_rules.specs.Parts.{elements_in, or_null}
use Rattle.doc_schema.proofs.Rest.{elements_len}
use Rattle.doc_schema.proofs.parts.prefix_len.Goals as goal

pub returns-in-Some : goal.returns-in-Some
returns-in-Some c =
    sym (elements_len c.elements_of.result.now) ∙ ap (λ es. length (elements_list es)) c.elements_of.ensures ∙ ap (λ o. length (elements_list (elements_in (or_null o)))) c.in-Some.ensures
