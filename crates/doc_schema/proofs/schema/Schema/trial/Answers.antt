use Rattle.std.proofs.Common.{ap, ◌∙◌}
use Rattle.doc_tree.specs.TreeView.{view}
use Rattle.schema_pattern.specs.Tables.{pattern_sources}
use Rattle.schema_rules.specs.PatternTexts.{pattern_texts}
use Rattle.doc_schema.proofs.schema.Schema.trial.Goals as goal

pub invariant_of-result : goal.invariant_of-result
invariant_of-result c = record {
  searched = c.in_ok-searches_of.ensures ∙ ap pattern_sources c.deref.ensures.value ∙ c.self.invariant.3 ∙ ap (λ s. pattern_texts (view s)) c.self.view_is;
}
