use Rattle.std.proofs.Common.{◌≡◌, ◌↔◌, [], length, not, false, sym, ap, subst}
use Rattle.doc_tree.specs.TreeView.{view}
use Rattle.schema_rules.specs.PatternTexts.{pattern_texts}
use Rattle.doc_schema.proofs.Searchless.{none_read}
use Rattle.doc_schema.proofs.schema.Schema.has_patterns.Goals as goal

pub returns : goal.returns
returns c =
    subst (λ s. (not c.is_empty.result ≡ false) ↔ (pattern_texts (view s) ≡ [])) c.self.view_is
    (subst (λ b. (not b ≡ false) ↔ (pattern_texts (view c.self.inside.source) ≡ [])) (sym c.is_empty.ensures)
    (none_read c.self.inside.patterns.items _ _ c.self.invariant.3 (ap length c.as_slice.ensures.value)))
