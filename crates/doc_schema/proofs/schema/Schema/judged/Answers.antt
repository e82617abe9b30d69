use Rattle.std.proofs.Common.{sym, ap, ◌∙◌, subst}
use Rattle.doc_tree.specs.TreeView.{view}
use Rattle.doc_schema.specs.Judge.{Judges}
use Rattle.doc_schema.proofs.Lifted.{loop_above}
use Rattle.schema_levels.specs.Searched.{AreSearched}
use Rattle.schema_levels.specs.Table.{IsTable}
use Rattle.schema_pattern.specs.Tables.{sources}
use Rattle.schema_rules.specs.PatternTexts.{pattern_texts}
use Rattle.doc_schema.proofs.Reading.{few}
use Rattle.doc_schema.proofs.Tables.{judged}
use Rattle.doc_schema.proofs.schema.Schema.judged.Goals as goal

pub returns-clause-judged : goal.returns-clause-judged
returns-clause-judged c =
    let r = view c.self.inside.source in
    let u = view c.args.instance.now in
    let is = judged r c.self.inside.nodes.nodes.items c.self.inside.nodes.whole u c.passes.result c.self.invariant.1 (λ l. c.self.invariant.0.loops (loop_above r l))
    (λ known t. c.passes.ensures.value known (subst (λ l. IsTable l known) (sym c.deref.ensures.value) t)) in
    subst (λ s. Judges (view s) u c.passes.result) c.self.view_is is

pub passes-requires-clause-searched : goal.passes-requires-clause-searched
passes-requires-clause-searched c = subst (λ l. AreSearched (sources c.args.searches.now) l) (sym c.deref.ensures.value)
    (subst (λ ss. AreSearched ss c.self.inside.nodes.nodes.items) (ap (λ s. pattern_texts (view s)) c.self.view_is ∙ sym c.requires) (c.self.invariant.1.searched (few (view c.self.inside.source) c.self.invariant.0)))
