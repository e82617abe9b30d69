use Rattle.std.proofs.Common.{Global, Vec, map, sym, ap, ◌∙◌, subst, true}
use Rattle.doc_tree.specs.Place.{place_of}
use Rattle.doc_tree.specs.TreeView.{view}
use Rattle.doc_tree.specs.declared.tree.Step.{Step}
use Rattle.doc_schema.specs.Judge.{Judges}
use Rattle.doc_schema.proofs.Lifted.{loop_above}
use Rattle.schema_levels.specs.Searched.{AreSearched}
use Rattle.schema_levels.specs.Table.{IsTable}
use Rattle.schema_pattern.specs.Tables.{sources}
use Rattle.schema_rules.specs.PatternTexts.{pattern_texts}
use Rattle.doc_schema.proofs.Reading.{few}
use Rattle.doc_schema.proofs.Tables.{judged_after}
use Rattle.doc_schema.proofs.schema.Schema.judged_after.Goals as goal

pub returns-clause-judged : goal.returns-clause-judged
returns-clause-judged c = λ valid was agree.
    let r = view c.self.inside.source in
    let u = view c.args.changed.now in
    let is = judged_after r c.self.inside.nodes.nodes.items c.self.inside.nodes.whole (map (λ (p : Vec Step Global). map place_of p.items) c.args.paths.now) valid u c.passes_after.result c.self.invariant.1 (λ l. c.self.invariant.0.loops (loop_above r l))
    (λ known t. c.passes_after.ensures.value known (subst (λ l. IsTable l known) (sym c.deref.ensures.value) t)) (subst (λ s. Judges (view s) valid true) (sym c.self.view_is) was) agree in
    subst (λ s. Judges (view s) u c.passes_after.result) c.self.view_is is

pub passes_after-requires-clause-searched : goal.passes_after-requires-clause-searched
passes_after-requires-clause-searched c = subst (λ l. AreSearched (sources c.args.searches.now) l) (sym c.deref.ensures.value)
    (subst (λ ss. AreSearched ss c.self.inside.nodes.nodes.items) (ap (λ s. pattern_texts (view s)) c.self.view_is ∙ sym c.requires) (c.self.invariant.1.searched (few (view c.self.inside.source) c.self.invariant.0)))
