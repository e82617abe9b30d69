use Rattle.std.proofs.Common.{inl, map, sym, ap, subst, ◌∙◌}
use Rattle.doc_tree.specs.TreeView.{view}
use Rattle.doc_schema.specs.Checked.{IsChecked}
use Rattle.doc_schema.specs.Faults.{IsFaultless, IsFirstFault}
use Rattle.refusals.specs.declared.numbers.TheConstants.{SCHEMA_LOOP}
use Rattle.schema_rules.specs.PatternTexts.{pattern_texts}
use Rattle.doc_schema.proofs.Earlier.{accepted_by}
use Rattle.doc_schema.proofs.Offered.{checked_stays, faultless_stays, texts_same}
use Rattle.doc_schema.proofs.Reading.{leads_back, compiled_is, counted_is, faultless}
use Rattle.doc_schema.proofs.Rooms.{some_of, sources_of}
use Rattle.doc_schema.proofs.schema.Schema.read_whole.Goals as goal

pub invariant_of-result : goal.invariant_of-result
invariant_of-result c =
    let s = view c.in_ok-source.source in
    let checked : IsChecked c.args.profile s = subst (IsChecked c.args.profile) (sym c.in_ok-source.ensures.same) c.in_ok-texts.ensures.ok in
    let sources = sources_of _ c.in-Some-patterns.patterns _ _ c.in_ok-texts.ensures.patterns c.in-Some-patterns.is in (
      faultless_stays c.args.profile s (faultless c.args.profile s c.in_ok-nodes.field-0 c.in-Some.nodes checked c.in_ok-nodes.ensures c.in-Some.is),
      compiled_is s c.in_ok-nodes.field-0 c.in-Some.nodes c.in_ok-nodes.ensures c.in-Some.is,
      counted_is s c.in_ok-nodes.field-0 c.in-Some.nodes c.in_ok-nodes.ensures c.in-Some.is,
      sources ∙ texts_same c.args.profile (view c.args.source.now) c.in_ok-texts.ensures.ok.keywords c.in_ok-texts.ensures.ok.references ∙ ap pattern_texts (sym c.in_ok-source.ensures.same),
      accepted_by (view c.args.source.now) s c.in_ok-texts.field-0.earlier c.in_ok-source.ensures.same (faultless_stays c.args.profile s (faultless c.args.profile s c.in_ok-nodes.field-0 c.in-Some.nodes checked c.in_ok-nodes.ensures c.in-Some.is)) c.in_ok-texts.ensures.earlier,
    )

pub returns-in-Some-patterns-clause-ok : goal.returns-in-Some-patterns-clause-ok
returns-in-Some-patterns-clause-ok c =
    let s = view c.in_ok-source.source in
    let checked : IsChecked c.args.profile s = subst (IsChecked c.args.profile) (sym c.in_ok-source.ensures.same) c.in_ok-texts.ensures.ok in
    (c.in_ok-source.ensures.same, faultless c.args.profile s c.in_ok-nodes.field-0 c.in-Some.nodes checked c.in_ok-nodes.ensures c.in-Some.is)

-- its patterns are too large
pub returns-in-Some-clause-ok : goal.returns-in-Some-clause-ok
returns-in-Some-clause-ok c =
    let s = view c.in_ok-source.source in
    let checked : IsChecked c.args.profile s = subst (IsChecked c.args.profile) (sym c.in_ok-source.ensures.same) c.in_ok-texts.ensures.ok in
    let none = faultless c.args.profile s c.in_ok-nodes.field-0 c.in-Some.nodes checked c.in_ok-nodes.ensures c.in-Some.is in
    (subst (IsFaultless c.args.profile) c.in_ok-source.ensures.same none, some_of _ _ _ c.in_ok-texts.ensures.patterns c.in-None-patterns.is)

pub returns-clause-err : goal.returns-clause-err
returns-clause-err c =
    let s = view c.in_ok-source.source in
    let checked : IsChecked c.args.profile s = subst (IsChecked c.args.profile) (sym c.in_ok-source.ensures.same) c.in_ok-texts.ensures.ok in
    inl (subst (λ d. IsFirstFault c.args.profile d SCHEMA_LOOP) c.in_ok-source.ensures.same (leads_back c.args.profile s c.in_ok-nodes.field-0 checked c.in_ok-nodes.ensures c.in-None.is))

pub nodes_of-requires-clause-texts : goal.nodes_of-requires-clause-texts
nodes_of-requires-clause-texts c = ap (map (λ s. s.now)) c.deref.ensures.value ∙ c.in_ok-texts.ensures.texts ∙ texts_same c.args.profile (view c.args.source.now) c.in_ok-texts.ensures.ok.keywords c.in_ok-texts.ensures.ok.references ∙ ap pattern_texts (sym c.in_ok-source.ensures.same)

pub nodes_of-requires-clause-checked : goal.nodes_of-requires-clause-checked
nodes_of-requires-clause-checked c =
    let s = view c.in_ok-source.source in
    checked_stays c.args.profile s (subst (IsChecked c.args.profile) (sym c.in_ok-source.ensures.same) c.in_ok-texts.ensures.ok)
