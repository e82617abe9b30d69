use Rattle.std.proofs.Common.{map, ap, subst, string_bytes}
use Rattle.doc_tree.specs.Lists.{names_list}
use Rattle.doc_tree.specs.TreeView.{members_view}
use Rattle.schema_nodes.specs.Fits.{IsNamePattern}
use Rattle.schema_nodes.proofs.Patterning.{finds_all, finds_none, finds_one}
use Rattle.schema_nodes.proofs.rules.patterns_in.Goals as goal

pub loop-name-preserved : goal.loop-name-preserved
loop-name-preserved c =
    let ps = map (λ s. s.now) c.args.patterns.now in
    finds_one ps (names_list (members_view c.args.members.now.entries)) _ (names_list (members_view c.next.new.self)) c.loop-name.found.items _ (string_bytes c.in-Some.name.now) c.in_ok-name_pattern.field-0 c.loop-name.invariant
    (ap (λ l. names_list (members_view l)) c.in-Some.ensures.steps) (subst (λ k. IsNamePattern ps k c.in_ok-name_pattern.field-0) c.as_str.ensures.value c.in_ok-name_pattern.ensures) c.in_ok-push.ensures.items

pub returns : goal.returns
returns c = finds_all (map (λ s. s.now) c.args.patterns.now) (names_list (members_view c.args.members.now.entries)) _ c.loop-name.found.items c.loop-name.invariant (ap (λ l. names_list (members_view l)) c.in-None.ensures.steps.0)
