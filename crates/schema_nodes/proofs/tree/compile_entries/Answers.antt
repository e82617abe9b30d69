use Rattle.std.proofs.Common.{◌≡◌, ◌<◌, ℕ, List, refl, sym, ap, subst, ◌∙◌, Some, slice_get, length, arith}
use Rattle.std.proofs.lemmas.Option.{slice_get_read}
use Rattle.doc_tree.specs.TreeView.{view}
use Rattle.schema_graph.specs.Numbered.{IsClosed, IsCyclic}
use Rattle.schema_graph.specs.Orders.{at, IsOrder}
use Rattle.schema_rules.specs.Parts.{members_in}
use Rattle.schema_levels.specs.Counters.{AreCounted, wanted_in}
use Rattle.schema_nodes.specs.Compiled.{IsCompiled}
use Rattle.schema_nodes.specs.Entries.{AreRows, doc_at}
use Rattle.schema_nodes.specs.Fits.{AreMade, IsTargets}
use Rattle.schema_nodes.specs.Nodes.{HaveRows}
use Rattle.schema_nodes.specs.declared.targets.Targets.{Targets}
use Rattle.schema_nodes.proofs.Anchoring.{found_by}
use Rattle.schema_nodes.proofs.Compiling.{targets_at, compiled}
use Rattle.schema_nodes.proofs.Edging.{edges_many, graph_closed, graph_cyclic, order_is, loop_is}
use Rattle.schema_nodes.proofs.Looping.{graph_looped}
use Rattle.schema_nodes.proofs.Making.{same_doc}
use Rattle.schema_nodes.proofs.RuleKinds.{rows_at, doc_is, has_rows}
use Rattle.schema_nodes.proofs.Wanting.{nodes_want}
use Rattle.schema_nodes.proofs.tree.compile_entries.Goals as goal

pub order_of-requires : goal.order_of-requires
order_of-requires c =
    let r = view c.args.root.now in
    let es = c.args.entries.now in
    let e = c.index-entries-whole.result in
    let found : slice_get es c.args.whole ≡ Some e = slice_get_read es (length es) c.args.whole e refl c.requires.within c.index-entries-whole.is in
    let same = same_doc (view e.schema.now) r (sym (doc_is es c.args.whole e found) ∙ c.requires.whole) in
    let rows : AreRows (doc_at es) (members_in r) e.rows.items = subst (λ d. AreRows (doc_at es) (members_in d) e.rows.items) same (rows_at r (doc_at es) es c.args.whole e c.requires.are found) in
    let ts : Targets = record { held = c.args.held; whole = c.args.whole; named = c.in_ok-definitions.field-0; anchors = c.in_ok-numbers_of_anchors.field-0; patterns = c.args.patterns } in
    let is : IsTargets r es c.args.whole e.rows.items ts = record { held = c.requires.held; whole = refl; named = λ schema have. c.in_ok-definitions.ensures schema (subst (HaveRows schema (members_in r)) (sym c.deref.ensures.value) have); anchors = found_by r es c.requires.are c.args.whole c.requires.whole c.requires.anchors _ c.in_ok-numbers_of_anchors.ensures } in
    let g = c.in_ok-graph.graph.items in
    let targets = targets_at r es c.args.whole e.rows.items ts c.requires.are c.requires.whole rows is in
    subst IsClosed (sym c.deref-2.ensures.value) (graph_closed ts r es targets c.requires.are g c.in_ok-graph.ensures)

pub returns : goal.returns
returns c =
    let r = view c.args.root.now in
    let es = c.args.entries.now in
    let e = c.index-entries-whole.result in
    let found : slice_get es c.args.whole ≡ Some e = slice_get_read es (length es) c.args.whole e refl c.requires.within c.index-entries-whole.is in
    let same = same_doc (view e.schema.now) r (sym (doc_is es c.args.whole e found) ∙ c.requires.whole) in
    let rows : AreRows (doc_at es) (members_in r) e.rows.items = subst (λ d. AreRows (doc_at es) (members_in d) e.rows.items) same (rows_at r (doc_at es) es c.args.whole e c.requires.are found) in
    let ts : Targets = record { held = c.args.held; whole = c.args.whole; named = c.in_ok-definitions.field-0; anchors = c.in_ok-numbers_of_anchors.field-0; patterns = c.args.patterns } in
    let is : IsTargets r es c.args.whole e.rows.items ts = record { held = c.requires.held; whole = refl; named = λ schema have. c.in_ok-definitions.ensures schema (subst (HaveRows schema (members_in r)) (sym c.deref.ensures.value) have); anchors = found_by r es c.requires.are c.args.whole c.requires.whole c.requires.anchors _ c.in_ok-numbers_of_anchors.ensures } in
    let g = c.in_ok-graph.graph.items in
    let targets = targets_at r es c.args.whole e.rows.items ts c.requires.are c.requires.whole rows is in
    graph_cyclic ts r es targets c.requires.are g c.in_ok-graph.ensures (subst IsCyclic c.deref-2.ensures.value (loop_is c.deref-2.result.now c.in_ok-order.field-0 c.in_ok-order.ensures c.in-None.is))

pub nodes_of-requires-clause-within : goal.nodes_of-requires-clause-within
nodes_of-requires-clause-within c =
    let r = view c.args.root.now in
    let es = c.args.entries.now in
    let e = c.index-entries-whole.result in
    let found : slice_get es c.args.whole ≡ Some e = slice_get_read es (length es) c.args.whole e refl c.requires.within c.index-entries-whole.is in
    let same = same_doc (view e.schema.now) r (sym (doc_is es c.args.whole e found) ∙ c.requires.whole) in
    let rows : AreRows (doc_at es) (members_in r) e.rows.items = subst (λ d. AreRows (doc_at es) (members_in d) e.rows.items) same (rows_at r (doc_at es) es c.args.whole e c.requires.are found) in
    let ts : Targets = record { held = c.args.held; whole = c.args.whole; named = c.in_ok-definitions.field-0; anchors = c.in_ok-numbers_of_anchors.field-0; patterns = c.args.patterns } in
    let is : IsTargets r es c.args.whole e.rows.items ts = record { held = c.requires.held; whole = refl; named = λ schema have. c.in_ok-definitions.ensures schema (subst (HaveRows schema (members_in r)) (sym c.deref.ensures.value) have); anchors = found_by r es c.requires.are c.args.whole c.requires.whole c.requires.anchors _ c.in_ok-numbers_of_anchors.ensures } in
    let g = c.in_ok-graph.graph.items in
    let targets = targets_at r es c.args.whole e.rows.items ts c.requires.are c.requires.whole rows is in
    let o = c.in-Some.order in
    let order : IsOrder g o.places.items o.ranks.items = subst (λ l. IsOrder l o.places.items o.ranks.items) c.deref-2.ensures.value (order_is c.deref-2.result.now c.in_ok-order.field-0 o c.in_ok-order.ensures c.in-Some.is) in
    let many = edges_many ts r es g c.in_ok-graph.ensures in
    subst (λ (l : List ℕ). (i : ℕ) → i < length l → at l i < length es) (sym c.deref-in-Some.ensures.value) (λ i lt. omega (arith, many, (order.ranked i (omega (arith, lt, order.many_places))).0))

pub nodes_of-requires-clause-rows : goal.nodes_of-requires-clause-rows
nodes_of-requires-clause-rows c = has_rows (view c.args.root.now) c.args.entries.now c.requires.are

pub counters_of-requires : goal.counters_of-requires
counters_of-requires c =
    let r = view c.args.root.now in
    let es = c.args.entries.now in
    let ts : Targets = record { held = c.args.held; whole = c.args.whole; named = c.in_ok-definitions.field-0; anchors = c.in_ok-numbers_of_anchors.field-0; patterns = c.args.patterns } in
    let g = c.in_ok-graph.graph.items in
    let o = c.in-Some.order in
    let places = o.places.items in
    let ranks = o.ranks.items in
    let order : IsOrder g places ranks = subst (λ l. IsOrder l places ranks) c.deref-2.ensures.value (order_is c.deref-2.result.now c.in_ok-order.field-0 o c.in_ok-order.ensures c.in-Some.is) in
    let nodes = c.in_ok-nodes-in-Some.nodes.items in
    let made : AreMade ts ranks r es places nodes = subst (λ l. AreMade ts l r es places nodes) c.deref-in-Some-2.ensures.value (subst (λ l. AreMade ts c.deref-in-Some-2.result.now r es l nodes) c.deref-in-Some.ensures.value c.in_ok-nodes-in-Some.ensures) in
    let most = nodes_want ts r es g places ranks nodes (edges_many ts r es g c.in_ok-graph.ensures) order made in
    let same = ap wanted_in c.deref-in-Some-3.ensures.value in
    omega (arith, most, same, c.requires.want, c.requires.few)

pub returns-in-Some : goal.returns-in-Some
returns-in-Some c =
    let r = view c.args.root.now in
    let es = c.args.entries.now in
    let e = c.index-entries-whole.result in
    let found : slice_get es c.args.whole ≡ Some e = slice_get_read es (length es) c.args.whole e refl c.requires.within c.index-entries-whole.is in
    let same = same_doc (view e.schema.now) r (sym (doc_is es c.args.whole e found) ∙ c.requires.whole) in
    let rows : AreRows (doc_at es) (members_in r) e.rows.items = subst (λ d. AreRows (doc_at es) (members_in d) e.rows.items) same (rows_at r (doc_at es) es c.args.whole e c.requires.are found) in
    let ts : Targets = record { held = c.args.held; whole = c.args.whole; named = c.in_ok-definitions.field-0; anchors = c.in_ok-numbers_of_anchors.field-0; patterns = c.args.patterns } in
    let is : IsTargets r es c.args.whole e.rows.items ts = record { held = c.requires.held; whole = refl; named = λ schema have. c.in_ok-definitions.ensures schema (subst (HaveRows schema (members_in r)) (sym c.deref.ensures.value) have); anchors = found_by r es c.requires.are c.args.whole c.requires.whole c.requires.anchors _ c.in_ok-numbers_of_anchors.ensures } in
    let g = c.in_ok-graph.graph.items in
    let targets = targets_at r es c.args.whole e.rows.items ts c.requires.are c.requires.whole rows is in
    let o = c.in-Some.order in
    let places = o.places.items in
    let ranks = o.ranks.items in
    let order : IsOrder g places ranks = subst (λ l. IsOrder l places ranks) c.deref-2.ensures.value (order_is c.deref-2.result.now c.in_ok-order.field-0 o c.in_ok-order.ensures c.in-Some.is) in
    let nodes = c.in_ok-nodes-in-Some.nodes.items in
    let made : AreMade ts ranks r es places nodes = subst (λ l. AreMade ts l r es places nodes) c.deref-in-Some-2.ensures.value (subst (λ l. AreMade ts c.deref-in-Some-2.result.now r es l nodes) c.deref-in-Some.ensures.value c.in_ok-nodes-in-Some.ensures) in
    let whole : c.rank_of.result ≡ at ranks c.args.whole = c.rank_of.ensures ∙ ap (λ (l : List ℕ). at l c.args.whole) c.deref-in-Some-4.ensures.value in (
      subst (IsCompiled r nodes) (sym whole) (compiled r es c.args.whole e.rows.items ts c.requires.are c.requires.whole rows is g places ranks nodes c.in_ok-graph.ensures order made c.requires.many c.requires.room c.requires.patterns),
      subst (λ l. AreCounted l c.in_ok-counters-in-Some.counters) c.deref-in-Some-3.ensures.value c.in_ok-counters-in-Some.ensures,
      λ looped. order.no_loop (graph_looped ts r es targets c.requires.are g c.in_ok-graph.ensures c.args.whole c.requires.whole looped),
    )
