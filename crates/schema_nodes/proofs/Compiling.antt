-- What was numbered, put in order and built is the schema, compiled.
use Rattle.std.proofs.Common.{◌≡◌, ℕ, ◌*◌, ◌<◌, ◌≤◌, List, [], length, true, Some, Vec, Global, ap, subst, arith}
use Rattle.doc_tree.specs.Doc.{Doc, boolean}
use Rattle.schema_graph.specs.Orders.{at, IsOrder}
use Rattle.schema_rules.specs.Parts.{members_in}
use Rattle.schema_rules.specs.PatternTexts.{pattern_texts, texts_by}
use Rattle.schema_rules.specs.declared.profile.Profile.TheVariants.{Three}
use Rattle.doc_tree.specs.TreeView.{view}
use Rattle.schema_rules.specs.Schemas.{schemas}
use Rattle.schema_levels.specs.declared.node.Node.{Node}
use Rattle.schema_levels.specs.declared.run.TheConstants.{MOST_WORDS}
use Rattle.schema_nodes.specs.declared.entries.Entry.{Entry}
use Rattle.schema_nodes.specs.declared.targets.Targets.{Targets}
use Rattle.schema_nodes.specs.Compiled.{IsCompiled}
use Rattle.schema_nodes.specs.Edges.{AreEdges}
use Rattle.schema_nodes.specs.Entries.{doc_at, AreRows, AreEntries}
use Rattle.schema_nodes.specs.Fits.{AreTargets, IsTargets, AreMade, patterns_of}
use Rattle.schema_nodes.specs.Nodes.{schema_of, or_else}
use Rattle.schema_nodes.proofs.Edging.{edges_many}
use Rattle.schema_nodes.proofs.Making.{numbered, nodes_are, numbers_are, made_many, targets_are, back_is}
use Rattle.schema_nodes.proofs.Ordering.{ordered}
use Rattle.schema_nodes.proofs.Searches.{HaveNumbers, all_searched}
use Rattle.schema_nodes.proofs.RuleKinds.{schema_back, have_rows, within_entries}

module _ (root : Doc) (es : List Entry) (whole : ℕ) (rows : List (Vec ℕ Global)) (ts : Targets) (are : AreEntries root es) (here : doc_at es whole ≡ Some root) (rows_are : AreRows (doc_at es) (members_in root) rows) (is : IsTargets root es whole rows ts) where
  -- whatever stands past the last
  pub targets_at : (x : Doc) → AreTargets (λ n. or_else x (doc_at es n)) root ts
  targets_at x =
      let same : (c : ℕ) (d : Doc) → doc_at es c ≡ Some d → or_else x (doc_at es c) ≡ d = λ c d h. ap (or_else x) h in
      targets_are (λ n. or_else x (doc_at es n)) root es whole rows ts is (have_rows (λ n. or_else x (doc_at es n)) es same (members_in root) rows rows_are) are here same

  module _ (g : List (Vec ℕ Global)) (places ranks : List ℕ) (nodes : List Node) (edges : AreEdges ts root es g) (o : IsOrder g places ranks) (made : AreMade ts ranks root es places nodes)
      (many : length es ≡ length (schemas root)) (room : length (schemas root) ≤ 64 * MOST_WORDS) (patterns : patterns_of ts ≡ pattern_texts root) where
    pub compiled : IsCompiled root nodes (at ranks whole)
    compiled =
        let many_edges = edges_many ts root es g edges in
        let back = back_is g places ranks es many_edges o in
        let schema : ℕ → Doc = schema_of places es in
        let same = schema_back (boolean true) places ranks es back in
        let targets : AreTargets (λ c. schema (at ranks c)) root ts = targets_are (λ c. schema (at ranks c)) root es whole rows ts is (have_rows (λ c. schema (at ranks c)) es same (members_in root) rows rows_are) are here same in
        let bound : (c : ℕ) (d : Doc) → doc_at es c ≡ Some d → at ranks c < length places = λ c d h. (let lt = within_entries es c d h in let r = o.placed c (omega (arith, lt, many_edges)) in omega (arith, r.0, o.many_places)) in
        let all = made_many ts ranks root es places nodes made in
        let lt = bound whole root here in
        record {
          schema = schema;
          numbers = numbers_are root places es are;
          says = nodes_are ts ranks root es places nodes are back targets patterns made;
          is_whole = same whole root here;
          many = omega (arith, all, o.many_places, many_edges, many);
          order = ordered ts root es g places ranks are edges many_edges o back bound nodes made;
          within = omega (arith, lt, all);
          room = omega (arith, all, o.many_places, many_edges, many, room);
          searched = λ few. all_searched (pattern_texts root) few ts ranks root patterns es places nodes (λ n e at_n. subst (λ l. HaveNumbers l (texts_by Three (members_in (view e.schema.now)))) patterns (numbered ts ranks root es are patterns n e at_n)) made;
        }
