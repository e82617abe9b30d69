use Rattle.std.proofs.Common.{◌≡◌, ◌<◌, [], ◌∷◌, Some, sym, subst, length, arith}
use Rattle.doc_tree.specs.TreeView.{view}
use Rattle.schema_nodes.specs.Entries.{StandFor, doc_at}
use Rattle.schema_nodes.proofs.Making.{stand_first, stand_some}
use Rattle.schema_nodes.proofs.RuleKinds.{within_entries}
use Rattle.schema_nodes.proofs.tree.compile.Goals as goal

pub index-requires : goal.index-requires
index-requires c =
    let r = view c.args.root.now in
    let g = c.in_ok-grown.grown in
    let stand : StandFor (doc_at g.entries.items) g.row.items (r ∷ []) = c.in_ok-grown.ensures.adds.row [] (subst (λ row. StandFor (doc_at c.new.result.items) row []) (sym c.new-2.ensures.items) tt) in
    omega (arith, stand_some (doc_at g.entries.items) g.row.items r stand)

pub compile_entries-requires-clause-whole : goal.compile_entries-requires-clause-whole
compile_entries-requires-clause-whole c =
    let r = view c.args.root.now in
    let g = c.in_ok-grown.grown in
    let stand : StandFor (doc_at g.entries.items) g.row.items (r ∷ []) = c.in_ok-grown.ensures.adds.row [] (subst (λ row. StandFor (doc_at c.new.result.items) row []) (sym c.new-2.ensures.items) tt) in
    subst (λ l. doc_at l c.index.result.now ≡ Some r) (sym c.deref-2.ensures.value) (stand_first (doc_at g.entries.items) g.row.items r c.index.result.now stand c.index.ensures)

pub compile_entries-requires-clause-within : goal.compile_entries-requires-clause-within
compile_entries-requires-clause-within c =
    let r = view c.args.root.now in
    let g = c.in_ok-grown.grown in
    let stand : StandFor (doc_at g.entries.items) g.row.items (r ∷ []) = c.in_ok-grown.ensures.adds.row [] (subst (λ row. StandFor (doc_at c.new.result.items) row []) (sym c.new-2.ensures.items) tt) in
    let here = stand_first (doc_at g.entries.items) g.row.items r c.index.result.now stand c.index.ensures in
    subst (λ l. c.index.result.now < length l) (sym c.deref-2.ensures.value) (within_entries g.entries.items c.index.result.now r here)
