use Rattle.std.proofs.Common.{◌≡◌, refl, sym, subst, Some, slice_get, length}
use Rattle.std.proofs.lemmas.Option.{slice_get_read}
use Rattle.doc_tree.specs.TreeView.{view}
use Rattle.schema_rules.specs.Parts.{members_in}
use Rattle.schema_nodes.specs.Entries.{AsMany}
use Rattle.schema_nodes.specs.Fits.{IsBuilt}
use Rattle.schema_nodes.specs.Nodes.{AreMoved}
use Rattle.schema_nodes.proofs.Growing.{if_ok}
use Rattle.schema_nodes.proofs.RuleKinds.{moved_many}
use Rattle.schema_nodes.proofs.made.node_at.Goals as goal

pub node_of-requires : goal.node_of-requires
node_of-requires c =
    let es = c.args.entries.now in
    let e = c.index-entries-number.result in
    let ms = members_in (view e.schema.now) in
    let at : slice_get es c.args.number ≡ Some e = slice_get_read es (length es) c.args.number e refl c.requires.within c.index-entries-number.is in
    let moved : AreMoved c.args.ranks.now e.rows.items c.in_ok-rows.rows.items = subst (λ l. AreMoved c.args.ranks.now l c.in_ok-rows.rows.items) c.deref.ensures.value c.in_ok-rows.ensures in
    record { as_many = subst (AsMany ms) (sym c.deref-2.ensures.value) (moved_many c.args.ranks.now ms e.rows.items c.in_ok-rows.rows.items (c.requires.rows c.args.number e at) moved) }

pub returns : goal.returns
returns c =
    let es = c.args.entries.now in
    let e = c.index-entries-number.result in
    let at : slice_get es c.args.number ≡ Some e = slice_get_read es (length es) c.args.number e refl c.requires.within c.index-entries-number.is in
    let moved : AreMoved c.args.ranks.now e.rows.items c.in_ok-rows.rows.items = subst (λ l. AreMoved c.args.ranks.now l c.in_ok-rows.rows.items) c.deref.ensures.value c.in_ok-rows.ensures in
    if_ok c.node_of.result (λ x h. record {
      entry = e;
      is_entry = at;
      rows = c.in_ok-rows.rows.items;
      moved = moved;
      built = subst (λ l. IsBuilt c.args.targets.now c.args.ranks.now (view c.args.root.now) l x (view e.schema.now)) c.deref-2.ensures.value h;
    }) c.node_of.ensures
