use Rattle.std.proofs.Common.{◌∙◌, [], ap, sym, arith, length}
use Rattle.std.proofs.lemmas.List.{get_or_past}
use Rattle.doc_tree.specs.TreeView.{view}
use Rattle.path_select.proofs.Trails.{location-root}
use Rattle.path_select.specs.Paths.{seen}
use Rattle.path_select.proofs.Indexes.{length-seen}
use Rattle.path_select.proofs.numbers.spot_at.Goals as goal

pub returns-in-None : goal.returns-in-None
returns-in-None c =
    let x = c.args.index.now in
    let h = c.in-None.ensures.lookup.3 in
    let k = ap length c.deref.ensures.value in
    let m = length-seen x.walk in
    ap (λ p. (p, view x.root.now)) (location-root x.walk.trail.items) ∙ sym (get_or_past (seen x.walk) c.args.number ([], view x.root.now) (omega (arith, h, k, m)))
