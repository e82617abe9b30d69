use Rattle.std.proofs.Common.{◌≡◌, ◌++◌, ◌∙◌, ◌∷◌, [], ap, sym, drop, ◌+◌, append_assoc, map, refl}
use Rattle.path_select.specs.Nodes.{child_at}
use Rattle.path_select.specs.Paths.{location, seen}
use Rattle.path_select.specs.ChildView.{children_of, child_of}
use Rattle.path_select.proofs.Trails.{drop_next, goes_here, goes_on_on, goes_location}
use Rattle.path_select.proofs.index.with_children.Goals as goal

pub loop-child-init : goal.loop-child-init
loop-child-init c = (goes_here c.args.walk c.requires.stand, refl)

pub loop-child-preserved : goal.loop-child-preserved
loop-child-preserved c =
    let l = c.loop-child in
    let w = l.walked in
    let w0 = c.args.walk in
    let items = c.deref-child-items.result.now in
    let p = location w0.trail.items c.args.spot.place in
    let h = c.in_ok-walked.ensures in
    let rest = map (child_at p) (children_of (drop (l.child-index + 1) items)) in
    let here = drop_next items l.child-index c.child-item.result c.loop-child-test.true c.child-item.is in
    let now : seen c.in_ok-walked.walked ≡ seen w ++ child_at p (child_of c.child-item.result) ∷ [] = h.spots ∙ ap (λ q. seen w ++ child_at q (child_of c.child-item.result) ∷ []) (goes_location w0 w l.invariant.0 c.args.spot.place c.requires.place) in (
      goes_on_on w0 w c.in_ok-walked.walked l.invariant.0 h.on,
      ap (λ s. s ++ rest) now ∙ append_assoc (seen w) (child_at p (child_of c.child-item.result) ∷ []) rest ∙ ap (λ s. seen w ++ map (child_at p) (children_of s)) (sym here) ∙ l.invariant.1,
    )
