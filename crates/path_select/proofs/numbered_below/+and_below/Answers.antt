use Rattle.std.proofs.Common.{◌∙◌, ◌++◌, ◌+◌, ◌<◌, rules, ◌∷◌, [], ap, sym, arith, append_assoc, flat_map}
use Rattle.std.proofs.lemmas.List.{map-append}
use Rattle.doc_tree.specs.Doc.{height}
use Rattle.doc_tree.specs.TreeView.{view}
use Rattle.path_select.specs.Indexed.{at_number, at_numbers, children_at}
use Rattle.path_select.specs.Paths.{seen}
use Rattle.path_select.proofs.Numbered.{below_done, below_next, below_of, child_low, family}
use Rattle.path_select.proofs.numbered_below.+and_below.Goals as goal

pub and_below-requires : goal.and_below-requires
and_below-requires t c =
    let x = c.args.index.now in
    let lower : height (at_number x (c.span_of-span.result.first + c.loop-place.place)).1 < height (at_number x c.args.number).1 = child_low (view x.root.now) (seen x.walk) c.span_of-span.result (at_number x c.args.number) c.loop-place.place c.span_of-span.ensures c.loop-place-test.true in
    (search rules, c.requires)

pub loop-place-preserved : goal.loop-place-preserved
loop-place-preserved t c =
    let x = c.args.index.now in
    let l = c.loop-place in
    below_next (view x.root.now) (seen x.walk) c.span_of-span.result (at_number x c.args.number) l.place (at_numbers x l.all.items) (at_numbers x c.in_ok-all.all.items) _ c.span_of-span.ensures c.loop-place-test.true l.invariant c.in_ok-all.ensures

pub returns : goal.returns
returns t c =
    let x = c.args.index.now in
    let l = c.loop-place in
    let u = at_number x c.args.number in
    let rest = flat_map below_of (children_at u) in
    below_done (seen x.walk) c.span_of-span.result u l.place (at_numbers x l.all.items) _ c.span_of-span.ensures (let f = c.loop-place-test.false in omega (arith, f)) l.invariant
    ∙ ap (λ ns. at_numbers x ns ++ rest) c.in_ok-push.ensures.items
    ∙ ap (λ us. us ++ rest) (map-append (at_number x) c.args.before.items (c.args.number ∷ []))
    ∙ append_assoc (at_numbers x c.args.before.items) (u ∷ []) rest
    ∙ ap (λ us. at_numbers x c.args.before.items ++ us) (sym (family u))
