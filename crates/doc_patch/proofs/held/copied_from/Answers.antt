use Rattle.std.proofs.Common.{◌≡◌, Some, map, string_bytes, option_map, sym, ap, ◌∙◌, arith}
use Rattle.doc_tree.specs.TreeView.{view}
use Rattle.doc_pointer.specs.Place.{resolve}
use Rattle.doc_edits.specs.Size.{size}
use Rattle.doc_edits.specs.declared.size_change.KnownPlace.{KnownPlace}
use Rattle.doc_patch.specs.Held.{size_of}
use Rattle.doc_patch.proofs.Counts.{inside_some, place_size}
use Rattle.doc_patch.proofs.held.copied_from.Goals as goal

pub returns-clause-len : goal.returns-clause-len
returns-clause-len c =
    let found : resolve c.args.from.now (view c.args.tree.now) ≡ Some (view c.in-Some.value.now) = sym c.resolve.ensures ∙ ap (option_map (λ t. view t.now)) c.in-Some.is in
    let low = place_size c.args.from.now (view c.args.tree.now) (view c.in-Some.value.now) found in
    c.gone_len-len.ensures (omega (arith, low, c.requires.short)) ∙ ap size_of (sym found)

pub returns-clause-known : goal.returns-clause-known
returns-clause-known c x same v is =
    let here : record { path = c.tokens-path.result; extent = record { height = c.extent_at-extent.result.height; len = Some c.gone_len-len.result } } ≡ x = inside_some _ x same in
    let at = ap (λ (k : KnownPlace). resolve (map string_bytes k.path.now) (view c.args.tree.now)) here ∙ is in
    let of = c.extent_at-extent.ensures (view c.args.tree.now) v c.requires.known at in
    let long : c.gone_len-len.result ≡ size v = returns-clause-len c ∙ ap (λ ts. size_of (resolve ts (view c.args.tree.now))) (sym c.tokens-path.ensures) ∙ ap size_of at in (
      λ h height_is. of.0 h (ap (λ (k : KnownPlace). k.extent.height) here ∙ height_is),
      λ n len_is. sym (inside_some c.gone_len-len.result n (ap (λ (k : KnownPlace). k.extent.len) here ∙ len_is)) ∙ long,
    )
