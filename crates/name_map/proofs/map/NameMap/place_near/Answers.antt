use Rattle.std.proofs.Common.{sym, ◌∙◌, subst, ◌≡◌, ◌<◌, Ok, length, get_or, string_bytes}
use Rattle.std.proofs.lemmas.Bool.{ltb-true}
use Rattle.std.proofs.lemmas.Slice.Eq.{bytes_eq-Decides}
use Rattle.name_map.specs.Entries.{seek, named}
use Rattle.name_map.proofs.Order.{sought_at}
use Rattle.name_map.proofs.map.NameMap.place_near.Goals as goal

pub returns-then-eq-clause-place : goal.returns-then-eq-clause-place
returns-then-eq-clause-place g c =
    let es = c.self.inside.list.items in
    let e = c.in-Some.entry.now in
    let same_list : c.deref.result.now ≡ es = c.deref.ensures.value in
    let below = ltb-true c.args.near (length c.deref.result.now) (sym c.in-Some.ensures.lookup.0) in
    let lt = subst (λ l. c.args.near < length l) same_list below in
    let is = subst (λ l. e ≡ get_or l c.args.near e) same_list c.in-Some.ensures.lookup.1 in
    let same : string_bytes e.0 ≡ c.args.name.now = sym c.as_str.ensures ∙ (bytes_eq-Decides c.as_str.result.now c.args.name.now).0 (sym c.if-eq.ensures) in
    let here = sought_at c.args.name.now es c.args.near e c.self.invariant lt is same in
    subst (λ m. Ok c.args.near ≡ seek (named c.args.name.now) m.entries) c.self.view_is (sym here)
