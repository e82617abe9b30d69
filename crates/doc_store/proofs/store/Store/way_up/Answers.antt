use Rattle.std.proofs.Common.{rules, ◌≡◌, ◌∙◌, [], length, arith, ap, sym, subst, true, false}
use Rattle.store_commits.specs.Account.{StoreView}
use Rattle.store_commits.specs.Images.{profile_in}
use Rattle.store_commits.specs.Snapshot.{snapshot_bytes}
use Rattle.doc_store.specs.Formats.{StaysAs, size_in}
use Rattle.doc_store.specs.declared.format.Format.TheVariants.{Three}
use Rattle.doc_store.proofs.Formats.{no_way, none_in_two, sizes_alone, used_up, way_is}
use Rattle.doc_store.proofs.store.Store.way_up.Goals as goal

pub returns-then-has_way-clause-way : goal.returns-then-has_way-clause-way
returns-then-has_way-clause-way g c =
    let a = c.args.self.now.account in
    let bytes : c.in_ok-frames.frames.items ≡ snapshot_bytes true a.state.documents a.state.marks = search rules in
    let size : length c.in_ok-frames.frames.items ≡ size_in true a = ap length bytes in
    let in_slots : c.len-len.result ≡ size_in true a = omega (arith, c.len-len.ensures, c.in_ok-frames.frames.ok.0, size) in
    let none = subst (λ (v : StoreView g.row.D.Denot). v.account.rides ≡ false → v.account.state.marks ≡ []) c.self.view_is
    (λ two. none_in_two c.self.inside.machine c.self.invariant.held.good (ap profile_in (sym two) ∙ c.self.invariant.held.profile)) c.requires.two in
    let len = in_slots ∙ sizes_alone a none in
    (way_is a c.len-len.result c.len-len.result c.len-len.result len in_slots (in_slots ∙ used_up a c.requires.two)).0 (c.has_way.ensures.0 c.if-has_way.true)

pub returns-clause-refused : goal.returns-clause-refused
returns-clause-refused g c =
    let a = c.args.self.now.account in
    let bytes : c.in_ok-frames.frames.items ≡ snapshot_bytes true a.state.documents a.state.marks = search rules in
    let size : length c.in_ok-frames.frames.items ≡ size_in true a = ap length bytes in
    let in_slots : c.len-len.result ≡ size_in true a = omega (arith, c.len-len.ensures, c.in_ok-frames.frames.ok.0, size) in
    let none = subst (λ (v : StoreView g.row.D.Denot). v.account.rides ≡ false → v.account.state.marks ≡ []) c.self.view_is
    (λ two. none_in_two c.self.inside.machine c.self.invariant.held.good (ap profile_in (sym two) ∙ c.self.invariant.held.profile)) c.requires.two in
    let len = in_slots ∙ sizes_alone a none in
    let is = way_is a c.len-len.result c.len-len.result c.len-len.result len in_slots (in_slots ∙ used_up a c.requires.two) in
    subst (StaysAs Three a) (sym c.plain.ensures) (no_way a Three (λ two. absurd (cc two)) (λ way. absurd (cc (sym (c.has_way.ensures.1 (is.1 way)) ∙ c.if-has_way.false))))
