use Rattle.std.proofs.Common.{◌≡◌, ◌∙◌, length, arith, ap, sym, subst, true, false}
use Rattle.store_commits.specs.Account.{StoreView}
use Rattle.doc_store.specs.Formats.{StaysAs, size_in, used_between}
use Rattle.doc_store.specs.declared.format.Format.TheVariants.{Two}
use Rattle.doc_store.proofs.Formats.{no_way, used_else, used_there, way_is}
use Rattle.doc_store.proofs.store.Store.way_down.Goals.{then-active_half-eq0, else-active_half-eq0}
use Rattle.doc_store.proofs.store.Store.way_down.Goals as goal

pub returns-then-has_way-clause-way : goal.returns-then-has_way-clause-way
returns-then-has_way-clause-way g c =
    let a = c.args.self.now.account in
    let size : length c.in_ok-frames.frames.items ≡ size_in false a = ap length c.in_ok-frames.ensures.frames in
    let len : c.len.result ≡ size_in false a = omega (arith, c.len.ensures, c.in_ok-frames.frames.ok.0, size) in
    let in_slots : c.in_ok-in_slots.in_slots ≡ size_in true a = c.in_ok-in_slots.ensures in
    let half : c.active_half.result ≡ a.half = c.active_half.ensures ∙ ap (λ (v : StoreView g.row.D.Denot). v.account.half) c.self.view_is in
    let used : c.if-active_half-eq0.used ≡ used_between a = elim c.if-active_half-eq0.branch [
      | then-active_half-eq0 w ↦ w.used-is ∙ w.used-used.ensures ∙ ap (λ (v : StoreView g.row.D.Denot). v.account.used) c.self.view_is ∙ used_there a c.requires.three (sym half ∙ w.if-active_half-eq0.true)
      | else-active_half-eq0 w ↦ w.used-is ∙ in_slots ∙ used_else a c.requires.three (λ zero. w.if-active_half-eq0.false (half ∙ zero))
    ] in
    let is = way_is a c.len.result c.in_ok-in_slots.in_slots c.if-active_half-eq0.used len in_slots used in
    is.0 (c.has_way.ensures.0 c.if-has_way.true)

pub returns-clause-refused : goal.returns-clause-refused
returns-clause-refused g c =
    let a = c.args.self.now.account in
    let size : length c.in_ok-frames.frames.items ≡ size_in false a = ap length c.in_ok-frames.ensures.frames in
    let len : c.len.result ≡ size_in false a = omega (arith, c.len.ensures, c.in_ok-frames.frames.ok.0, size) in
    let in_slots : c.in_ok-in_slots.in_slots ≡ size_in true a = c.in_ok-in_slots.ensures in
    let half : c.active_half.result ≡ a.half = c.active_half.ensures ∙ ap (λ (v : StoreView g.row.D.Denot). v.account.half) c.self.view_is in
    let used : c.if-active_half-eq0.used ≡ used_between a = elim c.if-active_half-eq0.branch [
      | then-active_half-eq0 w ↦ w.used-is ∙ w.used-used.ensures ∙ ap (λ (v : StoreView g.row.D.Denot). v.account.used) c.self.view_is ∙ used_there a c.requires.three (sym half ∙ w.if-active_half-eq0.true)
      | else-active_half-eq0 w ↦ w.used-is ∙ in_slots ∙ used_else a c.requires.three (λ zero. w.if-active_half-eq0.false (half ∙ zero))
    ] in
    let is = way_is a c.len.result c.in_ok-in_slots.in_slots c.if-active_half-eq0.used len in_slots used in
    subst (StaysAs Two a) (sym c.plain.ensures) (no_way a Two (λ two. c.in_ok-frames.ensures.within) (λ way. absurd (cc (sym (c.has_way.ensures.1 (is.1 way)) ∙ c.if-has_way.false))))
