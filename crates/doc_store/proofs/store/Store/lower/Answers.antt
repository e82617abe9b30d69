use Rattle.std.proofs.Common.{◌≡◌, ◌≤◌, ◌∙◌, ℕ, length, ap, sym, subst, true, false}
use Rattle.std.proofs.lemmas.Result.{IfErr-weaker}
use Rattle.store_journal.specs.Layout.{FitsBetween, capacity_of}
use Rattle.store_journal.specs.Writes.{downgrade_calls}
use Rattle.store_commits.specs.Account.{Account}
use Rattle.doc_store.specs.Formats.{size_in}
use Rattle.doc_store.proofs.Formats.{ready_moments, ready_sectors, turned_failed, turned_moments}
use Rattle.doc_store.proofs.store.Store.lower.Goals as goal

pub returns-in_err-make_ready-clause-any_moment : goal.returns-in_err-make_ready-clause-any_moment
returns-in_err-make_ready-clause-any_moment g c = λ honest.
    ready_moments (g.D.SectorDevice.disk c.args.self.now.device) (g.D.SectorDevice.disk c.make_ready.new.self.device) c.args.self.now.account _ (c.make_ready.ensures.any_moment (c.make_ready.ensures.honest.1 honest))

pub returns-clause-failed : goal.returns-clause-failed
returns-clause-failed g c =
    let disk = g.D.SectorDevice.disk in
    let old = disk c.args.self.now.device in
    let mid = disk c.make_ready.new.self.device in
    let new = disk c.turn_down.new.self.device in
    let a = c.args.self.now.account in
    let b = c.make_ready.new.self.account in
    IfErr-weaker c.turn_down.result _ _ (λ refusal failed device. turned_failed old mid new a b false 0 c.in_ok-make_ready.ensures.ok downgrade_calls c.in_ok-make_ready.ensures.made (failed device)) c.turn_down.ensures.failed

pub returns-clause-any_moment : goal.returns-clause-any_moment
returns-clause-any_moment g c = λ honest.
    let disk = g.D.SectorDevice.disk in
    let old = disk c.args.self.now.device in
    let mid = disk c.make_ready.new.self.device in
    let new = disk c.turn_down.new.self.device in
    let a = c.args.self.now.account in
    let b = c.make_ready.new.self.account in
    let mid_honest = c.turn_down.ensures.honest.1 honest in
    turned_moments old mid new a b false 0 c.in_ok-make_ready.ensures.ok (c.make_ready.ensures.any_moment (c.make_ready.ensures.honest.1 mid_honest)) (c.turn_down.ensures.any_moment mid_honest)

pub turn_down-requires-clause-fits : goal.turn_down-requires-clause-fits
turn_down-requires-clause-fits g c =
    let a = c.args.self.now.account in
    let len : length c.deref.result.now ≡ size_in false a = ap length (c.deref.ensures.value ∙ c.in_ok-frames.ensures.frames) in
    let sectors : c.make_ready.new.self.account.sectors ≡ a.sectors = ap (λ (b : Account). b.sectors) c.in_ok-make_ready.ensures.ok ∙ ready_sectors a in
    subst (λ (n : ℕ). length c.deref.result.now ≤ capacity_of false n) (sym sectors) (subst (λ (n : ℕ). n ≤ capacity_of false a.sectors) (sym len) c.in_ok-frames.ensures.way.fits)
