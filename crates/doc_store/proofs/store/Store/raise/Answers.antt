use Rattle.std.proofs.Common.{◌≡◌, ◌≤◌, ◌∙◌, ℕ, length, ap, sym, subst, true, false}
use Rattle.std.proofs.lemmas.Result.{IfErr-weaker}
use Rattle.store_journal.specs.Layout.{FitsBetween, capacity_of}
use Rattle.store_journal.specs.Writes.{upgrade_calls}
use Rattle.store_commits.specs.Account.{Account}
use Rattle.doc_store.specs.Formats.{size_in}
use Rattle.doc_store.proofs.Formats.{ready_moments, ready_sectors, turned_failed, turned_moments, used_up}
use Rattle.doc_store.proofs.store.Store.raise.Goals as goal

pub returns-in_err-make_ready-clause-any_moment : goal.returns-in_err-make_ready-clause-any_moment
returns-in_err-make_ready-clause-any_moment g c = λ honest.
    ready_moments (g.D.SectorDevice.disk c.args.self.now.device) (g.D.SectorDevice.disk c.make_ready.new.self.device) c.args.self.now.account _ (c.make_ready.ensures.any_moment (c.make_ready.ensures.honest.1 honest))

pub returns-clause-failed : goal.returns-clause-failed
returns-clause-failed g c =
    let disk = g.D.SectorDevice.disk in
    let old = disk c.args.self.now.device in
    let mid = disk c.make_ready.new.self.device in
    let new = disk c.turn_up.new.self.device in
    let a = c.args.self.now.account in
    let b = c.make_ready.new.self.account in
    IfErr-weaker c.turn_up.result _ _ (λ refusal failed device. turned_failed old mid new a b true c.args.identity c.in_ok-make_ready.ensures.ok upgrade_calls c.in_ok-make_ready.ensures.made (failed device)) c.turn_up.ensures.failed

pub returns-clause-any_moment : goal.returns-clause-any_moment
returns-clause-any_moment g c = λ honest.
    let disk = g.D.SectorDevice.disk in
    let old = disk c.args.self.now.device in
    let mid = disk c.make_ready.new.self.device in
    let new = disk c.turn_up.new.self.device in
    let a = c.args.self.now.account in
    let b = c.make_ready.new.self.account in
    let mid_honest = c.turn_up.ensures.honest honest in
    turned_moments old mid new a b true c.args.identity c.in_ok-make_ready.ensures.ok (c.make_ready.ensures.any_moment (c.make_ready.ensures.honest.1 mid_honest)) (c.turn_up.ensures.any_moment honest)

pub turn_up-requires-clause-between : goal.turn_up-requires-clause-between
turn_up-requires-clause-between g c =
    let a = c.args.self.now.account in
    let len : length c.deref.result.now ≡ size_in true a = ap length (c.deref.ensures.value ∙ c.in_ok-frames.ensures.frames) in
    let sectors : c.make_ready.new.self.account.sectors ≡ a.sectors = ap (λ (b : Account). b.sectors) c.in_ok-make_ready.ensures.ok ∙ ready_sectors a in
    subst (λ (n : ℕ). FitsBetween n (length c.deref.result.now)) (sym sectors) (subst (FitsBetween a.sectors) (sym (len ∙ used_up a c.requires.two)) c.in_ok-frames.ensures.way.between)
