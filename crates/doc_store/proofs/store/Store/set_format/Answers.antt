use Rattle.std.proofs.Common.{rules, ◌≡◌, ◌∙◌, sym, subst, ap, true, false}
use Rattle.sector_device.specs.Disk.{LeavesOnly}
use Rattle.store_commits.specs.Account.{Account}
use Rattle.store_commits.specs.Copying.{copy_of, target_of}
use Rattle.store_journal.specs.Models.{model}
use Rattle.doc_store.specs.Formats.{InEither, OneOfThree}
use Rattle.doc_store.specs.declared.format.Format.{Format}
use Rattle.doc_store.proofs.Formats.{images_are, in_three, in_two, no_moments, still_images}
use Rattle.store_commits.proofs.Modelled.{both_models}
use Rattle.doc_store.proofs.store.Store.set_format.Goals as goal

pub returns-then-rides-clause-any_moment : goal.returns-then-rides-clause-any_moment
returns-then-rides-clause-any_moment g c = rw (← c.self.view_is) (λ honest works.
    let journal = c.self.inside.journal in
    no_moments _ _ _ (still_images g.D.SectorDevice.disk journal c.self.inside.machine (copy_of (target_of c.self.inside.copy)) c.self.invariant.held
    (both_models g.D.SectorDevice.disk g.met.D.SectorDevice.coherent g.met.D.SectorDevice.torn_coherent journal.rides journal.device) works honest))

pub returns-then-rides-clause-done : goal.returns-then-rides-clause-done
returns-then-rides-clause-done g c = rw (← c.self.view_is)
    (images_are g.D.SectorDevice.disk c.self.inside.journal c.self.inside.machine (copy_of (target_of c.self.inside.copy)) c.self.invariant.held (sym c.is_broken.ensures.broken ∙ c.if-is_broken.false))

pub returns-in-Two-clause-any_moment : goal.returns-in-Two-clause-any_moment
returns-in-Two-clause-any_moment g c = λ honest works.
    let a = c.args.self.now.account in
    let old = model a.rides (g.D.SectorDevice.disk c.args.self.now.device) in
    let new = model a.rides (g.D.SectorDevice.disk c.lower.new.self.device) in
    let rides : a.rides ≡ true = search (rules, c.rides.ensures, c.rides-2.ensures, c.if-rides.false, c.in-Two.is, c.self.view_is) in
    subst (λ (f : Format). LeavesOnly old new (InEither a f c.args.identity)) (sym c.in-Two.is) (subst (λ (b : Account). LeavesOnly old new (OneOfThree a b)) (sym (in_two c.args.identity a rides)) (c.lower.ensures.any_moment honest))

pub returns-in-Three-clause-any_moment : goal.returns-in-Three-clause-any_moment
returns-in-Three-clause-any_moment g c = λ honest works.
    let a = c.args.self.now.account in
    let old = model a.rides (g.D.SectorDevice.disk c.args.self.now.device) in
    let new = model a.rides (g.D.SectorDevice.disk c.raise.new.self.device) in
    let rides : a.rides ≡ false = search (rules, c.rides.ensures, c.rides-2.ensures, c.if-rides.false, c.in-Three.is, c.self.view_is) in
    subst (λ (f : Format). LeavesOnly old new (InEither a f c.args.identity)) (sym c.in-Three.is) (subst (λ (b : Account). LeavesOnly old new (OneOfThree a b)) (sym (in_three c.args.identity a rides)) (c.raise.ensures.any_moment honest))
