use Rattle.std.proofs.Common.{◌≡◌, ◌∙◌, ℕ, ◌-◌, refl, Some, inl, inr, ⊎_elim, sym, ap, subst, arith, true, false}
use Rattle.std.proofs.lemmas.Result.{err_from_is_err_and}
use Rattle.sector_device.specs.Disk.{Image}
use Rattle.sector_device.specs.Fuse.{fuse_disk}
use Rattle.sector_device.specs.Memory.{mem_disk}
use Rattle.sector_device.specs.declared.memory.MemDisk.{MemDisk}
use Rattle.store_journal.specs.Models.{model}
use Rattle.store_commits.specs.Images.{Stands, rides_for}
use Rattle.doc_store.specs.Ending.{HasSpent, Leaves}
use Rattle.doc_store.specs.Timed.{left}
use Rattle.doc_store.proofs.Crashed.{alone_in, crash_leaves, crash_rooms, fuse_in, fuse_out, lived_profile}
use Rattle.doc_store.proofs.living.live.Goals as goal

pub returns-clause-lived : goal.returns-clause-lived
returns-clause-lived c = rw (← c.new.ensures.device) (λ s settled all alone keeps.
    let ended = c.in_ok-part.field-0 in
    let life = c.args.life in
    let old = fuse_disk mem_disk c.new.result in
    let image : Image = (mem_disk c.crash_torn.result).seen in
    let rides = rides_for s.profile in
    let before = ap (λ (d : MemDisk). d.failures) c.new.ensures.device in
    let after = ap (λ (d : MemDisk). d.failures) c.into_inner-disk.ensures in
    let all_stop : life.stop ≡ life.stop - 0 = omega arith in
    let has : ((mem_disk c.new.result.device).failures_saturated → ⊥) → HasSpent life.stop 0 old = (λ unsaturated. record {
      calls_left = c.new.ensures.passes ∙ ap Some all_stop;
      within = omega arith;
      unsaturated = λ saturated. ⊎_elim (λ inner. unsaturated inner) (λ own. (let count = c.new.ensures.failures in omega (arith, before, own, count))) saturated;
    }) in
    let faults : (fuse_disk mem_disk ended.device).own_failures - old.own_failures ≡ c.saturating_sub-disk_faults.result =
    (λ i. (sym (c.failures.ensures ∙ after)) i - (before ∙ sym c.failures-before.ensures) i) ∙ sym c.saturating_sub-disk_faults.ensures in
    let is_left = fuse_in rides ended.device image (rw c.into_inner-disk.ensures at (crash_leaves rides life c.into_inner-disk.result c.crash_torn.result keeps (rw c.deref-2.ensures.value at c.crash_torn.ensures.one))) in
    let one = subst (λ (n : ℕ). Leaves old (left s old.seen settled) life (record ended.part { disk_faults = n }) image) faults
    (c.in_ok-part.ensures.leaves s life settled refl (λ other is. all other (fuse_out rides c.new.result other is)) (λ is other left. alone is other (fuse_out rides c.new.result other left)) tt image is_left) in
    let lived = one.lived in (
      one.state,
      (lived.0, lived.1, lived.2, (λ unsaturated. lived.3 (has unsaturated)), lived.4),
      one.began,
      (λ other is. subst (λ (i : Image). Stands one.state i) (sym (alone_in (rides_for one.state.profile) c.crash_torn.result c.crash_torn.ensures.alone other is)) one.stands),
    ))

pub returns-clause-alone : goal.returns-clause-alone
returns-clause-alone c = λ rides. alone_in rides c.crash_torn.result c.crash_torn.ensures.alone

pub returns-clause-rooms : goal.returns-clause-rooms
returns-clause-rooms c = rw (← c.new.ensures.device) (λ s all keeps lacks.
    let ended = c.in_ok-part.field-0 in
    let life = c.args.life in
    let old = fuse_disk mem_disk c.new.result in
    let after = c.crash_torn.result in
    let image : Image = (mem_disk after).seen in
    let rides = rides_for s.profile in
    let all_out = λ (other : Image) (is : (model rides old).left other). all other (fuse_out rides c.new.result other is) in
    let there = rw c.into_inner-disk.ensures at (crash_leaves rides life c.into_inner-disk.result after keeps (rw c.deref-2.ensures.value at c.crash_torn.ensures.one)) in
    let one = c.in_ok-part.ensures.leaves s life false refl all_out (λ is. absurd (cc is)) tt image (fuse_in rides ended.device image there) in
    c.in_ok-part.ensures.rooms s all_out tt
    (crash_rooms rides s one.state ended.device.device after refl (lived_profile (HasSpent life.stop 0 old) (left s old.seen false) life _ (left one.state image true) one.lived) one.stands (alone_in false after c.crash_torn.ensures.alone) there lacks))

pub returns-in_err-part-clause-err : goal.returns-in_err-part-clause-err
returns-in_err-part-clause-err c =
    let p = err_from_is_err_and c.from_residual.result c.from_residual.ensures.1 in
    rw (p.1, p.2) (rw (← c.new.ensures.device) (⊎_elim (λ memory. inl memory) (λ none. inr (none.0, none.1 (λ d. tt))) c.in_err-part.ensures.err))
