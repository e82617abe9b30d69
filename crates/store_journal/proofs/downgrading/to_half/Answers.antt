use Rattle.std.proofs.Common.{◌≡◌, ◌+◌, ℕ, List, length, refl, subst, sym, ◌∙◌, arith, Bool, None, Some, false}
use Rattle.sector_device.specs.Sectors.{SectorsHold, sectors_of}
use Rattle.sector_device.proofs.Charges.{charges_err, failed_joined, made_joined}
use Rattle.sector_device.proofs.Moments.{joined}
use Rattle.half_journal.specs.Layout.{half_start as start_in_half, sector_of}
use Rattle.half_journal.specs.States.{Holds}
use Rattle.half_journal.proofs.Images.{run_holds}
use Rattle.slot_commits.specs.Asides.{IsAside}
use Rattle.store_journal.specs.Carries.{EitherCarried, half_of, state_of, turned}
use Rattle.store_journal.specs.Held.{IsRidingFormed, bytes_in}
use Rattle.store_journal.specs.Models.{weak}
use Rattle.store_journal.specs.Turning.{commit_turned}
use Rattle.store_journal.specs.Writes.{downgrade_calls}
use Rattle.store_journal.specs.declared.held.Held.TheVariants.{InSlots}
use Rattle.store_journal.proofs.Downgrades.{IsTurning, aside, aside_either, half_done, name_moment, named_reads, wipe_either, wipe_moment, wiped_reads}
use Rattle.store_journal.proofs.Seen.{reads_of, seen_weak}
use Rattle.store_journal.proofs.Slots.{slots_copy}
use Rattle.store_journal.proofs.Weak.{never}
use Rattle.store_journal.proofs.downgrading.to_half.Goals as goal

pub returns-in_err-settle_aside-clause-any_moment : goal.returns-in_err-settle_aside-clause-any_moment
returns-in_err-settle_aside-clause-any_moment g c = λ state honest is.
    let disk = g.D.SectorDevice.disk in
    let old = disk c.args.device.now in
    let m1 = disk c.settle_aside.new.device in
    let known = c.args.known.now in
    let target = c.args.target.now in
    let next = turned false 0 state target in
    let first = c.settle_aside.ensures in
    let honest1 = first.same.honest.0 honest in
    let tears = g.met.D.SectorDevice.torn_coherent c.args.device.now honest in
    let tears1 = g.met.D.SectorDevice.torn_coherent c.settle_aside.new.device honest1 in
    let coherent1 = g.met.D.SectorDevice.coherent c.settle_aside.new.device honest1 in
    let of = (is.stands old.seen (seen_weak old (g.met.D.SectorDevice.coherent c.args.device.now honest) tears)).of in
    let turning : IsTurning old.sectors known state target =
    record { formed = c.requires.formed; end = c.requires.end; half = c.requires.half; between = c.requires.between; fits = c.requires.fits; seq_fits = of.seq_fits; opens_fits = of.opens_fits; knows = is.knows } in
    let apart = subst (λ (s : ℕ). IsAside old.sectors (state_of state known.slot.blocks) s (sectors_of (length target))) (sym c.half_start.ensures) (aside old.sectors known state target turning) in
    let copied = slots_copy old m1 known state tears tears1 first.same.size c.requires.formed c.requires.end is
    (λ torn told. first.stands (Some torn) known.slot.number (state_of state known.slot.blocks) honest apart (λ image left. is.stands image (torn, told, left))) (λ torn. first.sector_0 (Some torn) honest) in
    let aside_run = aside_either old m1 state next is.rides_is copied.0 in
    let formed1 = subst (λ (n : ℕ). IsRidingFormed n known None) (sym first.same.size) (record { formed = c.requires.formed; number_fits = λ settled. c.requires.end; waiting = λ awaiting some. absurd (cc some) }) in
    let read1 : bytes_in m1.seen (InSlots known None) ≡ state.bytes = reads_of m1 coherent1 tears1 (InSlots known None) state formed1 copied.1 in
    aside_run

pub returns-in_err-settle_aside-clause-stays : goal.returns-in_err-settle_aside-clause-stays
returns-in_err-settle_aside-clause-stays g c = λ state honest is.
    let disk = g.D.SectorDevice.disk in
    let old = disk c.args.device.now in
    let m1 = disk c.settle_aside.new.device in
    let known = c.args.known.now in
    let target = c.args.target.now in
    let next = turned false 0 state target in
    let first = c.settle_aside.ensures in
    let honest1 = first.same.honest.0 honest in
    let tears = g.met.D.SectorDevice.torn_coherent c.args.device.now honest in
    let tears1 = g.met.D.SectorDevice.torn_coherent c.settle_aside.new.device honest1 in
    let coherent1 = g.met.D.SectorDevice.coherent c.settle_aside.new.device honest1 in
    let of = (is.stands old.seen (seen_weak old (g.met.D.SectorDevice.coherent c.args.device.now honest) tears)).of in
    let turning : IsTurning old.sectors known state target =
    record { formed = c.requires.formed; end = c.requires.end; half = c.requires.half; between = c.requires.between; fits = c.requires.fits; seq_fits = of.seq_fits; opens_fits = of.opens_fits; knows = is.knows } in
    let apart = subst (λ (s : ℕ). IsAside old.sectors (state_of state known.slot.blocks) s (sectors_of (length target))) (sym c.half_start.ensures) (aside old.sectors known state target turning) in
    let copied = slots_copy old m1 known state tears tears1 first.same.size c.requires.formed c.requires.end is
    (λ torn told. first.stands (Some torn) known.slot.number (state_of state known.slot.blocks) honest apart (λ image left. is.stands image (torn, told, left))) (λ torn. first.sector_0 (Some torn) honest) in
    let aside_run = aside_either old m1 state next is.rides_is copied.0 in
    let formed1 = subst (λ (n : ℕ). IsRidingFormed n known None) (sym first.same.size) (record { formed = c.requires.formed; number_fits = λ settled. c.requires.end; waiting = λ awaiting some. absurd (cc some) }) in
    let read1 : bytes_in m1.seen (InSlots known None) ≡ state.bytes = reads_of m1 coherent1 tears1 (InSlots known None) state formed1 copied.1 in
    read1

pub returns-in_err-name_half-clause-any_moment : goal.returns-in_err-name_half-clause-any_moment
returns-in_err-name_half-clause-any_moment g c = λ state honest is.
    let disk = g.D.SectorDevice.disk in
    let old = disk c.args.device.now in
    let m1 = disk c.settle_aside.new.device in
    let known = c.args.known.now in
    let target = c.args.target.now in
    let next = turned false 0 state target in
    let first = c.settle_aside.ensures in
    let honest1 = first.same.honest.0 honest in
    let tears = g.met.D.SectorDevice.torn_coherent c.args.device.now honest in
    let tears1 = g.met.D.SectorDevice.torn_coherent c.settle_aside.new.device honest1 in
    let coherent1 = g.met.D.SectorDevice.coherent c.settle_aside.new.device honest1 in
    let of = (is.stands old.seen (seen_weak old (g.met.D.SectorDevice.coherent c.args.device.now honest) tears)).of in
    let turning : IsTurning old.sectors known state target =
    record { formed = c.requires.formed; end = c.requires.end; half = c.requires.half; between = c.requires.between; fits = c.requires.fits; seq_fits = of.seq_fits; opens_fits = of.opens_fits; knows = is.knows } in
    let apart = subst (λ (s : ℕ). IsAside old.sectors (state_of state known.slot.blocks) s (sectors_of (length target))) (sym c.half_start.ensures) (aside old.sectors known state target turning) in
    let copied = slots_copy old m1 known state tears tears1 first.same.size c.requires.formed c.requires.end is
    (λ torn told. first.stands (Some torn) known.slot.number (state_of state known.slot.blocks) honest apart (λ image left. is.stands image (torn, told, left))) (λ torn. first.sector_0 (Some torn) honest) in
    let aside_run = aside_either old m1 state next is.rides_is copied.0 in
    let formed1 = subst (λ (n : ℕ). IsRidingFormed n known None) (sym first.same.size) (record { formed = c.requires.formed; number_fits = λ settled. c.requires.end; waiting = λ awaiting some. absurd (cc some) }) in
    let read1 : bytes_in m1.seen (InSlots known None) ≡ state.bytes = reads_of m1 coherent1 tears1 (InSlots known None) state formed1 copied.1 in
    let m2 = disk c.name_half.new.device in
    let second = c.name_half.ensures in
    let honest2 = second.same.honest.0 honest1 in
    let wide : length m1.seen ≡ known.slot.sectors = (coherent1.shape m1.seen coherent1.seen).count ∙ first.same.size ∙ sym c.requires.formed.size in
    let alone = λ (torn : List ℕ → Bool). c.in_ok-settle_aside.ensures.settled torn honest in
    let holds : Holds m1.seen (start_in_half known.slot.sectors 1) target (length target) =
    run_holds m1.seen (start_in_half known.slot.sectors 1) target (subst (λ (s : ℕ). SectorsHold m1.seen s (sectors_of (length target)) target) c.half_start.ensures (c.in_ok-settle_aside.ensures.written honest)) in
    let name_run = name_moment old.sectors known state target turning m1 tears1 first.same.size copied.1 wide alone holds m2 second.same.size (λ torn. second.any_moment torn honest1) in
    let both = joined (weak old) (weak m1) (weak m2) (EitherCarried state next) aside_run name_run in
    both

pub returns-in_err-name_half-clause-stays : goal.returns-in_err-name_half-clause-stays
returns-in_err-name_half-clause-stays g c = λ state honest is.
    let disk = g.D.SectorDevice.disk in
    let old = disk c.args.device.now in
    let m1 = disk c.settle_aside.new.device in
    let known = c.args.known.now in
    let target = c.args.target.now in
    let next = turned false 0 state target in
    let first = c.settle_aside.ensures in
    let honest1 = first.same.honest.0 honest in
    let tears = g.met.D.SectorDevice.torn_coherent c.args.device.now honest in
    let tears1 = g.met.D.SectorDevice.torn_coherent c.settle_aside.new.device honest1 in
    let coherent1 = g.met.D.SectorDevice.coherent c.settle_aside.new.device honest1 in
    let of = (is.stands old.seen (seen_weak old (g.met.D.SectorDevice.coherent c.args.device.now honest) tears)).of in
    let turning : IsTurning old.sectors known state target =
    record { formed = c.requires.formed; end = c.requires.end; half = c.requires.half; between = c.requires.between; fits = c.requires.fits; seq_fits = of.seq_fits; opens_fits = of.opens_fits; knows = is.knows } in
    let apart = subst (λ (s : ℕ). IsAside old.sectors (state_of state known.slot.blocks) s (sectors_of (length target))) (sym c.half_start.ensures) (aside old.sectors known state target turning) in
    let copied = slots_copy old m1 known state tears tears1 first.same.size c.requires.formed c.requires.end is
    (λ torn told. first.stands (Some torn) known.slot.number (state_of state known.slot.blocks) honest apart (λ image left. is.stands image (torn, told, left))) (λ torn. first.sector_0 (Some torn) honest) in
    let aside_run = aside_either old m1 state next is.rides_is copied.0 in
    let formed1 = subst (λ (n : ℕ). IsRidingFormed n known None) (sym first.same.size) (record { formed = c.requires.formed; number_fits = λ settled. c.requires.end; waiting = λ awaiting some. absurd (cc some) }) in
    let read1 : bytes_in m1.seen (InSlots known None) ≡ state.bytes = reads_of m1 coherent1 tears1 (InSlots known None) state formed1 copied.1 in
    let m2 = disk c.name_half.new.device in
    let second = c.name_half.ensures in
    let honest2 = second.same.honest.0 honest1 in
    let wide : length m1.seen ≡ known.slot.sectors = (coherent1.shape m1.seen coherent1.seen).count ∙ first.same.size ∙ sym c.requires.formed.size in
    let alone = λ (torn : List ℕ → Bool). c.in_ok-settle_aside.ensures.settled torn honest in
    let holds : Holds m1.seen (start_in_half known.slot.sectors 1) target (length target) =
    run_holds m1.seen (start_in_half known.slot.sectors 1) target (subst (λ (s : ℕ). SectorsHold m1.seen s (sectors_of (length target)) target) c.half_start.ensures (c.in_ok-settle_aside.ensures.written honest)) in
    let name_run = name_moment old.sectors known state target turning m1 tears1 first.same.size copied.1 wide alone holds m2 second.same.size (λ torn. second.any_moment torn honest1) in
    let both = joined (weak old) (weak m1) (weak m2) (EitherCarried state next) aside_run name_run in
    let coherent2 = g.met.D.SectorDevice.coherent c.name_half.new.device honest2 in
    let tears2 = g.met.D.SectorDevice.torn_coherent c.name_half.new.device honest2 in
    named_reads m1 m2 known (sector_of (commit_turned known.slot (length target))) coherent2 (tears2 never) (alone never) (second.any_moment never honest1) ∙ read1

pub returns-in_err-wipe_slots-clause-any_moment : goal.returns-in_err-wipe_slots-clause-any_moment
returns-in_err-wipe_slots-clause-any_moment g c = λ state honest is.
    let disk = g.D.SectorDevice.disk in
    let old = disk c.args.device.now in
    let m1 = disk c.settle_aside.new.device in
    let known = c.args.known.now in
    let target = c.args.target.now in
    let next = turned false 0 state target in
    let first = c.settle_aside.ensures in
    let honest1 = first.same.honest.0 honest in
    let tears = g.met.D.SectorDevice.torn_coherent c.args.device.now honest in
    let tears1 = g.met.D.SectorDevice.torn_coherent c.settle_aside.new.device honest1 in
    let coherent1 = g.met.D.SectorDevice.coherent c.settle_aside.new.device honest1 in
    let of = (is.stands old.seen (seen_weak old (g.met.D.SectorDevice.coherent c.args.device.now honest) tears)).of in
    let turning : IsTurning old.sectors known state target =
    record { formed = c.requires.formed; end = c.requires.end; half = c.requires.half; between = c.requires.between; fits = c.requires.fits; seq_fits = of.seq_fits; opens_fits = of.opens_fits; knows = is.knows } in
    let apart = subst (λ (s : ℕ). IsAside old.sectors (state_of state known.slot.blocks) s (sectors_of (length target))) (sym c.half_start.ensures) (aside old.sectors known state target turning) in
    let copied = slots_copy old m1 known state tears tears1 first.same.size c.requires.formed c.requires.end is
    (λ torn told. first.stands (Some torn) known.slot.number (state_of state known.slot.blocks) honest apart (λ image left. is.stands image (torn, told, left))) (λ torn. first.sector_0 (Some torn) honest) in
    let aside_run = aside_either old m1 state next is.rides_is copied.0 in
    let formed1 = subst (λ (n : ℕ). IsRidingFormed n known None) (sym first.same.size) (record { formed = c.requires.formed; number_fits = λ settled. c.requires.end; waiting = λ awaiting some. absurd (cc some) }) in
    let read1 : bytes_in m1.seen (InSlots known None) ≡ state.bytes = reads_of m1 coherent1 tears1 (InSlots known None) state formed1 copied.1 in
    let m2 = disk c.name_half.new.device in
    let second = c.name_half.ensures in
    let honest2 = second.same.honest.0 honest1 in
    let wide : length m1.seen ≡ known.slot.sectors = (coherent1.shape m1.seen coherent1.seen).count ∙ first.same.size ∙ sym c.requires.formed.size in
    let alone = λ (torn : List ℕ → Bool). c.in_ok-settle_aside.ensures.settled torn honest in
    let holds : Holds m1.seen (start_in_half known.slot.sectors 1) target (length target) =
    run_holds m1.seen (start_in_half known.slot.sectors 1) target (subst (λ (s : ℕ). SectorsHold m1.seen s (sectors_of (length target)) target) c.half_start.ensures (c.in_ok-settle_aside.ensures.written honest)) in
    let name_run = name_moment old.sectors known state target turning m1 tears1 first.same.size copied.1 wide alone holds m2 second.same.size (λ torn. second.any_moment torn honest1) in
    let both = joined (weak old) (weak m1) (weak m2) (EitherCarried state next) aside_run name_run in
    let m3 = disk c.wipe_slots.new.device in
    let third = c.wipe_slots.ensures in
    let honest3 = third.same.honest.0 honest2 in
    let coherent3 = g.met.D.SectorDevice.coherent c.wipe_slots.new.device honest3 in
    let tears3 = g.met.D.SectorDevice.torn_coherent c.wipe_slots.new.device honest3 in
    let done = λ (torn : List ℕ → Bool). c.in_ok-name_half.ensures.done torn honest1 in
    let wipe_run = wipe_moment old.sectors known state target turning m1 tears1 first.same.size copied.1 wide alone holds m2 m3 third.same.size done (λ torn. third.any_moment torn honest2) in
    joined (weak old) (weak m2) (weak m3) (EitherCarried state next) both (wipe_either m2 m3 state next refl refl wipe_run)

pub returns-in_err-wipe_slots-clause-stays : goal.returns-in_err-wipe_slots-clause-stays
returns-in_err-wipe_slots-clause-stays g c = λ state honest is.
    let disk = g.D.SectorDevice.disk in
    let old = disk c.args.device.now in
    let m1 = disk c.settle_aside.new.device in
    let known = c.args.known.now in
    let target = c.args.target.now in
    let next = turned false 0 state target in
    let first = c.settle_aside.ensures in
    let honest1 = first.same.honest.0 honest in
    let tears = g.met.D.SectorDevice.torn_coherent c.args.device.now honest in
    let tears1 = g.met.D.SectorDevice.torn_coherent c.settle_aside.new.device honest1 in
    let coherent1 = g.met.D.SectorDevice.coherent c.settle_aside.new.device honest1 in
    let of = (is.stands old.seen (seen_weak old (g.met.D.SectorDevice.coherent c.args.device.now honest) tears)).of in
    let turning : IsTurning old.sectors known state target =
    record { formed = c.requires.formed; end = c.requires.end; half = c.requires.half; between = c.requires.between; fits = c.requires.fits; seq_fits = of.seq_fits; opens_fits = of.opens_fits; knows = is.knows } in
    let apart = subst (λ (s : ℕ). IsAside old.sectors (state_of state known.slot.blocks) s (sectors_of (length target))) (sym c.half_start.ensures) (aside old.sectors known state target turning) in
    let copied = slots_copy old m1 known state tears tears1 first.same.size c.requires.formed c.requires.end is
    (λ torn told. first.stands (Some torn) known.slot.number (state_of state known.slot.blocks) honest apart (λ image left. is.stands image (torn, told, left))) (λ torn. first.sector_0 (Some torn) honest) in
    let aside_run = aside_either old m1 state next is.rides_is copied.0 in
    let formed1 = subst (λ (n : ℕ). IsRidingFormed n known None) (sym first.same.size) (record { formed = c.requires.formed; number_fits = λ settled. c.requires.end; waiting = λ awaiting some. absurd (cc some) }) in
    let read1 : bytes_in m1.seen (InSlots known None) ≡ state.bytes = reads_of m1 coherent1 tears1 (InSlots known None) state formed1 copied.1 in
    let m2 = disk c.name_half.new.device in
    let second = c.name_half.ensures in
    let honest2 = second.same.honest.0 honest1 in
    let wide : length m1.seen ≡ known.slot.sectors = (coherent1.shape m1.seen coherent1.seen).count ∙ first.same.size ∙ sym c.requires.formed.size in
    let alone = λ (torn : List ℕ → Bool). c.in_ok-settle_aside.ensures.settled torn honest in
    let holds : Holds m1.seen (start_in_half known.slot.sectors 1) target (length target) =
    run_holds m1.seen (start_in_half known.slot.sectors 1) target (subst (λ (s : ℕ). SectorsHold m1.seen s (sectors_of (length target)) target) c.half_start.ensures (c.in_ok-settle_aside.ensures.written honest)) in
    let name_run = name_moment old.sectors known state target turning m1 tears1 first.same.size copied.1 wide alone holds m2 second.same.size (λ torn. second.any_moment torn honest1) in
    let both = joined (weak old) (weak m1) (weak m2) (EitherCarried state next) aside_run name_run in
    let m3 = disk c.wipe_slots.new.device in
    let third = c.wipe_slots.ensures in
    let honest3 = third.same.honest.0 honest2 in
    let coherent3 = g.met.D.SectorDevice.coherent c.wipe_slots.new.device honest3 in
    let tears3 = g.met.D.SectorDevice.torn_coherent c.wipe_slots.new.device honest3 in
    let done = λ (torn : List ℕ → Bool). c.in_ok-name_half.ensures.done torn honest1 in
    let wipe_run = wipe_moment old.sectors known state target turning m1 tears1 first.same.size copied.1 wide alone holds m2 m3 third.same.size done (λ torn. third.any_moment torn honest2) in
    wiped_reads m1 m2 m3 known (sector_of (commit_turned known.slot (length target))) coherent3 (tears3 never) (done never) (third.any_moment never honest2) ∙ read1

pub returns-clause-any_moment : goal.returns-clause-any_moment
returns-clause-any_moment g c = λ state honest is.
    let disk = g.D.SectorDevice.disk in
    let old = disk c.args.device.now in
    let m1 = disk c.settle_aside.new.device in
    let known = c.args.known.now in
    let target = c.args.target.now in
    let next = turned false 0 state target in
    let first = c.settle_aside.ensures in
    let honest1 = first.same.honest.0 honest in
    let tears = g.met.D.SectorDevice.torn_coherent c.args.device.now honest in
    let tears1 = g.met.D.SectorDevice.torn_coherent c.settle_aside.new.device honest1 in
    let coherent1 = g.met.D.SectorDevice.coherent c.settle_aside.new.device honest1 in
    let of = (is.stands old.seen (seen_weak old (g.met.D.SectorDevice.coherent c.args.device.now honest) tears)).of in
    let turning : IsTurning old.sectors known state target =
    record { formed = c.requires.formed; end = c.requires.end; half = c.requires.half; between = c.requires.between; fits = c.requires.fits; seq_fits = of.seq_fits; opens_fits = of.opens_fits; knows = is.knows } in
    let apart = subst (λ (s : ℕ). IsAside old.sectors (state_of state known.slot.blocks) s (sectors_of (length target))) (sym c.half_start.ensures) (aside old.sectors known state target turning) in
    let copied = slots_copy old m1 known state tears tears1 first.same.size c.requires.formed c.requires.end is
    (λ torn told. first.stands (Some torn) known.slot.number (state_of state known.slot.blocks) honest apart (λ image left. is.stands image (torn, told, left))) (λ torn. first.sector_0 (Some torn) honest) in
    let aside_run = aside_either old m1 state next is.rides_is copied.0 in
    let formed1 = subst (λ (n : ℕ). IsRidingFormed n known None) (sym first.same.size) (record { formed = c.requires.formed; number_fits = λ settled. c.requires.end; waiting = λ awaiting some. absurd (cc some) }) in
    let read1 : bytes_in m1.seen (InSlots known None) ≡ state.bytes = reads_of m1 coherent1 tears1 (InSlots known None) state formed1 copied.1 in
    let m2 = disk c.name_half.new.device in
    let second = c.name_half.ensures in
    let honest2 = second.same.honest.0 honest1 in
    let wide : length m1.seen ≡ known.slot.sectors = (coherent1.shape m1.seen coherent1.seen).count ∙ first.same.size ∙ sym c.requires.formed.size in
    let alone = λ (torn : List ℕ → Bool). c.in_ok-settle_aside.ensures.settled torn honest in
    let holds : Holds m1.seen (start_in_half known.slot.sectors 1) target (length target) =
    run_holds m1.seen (start_in_half known.slot.sectors 1) target (subst (λ (s : ℕ). SectorsHold m1.seen s (sectors_of (length target)) target) c.half_start.ensures (c.in_ok-settle_aside.ensures.written honest)) in
    let name_run = name_moment old.sectors known state target turning m1 tears1 first.same.size copied.1 wide alone holds m2 second.same.size (λ torn. second.any_moment torn honest1) in
    let both = joined (weak old) (weak m1) (weak m2) (EitherCarried state next) aside_run name_run in
    let m3 = disk c.wipe_slots.new.device in
    let third = c.wipe_slots.ensures in
    let honest3 = third.same.honest.0 honest2 in
    let coherent3 = g.met.D.SectorDevice.coherent c.wipe_slots.new.device honest3 in
    let tears3 = g.met.D.SectorDevice.torn_coherent c.wipe_slots.new.device honest3 in
    let done = λ (torn : List ℕ → Bool). c.in_ok-name_half.ensures.done torn honest1 in
    let wipe_run = wipe_moment old.sectors known state target turning m1 tears1 first.same.size copied.1 wide alone holds m2 m3 third.same.size done (λ torn. third.any_moment torn honest2) in
    joined (weak old) (weak m2) (weak m3) (EitherCarried state next) both (wipe_either m2 m3 state next refl refl wipe_run)

pub returns-clause-stays : goal.returns-clause-stays
returns-clause-stays g c = λ state honest is.
    let disk = g.D.SectorDevice.disk in
    let old = disk c.args.device.now in
    let m1 = disk c.settle_aside.new.device in
    let known = c.args.known.now in
    let target = c.args.target.now in
    let next = turned false 0 state target in
    let first = c.settle_aside.ensures in
    let honest1 = first.same.honest.0 honest in
    let tears = g.met.D.SectorDevice.torn_coherent c.args.device.now honest in
    let tears1 = g.met.D.SectorDevice.torn_coherent c.settle_aside.new.device honest1 in
    let coherent1 = g.met.D.SectorDevice.coherent c.settle_aside.new.device honest1 in
    let of = (is.stands old.seen (seen_weak old (g.met.D.SectorDevice.coherent c.args.device.now honest) tears)).of in
    let turning : IsTurning old.sectors known state target =
    record { formed = c.requires.formed; end = c.requires.end; half = c.requires.half; between = c.requires.between; fits = c.requires.fits; seq_fits = of.seq_fits; opens_fits = of.opens_fits; knows = is.knows } in
    let apart = subst (λ (s : ℕ). IsAside old.sectors (state_of state known.slot.blocks) s (sectors_of (length target))) (sym c.half_start.ensures) (aside old.sectors known state target turning) in
    let copied = slots_copy old m1 known state tears tears1 first.same.size c.requires.formed c.requires.end is
    (λ torn told. first.stands (Some torn) known.slot.number (state_of state known.slot.blocks) honest apart (λ image left. is.stands image (torn, told, left))) (λ torn. first.sector_0 (Some torn) honest) in
    let aside_run = aside_either old m1 state next is.rides_is copied.0 in
    let formed1 = subst (λ (n : ℕ). IsRidingFormed n known None) (sym first.same.size) (record { formed = c.requires.formed; number_fits = λ settled. c.requires.end; waiting = λ awaiting some. absurd (cc some) }) in
    let read1 : bytes_in m1.seen (InSlots known None) ≡ state.bytes = reads_of m1 coherent1 tears1 (InSlots known None) state formed1 copied.1 in
    let m2 = disk c.name_half.new.device in
    let second = c.name_half.ensures in
    let honest2 = second.same.honest.0 honest1 in
    let wide : length m1.seen ≡ known.slot.sectors = (coherent1.shape m1.seen coherent1.seen).count ∙ first.same.size ∙ sym c.requires.formed.size in
    let alone = λ (torn : List ℕ → Bool). c.in_ok-settle_aside.ensures.settled torn honest in
    let holds : Holds m1.seen (start_in_half known.slot.sectors 1) target (length target) =
    run_holds m1.seen (start_in_half known.slot.sectors 1) target (subst (λ (s : ℕ). SectorsHold m1.seen s (sectors_of (length target)) target) c.half_start.ensures (c.in_ok-settle_aside.ensures.written honest)) in
    let name_run = name_moment old.sectors known state target turning m1 tears1 first.same.size copied.1 wide alone holds m2 second.same.size (λ torn. second.any_moment torn honest1) in
    let both = joined (weak old) (weak m1) (weak m2) (EitherCarried state next) aside_run name_run in
    let m3 = disk c.wipe_slots.new.device in
    let third = c.wipe_slots.ensures in
    let honest3 = third.same.honest.0 honest2 in
    let coherent3 = g.met.D.SectorDevice.coherent c.wipe_slots.new.device honest3 in
    let tears3 = g.met.D.SectorDevice.torn_coherent c.wipe_slots.new.device honest3 in
    let done = λ (torn : List ℕ → Bool). c.in_ok-name_half.ensures.done torn honest1 in
    let wipe_run = wipe_moment old.sectors known state target turning m1 tears1 first.same.size copied.1 wide alone holds m2 m3 third.same.size done (λ torn. third.any_moment torn honest2) in
    wiped_reads m1 m2 m3 known (sector_of (commit_turned known.slot (length target))) coherent3 (tears3 never) (done never) (third.any_moment never honest2) ∙ read1

pub returns-clause-done : goal.returns-clause-done
returns-clause-done g c = λ state honest is.
    let disk = g.D.SectorDevice.disk in
    let old = disk c.args.device.now in
    let m1 = disk c.settle_aside.new.device in
    let known = c.args.known.now in
    let target = c.args.target.now in
    let next = turned false 0 state target in
    let first = c.settle_aside.ensures in
    let honest1 = first.same.honest.0 honest in
    let tears = g.met.D.SectorDevice.torn_coherent c.args.device.now honest in
    let tears1 = g.met.D.SectorDevice.torn_coherent c.settle_aside.new.device honest1 in
    let coherent1 = g.met.D.SectorDevice.coherent c.settle_aside.new.device honest1 in
    let of = (is.stands old.seen (seen_weak old (g.met.D.SectorDevice.coherent c.args.device.now honest) tears)).of in
    let turning : IsTurning old.sectors known state target =
    record { formed = c.requires.formed; end = c.requires.end; half = c.requires.half; between = c.requires.between; fits = c.requires.fits; seq_fits = of.seq_fits; opens_fits = of.opens_fits; knows = is.knows } in
    let apart = subst (λ (s : ℕ). IsAside old.sectors (state_of state known.slot.blocks) s (sectors_of (length target))) (sym c.half_start.ensures) (aside old.sectors known state target turning) in
    let copied = slots_copy old m1 known state tears tears1 first.same.size c.requires.formed c.requires.end is
    (λ torn told. first.stands (Some torn) known.slot.number (state_of state known.slot.blocks) honest apart (λ image left. is.stands image (torn, told, left))) (λ torn. first.sector_0 (Some torn) honest) in
    let aside_run = aside_either old m1 state next is.rides_is copied.0 in
    let formed1 = subst (λ (n : ℕ). IsRidingFormed n known None) (sym first.same.size) (record { formed = c.requires.formed; number_fits = λ settled. c.requires.end; waiting = λ awaiting some. absurd (cc some) }) in
    let read1 : bytes_in m1.seen (InSlots known None) ≡ state.bytes = reads_of m1 coherent1 tears1 (InSlots known None) state formed1 copied.1 in
    let m2 = disk c.name_half.new.device in
    let second = c.name_half.ensures in
    let honest2 = second.same.honest.0 honest1 in
    let wide : length m1.seen ≡ known.slot.sectors = (coherent1.shape m1.seen coherent1.seen).count ∙ first.same.size ∙ sym c.requires.formed.size in
    let alone = λ (torn : List ℕ → Bool). c.in_ok-settle_aside.ensures.settled torn honest in
    let holds : Holds m1.seen (start_in_half known.slot.sectors 1) target (length target) =
    run_holds m1.seen (start_in_half known.slot.sectors 1) target (subst (λ (s : ℕ). SectorsHold m1.seen s (sectors_of (length target)) target) c.half_start.ensures (c.in_ok-settle_aside.ensures.written honest)) in
    let name_run = name_moment old.sectors known state target turning m1 tears1 first.same.size copied.1 wide alone holds m2 second.same.size (λ torn. second.any_moment torn honest1) in
    let both = joined (weak old) (weak m1) (weak m2) (EitherCarried state next) aside_run name_run in
    let m3 = disk c.wipe_slots.new.device in
    let third = c.wipe_slots.ensures in
    let honest3 = third.same.honest.0 honest2 in
    let coherent3 = g.met.D.SectorDevice.coherent c.wipe_slots.new.device honest3 in
    let tears3 = g.met.D.SectorDevice.torn_coherent c.wipe_slots.new.device honest3 in
    let done = λ (torn : List ℕ → Bool). c.in_ok-name_half.ensures.done torn honest1 in
    let wipe_run = wipe_moment old.sectors known state target turning m1 tears1 first.same.size copied.1 wide alone holds m2 m3 third.same.size done (λ torn. third.any_moment torn honest2) in
    half_done m2 m3 (half_of next) coherent3 tears3 wipe_run

pub returns-in_err-name_half-clause-charges : goal.returns-in_err-name_half-clause-charges
returns-in_err-name_half-clause-charges g c =
    let disk = g.D.SectorDevice.disk in
    let old = disk c.args.device.now in
    let m1 = disk c.settle_aside.new.device in
    let m2 = disk c.name_half.new.device in
    let count = sectors_of (length c.args.target.now) in
    charges_err old m2 (downgrade_calls (length c.args.target.now)) c.from_residual-in_err-name_half.result c.from_residual-in_err-name_half.ensures.0
    (failed_joined old m1 m2 (count + 1) 2 (downgrade_calls (length c.args.target.now)) (omega arith) c.in_ok-settle_aside.ensures.charges c.in_err-name_half.ensures.charges)

pub returns-in_err-wipe_slots-clause-charges : goal.returns-in_err-wipe_slots-clause-charges
returns-in_err-wipe_slots-clause-charges g c =
    let disk = g.D.SectorDevice.disk in
    let old = disk c.args.device.now in
    let m1 = disk c.settle_aside.new.device in
    let m2 = disk c.name_half.new.device in
    let m3 = disk c.wipe_slots.new.device in
    let count = sectors_of (length c.args.target.now) in
    charges_err old m3 (downgrade_calls (length c.args.target.now)) c.from_residual-in_err-wipe_slots.result c.from_residual-in_err-wipe_slots.ensures.0
    (failed_joined old m2 m3 (count + 1 + 2) 121 (downgrade_calls (length c.args.target.now)) (omega arith) (made_joined old m1 m2 (count + 1) 2 c.in_ok-settle_aside.ensures.charges c.in_ok-name_half.ensures.charges) c.in_err-wipe_slots.ensures.charges)
