use Rattle.std.proofs.Common.{◌≡◌, ◌+◌, ◌-◌, ◌*◌, ◌/◌, ◌%◌, ◌≤◌, ℕ, length, refl, ap, subst, ◌∙◌, arith}
use Rattle.commit_slots.specs.Slots.{block_start, count_of}
use Rattle.sector_device.proofs.Charges.{charges_err, charges_joined, failed_joined}
use Rattle.sector_device.specs.Charges.{Charges}
use Rattle.slot_commits.specs.Renewals.{renew_calls}
use Rattle.slot_commits.proofs.Copies.{coherent_by}
use Rattle.slot_commits.proofs.Firsts.{firsts_run, firsts_slot, firsts_start, run_first}
use Rattle.slot_commits.proofs.Renewed.{first_meanwhile, first_run, first_slot, mate_slot, mate_start, not_renewed, renewed_done, start_aligned, whole_over, whole_run}
use Rattle.slot_commits.proofs.Runs.{run_by}
use Rattle.slot_commits.proofs.opening.renew.Goals as goal

pub returns-in_err-write_run-clause-renewed : goal.returns-in_err-write_run-clause-renewed
returns-in_err-write_run-clause-renewed g c = λ torn found new can.
    let honest = can.honest in
    let disk = g.D.SectorDevice.disk in
    let old = disk c.args.device.now in
    let slot = c.args.slot.now in
    let tail = c.args.tail.now in
    let start = c.block_start.result + 8 * c.from.result in
    let count = 8 * (length tail / 4096) in
    let at = c.block_start.ensures ∙ ap (λ (n : ℕ). block_start n slot.half) c.requires.of.sectors_is in
    let is : start ≡ block_start old.sectors slot.half + 8 * slot.blocks = (λ i. at i + 8 * c.from.ensures i) in
    let mid = disk c.write_run.new.device in
    let mid_honest = c.write_run.ensures.same.honest.0 honest in
    let coherent = coherent_by torn old (g.met.D.SectorDevice.coherent c.args.device.now honest) (g.met.D.SectorDevice.torn_coherent c.args.device.now honest) in
    let coherent_mid = coherent_by torn mid (g.met.D.SectorDevice.coherent c.write_run.new.device mid_honest) (g.met.D.SectorDevice.torn_coherent c.write_run.new.device mid_honest) in
    let place = start_aligned slot old.sectors start tail c.requires.of is in
    let eights : count % 8 ≡ 0 = omega arith in
    let run = run_by torn old mid start count tail place.1 eights (c.write_run.ensures.any_moment honest) (λ t. c.write_run.ensures.torn t honest) in
    let written = first_run can coherent c.requires.of mid start count is run in
    not_renewed can coherent c.requires.of mid c.from_residual.result c.from_residual.ensures.0 (first_meanwhile can coherent c.requires.of mid written)

pub returns-in_err-settle_slot-clause-renewed : goal.returns-in_err-settle_slot-clause-renewed
returns-in_err-settle_slot-clause-renewed g c = λ torn found new can.
    let honest = can.honest in
    let disk = g.D.SectorDevice.disk in
    let old = disk c.args.device.now in
    let slot = c.args.slot.now in
    let tail = c.args.tail.now in
    let start = c.block_start.result + 8 * c.from.result in
    let count = 8 * (length tail / 4096) in
    let at = c.block_start.ensures ∙ ap (λ (n : ℕ). block_start n slot.half) c.requires.of.sectors_is in
    let is : start ≡ block_start old.sectors slot.half + 8 * slot.blocks = (λ i. at i + 8 * c.from.ensures i) in
    let mid = disk c.write_run.new.device in
    let mid_honest = c.write_run.ensures.same.honest.0 honest in
    let coherent = coherent_by torn old (g.met.D.SectorDevice.coherent c.args.device.now honest) (g.met.D.SectorDevice.torn_coherent c.args.device.now honest) in
    let coherent_mid = coherent_by torn mid (g.met.D.SectorDevice.coherent c.write_run.new.device mid_honest) (g.met.D.SectorDevice.torn_coherent c.write_run.new.device mid_honest) in
    let next = disk c.settle_slot.new.device in
    let next_honest = c.settle_slot.ensures.same.honest.0 mid_honest in
    let coherent_next = coherent_by torn next (g.met.D.SectorDevice.coherent c.settle_slot.new.device next_honest) (g.met.D.SectorDevice.torn_coherent c.settle_slot.new.device next_honest) in
    let place = start_aligned slot old.sectors start tail c.requires.of is in
    let eights : count % 8 ≡ 0 = omega arith in
    let run = run_by torn old mid start count tail place.1 eights (c.write_run.ensures.any_moment honest) (λ t. c.write_run.ensures.torn t honest) in
    let written = first_run can coherent c.requires.of mid start count is run in
    let copied = first_slot can coherent c.requires.of mid next coherent_mid written (c.settle_slot.ensures.any_moment torn mid_honest) in
    not_renewed can coherent c.requires.of next c.from_residual-in_err-settle_slot.result c.from_residual-in_err-settle_slot.ensures.0 (first_meanwhile can coherent c.requires.of next copied)

pub returns-clause-renewed : goal.returns-clause-renewed
returns-clause-renewed g c = λ torn found new can.
    let honest = can.honest in
    let disk = g.D.SectorDevice.disk in
    let old = disk c.args.device.now in
    let slot = c.args.slot.now in
    let tail = c.args.tail.now in
    let start = c.block_start.result + 8 * c.from.result in
    let count = 8 * (length tail / 4096) in
    let at = c.block_start.ensures ∙ ap (λ (n : ℕ). block_start n slot.half) c.requires.of.sectors_is in
    let is : start ≡ block_start old.sectors slot.half + 8 * slot.blocks = (λ i. at i + 8 * c.from.ensures i) in
    let mid = disk c.write_run.new.device in
    let mid_honest = c.write_run.ensures.same.honest.0 honest in
    let coherent = coherent_by torn old (g.met.D.SectorDevice.coherent c.args.device.now honest) (g.met.D.SectorDevice.torn_coherent c.args.device.now honest) in
    let coherent_mid = coherent_by torn mid (g.met.D.SectorDevice.coherent c.write_run.new.device mid_honest) (g.met.D.SectorDevice.torn_coherent c.write_run.new.device mid_honest) in
    let next = disk c.settle_slot.new.device in
    let next_honest = c.settle_slot.ensures.same.honest.0 mid_honest in
    let coherent_next = coherent_by torn next (g.met.D.SectorDevice.coherent c.settle_slot.new.device next_honest) (g.met.D.SectorDevice.torn_coherent c.settle_slot.new.device next_honest) in
    let last = disk c.settle_slot-2.new.device in
    let last_honest = c.settle_slot-2.ensures.same.honest.0 next_honest in
    let coherent_last = coherent_by torn last (g.met.D.SectorDevice.coherent c.settle_slot-2.new.device last_honest) (g.met.D.SectorDevice.torn_coherent c.settle_slot-2.new.device last_honest) in
    let place = start_aligned slot old.sectors start tail c.requires.of is in
    let eights : count % 8 ≡ 0 = omega arith in
    let run = run_by torn old mid start count tail place.1 eights (c.write_run.ensures.any_moment honest) (λ t. c.write_run.ensures.torn t honest) in
    let written = first_run can coherent c.requires.of mid start count is run in
    let copied = first_slot can coherent c.requires.of mid next coherent_mid written (c.settle_slot.ensures.any_moment torn mid_honest) in
    let alone = c.in_ok-settle_slot.ensures.settled torn mid_honest in
    let begun = mate_start can coherent c.requires.of next coherent_next copied alone (c.in_ok-settle_slot.ensures.held mid_honest) in
    let more = mate_slot can coherent c.requires.of next last coherent_next begun (c.settle_slot-2.ensures.any_moment torn next_honest) in
    let low : 1 - c.args.first ≤ 1 = omega arith in
    let whole = whole_run can coherent c.requires.of mid start count coherent_mid written is refl (c.in_ok-write_run.ensures.written honest) in
    let whole_next = whole_over can coherent c.requires.of c.args.first mid.seen next.seen c.requires.first (c.settle_slot.ensures.seen mid_honest) whole in
    let whole_last = whole_over can coherent c.requires.of (1 - c.args.first) next.seen last.seen low (c.settle_slot-2.ensures.seen next_honest) whole_next in
    renewed_done can coherent c.requires.of next last c.settle_slot-2.result coherent_last copied more (c.settle_slot-2.ensures.held next_honest) (c.settle_slot-2.ensures.settled torn next_honest) whole_last

pub returns-in_err-write_run-clause-sector_0 : goal.returns-in_err-write_run-clause-sector_0
returns-in_err-write_run-clause-sector_0 g c = λ torn honest.
    let disk = g.D.SectorDevice.disk in
    let old = disk c.args.device.now in
    let slot = c.args.slot.now in
    let tail = c.args.tail.now in
    let start = c.block_start.result + 8 * c.from.result in
    let count = 8 * (length tail / 4096) in
    let at = c.block_start.ensures ∙ ap (λ (n : ℕ). block_start n slot.half) c.requires.of.sectors_is in
    let is : start ≡ block_start old.sectors slot.half + 8 * slot.blocks = (λ i. at i + 8 * c.from.ensures i) in
    let mid = disk c.write_run.new.device in
    let mid_honest = c.write_run.ensures.same.honest.0 honest in
    let coherent = coherent_by torn old (g.met.D.SectorDevice.coherent c.args.device.now honest) (g.met.D.SectorDevice.torn_coherent c.args.device.now honest) in
    let coherent_mid = coherent_by torn mid (g.met.D.SectorDevice.coherent c.write_run.new.device mid_honest) (g.met.D.SectorDevice.torn_coherent c.write_run.new.device mid_honest) in
    let place = start_aligned slot old.sectors start tail c.requires.of is in
    let run = firsts_run torn old old coherent (firsts_start torn old coherent) mid (run_first torn old mid start count tail place.0 (c.write_run.ensures.any_moment honest) (λ t. c.write_run.ensures.torn t honest)) in
    run

pub returns-in_err-settle_slot-clause-sector_0 : goal.returns-in_err-settle_slot-clause-sector_0
returns-in_err-settle_slot-clause-sector_0 g c = λ torn honest.
    let disk = g.D.SectorDevice.disk in
    let old = disk c.args.device.now in
    let slot = c.args.slot.now in
    let tail = c.args.tail.now in
    let start = c.block_start.result + 8 * c.from.result in
    let count = 8 * (length tail / 4096) in
    let at = c.block_start.ensures ∙ ap (λ (n : ℕ). block_start n slot.half) c.requires.of.sectors_is in
    let is : start ≡ block_start old.sectors slot.half + 8 * slot.blocks = (λ i. at i + 8 * c.from.ensures i) in
    let mid = disk c.write_run.new.device in
    let mid_honest = c.write_run.ensures.same.honest.0 honest in
    let coherent = coherent_by torn old (g.met.D.SectorDevice.coherent c.args.device.now honest) (g.met.D.SectorDevice.torn_coherent c.args.device.now honest) in
    let coherent_mid = coherent_by torn mid (g.met.D.SectorDevice.coherent c.write_run.new.device mid_honest) (g.met.D.SectorDevice.torn_coherent c.write_run.new.device mid_honest) in
    let next = disk c.settle_slot.new.device in
    let next_honest = c.settle_slot.ensures.same.honest.0 mid_honest in
    let coherent_next = coherent_by torn next (g.met.D.SectorDevice.coherent c.settle_slot.new.device next_honest) (g.met.D.SectorDevice.torn_coherent c.settle_slot.new.device next_honest) in
    let place = start_aligned slot old.sectors start tail c.requires.of is in
    let run = firsts_run torn old old coherent (firsts_start torn old coherent) mid (run_first torn old mid start count tail place.0 (c.write_run.ensures.any_moment honest) (λ t. c.write_run.ensures.torn t honest)) in
    let first = firsts_slot torn old mid coherent_mid run next slot tail c.args.first (c.settle_slot.ensures.any_moment torn mid_honest) in
    first

pub returns-clause-sector_0 : goal.returns-clause-sector_0
returns-clause-sector_0 g c = λ torn honest.
    let disk = g.D.SectorDevice.disk in
    let old = disk c.args.device.now in
    let slot = c.args.slot.now in
    let tail = c.args.tail.now in
    let start = c.block_start.result + 8 * c.from.result in
    let count = 8 * (length tail / 4096) in
    let at = c.block_start.ensures ∙ ap (λ (n : ℕ). block_start n slot.half) c.requires.of.sectors_is in
    let is : start ≡ block_start old.sectors slot.half + 8 * slot.blocks = (λ i. at i + 8 * c.from.ensures i) in
    let mid = disk c.write_run.new.device in
    let mid_honest = c.write_run.ensures.same.honest.0 honest in
    let coherent = coherent_by torn old (g.met.D.SectorDevice.coherent c.args.device.now honest) (g.met.D.SectorDevice.torn_coherent c.args.device.now honest) in
    let coherent_mid = coherent_by torn mid (g.met.D.SectorDevice.coherent c.write_run.new.device mid_honest) (g.met.D.SectorDevice.torn_coherent c.write_run.new.device mid_honest) in
    let next = disk c.settle_slot.new.device in
    let next_honest = c.settle_slot.ensures.same.honest.0 mid_honest in
    let coherent_next = coherent_by torn next (g.met.D.SectorDevice.coherent c.settle_slot.new.device next_honest) (g.met.D.SectorDevice.torn_coherent c.settle_slot.new.device next_honest) in
    let place = start_aligned slot old.sectors start tail c.requires.of is in
    let run = firsts_run torn old old coherent (firsts_start torn old coherent) mid (run_first torn old mid start count tail place.0 (c.write_run.ensures.any_moment honest) (λ t. c.write_run.ensures.torn t honest)) in
    let first = firsts_slot torn old mid coherent_mid run next slot tail c.args.first (c.settle_slot.ensures.any_moment torn mid_honest) in
    firsts_slot torn old next coherent_next first (disk c.settle_slot-2.new.device) slot tail (1 - c.args.first) (c.settle_slot-2.ensures.any_moment torn next_honest)

pub returns-in_err-settle_slot-clause-charges : goal.returns-in_err-settle_slot-clause-charges
returns-in_err-settle_slot-clause-charges g c =
    let disk = g.D.SectorDevice.disk in
    let old = disk c.args.device.now in
    let mid = disk c.write_run.new.device in
    let next = disk c.settle_slot.new.device in
    let run = 8 * (length c.args.tail.now / 4096) in
    let count = count_of (length c.args.tail.now) in
    let within : run + (count + 1) ≤ renew_calls (length c.args.tail.now) = omega arith in
    charges_err old next (renew_calls (length c.args.tail.now)) c.from_residual-in_err-settle_slot.result c.from_residual-in_err-settle_slot.ensures.0
    (failed_joined old mid next run (count + 1) (renew_calls (length c.args.tail.now)) within c.in_ok-write_run.ensures.charges c.in_err-settle_slot.ensures.charges)

pub returns-clause-charges : goal.returns-clause-charges
returns-clause-charges g c =
    let disk = g.D.SectorDevice.disk in
    let old = disk c.args.device.now in
    let mid = disk c.write_run.new.device in
    let next = disk c.settle_slot.new.device in
    let run = 8 * (length c.args.tail.now / 4096) in
    let count = count_of (length c.args.tail.now) in
    let last = disk c.settle_slot-2.new.device in
    let result = c.settle_slot-2.result in
    let total : run + ((count + 1) + (count + 1)) ≡ renew_calls (length c.args.tail.now) = omega arith in
    subst (λ (n : ℕ). Charges old last n result) total
    (charges_joined old mid last run ((count + 1) + (count + 1)) result c.in_ok-write_run.ensures.charges (charges_joined mid next last (count + 1) (count + 1) result c.in_ok-settle_slot.ensures.charges c.settle_slot-2.ensures.charges))
