use Rattle.std.proofs.Common.{◌≡◌, ◌+◌, ◌*◌, ◌/◌, ◌%◌, ◌≤◌, ◌<◌, ℕ, List, [], length, get_or, ap, subst, sym, ◌∙◌, arith}
use Rattle.commit_slots.specs.Slots.{IsSlotOf}
use Rattle.commit_slots.specs.declared.slot.Slot.{Slot}
use Rattle.sector_device.specs.Disk.{Image}
use Rattle.sector_device.specs.Charges.{Charges}
use Rattle.sector_device.specs.Sectors.{SectorsHold}
use Rattle.sector_device.proofs.Charges.{charges_err, charges_joined, charges_one, failed_joined, failed_more, failed_one, made_joined, made_one}
use Rattle.slot_commits.specs.Formats.{IsRest, format_calls}
use Rattle.slot_commits.specs.States.{HoldsBlocks, slot_of}
use Rattle.slot_commits.specs.Tears.{tearing_by}
use Rattle.slot_commits.proofs.Copies.{coherent_by}
use Rattle.slot_commits.proofs.Fills.{blocks_held, fill_done, fill_firsts, fill_rests, fill_run, fill_sync, fill_whole, not_filled, rests_stay}
use Rattle.slot_commits.proofs.Puts.{seen_by, syncs_by}
use Rattle.slot_commits.proofs.Runs.{run_by}
use Rattle.slot_commits.proofs.formatting.fill.Goals as goal

pub returns-in_err-write_rests-clause-formatted : goal.returns-in_err-write_rests-clause-formatted
returns-in_err-write_rests-clause-formatted g c = λ torn s told honest unmarked names tail_is bytes_are.
    let disk = g.D.SectorDevice.disk in
    let old = disk c.args.device.now in
    let slot = c.args.slot.now in
    let tail = c.args.tail.now in
    let bytes = c.args.bytes.now in
    let one = disk c.write_rests.new.device in
    let one_honest = c.write_rests.ensures.same.honest.0 honest in
    let coherent = coherent_by torn old (g.met.D.SectorDevice.coherent c.args.device.now honest) (g.met.D.SectorDevice.torn_coherent c.args.device.now honest) in
    let coherent_one = coherent_by torn one (g.met.D.SectorDevice.coherent c.write_rests.new.device one_honest) (g.met.D.SectorDevice.torn_coherent c.write_rests.new.device one_honest) in
    let rests = fill_rests torn old told slot tail s coherent unmarked one (c.write_rests.ensures.any_moment torn honest) in
    not_filled torn old told slot tail s coherent unmarked one c.from_residual.result c.from_residual.ensures.0 (fill_whole torn old told slot tail s coherent unmarked one rests)

pub returns-in_err-write_run-clause-formatted : goal.returns-in_err-write_run-clause-formatted
returns-in_err-write_run-clause-formatted g c = λ torn s told honest unmarked names tail_is bytes_are.
    let disk = g.D.SectorDevice.disk in
    let old = disk c.args.device.now in
    let slot = c.args.slot.now in
    let tail = c.args.tail.now in
    let bytes = c.args.bytes.now in
    let one = disk c.write_rests.new.device in
    let one_honest = c.write_rests.ensures.same.honest.0 honest in
    let coherent = coherent_by torn old (g.met.D.SectorDevice.coherent c.args.device.now honest) (g.met.D.SectorDevice.torn_coherent c.args.device.now honest) in
    let coherent_one = coherent_by torn one (g.met.D.SectorDevice.coherent c.write_rests.new.device one_honest) (g.met.D.SectorDevice.torn_coherent c.write_rests.new.device one_honest) in
    let rests = fill_rests torn old told slot tail s coherent unmarked one (c.write_rests.ensures.any_moment torn honest) in
    let count = 8 * c.from.result in
    let two = disk c.write_run.new.device in
    let two_honest = c.write_run.ensures.same.honest.0 one_honest in
    let coherent_two = coherent_by torn two (g.met.D.SectorDevice.coherent c.write_run.new.device two_honest) (g.met.D.SectorDevice.torn_coherent c.write_run.new.device two_honest) in
    let eights : count % 8 ≡ 0 = omega arith in
    let run = fill_run torn old told slot tail s coherent unmarked one two count coherent_one rests (run_by torn one two 128 count bytes (omega arith) eights (c.write_run.ensures.any_moment one_honest) (λ t. c.write_run.ensures.torn t one_honest)) in
    not_filled torn old told slot tail s coherent unmarked two c.from_residual-in_err-write_run.result c.from_residual-in_err-write_run.ensures.0 (fill_whole torn old told slot tail s coherent unmarked two run)

pub returns-in_err-sync-clause-formatted : goal.returns-in_err-sync-clause-formatted
returns-in_err-sync-clause-formatted g c = λ torn s told honest unmarked names tail_is bytes_are.
    let disk = g.D.SectorDevice.disk in
    let old = disk c.args.device.now in
    let slot = c.args.slot.now in
    let tail = c.args.tail.now in
    let bytes = c.args.bytes.now in
    let one = disk c.write_rests.new.device in
    let one_honest = c.write_rests.ensures.same.honest.0 honest in
    let coherent = coherent_by torn old (g.met.D.SectorDevice.coherent c.args.device.now honest) (g.met.D.SectorDevice.torn_coherent c.args.device.now honest) in
    let coherent_one = coherent_by torn one (g.met.D.SectorDevice.coherent c.write_rests.new.device one_honest) (g.met.D.SectorDevice.torn_coherent c.write_rests.new.device one_honest) in
    let rests = fill_rests torn old told slot tail s coherent unmarked one (c.write_rests.ensures.any_moment torn honest) in
    let count = 8 * c.from.result in
    let two = disk c.write_run.new.device in
    let two_honest = c.write_run.ensures.same.honest.0 one_honest in
    let coherent_two = coherent_by torn two (g.met.D.SectorDevice.coherent c.write_run.new.device two_honest) (g.met.D.SectorDevice.torn_coherent c.write_run.new.device two_honest) in
    let eights : count % 8 ≡ 0 = omega arith in
    let run = fill_run torn old told slot tail s coherent unmarked one two count coherent_one rests (run_by torn one two 128 count bytes (omega arith) eights (c.write_run.ensures.any_moment one_honest) (λ t. c.write_run.ensures.torn t one_honest)) in
    let three = disk c.sync.new.self in
    let settling = c.sync.ensures.syncs two_honest in
    let three_honest = settling.honest in
    let coherent_three = coherent_by torn three (g.met.D.SectorDevice.coherent c.sync.new.self three_honest) (g.met.D.SectorDevice.torn_coherent c.sync.new.self three_honest) in
    let synced = fill_sync torn old told slot tail s coherent unmarked two three c.sync.result coherent_two run (syncs_by torn two three settling (λ t. c.sync.ensures.torn t two_honest)) in
    not_filled torn old told slot tail s coherent unmarked three c.from_residual-in_err-sync.result c.from_residual-in_err-sync.ensures.0 (fill_whole torn old told slot tail s coherent unmarked three synced)

pub returns-in_err-write_firsts-clause-formatted : goal.returns-in_err-write_firsts-clause-formatted
returns-in_err-write_firsts-clause-formatted g c = λ torn s told honest unmarked names tail_is bytes_are.
    let disk = g.D.SectorDevice.disk in
    let old = disk c.args.device.now in
    let slot = c.args.slot.now in
    let tail = c.args.tail.now in
    let bytes = c.args.bytes.now in
    let one = disk c.write_rests.new.device in
    let one_honest = c.write_rests.ensures.same.honest.0 honest in
    let coherent = coherent_by torn old (g.met.D.SectorDevice.coherent c.args.device.now honest) (g.met.D.SectorDevice.torn_coherent c.args.device.now honest) in
    let coherent_one = coherent_by torn one (g.met.D.SectorDevice.coherent c.write_rests.new.device one_honest) (g.met.D.SectorDevice.torn_coherent c.write_rests.new.device one_honest) in
    let rests = fill_rests torn old told slot tail s coherent unmarked one (c.write_rests.ensures.any_moment torn honest) in
    let count = 8 * c.from.result in
    let two = disk c.write_run.new.device in
    let two_honest = c.write_run.ensures.same.honest.0 one_honest in
    let coherent_two = coherent_by torn two (g.met.D.SectorDevice.coherent c.write_run.new.device two_honest) (g.met.D.SectorDevice.torn_coherent c.write_run.new.device two_honest) in
    let eights : count % 8 ≡ 0 = omega arith in
    let run = fill_run torn old told slot tail s coherent unmarked one two count coherent_one rests (run_by torn one two 128 count bytes (omega arith) eights (c.write_run.ensures.any_moment one_honest) (λ t. c.write_run.ensures.torn t one_honest)) in
    let three = disk c.sync.new.self in
    let settling = c.sync.ensures.syncs two_honest in
    let three_honest = settling.honest in
    let coherent_three = coherent_by torn three (g.met.D.SectorDevice.coherent c.sync.new.self three_honest) (g.met.D.SectorDevice.torn_coherent c.sync.new.self three_honest) in
    let synced = fill_sync torn old told slot tail s coherent unmarked two three c.sync.result coherent_two run (syncs_by torn two three settling (λ t. c.sync.ensures.torn t two_honest)) in
    let four = disk c.write_firsts.new.device in
    let four_honest = c.write_firsts.ensures.same.honest.0 three_honest in
    let sizes = c.sync.ensures.counts.size ∙ c.write_run.ensures.same.size ∙ c.write_rests.ensures.same.size in
    let plain = g.met.D.SectorDevice.coherent c.sync.new.self three_honest in
    let wide : length three.seen ≡ old.sectors = (plain.shape three.seen plain.seen).count ∙ sizes in
    let of = subst (λ (n : ℕ). IsSlotOf n slot tail) (sym wide) c.requires.of in
    let placed = names ∙ ap (λ (n : ℕ). slot_of s n 0) (sym wide) in
    let alone = λ (image : Image) (left : (tearing_by torn three).left image). (syncs_by torn two three (c.in_ok-sync.ensures.syncs two_honest) (λ t. c.in_ok-sync.ensures.torn t two_honest)).settled image left ∙ seen_by torn two ∙ sym settling.seen in
    let all_rests = subst (λ (i : Image). (k : ℕ) → k < 128 → IsRest slot tail k (get_or i k [])) (sym settling.seen) (rests_stay slot tail count bytes one.seen two.seen (c.write_run.ensures.seen one_honest) (c.in_ok-write_rests.ensures.written honest)) in
    let half : s.half ≡ 0 = sym (ap (λ (t : Slot). t.half) names) ∙ c.requires.half in
    let blocks_are : c.from.result ≡ s.blocks = c.from.ensures ∙ ap (λ (t : Slot). t.blocks) names in
    let held = subst (λ (n : ℕ). SectorsHold two.seen 128 (8 * n) bytes) blocks_are (c.in_ok-write_run.ensures.written one_honest) in
    let holds = subst (HoldsBlocks s.blocks s) (sym settling.seen) (blocks_held s two.seen bytes half bytes_are held) in
    let whole = fill_firsts torn old told slot tail s coherent unmarked three synced alone of all_rests placed tail_is holds four (c.write_firsts.ensures.any_moment torn three_honest) in
    not_filled torn old told slot tail s coherent unmarked four c.from_residual-in_err-write_firsts.result c.from_residual-in_err-write_firsts.ensures.0 whole

pub returns-clause-formatted : goal.returns-clause-formatted
returns-clause-formatted g c = λ torn s told honest unmarked names tail_is bytes_are.
    let disk = g.D.SectorDevice.disk in
    let old = disk c.args.device.now in
    let slot = c.args.slot.now in
    let tail = c.args.tail.now in
    let bytes = c.args.bytes.now in
    let one = disk c.write_rests.new.device in
    let one_honest = c.write_rests.ensures.same.honest.0 honest in
    let coherent = coherent_by torn old (g.met.D.SectorDevice.coherent c.args.device.now honest) (g.met.D.SectorDevice.torn_coherent c.args.device.now honest) in
    let coherent_one = coherent_by torn one (g.met.D.SectorDevice.coherent c.write_rests.new.device one_honest) (g.met.D.SectorDevice.torn_coherent c.write_rests.new.device one_honest) in
    let rests = fill_rests torn old told slot tail s coherent unmarked one (c.write_rests.ensures.any_moment torn honest) in
    let count = 8 * c.from.result in
    let two = disk c.write_run.new.device in
    let two_honest = c.write_run.ensures.same.honest.0 one_honest in
    let coherent_two = coherent_by torn two (g.met.D.SectorDevice.coherent c.write_run.new.device two_honest) (g.met.D.SectorDevice.torn_coherent c.write_run.new.device two_honest) in
    let eights : count % 8 ≡ 0 = omega arith in
    let run = fill_run torn old told slot tail s coherent unmarked one two count coherent_one rests (run_by torn one two 128 count bytes (omega arith) eights (c.write_run.ensures.any_moment one_honest) (λ t. c.write_run.ensures.torn t one_honest)) in
    let three = disk c.sync.new.self in
    let settling = c.sync.ensures.syncs two_honest in
    let three_honest = settling.honest in
    let coherent_three = coherent_by torn three (g.met.D.SectorDevice.coherent c.sync.new.self three_honest) (g.met.D.SectorDevice.torn_coherent c.sync.new.self three_honest) in
    let synced = fill_sync torn old told slot tail s coherent unmarked two three c.sync.result coherent_two run (syncs_by torn two three settling (λ t. c.sync.ensures.torn t two_honest)) in
    let four = disk c.write_firsts.new.device in
    let four_honest = c.write_firsts.ensures.same.honest.0 three_honest in
    let sizes = c.sync.ensures.counts.size ∙ c.write_run.ensures.same.size ∙ c.write_rests.ensures.same.size in
    let plain = g.met.D.SectorDevice.coherent c.sync.new.self three_honest in
    let wide : length three.seen ≡ old.sectors = (plain.shape three.seen plain.seen).count ∙ sizes in
    let of = subst (λ (n : ℕ). IsSlotOf n slot tail) (sym wide) c.requires.of in
    let placed = names ∙ ap (λ (n : ℕ). slot_of s n 0) (sym wide) in
    let alone = λ (image : Image) (left : (tearing_by torn three).left image). (syncs_by torn two three (c.in_ok-sync.ensures.syncs two_honest) (λ t. c.in_ok-sync.ensures.torn t two_honest)).settled image left ∙ seen_by torn two ∙ sym settling.seen in
    let all_rests = subst (λ (i : Image). (k : ℕ) → k < 128 → IsRest slot tail k (get_or i k [])) (sym settling.seen) (rests_stay slot tail count bytes one.seen two.seen (c.write_run.ensures.seen one_honest) (c.in_ok-write_rests.ensures.written honest)) in
    let half : s.half ≡ 0 = sym (ap (λ (t : Slot). t.half) names) ∙ c.requires.half in
    let blocks_are : c.from.result ≡ s.blocks = c.from.ensures ∙ ap (λ (t : Slot). t.blocks) names in
    let held = subst (λ (n : ℕ). SectorsHold two.seen 128 (8 * n) bytes) blocks_are (c.in_ok-write_run.ensures.written one_honest) in
    let holds = subst (HoldsBlocks s.blocks s) (sym settling.seen) (blocks_held s two.seen bytes half bytes_are held) in
    let whole = fill_firsts torn old told slot tail s coherent unmarked three synced alone of all_rests placed tail_is holds four (c.write_firsts.ensures.any_moment torn three_honest) in
    let last = disk c.sync-2.new.self in
    let coherent_four = coherent_by torn four (g.met.D.SectorDevice.coherent c.write_firsts.new.device four_honest) (g.met.D.SectorDevice.torn_coherent c.write_firsts.new.device four_honest) in
    let named : s.blocks ≡ length s.bytes / 4096 = sym (ap (λ (t : Slot). t.blocks) names) ∙ c.requires.blocks ∙ ap (λ (l : List ℕ). length l / 4096) bytes_are in
    fill_done torn old told slot tail s coherent unmarked three synced alone of all_rests placed tail_is holds four last c.sync-2.result coherent_four whole (syncs_by torn four last (c.sync-2.ensures.syncs four_honest) (λ t. c.sync-2.ensures.torn t four_honest))
    (c.write_firsts.ensures.seen three_honest) (c.in_ok-write_firsts.ensures.written three_honest) named

pub returns-in_err-write_rests-clause-charges : goal.returns-in_err-write_rests-clause-charges
returns-in_err-write_rests-clause-charges g c =
    let disk = g.D.SectorDevice.disk in
    let old = disk c.args.device.now in
    let one = disk c.write_rests.new.device in
    let all = format_calls (length c.args.bytes.now) in
    charges_err old one all c.from_residual.result c.from_residual.ensures.0 (failed_more old one 128 all (omega arith) c.in_err-write_rests.ensures.charges)

pub returns-in_err-write_run-clause-charges : goal.returns-in_err-write_run-clause-charges
returns-in_err-write_run-clause-charges g c =
    let disk = g.D.SectorDevice.disk in
    let old = disk c.args.device.now in
    let one = disk c.write_rests.new.device in
    let all = format_calls (length c.args.bytes.now) in
    let blocks : c.from.result ≡ length c.args.bytes.now / 4096 = c.from.ensures ∙ c.requires.blocks in
    let run = 8 * c.from.result in
    let two = disk c.write_run.new.device in
    let within : 128 + run ≤ all = omega (arith, blocks) in
    charges_err old two all c.from_residual-in_err-write_run.result c.from_residual-in_err-write_run.ensures.0 (failed_joined old one two 128 run all within c.in_ok-write_rests.ensures.charges c.in_err-write_run.ensures.charges)

pub returns-in_err-sync-clause-charges : goal.returns-in_err-sync-clause-charges
returns-in_err-sync-clause-charges g c =
    let disk = g.D.SectorDevice.disk in
    let old = disk c.args.device.now in
    let one = disk c.write_rests.new.device in
    let all = format_calls (length c.args.bytes.now) in
    let blocks : c.from.result ≡ length c.args.bytes.now / 4096 = c.from.ensures ∙ c.requires.blocks in
    let run = 8 * c.from.result in
    let two = disk c.write_run.new.device in
    let made_two = made_joined old one two 128 run c.in_ok-write_rests.ensures.charges c.in_ok-write_run.ensures.charges in
    let three = disk c.sync.new.self in
    let within : 128 + run + 1 ≤ all = omega (arith, blocks) in
    charges_err old three all c.from_residual-in_err-sync.result c.from_residual-in_err-sync.ensures.0 (failed_joined old two three (128 + run) 1 all within made_two (failed_one two three _ c.in_err-sync.ensures.counts))

pub returns-in_err-write_firsts-clause-charges : goal.returns-in_err-write_firsts-clause-charges
returns-in_err-write_firsts-clause-charges g c =
    let disk = g.D.SectorDevice.disk in
    let old = disk c.args.device.now in
    let one = disk c.write_rests.new.device in
    let all = format_calls (length c.args.bytes.now) in
    let blocks : c.from.result ≡ length c.args.bytes.now / 4096 = c.from.ensures ∙ c.requires.blocks in
    let run = 8 * c.from.result in
    let two = disk c.write_run.new.device in
    let made_two = made_joined old one two 128 run c.in_ok-write_rests.ensures.charges c.in_ok-write_run.ensures.charges in
    let three = disk c.sync.new.self in
    let made_three = made_joined old two three (128 + run) 1 made_two (made_one two three _ c.in_ok-sync.ensures.counts) in
    let four = disk c.write_firsts.new.device in
    let within : 128 + run + 1 + 4 ≤ all = omega (arith, blocks) in
    charges_err old four all c.from_residual-in_err-write_firsts.result c.from_residual-in_err-write_firsts.ensures.0 (failed_joined old three four (128 + run + 1) 4 all within made_three c.in_err-write_firsts.ensures.charges)

pub returns-clause-charges : goal.returns-clause-charges
returns-clause-charges g c =
    let disk = g.D.SectorDevice.disk in
    let old = disk c.args.device.now in
    let one = disk c.write_rests.new.device in
    let all = format_calls (length c.args.bytes.now) in
    let blocks : c.from.result ≡ length c.args.bytes.now / 4096 = c.from.ensures ∙ c.requires.blocks in
    let run = 8 * c.from.result in
    let two = disk c.write_run.new.device in
    let made_two = made_joined old one two 128 run c.in_ok-write_rests.ensures.charges c.in_ok-write_run.ensures.charges in
    let three = disk c.sync.new.self in
    let made_three = made_joined old two three (128 + run) 1 made_two (made_one two three _ c.in_ok-sync.ensures.counts) in
    let four = disk c.write_firsts.new.device in
    let last = disk c.sync-2.new.self in
    let result = c.sync-2.result in
    let made_four = made_joined old three four (128 + run + 1) 4 made_three c.in_ok-write_firsts.ensures.charges in
    let total : 128 + run + 1 + 4 + 1 ≡ all = omega (arith, blocks) in
    subst (λ (n : ℕ). Charges old last n result) total (charges_joined old four last (128 + run + 1 + 4) 1 result made_four (charges_one four last result c.sync-2.ensures.counts))
