use Rattle.std.proofs.Common.{◌≡◌, ◌+◌, ◌*◌, ◌/◌, ◌%◌, ◌≤◌, ℕ, List, length, ap, subst, sym, ◌∙◌, arith}
use Rattle.sector_device.specs.Disk.{Image}
use Rattle.sector_device.specs.Charges.{Charges}
use Rattle.sector_device.specs.Sectors.{SectorsHold}
use Rattle.sector_device.proofs.Charges.{charges_err, charges_joined, failed_joined}
use Rattle.commit_slots.specs.Slots.{IsSlotOf, count_of}
use Rattle.commit_slots.specs.declared.slot.Slot.{Slot}
use Rattle.slot_commits.specs.Pairs.{CanLay}
use Rattle.slot_commits.specs.Puts.{CanPut}
use Rattle.slot_commits.specs.States.{HoldsBlocks, slot_of}
use Rattle.slot_commits.specs.Tears.{tearing_by}
use Rattle.slot_commits.proofs.Conversions.{blocks_run, next_of, not_converted, pair_run, run_fresh, zeroth_run}
use Rattle.slot_commits.proofs.Copies.{coherent_by}
use Rattle.slot_commits.proofs.Either.{stands_carries}
use Rattle.slot_commits.proofs.Fills.{blocks_held}
use Rattle.slot_commits.proofs.Firsts.{firsts_more, firsts_run, firsts_start, run_first}
use Rattle.slot_commits.proofs.Puts.{seen_by}
use Rattle.slot_commits.proofs.Runs.{run_by}
use Rattle.slot_commits.proofs.converting.write_pairs.Goals as goal

pub returns-in_err-write_run-clause-converted : goal.returns-in_err-write_run-clause-converted
returns-in_err-write_run-clause-converted g c = λ torn s can names tail_is bytes_are.
    let disk = g.D.SectorDevice.disk in
    let old = disk c.args.device.now in
    let slot = c.args.slot.now in
    let bytes = c.args.bytes.now in
    let mid = disk c.write_run.new.device in
    let honest = can.honest in
    let count = 8 * c.from.result in
    let eights : count % 8 ≡ 0 = omega arith in
    let is : count ≡ 8 * (length s.bytes / 4096) = omega (arith, c.from.ensures, c.requires.blocks, ap length bytes_are) in
    let run = run_by torn old mid 128 count bytes (omega arith) eights (c.write_run.ensures.any_moment honest) (λ t. c.write_run.ensures.torn t honest) in
    not_converted torn old slot.number can s mid c.from_residual.result c.from_residual.ensures.0 (blocks_run torn old slot.number can s mid count is run)

pub returns-in_err-write_pair-clause-converted : goal.returns-in_err-write_pair-clause-converted
returns-in_err-write_pair-clause-converted g c = λ torn s can names tail_is bytes_are.
    let disk = g.D.SectorDevice.disk in
    let old = disk c.args.device.now in
    let slot = c.args.slot.now in
    let bytes = c.args.bytes.now in
    let mid = disk c.write_run.new.device in
    let next = disk c.write_pair.new.device in
    let honest = can.honest in
    let mid_honest = c.write_run.ensures.same.honest.0 honest in
    let coherent_mid = coherent_by torn mid (g.met.D.SectorDevice.coherent c.write_run.new.device mid_honest) (g.met.D.SectorDevice.torn_coherent c.write_run.new.device mid_honest) in
    let count = 8 * c.from.result in
    let eights : count % 8 ≡ 0 = omega arith in
    let is : count ≡ 8 * (length s.bytes / 4096) = omega (arith, c.from.ensures, c.requires.blocks, ap length bytes_are) in
    let run = run_by torn old mid 128 count bytes (omega arith) eights (c.write_run.ensures.any_moment honest) (λ t. c.write_run.ensures.torn t honest) in
    let first : 64 * (slot.number % 2) ≡ 64 = omega (arith, c.requires.odd) in
    let paired = pair_run torn old slot.number can s mid next (64 * (slot.number % 2)) first coherent_mid (blocks_run torn old slot.number can s mid count is run) (c.write_pair.ensures.outside torn mid_honest) in
    not_converted torn old slot.number can s next c.from_residual-in_err-write_pair.result c.from_residual-in_err-write_pair.ensures.0 paired

pub returns-clause-converted : goal.returns-clause-converted
returns-clause-converted g c = λ torn s can names tail_is bytes_are.
    let disk = g.D.SectorDevice.disk in
    let old = disk c.args.device.now in
    let slot = c.args.slot.now in
    let tail = c.args.tail.now in
    let bytes = c.args.bytes.now in
    let mid = disk c.write_run.new.device in
    let next = disk c.write_pair.new.device in
    let last = disk c.write_pair-2.new.device in
    let honest = can.honest in
    let mid_honest = c.write_run.ensures.same.honest.0 honest in
    let next_honest = c.write_pair.ensures.same.honest.0 mid_honest in
    let coherent_mid = coherent_by torn mid (g.met.D.SectorDevice.coherent c.write_run.new.device mid_honest) (g.met.D.SectorDevice.torn_coherent c.write_run.new.device mid_honest) in
    let coherent_next = coherent_by torn next (g.met.D.SectorDevice.coherent c.write_pair.new.device next_honest) (g.met.D.SectorDevice.torn_coherent c.write_pair.new.device next_honest) in
    let count = 8 * c.from.result in
    let eights : count % 8 ≡ 0 = omega arith in
    let is : count ≡ 8 * (length s.bytes / 4096) = omega (arith, c.from.ensures, c.requires.blocks, ap length bytes_are) in
    let run = run_by torn old mid 128 count bytes (omega arith) eights (c.write_run.ensures.any_moment honest) (λ t. c.write_run.ensures.torn t honest) in
    let first : 64 * (slot.number % 2) ≡ 64 = omega (arith, c.requires.odd) in
    let paired = pair_run torn old slot.number can s mid next (64 * (slot.number % 2)) first coherent_mid (blocks_run torn old slot.number can s mid count is run) (c.write_pair.ensures.outside torn mid_honest) in
    let half : s.half ≡ 0 = sym (ap (λ (t : Slot). t.half) names) ∙ c.requires.half in
    let whole_is : s.blocks ≡ length s.bytes / 4096 = sym (ap (λ (t : Slot). t.blocks) names) ∙ c.requires.blocks ∙ ap (λ (l : List ℕ). length l / 4096) bytes_are in
    let blocks_are : c.from.result ≡ s.blocks = c.from.ensures ∙ ap (λ (t : Slot). t.blocks) names in
    let held = subst (λ (n : ℕ). SectorsHold mid.seen 128 (8 * n) bytes) blocks_are (c.in_ok-write_run.ensures.written honest) in
    let whole = subst (λ (n : ℕ). HoldsBlocks n s mid.seen) whole_is (blocks_held s mid.seen bytes half bytes_are held) in
    let size = c.write_run.ensures.same.size in
    let lays : CanLay mid slot tail s = record {
      honest = mid_honest;
      names = names ∙ ap (λ (n : ℕ). slot_of s n slot.number) (sym size);
      tail_is = tail_is;
      of = subst (λ (n : ℕ). IsSlotOf n slot tail) (sym size) c.requires.of;
      fresh = run_fresh slot.number count bytes old.seen mid.seen (c.write_run.ensures.seen honest) can.fresh;
      whole = whole;
    } in
    let stands = c.in_ok-write_pair.ensures.laid torn s lays in
    let size_next = c.write_pair.ensures.same.size ∙ size in
    let slot_next : Slot = record slot { number = slot.number + 1 } in
    let puts : CanPut torn next slot_next tail slot.number s s = record {
      told = can.told;
      honest = next_honest;
      names = ap (λ (t : Slot). record t { number = slot.number + 1 }) names ∙ ap (λ (n : ℕ). slot_of s n (slot.number + 1)) (sym size_next);
      tail_is = tail_is;
      of = subst (λ (n : ℕ). IsSlotOf n slot_next tail) (sym size_next) (next_of old.sectors slot tail c.requires.of c.requires.next);
      stands = stands;
      holds = λ image left. (stands_carries slot.number s image (stands image left)).begins;
      whole = (stands next.seen (subst (λ (i : Image). (tearing_by torn next).left i) (seen_by torn next) coherent_next.seen)).begins;
    } in
    let put = c.write_pair-2.ensures.put torn slot.number s s puts in
    let zeroth : 64 * ((slot.number + 1) % 2) ≡ 0 = omega (arith, c.requires.odd) in
    record {
      any_moment = zeroth_run torn old slot.number can s next last (64 * ((slot.number + 1) % 2)) zeroth coherent_next paired (c.write_pair-2.ensures.outside torn next_honest) put.any_moment;
      done = put.done;
    }

pub returns-in_err-write_pair-clause-charges : goal.returns-in_err-write_pair-clause-charges
returns-in_err-write_pair-clause-charges g c =
    let disk = g.D.SectorDevice.disk in
    let old = disk c.args.device.now in
    let mid = disk c.write_run.new.device in
    let next = disk c.write_pair.new.device in
    let run = 8 * c.from.result in
    let pair = 2 * count_of (length c.args.tail.now) + 1 in
    let all = 8 * c.args.slot.now.blocks + 2 * pair in
    let within : run + pair ≤ all = omega (arith, c.from.ensures) in
    charges_err old next all c.from_residual-in_err-write_pair.result c.from_residual-in_err-write_pair.ensures.0 (failed_joined old mid next run pair all within c.in_ok-write_run.ensures.charges c.in_err-write_pair.ensures.charges)

pub returns-clause-charges : goal.returns-clause-charges
returns-clause-charges g c =
    let disk = g.D.SectorDevice.disk in
    let old = disk c.args.device.now in
    let mid = disk c.write_run.new.device in
    let next = disk c.write_pair.new.device in
    let last = disk c.write_pair-2.new.device in
    let result = c.write_pair-2.result in
    let run = 8 * c.from.result in
    let pair = 2 * count_of (length c.args.tail.now) + 1 in
    let all = 8 * c.args.slot.now.blocks + 2 * pair in
    let total : run + (pair + pair) ≡ all = omega (arith, c.from.ensures) in
    subst (λ (n : ℕ). Charges old last n result) total
    (charges_joined old mid last run (pair + pair) result c.in_ok-write_run.ensures.charges (charges_joined mid next last pair pair result c.in_ok-write_pair.ensures.charges c.write_pair-2.ensures.charges))

pub returns-in_err-write_run-clause-sector_0 : goal.returns-in_err-write_run-clause-sector_0
returns-in_err-write_run-clause-sector_0 g c = λ torn honest.
    let disk = g.D.SectorDevice.disk in
    let old = disk c.args.device.now in
    let mid = disk c.write_run.new.device in
    let coherent = coherent_by torn old (g.met.D.SectorDevice.coherent c.args.device.now honest) (g.met.D.SectorDevice.torn_coherent c.args.device.now honest) in
    firsts_run torn old old coherent (firsts_start torn old coherent) mid
    (run_first torn old mid 128 (8 * c.from.result) c.args.bytes.now (omega arith) (c.write_run.ensures.any_moment honest) (λ t. c.write_run.ensures.torn t honest))

pub returns-in_err-write_pair-clause-sector_0 : goal.returns-in_err-write_pair-clause-sector_0
returns-in_err-write_pair-clause-sector_0 g c = λ torn honest.
    let disk = g.D.SectorDevice.disk in
    let old = disk c.args.device.now in
    let mid = disk c.write_run.new.device in
    let mid_honest = c.write_run.ensures.same.honest.0 honest in
    let coherent = coherent_by torn old (g.met.D.SectorDevice.coherent c.args.device.now honest) (g.met.D.SectorDevice.torn_coherent c.args.device.now honest) in
    let coherent_mid = coherent_by torn mid (g.met.D.SectorDevice.coherent c.write_run.new.device mid_honest) (g.met.D.SectorDevice.torn_coherent c.write_run.new.device mid_honest) in
    let run = firsts_run torn old old coherent (firsts_start torn old coherent) mid
    (run_first torn old mid 128 (8 * c.from.result) c.args.bytes.now (omega arith) (c.write_run.ensures.any_moment honest) (λ t. c.write_run.ensures.torn t honest)) in
    firsts_more torn old mid coherent_mid run (disk c.write_pair.new.device) (c.write_pair.ensures.sector_0 torn mid_honest)

pub returns-clause-sector_0 : goal.returns-clause-sector_0
returns-clause-sector_0 g c = λ torn honest.
    let disk = g.D.SectorDevice.disk in
    let old = disk c.args.device.now in
    let mid = disk c.write_run.new.device in
    let next = disk c.write_pair.new.device in
    let mid_honest = c.write_run.ensures.same.honest.0 honest in
    let next_honest = c.write_pair.ensures.same.honest.0 mid_honest in
    let coherent = coherent_by torn old (g.met.D.SectorDevice.coherent c.args.device.now honest) (g.met.D.SectorDevice.torn_coherent c.args.device.now honest) in
    let coherent_mid = coherent_by torn mid (g.met.D.SectorDevice.coherent c.write_run.new.device mid_honest) (g.met.D.SectorDevice.torn_coherent c.write_run.new.device mid_honest) in
    let coherent_next = coherent_by torn next (g.met.D.SectorDevice.coherent c.write_pair.new.device next_honest) (g.met.D.SectorDevice.torn_coherent c.write_pair.new.device next_honest) in
    let run = firsts_run torn old old coherent (firsts_start torn old coherent) mid
    (run_first torn old mid 128 (8 * c.from.result) c.args.bytes.now (omega arith) (c.write_run.ensures.any_moment honest) (λ t. c.write_run.ensures.torn t honest)) in
    let first = firsts_more torn old mid coherent_mid run next (c.write_pair.ensures.sector_0 torn mid_honest) in
    firsts_more torn old next coherent_next first (disk c.write_pair-2.new.device) (c.write_pair-2.ensures.sector_0 torn next_honest)
