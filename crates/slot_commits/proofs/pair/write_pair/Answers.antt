use Rattle.std.proofs.Common.{◌≡◌, ◌≤◌, subst, ap, ℕ, ◌+◌, ◌*◌, ◌/◌, [], length, get_or, ◌∙◌, arith, None}
use Rattle.sector_device.specs.Disk.{Image}
use Rattle.commit_slots.specs.Slots.{count_of}
use Rattle.sector_device.specs.Charges.{Charges}
use Rattle.sector_device.proofs.Charges.{charges_err, charges_joined, charges_one, failed_joined}
use Rattle.slot_commits.proofs.Copies.{coherent_by}
use Rattle.slot_commits.proofs.Either.{behind_slots}
use Rattle.slot_commits.proofs.Puts.{done_is, failed, first_stays, put_copy, put_stands, put_start, put_sync, seen_blocks, syncs_by, was_whole}
use Rattle.slot_commits.proofs.Firsts.{firsts_slot, firsts_start, firsts_sync}
use Rattle.slot_commits.proofs.Outside.{laid_done, laid_stands, outs_slot, outs_start, outs_sync}
use Rattle.slot_commits.proofs.pair.write_pair.Goals as goal

pub returns-in_err-write_copy-clause-put : goal.returns-in_err-write_copy-clause-put
returns-in_err-write_copy-clause-put g c = λ torn number was new can.
    let disk = g.D.SectorDevice.disk in
    let old = disk c.args.device.now in
    let next = disk c.write_copy.new.device in
    let honest = can.honest in
    let coherent = coherent_by torn old (g.met.D.SectorDevice.coherent c.args.device.now honest) (g.met.D.SectorDevice.torn_coherent c.args.device.now honest) in
    failed can next c.from_residual.result c.from_residual.ensures.0 (put_copy can old next 0 (omega arith) (λ i. old.sectors) coherent (put_start can coherent) (c.write_copy.ensures.any_moment torn honest))
    (seen_blocks can 0 old.seen next.seen (length was.bytes / 4096) was (omega arith) (c.write_copy.ensures.seen honest) (was_whole can coherent))

pub returns-in_err-write_copy-2-clause-put : goal.returns-in_err-write_copy-2-clause-put
returns-in_err-write_copy-2-clause-put g c = λ torn number was new can.
    let disk = g.D.SectorDevice.disk in
    let old = disk c.args.device.now in
    let mid = disk c.write_copy.new.device in
    let next = disk c.write_copy-2.new.device in
    let honest = can.honest in
    let mid_honest = c.write_copy.ensures.same.honest.0 honest in
    let coherent = coherent_by torn old (g.met.D.SectorDevice.coherent c.args.device.now honest) (g.met.D.SectorDevice.torn_coherent c.args.device.now honest) in
    let coherent_mid = coherent_by torn mid (g.met.D.SectorDevice.coherent c.write_copy.new.device mid_honest) (g.met.D.SectorDevice.torn_coherent c.write_copy.new.device mid_honest) in
    let first = put_copy can old mid 0 (omega arith) (λ i. old.sectors) coherent (put_start can coherent) (c.write_copy.ensures.any_moment torn honest) in
    failed can next c.from_residual-in_err-write_copy-2.result c.from_residual-in_err-write_copy-2.ensures.0
    (put_copy can mid next 1 (omega arith) c.write_copy.ensures.same.size coherent_mid first (c.write_copy-2.ensures.any_moment torn mid_honest))
    (seen_blocks can 1 mid.seen next.seen (length was.bytes / 4096) was (omega arith) (c.write_copy-2.ensures.seen mid_honest)
    (seen_blocks can 0 old.seen mid.seen (length was.bytes / 4096) was (omega arith) (c.write_copy.ensures.seen honest) (was_whole can coherent)))

pub returns-clause-put : goal.returns-clause-put
returns-clause-put g c = λ torn number was new can.
    let disk = g.D.SectorDevice.disk in
    let old = disk c.args.device.now in
    let mid = disk c.write_copy.new.device in
    let last = disk c.write_copy-2.new.device in
    let next = disk c.sync.new.self in
    let honest = can.honest in
    let mid_honest = c.write_copy.ensures.same.honest.0 honest in
    let last_honest = c.write_copy-2.ensures.same.honest.0 mid_honest in
    let coherent = coherent_by torn old (g.met.D.SectorDevice.coherent c.args.device.now honest) (g.met.D.SectorDevice.torn_coherent c.args.device.now honest) in
    let coherent_mid = coherent_by torn mid (g.met.D.SectorDevice.coherent c.write_copy.new.device mid_honest) (g.met.D.SectorDevice.torn_coherent c.write_copy.new.device mid_honest) in
    let coherent_last = coherent_by torn last (g.met.D.SectorDevice.coherent c.write_copy-2.new.device last_honest) (g.met.D.SectorDevice.torn_coherent c.write_copy-2.new.device last_honest) in
    let first = put_copy can old mid 0 (omega arith) (λ i. old.sectors) coherent (put_start can coherent) (c.write_copy.ensures.any_moment torn honest) in
    let both = put_copy can mid last 1 (omega arith) c.write_copy.ensures.same.size coherent_mid first (c.write_copy-2.ensures.any_moment torn mid_honest) in
    let syncs = syncs_by torn last next (c.sync.ensures.syncs last_honest) (λ t. c.sync.ensures.torn t last_honest) in
    let over = c.write_copy.ensures.seen honest in
    let over_mate = c.write_copy-2.ensures.seen mid_honest in
    let stands = put_stands can last coherent_last both (c.write_copy-2.ensures.same.size ∙ c.write_copy.ensures.same.size) (first_stays can mid.seen last.seen over_mate (c.in_ok-write_copy.ensures.held honest)) (c.in_ok-write_copy-2.ensures.held mid_honest)
    (seen_blocks can 1 mid.seen last.seen (length new.bytes / 4096) new (omega arith) over_mate (seen_blocks can 0 old.seen mid.seen (length new.bytes / 4096) new (omega arith) over can.whole)) in
    let stays = seen_blocks can 1 mid.seen last.seen (length was.bytes / 4096) was (omega arith) over_mate (seen_blocks can 0 old.seen mid.seen (length was.bytes / 4096) was (omega arith) over (was_whole can coherent)) in
    done_is can last next c.sync.result (put_sync can c.sync.result last next coherent_last both syncs) syncs (c.sync.ensures.syncs last_honest).seen stands stays

pub returns-in_err-write_copy-2-clause-charges : goal.returns-in_err-write_copy-2-clause-charges
returns-in_err-write_copy-2-clause-charges g c =
    let disk = g.D.SectorDevice.disk in
    let count = count_of (length c.args.tail.now) in
    let within : count + count ≤ 2 * count + 1 = omega arith in
    charges_err (disk c.args.device.now) (disk c.write_copy-2.new.device) (2 * count + 1) c.from_residual-in_err-write_copy-2.result c.from_residual-in_err-write_copy-2.ensures.0
    (failed_joined (disk c.args.device.now) (disk c.write_copy.new.device) (disk c.write_copy-2.new.device) count count (2 * count + 1) within c.in_ok-write_copy.ensures.charges c.in_err-write_copy-2.ensures.charges)

pub returns-clause-charges : goal.returns-clause-charges
returns-clause-charges g c =
    let disk = g.D.SectorDevice.disk in
    let old = disk c.args.device.now in
    let mid = disk c.write_copy.new.device in
    let last = disk c.write_copy-2.new.device in
    let next = disk c.sync.new.self in
    let result = c.sync.result in
    let count = count_of (length c.args.tail.now) in
    let total : count + (count + 1) ≡ 2 * count + 1 = omega arith in
    subst (λ (n : ℕ). Charges old next n result) total
    (charges_joined old mid next count (count + 1) result c.in_ok-write_copy.ensures.charges (charges_joined mid last next count 1 result c.in_ok-write_copy-2.ensures.charges (charges_one last next result c.sync.ensures.counts)))

pub returns-in_err-write_copy-clause-others : goal.returns-in_err-write_copy-clause-others
returns-in_err-write_copy-clause-others g c = λ honest k past.
    let disk = g.D.SectorDevice.disk in
    behind_slots None c.args.slot.now c.args.tail.now 0 (disk c.args.device.now).seen (disk c.write_copy.new.device).seen (omega arith) c.requires.fits (c.write_copy.ensures.seen honest) k past

pub returns-in_err-write_copy-2-clause-others : goal.returns-in_err-write_copy-2-clause-others
returns-in_err-write_copy-2-clause-others g c = λ honest k past.
    let disk = g.D.SectorDevice.disk in
    let mid_honest = c.write_copy.ensures.same.honest.0 honest in
    behind_slots None c.args.slot.now c.args.tail.now 1 (disk c.write_copy.new.device).seen (disk c.write_copy-2.new.device).seen (omega arith) c.requires.fits (c.write_copy-2.ensures.seen mid_honest) k past
    ∙ behind_slots None c.args.slot.now c.args.tail.now 0 (disk c.args.device.now).seen (disk c.write_copy.new.device).seen (omega arith) c.requires.fits (c.write_copy.ensures.seen honest) k past

pub returns-clause-others : goal.returns-clause-others
returns-clause-others g c = λ honest k past.
    let disk = g.D.SectorDevice.disk in
    let mid_honest = c.write_copy.ensures.same.honest.0 honest in
    let last_honest = c.write_copy-2.ensures.same.honest.0 mid_honest in
    ap (λ (i : Image). get_or i k []) (c.sync.ensures.syncs last_honest).seen
    ∙ behind_slots None c.args.slot.now c.args.tail.now 1 (disk c.write_copy.new.device).seen (disk c.write_copy-2.new.device).seen (omega arith) c.requires.fits (c.write_copy-2.ensures.seen mid_honest) k past
    ∙ behind_slots None c.args.slot.now c.args.tail.now 0 (disk c.args.device.now).seen (disk c.write_copy.new.device).seen (omega arith) c.requires.fits (c.write_copy.ensures.seen honest) k past

pub returns-in_err-write_copy-clause-sector_0 : goal.returns-in_err-write_copy-clause-sector_0
returns-in_err-write_copy-clause-sector_0 g c = λ torn honest.
    let disk = g.D.SectorDevice.disk in
    let old = disk c.args.device.now in
    let coherent = coherent_by torn old (g.met.D.SectorDevice.coherent c.args.device.now honest) (g.met.D.SectorDevice.torn_coherent c.args.device.now honest) in
    firsts_slot torn old old coherent (firsts_start torn old coherent) (disk c.write_copy.new.device) c.args.slot.now c.args.tail.now 0 (c.write_copy.ensures.any_moment torn honest)

pub returns-in_err-write_copy-2-clause-sector_0 : goal.returns-in_err-write_copy-2-clause-sector_0
returns-in_err-write_copy-2-clause-sector_0 g c = λ torn honest.
    let disk = g.D.SectorDevice.disk in
    let old = disk c.args.device.now in
    let mid = disk c.write_copy.new.device in
    let mid_honest = c.write_copy.ensures.same.honest.0 honest in
    let coherent = coherent_by torn old (g.met.D.SectorDevice.coherent c.args.device.now honest) (g.met.D.SectorDevice.torn_coherent c.args.device.now honest) in
    let coherent_mid = coherent_by torn mid (g.met.D.SectorDevice.coherent c.write_copy.new.device mid_honest) (g.met.D.SectorDevice.torn_coherent c.write_copy.new.device mid_honest) in
    let first = firsts_slot torn old old coherent (firsts_start torn old coherent) mid c.args.slot.now c.args.tail.now 0 (c.write_copy.ensures.any_moment torn honest) in
    firsts_slot torn old mid coherent_mid first (disk c.write_copy-2.new.device) c.args.slot.now c.args.tail.now 1 (c.write_copy-2.ensures.any_moment torn mid_honest)

pub returns-clause-sector_0 : goal.returns-clause-sector_0
returns-clause-sector_0 g c = λ torn honest.
    let disk = g.D.SectorDevice.disk in
    let old = disk c.args.device.now in
    let mid = disk c.write_copy.new.device in
    let last = disk c.write_copy-2.new.device in
    let next = disk c.sync.new.self in
    let mid_honest = c.write_copy.ensures.same.honest.0 honest in
    let last_honest = c.write_copy-2.ensures.same.honest.0 mid_honest in
    let coherent = coherent_by torn old (g.met.D.SectorDevice.coherent c.args.device.now honest) (g.met.D.SectorDevice.torn_coherent c.args.device.now honest) in
    let coherent_mid = coherent_by torn mid (g.met.D.SectorDevice.coherent c.write_copy.new.device mid_honest) (g.met.D.SectorDevice.torn_coherent c.write_copy.new.device mid_honest) in
    let coherent_last = coherent_by torn last (g.met.D.SectorDevice.coherent c.write_copy-2.new.device last_honest) (g.met.D.SectorDevice.torn_coherent c.write_copy-2.new.device last_honest) in
    let first = firsts_slot torn old old coherent (firsts_start torn old coherent) mid c.args.slot.now c.args.tail.now 0 (c.write_copy.ensures.any_moment torn honest) in
    let both = firsts_slot torn old mid coherent_mid first last c.args.slot.now c.args.tail.now 1 (c.write_copy-2.ensures.any_moment torn mid_honest) in
    firsts_sync torn old last coherent_last both next c.sync.result (syncs_by torn last next (c.sync.ensures.syncs last_honest) (λ t. c.sync.ensures.torn t last_honest))

pub returns-in_err-write_copy-clause-outside : goal.returns-in_err-write_copy-clause-outside
returns-in_err-write_copy-clause-outside g c = λ torn honest.
    let disk = g.D.SectorDevice.disk in
    let old = disk c.args.device.now in
    let slot = c.args.slot.now in
    let tail = c.args.tail.now in
    let coherent = coherent_by torn old (g.met.D.SectorDevice.coherent c.args.device.now honest) (g.met.D.SectorDevice.torn_coherent c.args.device.now honest) in
    outs_slot torn old slot tail c.requires.fits old coherent (outs_start torn old slot tail c.requires.fits coherent) (disk c.write_copy.new.device) 0 (omega arith) (c.write_copy.ensures.any_moment torn honest)

pub returns-in_err-write_copy-2-clause-outside : goal.returns-in_err-write_copy-2-clause-outside
returns-in_err-write_copy-2-clause-outside g c = λ torn honest.
    let disk = g.D.SectorDevice.disk in
    let old = disk c.args.device.now in
    let slot = c.args.slot.now in
    let tail = c.args.tail.now in
    let mid = disk c.write_copy.new.device in
    let mid_honest = c.write_copy.ensures.same.honest.0 honest in
    let coherent = coherent_by torn old (g.met.D.SectorDevice.coherent c.args.device.now honest) (g.met.D.SectorDevice.torn_coherent c.args.device.now honest) in
    let coherent_mid = coherent_by torn mid (g.met.D.SectorDevice.coherent c.write_copy.new.device mid_honest) (g.met.D.SectorDevice.torn_coherent c.write_copy.new.device mid_honest) in
    let first = outs_slot torn old slot tail c.requires.fits old coherent (outs_start torn old slot tail c.requires.fits coherent) mid 0 (omega arith) (c.write_copy.ensures.any_moment torn honest) in
    outs_slot torn old slot tail c.requires.fits mid coherent_mid first (disk c.write_copy-2.new.device) 1 (omega arith) (c.write_copy-2.ensures.any_moment torn mid_honest)

pub returns-clause-outside : goal.returns-clause-outside
returns-clause-outside g c = λ torn honest.
    let disk = g.D.SectorDevice.disk in
    let old = disk c.args.device.now in
    let slot = c.args.slot.now in
    let tail = c.args.tail.now in
    let mid = disk c.write_copy.new.device in
    let last = disk c.write_copy-2.new.device in
    let next = disk c.sync.new.self in
    let mid_honest = c.write_copy.ensures.same.honest.0 honest in
    let last_honest = c.write_copy-2.ensures.same.honest.0 mid_honest in
    let coherent = coherent_by torn old (g.met.D.SectorDevice.coherent c.args.device.now honest) (g.met.D.SectorDevice.torn_coherent c.args.device.now honest) in
    let coherent_mid = coherent_by torn mid (g.met.D.SectorDevice.coherent c.write_copy.new.device mid_honest) (g.met.D.SectorDevice.torn_coherent c.write_copy.new.device mid_honest) in
    let coherent_last = coherent_by torn last (g.met.D.SectorDevice.coherent c.write_copy-2.new.device last_honest) (g.met.D.SectorDevice.torn_coherent c.write_copy-2.new.device last_honest) in
    let first = outs_slot torn old slot tail c.requires.fits old coherent (outs_start torn old slot tail c.requires.fits coherent) mid 0 (omega arith) (c.write_copy.ensures.any_moment torn honest) in
    let both = outs_slot torn old slot tail c.requires.fits mid coherent_mid first last 1 (omega arith) (c.write_copy-2.ensures.any_moment torn mid_honest) in
    outs_sync torn old slot tail c.requires.fits last coherent_last both next c.sync.result (syncs_by torn last next (c.sync.ensures.syncs last_honest) (λ t. c.sync.ensures.torn t last_honest))

pub returns-clause-laid : goal.returns-clause-laid
returns-clause-laid g c = λ torn new can.
    let disk = g.D.SectorDevice.disk in
    let old = disk c.args.device.now in
    let slot = c.args.slot.now in
    let tail = c.args.tail.now in
    let mid = disk c.write_copy.new.device in
    let last = disk c.write_copy-2.new.device in
    let next = disk c.sync.new.self in
    let honest = can.honest in
    let mid_honest = c.write_copy.ensures.same.honest.0 honest in
    let last_honest = c.write_copy-2.ensures.same.honest.0 mid_honest in
    let plain = g.met.D.SectorDevice.coherent c.args.device.now honest in
    let stands = laid_stands slot tail new old mid.seen last.seen can (plain.shape old.seen plain.seen).count (c.write_copy.ensures.seen honest) (c.write_copy-2.ensures.seen mid_honest)
    (c.in_ok-write_copy.ensures.held honest) (c.in_ok-write_copy-2.ensures.held mid_honest) in
    laid_done torn last next slot.number new c.sync.result (syncs_by torn last next (c.sync.ensures.syncs last_honest) (λ t. c.sync.ensures.torn t last_honest)) stands
