use Rattle.std.proofs.Common.{◌≤◌, ◌+◌, ◌*◌, ◌/◌, [], length, get_or, ap, ◌∙◌, arith, if◌then◌else◌}
use Rattle.sector_device.specs.Disk.{Image}
use Rattle.commit_slots.specs.Slots.{count_of}
use Rattle.sector_device.proofs.Charges.{charges_err, charges_joined, failed_joined}
use Rattle.slot_commits.proofs.Copies.{coherent_by}
use Rattle.slot_commits.proofs.Runs.{after_run, after_settle, aligned, all_put, can_put, eights, not_put, over_outside, run_by, whole_now}
use Rattle.slot_commits.proofs.Firsts.{firsts_keep, firsts_more, firsts_run, firsts_start, run_first}
use Rattle.slot_commits.proofs.writing.commit.Goals as goal

pub returns-in_err-write_run-clause-put : goal.returns-in_err-write_run-clause-put
returns-in_err-write_run-clause-put g c = λ torn number was new from can.
    let disk = g.D.SectorDevice.disk in
    let old = disk c.args.device.now in
    let mid = disk c.write_run.new.device in
    let honest = can.honest in
    let mid_honest = c.write_run.ensures.same.honest.0 honest in
    let coherent = coherent_by torn old (g.met.D.SectorDevice.coherent c.args.device.now honest) (g.met.D.SectorDevice.torn_coherent c.args.device.now honest) in
    let coherent_mid = coherent_by torn mid (g.met.D.SectorDevice.coherent c.write_run.new.device mid_honest) (g.met.D.SectorDevice.torn_coherent c.write_run.new.device mid_honest) in
    let run = run_by torn old mid c.args.first (length c.args.blocks.now / 512) c.args.blocks.now (aligned can coherent) (eights can coherent) (c.write_run.ensures.any_moment honest) (λ t. c.write_run.ensures.torn t honest) in
    not_put can coherent mid c.from_residual.result c.from_residual.ensures.0 (after_run can coherent mid run) coherent_mid

pub returns-in_err-settle-clause-put : goal.returns-in_err-settle-clause-put
returns-in_err-settle-clause-put g c = λ torn number was new from can.
    let disk = g.D.SectorDevice.disk in
    let old = disk c.args.device.now in
    let mid = disk c.write_run.new.device in
    let next = disk c.settle.new.device in
    let honest = can.honest in
    let mid_honest = c.write_run.ensures.same.honest.0 honest in
    let next_honest = c.settle.ensures.same.honest.0 mid_honest in
    let coherent = coherent_by torn old (g.met.D.SectorDevice.coherent c.args.device.now honest) (g.met.D.SectorDevice.torn_coherent c.args.device.now honest) in
    let coherent_mid = coherent_by torn mid (g.met.D.SectorDevice.coherent c.write_run.new.device mid_honest) (g.met.D.SectorDevice.torn_coherent c.write_run.new.device mid_honest) in
    let coherent_next = coherent_by torn next (g.met.D.SectorDevice.coherent c.settle.new.device next_honest) (g.met.D.SectorDevice.torn_coherent c.settle.new.device next_honest) in
    let run = run_by torn old mid c.args.first (length c.args.blocks.now / 512) c.args.blocks.now (aligned can coherent) (eights can coherent) (c.write_run.ensures.any_moment honest) (λ t. c.write_run.ensures.torn t honest) in
    not_put can coherent next c.from_residual-in_err-settle.result c.from_residual-in_err-settle.ensures.0
    (after_settle can coherent mid next (after_run can coherent mid run) coherent_mid (c.settle.ensures.keeps torn mid_honest)) coherent_next

pub returns-clause-put : goal.returns-clause-put
returns-clause-put g c = λ torn number was new from can.
    let disk = g.D.SectorDevice.disk in
    let old = disk c.args.device.now in
    let mid = disk c.write_run.new.device in
    let next = disk c.settle.new.device in
    let last = disk c.write_pair.new.device in
    let honest = can.honest in
    let mid_honest = c.write_run.ensures.same.honest.0 honest in
    let next_honest = c.settle.ensures.same.honest.0 mid_honest in
    let coherent = coherent_by torn old (g.met.D.SectorDevice.coherent c.args.device.now honest) (g.met.D.SectorDevice.torn_coherent c.args.device.now honest) in
    let coherent_mid = coherent_by torn mid (g.met.D.SectorDevice.coherent c.write_run.new.device mid_honest) (g.met.D.SectorDevice.torn_coherent c.write_run.new.device mid_honest) in
    let coherent_next = coherent_by torn next (g.met.D.SectorDevice.coherent c.settle.new.device next_honest) (g.met.D.SectorDevice.torn_coherent c.settle.new.device next_honest) in
    let run = run_by torn old mid c.args.first (length c.args.blocks.now / 512) c.args.blocks.now (aligned can coherent) (eights can coherent) (c.write_run.ensures.any_moment honest) (λ t. c.write_run.ensures.torn t honest) in
    let so_far = after_run can coherent mid run in
    let settled = after_settle can coherent mid next so_far coherent_mid (c.settle.ensures.keeps torn mid_honest) in
    let whole = whole_now can coherent mid (c.write_run.ensures.seen honest) (c.in_ok-write_run.ensures.written honest) in
    all_put can coherent next last c.write_pair.result settled
    (c.write_pair.ensures.put torn number was new
    (can_put can coherent mid next settled coherent_next next_honest (c.settle.ensures.same.size ∙ c.write_run.ensures.same.size) (c.settle.ensures.seen mid_honest) whole (λ is. c.in_ok-settle.ensures.settled torn mid_honest is)))

pub returns-in_err-settle-clause-charges : goal.returns-in_err-settle-clause-charges
returns-in_err-settle-clause-charges g c =
    let disk = g.D.SectorDevice.disk in
    let old = disk c.args.device.now in
    let mid = disk c.write_run.new.device in
    let next = disk c.settle.new.device in
    let count = length c.args.blocks.now / 512 in
    let one = if c.args.settles then 1 else 0 in
    let pair = 2 * count_of (length c.args.tail.now) + 1 in
    let within : count + one ≤ count + (one + pair) = omega arith in
    charges_err old next (count + (one + pair)) c.from_residual-in_err-settle.result c.from_residual-in_err-settle.ensures.0
    (failed_joined old mid next count one (count + (one + pair)) within c.in_ok-write_run.ensures.charges c.in_err-settle.ensures.charges)

pub returns-clause-charges : goal.returns-clause-charges
returns-clause-charges g c =
    let disk = g.D.SectorDevice.disk in
    let old = disk c.args.device.now in
    let mid = disk c.write_run.new.device in
    let next = disk c.settle.new.device in
    let last = disk c.write_pair.new.device in
    let result = c.write_pair.result in
    let count = length c.args.blocks.now / 512 in
    let one = if c.args.settles then 1 else 0 in
    let pair = 2 * count_of (length c.args.tail.now) + 1 in
    charges_joined old mid last count (one + pair) result c.in_ok-write_run.ensures.charges (charges_joined mid next last one pair result c.in_ok-settle.ensures.charges c.write_pair.ensures.charges)

pub returns-in_err-write_run-clause-others : goal.returns-in_err-write_run-clause-others
returns-in_err-write_run-clause-others g c = λ honest k past apart.
    let disk = g.D.SectorDevice.disk in
    (over_outside c.args.first (length c.args.blocks.now / 512) c.args.blocks.now (disk c.args.device.now).seen (disk c.write_run.new.device).seen (c.write_run.ensures.seen honest)).same k apart

pub returns-in_err-settle-clause-others : goal.returns-in_err-settle-clause-others
returns-in_err-settle-clause-others g c = λ honest k past apart.
    let disk = g.D.SectorDevice.disk in
    let mid_honest = c.write_run.ensures.same.honest.0 honest in
    ap (λ (i : Image). get_or i k []) (c.settle.ensures.seen mid_honest)
    ∙ (over_outside c.args.first (length c.args.blocks.now / 512) c.args.blocks.now (disk c.args.device.now).seen (disk c.write_run.new.device).seen (c.write_run.ensures.seen honest)).same k apart

pub returns-clause-others : goal.returns-clause-others
returns-clause-others g c = λ honest k past apart.
    let disk = g.D.SectorDevice.disk in
    let mid_honest = c.write_run.ensures.same.honest.0 honest in
    let next_honest = c.settle.ensures.same.honest.0 mid_honest in
    c.write_pair.ensures.others next_honest k past ∙ ap (λ (i : Image). get_or i k []) (c.settle.ensures.seen mid_honest)
    ∙ (over_outside c.args.first (length c.args.blocks.now / 512) c.args.blocks.now (disk c.args.device.now).seen (disk c.write_run.new.device).seen (c.write_run.ensures.seen honest)).same k apart

pub returns-in_err-write_run-clause-sector_0 : goal.returns-in_err-write_run-clause-sector_0
returns-in_err-write_run-clause-sector_0 g c = λ torn honest past.
    let disk = g.D.SectorDevice.disk in
    let old = disk c.args.device.now in
    let mid = disk c.write_run.new.device in
    let coherent = coherent_by torn old (g.met.D.SectorDevice.coherent c.args.device.now honest) (g.met.D.SectorDevice.torn_coherent c.args.device.now honest) in
    firsts_run torn old old coherent (firsts_start torn old coherent) mid
    (run_first torn old mid c.args.first (length c.args.blocks.now / 512) c.args.blocks.now past (c.write_run.ensures.any_moment honest) (λ t. c.write_run.ensures.torn t honest))

pub returns-in_err-settle-clause-sector_0 : goal.returns-in_err-settle-clause-sector_0
returns-in_err-settle-clause-sector_0 g c = λ torn honest past.
    let disk = g.D.SectorDevice.disk in
    let old = disk c.args.device.now in
    let mid = disk c.write_run.new.device in
    let mid_honest = c.write_run.ensures.same.honest.0 honest in
    let coherent = coherent_by torn old (g.met.D.SectorDevice.coherent c.args.device.now honest) (g.met.D.SectorDevice.torn_coherent c.args.device.now honest) in
    let coherent_mid = coherent_by torn mid (g.met.D.SectorDevice.coherent c.write_run.new.device mid_honest) (g.met.D.SectorDevice.torn_coherent c.write_run.new.device mid_honest) in
    let run = firsts_run torn old old coherent (firsts_start torn old coherent) mid
    (run_first torn old mid c.args.first (length c.args.blocks.now / 512) c.args.blocks.now past (c.write_run.ensures.any_moment honest) (λ t. c.write_run.ensures.torn t honest)) in
    firsts_keep torn old mid coherent_mid run (disk c.settle.new.device) (c.settle.ensures.keeps torn mid_honest)

pub returns-clause-sector_0 : goal.returns-clause-sector_0
returns-clause-sector_0 g c = λ torn honest past.
    let disk = g.D.SectorDevice.disk in
    let old = disk c.args.device.now in
    let mid = disk c.write_run.new.device in
    let next = disk c.settle.new.device in
    let mid_honest = c.write_run.ensures.same.honest.0 honest in
    let next_honest = c.settle.ensures.same.honest.0 mid_honest in
    let coherent = coherent_by torn old (g.met.D.SectorDevice.coherent c.args.device.now honest) (g.met.D.SectorDevice.torn_coherent c.args.device.now honest) in
    let coherent_mid = coherent_by torn mid (g.met.D.SectorDevice.coherent c.write_run.new.device mid_honest) (g.met.D.SectorDevice.torn_coherent c.write_run.new.device mid_honest) in
    let coherent_next = coherent_by torn next (g.met.D.SectorDevice.coherent c.settle.new.device next_honest) (g.met.D.SectorDevice.torn_coherent c.settle.new.device next_honest) in
    let run = firsts_run torn old old coherent (firsts_start torn old coherent) mid
    (run_first torn old mid c.args.first (length c.args.blocks.now / 512) c.args.blocks.now past (c.write_run.ensures.any_moment honest) (λ t. c.write_run.ensures.torn t honest)) in
    let kept = firsts_keep torn old mid coherent_mid run next (c.settle.ensures.keeps torn mid_honest) in
    firsts_more torn old next coherent_next kept (disk c.write_pair.new.device) (c.write_pair.ensures.sector_0 torn next_honest)
