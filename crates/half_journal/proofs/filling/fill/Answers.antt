use Rattle.std.proofs.Common.{ℕ, refl, sym, subst, ◌∙◌, length, arith}
use Rattle.sector_device.specs.Disk.{Image}
use Rattle.sector_device.proofs.Charges.{charges_joined, charges_err, failed_joined}
use Rattle.half_journal.proofs.Fillings.{all_done, none_left, none_or_all, since_bytes}
use Rattle.half_journal.proofs.Images.{run_holds}
use Rattle.half_journal.proofs.Since.{since_settled}
use Rattle.half_journal.specs.Fills.{filled}
use Rattle.half_journal.specs.Layout.{half_start}
use Rattle.half_journal.specs.States.{Holds}
use Rattle.half_journal.proofs.filling.fill.Goals as goal

pub returns-in_err-settle-clause-charges : goal.returns-in_err-settle-clause-charges
returns-in_err-settle-clause-charges g c =
    let disk = g.D.SectorDevice.disk in
    charges_err (disk c.args.device.now) (disk c.settle.new.device) _ c.from_residual-in_err-settle.result c.from_residual-in_err-settle.ensures.0
    (failed_joined (disk c.args.device.now) (disk c.write_run.new.device) (disk c.settle.new.device) _ 1 _ (omega arith) c.in_ok-write_run.ensures.charges c.in_err-settle.ensures.charges)

pub returns-clause-charges : goal.returns-clause-charges
returns-clause-charges g c =
    let disk = g.D.SectorDevice.disk in
    let mid = disk c.write_run.new.device in
    let last = disk c.replace_commit.new.device in
    let result = c.replace_commit.result in
    charges_joined (disk c.args.device.now) mid last _ 3 result c.in_ok-write_run.ensures.charges (charges_joined mid (disk c.settle.new.device) last 1 2 result c.in_ok-settle.ensures.charges c.replace_commit.ensures.charges)

pub returns-in_err-write_run-clause-any_moment : goal.returns-in_err-write_run-clause-any_moment
returns-in_err-write_run-clause-any_moment g c = λ honest none.
    let disk = g.D.SectorDevice.disk in
    let coherent = g.met.D.SectorDevice.coherent in
    none_left (filled c.args.bytes.now c.args.seq c.args.opens)
    (since_bytes (disk c.args.device.now) (disk c.write_run.new.device) c.args.sectors c.half_start.result _ _ honest (coherent c.args.device.now) (coherent c.write_run.new.device) c.write_run.ensures.same c.requires.size
    (omega (arith, c.half_start.ensures)) none (c.write_run.ensures.any_moment honest))

pub returns-in_err-settle-clause-any_moment : goal.returns-in_err-settle-clause-any_moment
returns-in_err-settle-clause-any_moment g c = λ honest none.
    let disk = g.D.SectorDevice.disk in
    let coherent = g.met.D.SectorDevice.coherent in
    let since = since_bytes (disk c.args.device.now) (disk c.write_run.new.device) c.args.sectors c.half_start.result _ _ honest (coherent c.args.device.now) (coherent c.write_run.new.device) c.write_run.ensures.same c.requires.size
    (omega (arith, c.half_start.ensures)) none (c.write_run.ensures.any_moment honest) in
    none_left (filled c.args.bytes.now c.args.seq c.args.opens) (since_settled since (disk c.settle.new.device) (coherent c.settle.new.device) c.settle.ensures.same (c.settle.ensures.any_moment since.honest))

pub returns-clause-any_moment : goal.returns-clause-any_moment
returns-clause-any_moment g c = λ honest none.
    let disk = g.D.SectorDevice.disk in
    let coherent = g.met.D.SectorDevice.coherent in
    let mid = disk c.write_run.new.device in
    let now = disk c.settle.new.device in
    let bytes = c.args.bytes.now in
    let since = since_bytes (disk c.args.device.now) mid c.args.sectors c.half_start.result _ _ honest (coherent c.args.device.now) (coherent c.write_run.new.device) c.write_run.ensures.same c.requires.size
    (omega (arith, c.half_start.ensures)) none (c.write_run.ensures.any_moment honest) in
    let after = since_settled since now (coherent c.settle.new.device) c.settle.ensures.same (c.settle.ensures.any_moment since.honest) in
    let holds = subst (λ (n : ℕ). Holds mid.seen n bytes (length bytes)) c.half_start.ensures (run_holds mid.seen c.half_start.result bytes (c.in_ok-write_run.ensures.written honest)) in
    none_or_all now (disk c.replace_commit.new.device) c.args.sectors bytes c.args.seq c.args.opens c.requires.sized c.requires.fits c.ranges.seq.fits c.ranges.opens.fits after.coherent after.size
    (λ image left. subst (λ (m : Image). Holds m (half_start c.args.sectors 0) bytes (length bytes)) (sym (c.in_ok-settle.ensures.settled since.honest refl image left)) holds)
    (disk c.args.device.now) c.replace_commit.result after (c.replace_commit.ensures.replaces after.honest)

pub returns-clause-done : goal.returns-clause-done
returns-clause-done g c = λ honest.
    let disk = g.D.SectorDevice.disk in
    let mid = disk c.write_run.new.device in
    let now = disk c.settle.new.device in
    let bytes = c.args.bytes.now in
    let mid_honest = c.write_run.ensures.same.honest.0 honest in
    let now_honest = c.settle.ensures.same.honest.0 mid_honest in
    let holds = subst (λ (n : ℕ). Holds mid.seen n bytes (length bytes)) c.half_start.ensures (run_holds mid.seen c.half_start.result bytes (c.in_ok-write_run.ensures.written honest)) in
    all_done now (disk c.replace_commit.new.device) c.args.sectors bytes c.args.seq c.args.opens c.requires.sized c.requires.fits c.ranges.seq.fits c.ranges.opens.fits (g.met.D.SectorDevice.coherent c.settle.new.device now_honest)
    (c.settle.ensures.same.size ∙ c.write_run.ensures.same.size ∙ sym c.requires.size)
    (λ image left. subst (λ (m : Image). Holds m (half_start c.args.sectors 0) bytes (length bytes)) (sym (c.in_ok-settle.ensures.settled mid_honest refl image left)) holds) c.replace_commit.result (c.replace_commit.ensures.replaces now_honest)
