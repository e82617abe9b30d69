use Rattle.std.proofs.Common.{◌≡◌, ◌⊎◌, List, ℕ, set, inl, inr, subst, arith, ◌∙◌, Ok}
use Rattle.std.proofs.lemmas.Result.{on_ok_weaker}
use Rattle.sector_device.specs.Disk.{OrReplaced, Writes}
use Rattle.sector_device.specs.declared.device.DeviceFault.{DeviceFault}
use Rattle.half_journal.specs.Layout.{sector_of}
use Rattle.sector_device.proofs.Charges.{made_one, failed_one, failed_more, charges_one, charges_joined, charges_err}
use Rattle.sector_device.proofs.Moments.{started, goes_on}
use Rattle.half_journal.proofs.Since.{no_ok}
use Rattle.half_journal.proofs.publish.replace_commit.Goals as goal

pub returns-in_err-write-clause-charges : goal.returns-in_err-write-clause-charges
returns-in_err-write-clause-charges g c =
    let old = g.D.SectorDevice.disk c.args.device.now in
    let mid = g.D.SectorDevice.disk c.write.new.self in
    charges_err old mid 2 c.from_residual.result c.from_residual.ensures.0 (failed_more old mid 1 2 (omega arith) (failed_one old mid _ c.in_err-write.ensures.counts))

pub returns-in_err-write-clause-replaces : goal.returns-in_err-write-clause-replaces
returns-in_err-write-clause-replaces g c = λ honest.
    let old = g.D.SectorDevice.disk c.args.device.now in
    let mid = g.D.SectorDevice.disk c.write.new.self in
    let write = subst (λ (b : List ℕ). Writes old mid 0 b c.write.result) c.encode.ensures (c.write.ensures.writes honest) in
    let either = OrReplaced old.left 0 (sector_of c.args.commit) in
    record {
      any_moment = goes_on old old mid either (started old either (g.met.D.SectorDevice.coherent c.args.device.now honest) (λ image left. inl left)) write.time write.adds;
      seen = subst (λ (b : List ℕ). (mid.seen ≡ old.seen) ⊎ (mid.seen ≡ set old.seen 0 b)) c.encode.ensures (c.in_err-write.ensures.writes honest).failed;
      done = no_ok _ c.from_residual.result c.from_residual.ensures.0;
    }

pub returns-clause-charges : goal.returns-clause-charges
returns-clause-charges g c =
    let old = g.D.SectorDevice.disk c.args.device.now in
    let mid = g.D.SectorDevice.disk c.write.new.self in
    let new = g.D.SectorDevice.disk c.sync.new.self in
    charges_joined old mid new 1 1 c.sync.result (made_one old mid _ c.in_ok-write.ensures.counts) (charges_one mid new c.sync.result c.sync.ensures.counts)

pub returns-clause-replaces : goal.returns-clause-replaces
returns-clause-replaces g c = λ honest.
    let old = g.D.SectorDevice.disk c.args.device.now in
    let mid = g.D.SectorDevice.disk c.write.new.self in
    let write = subst (λ (b : List ℕ). Writes {T = Unit {0}} {E = DeviceFault} old mid 0 b (Ok tt)) c.encode.ensures (c.in_ok-write.ensures.writes honest) in
    let sync = c.sync.ensures.syncs write.honest in
    let either = OrReplaced old.left 0 (sector_of c.args.commit) in
    record {
      any_moment = goes_on old mid (g.D.SectorDevice.disk c.sync.new.self) either
          (goes_on old old mid either (started old either (g.met.D.SectorDevice.coherent c.args.device.now honest) (λ image left. inl left)) write.time write.adds)
          sync.time (λ image left. write.adds image (sync.adds_none image left));
      seen = inr (sync.seen ∙ write.seen);
      done = on_ok_weaker c.sync.result (λ only image left. only image left ∙ write.seen) sync.settled;
    }
