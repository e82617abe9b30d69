use Rattle.std.proofs.Common.{◌+◌, ◌∙◌, ap, get_or, [], length, None, arith}
use Rattle.std.proofs.lemmas.List.{length_push}
use Rattle.sector_device.specs.Disk.{Image}
use Rattle.sector_device.proofs.Charges.{made_none, made_one, made_joined, read_none, read_one, read_joined, failed_one, failed_joined}
use Rattle.slot_commits.proofs.Copies.{coherent_by}
use Rattle.slot_commits.proofs.Puts.{keeps_none}
use Rattle.slot_commits.proofs.Taken.{begins_push, keeps_more}
use Rattle.slot_commits.proofs.reading.read_slots.Goals as goal

pub loop-k-init : goal.loop-k-init
loop-k-init g c =
    let disk = g.D.SectorDevice.disk c.args.device.now in
    let empty = ap length c.new-slots.ensures.items in
    record {
      same = read_none disk;
      made = made_none disk;
      keeps = λ torn honest. keeps_none torn disk (coherent_by torn disk (g.met.D.SectorDevice.coherent c.args.device.now honest) (g.met.D.SectorDevice.torn_coherent c.args.device.now honest));
      buffer = omega arith;
      long = empty;
      begins = λ honest k lt. absurd (omega (arith, lt, empty));
    }

pub loop-k-preserved : goal.loop-k-preserved
loop-k-preserved g c =
    let disk = g.D.SectorDevice.disk in
    let old = disk c.args.device.now in
    let mid = disk c.loop-k.device in
    let new = disk c.read.new.self in
    let inv = c.loop-k.invariant in
    let k = c.loop-k.k in
    record {
      same = read_joined old mid new inv.same (read_one mid new c.read.result c.read.ensures.counts);
      made = made_joined old mid new k 1 inv.made (made_one mid new _ c.in-Ok.ensures.counts);
      keeps = λ torn h. keeps_more torn old mid new k c.read.new.into (inv.keeps torn (c.read.ensures.counts.honest h)) (c.read.ensures.reads h) (λ t. c.read.ensures.torn t h);
      buffer = c.type_inv.sector;
      long = omega (arith, ap length c.in-Ok-push.ensures.items, length_push c.loop-k.slots.items c.read.new.into, inv.long);
      begins = λ h.
          let was = c.read.ensures.counts.honest h in
          begins_push c.loop-k.slots.items c.read.new.into c.push.new.self.items old.seen k c.in-Ok-push.ensures.items inv.long
          ((c.in-Ok.ensures.reads h).given ∙ ap (λ (i : Image). get_or i k []) (inv.keeps None was).seen) (inv.begins was);
    }

pub returns-in-Err-clause-charges : goal.returns-in-Err-clause-charges
returns-in-Err-clause-charges g c =
    let disk = g.D.SectorDevice.disk in
    failed_joined (disk c.args.device.now) (disk c.loop-k.device) (disk c.read.new.self) c.loop-k.k 1 128 (omega arith) c.loop-k.invariant.made (failed_one (disk c.loop-k.device) (disk c.read.new.self) _ c.in-Err.ensures.counts)

pub returns-in-Err-clause-keeps : goal.returns-in-Err-clause-keeps
returns-in-Err-clause-keeps g c = λ torn h.
    let disk = g.D.SectorDevice.disk in
    keeps_more torn (disk c.args.device.now) (disk c.loop-k.device) (disk c.read.new.self) c.loop-k.k c.read.new.into (c.loop-k.invariant.keeps torn (c.read.ensures.counts.honest h)) (c.read.ensures.reads h) (λ t. c.read.ensures.torn t h)

pub returns-in-Err-push-clause-charges : goal.returns-in-Err-push-clause-charges
returns-in-Err-push-clause-charges g c =
    let disk = g.D.SectorDevice.disk in
    (c.loop-k.k + 1, omega arith, made_joined (disk c.args.device.now) (disk c.loop-k.device) (disk c.read.new.self) c.loop-k.k 1 c.loop-k.invariant.made (made_one (disk c.loop-k.device) (disk c.read.new.self) _ c.in-Ok.ensures.counts))

pub returns-in-Err-push-clause-keeps : goal.returns-in-Err-push-clause-keeps
returns-in-Err-push-clause-keeps g c = λ torn h.
    let disk = g.D.SectorDevice.disk in
    keeps_more torn (disk c.args.device.now) (disk c.loop-k.device) (disk c.read.new.self) c.loop-k.k c.read.new.into (c.loop-k.invariant.keeps torn (c.read.ensures.counts.honest h)) (c.read.ensures.reads h) (λ t. c.read.ensures.torn t h)
