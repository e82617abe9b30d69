use Rattle.std.proofs.Common.{◌≡◌, ◌*◌, ℕ, length, ap, subst, ◌∙◌, arith}
use Rattle.checksum.specs.Crc.{crc_of}
use Rattle.commit_slots.specs.Slots.{block_start}
use Rattle.sector_device.specs.Charges.{Made}
use Rattle.sector_device.specs.Sectors.{Begins, sectors_of}
use Rattle.slot_commits.proofs.Loadings.{keeps_by, same_begins}
use Rattle.slot_commits.proofs.loading.read_all.Goals as goal

pub returns-then-crc32c-slot-clause-err : goal.returns-then-crc32c-slot-clause-err
returns-then-crc32c-slot-clause-err g c =
    let disk = g.D.SectorDevice.disk in
    let old = disk c.args.device.now in
    let new = disk c.read_bytes.new.device in
    let slot = c.args.slot.now in
    let calls : sectors_of (4096 * c.from-size.result) ≡ 8 * slot.blocks = omega (arith, c.from-size.ensures) in
    let at : c.block_start-start.result ≡ block_start old.sectors slot.half = c.block_start-start.ensures ∙ ap (λ (n : ℕ). block_start n slot.half) c.requires.of.sectors_is in (
      λ h bytes long begins crc.
          let read = c.in-Ok.ensures.bytes h in
          let size : length c.in-Ok.bytes.items ≡ length bytes = omega (arith, read.size, long, c.from-size.ensures) in
          let same = same_begins old.seen (block_start old.sectors slot.half) c.in-Ok.bytes.items bytes size (subst (λ (n : ℕ). Begins old.seen n c.in-Ok.bytes.items) at read.begins) begins in
          c.if-crc32c-slot.true (c.crc32c.ensures ∙ ap crc_of c.deref.ensures.value ∙ ap crc_of same ∙ crc),
      subst (λ (n : ℕ). Made old new n) calls c.in-Ok.ensures.charges,
    )

pub returns-in-Err-Memory-clause-keeps : goal.returns-in-Err-Memory-clause-keeps
returns-in-Err-Memory-clause-keeps g c = λ torn h. keeps_by torn (g.D.SectorDevice.disk c.args.device.now) (g.D.SectorDevice.disk c.read_bytes.new.device) (c.read_bytes.ensures.images h) (λ t. c.read_bytes.ensures.torn t h)

pub returns-in-Err-Device-clause-keeps : goal.returns-in-Err-Device-clause-keeps
returns-in-Err-Device-clause-keeps g c = λ torn h. keeps_by torn (g.D.SectorDevice.disk c.args.device.now) (g.D.SectorDevice.disk c.read_bytes.new.device) (c.read_bytes.ensures.images h) (λ t. c.read_bytes.ensures.torn t h)

pub returns-then-crc32c-slot-clause-keeps : goal.returns-then-crc32c-slot-clause-keeps
returns-then-crc32c-slot-clause-keeps g c = λ torn h. keeps_by torn (g.D.SectorDevice.disk c.args.device.now) (g.D.SectorDevice.disk c.read_bytes.new.device) (c.read_bytes.ensures.images h) (λ t. c.read_bytes.ensures.torn t h)

pub returns-in-Ok-extend_from_slice-clause-keeps : goal.returns-in-Ok-extend_from_slice-clause-keeps
returns-in-Ok-extend_from_slice-clause-keeps g c = λ torn h. keeps_by torn (g.D.SectorDevice.disk c.args.device.now) (g.D.SectorDevice.disk c.read_bytes.new.device) (c.read_bytes.ensures.images h) (λ t. c.read_bytes.ensures.torn t h)

pub returns-in-Err-clause-keeps : goal.returns-in-Err-clause-keeps
returns-in-Err-clause-keeps g c = λ torn h. keeps_by torn (g.D.SectorDevice.disk c.args.device.now) (g.D.SectorDevice.disk c.read_bytes.new.device) (c.read_bytes.ensures.images h) (λ t. c.read_bytes.ensures.torn t h)
