use Rattle.std.proofs.Common.{rules, ◌≡◌, ◌⊎◌, inl, inr, ℕ, ◌+◌, ◌-◌, ◌*◌, ◌/◌, ◌%◌, ◌<◌, ◌≤◌, List, [], take, drop, length, length-drop, refl, ap, subst, sym, ◌∙◌, arith, Ok}
use Rattle.std.proofs.lemmas.List.{with_items_is}
use Rattle.checksum.specs.Crc.{crc_of}
use Rattle.sector_device.specs.Disk.{Image}
use Rattle.slot_commits.specs.Tears.{tearing_by}
use Rattle.slot_commits.proofs.Copies.{coherent_by}
use Rattle.slot_commits.proofs.Puts.{seen_by}
use Rattle.slot_journal.proofs.Smalls.{put_failed}
use Rattle.slot_journal.proofs.Switched.{can_switch, knows_switched}
use Rattle.slot_journal.proofs.switching.switch.Goals as goal

pub returns-clause-knows : goal.returns-clause-knows
returns-clause-knows g c = λ state knows.
    let known = c.args.known.now in
    let target = c.args.target.now in
    let same : length target / 4096 * 4096 ≡ 4096 * (length target / 4096) = omega arith in
    let size : length target % 4096 ≡ 0 + length c.split_at.result.1.now = omega (arith, ap length c.split_at.ensures.back, length-drop (length target / 4096 * 4096) target) in
    knows_switched known state knows target c.args.adds c.crc32c.result c.put.new.buffer _ (c.crc32c.ensures ∙ ap crc_of c.split_at.ensures.front ∙ ap (λ (n : ℕ). crc_of (take n target)) same)
    (ap (λ (n : ℕ). take n c.put.new.buffer) size ∙ c.put.ensures.front ∙ c.split_at.ensures.back ∙ ap (λ (n : ℕ). drop n target) same) refl refl (with_items_is known.tail c.put.new.buffer (search rules))

pub returns-in_err-commit-clause-put : goal.returns-in_err-commit-clause-put
returns-in_err-commit-clause-put g c = λ torn state told honest knows stands read.
    let old = g.D.SectorDevice.disk c.args.device.now in
    let next = g.D.SectorDevice.disk c.commit.new.device in
    let known = c.args.known.now in
    let target = c.args.target.now in
    let same : length target / 4096 * 4096 ≡ 4096 * (length target / 4096) = omega arith in
    let coherent = coherent_by torn old (g.met.D.SectorDevice.coherent c.args.device.now honest) (g.met.D.SectorDevice.torn_coherent c.args.device.now honest) in
    let was = stands old.seen (subst (λ (i : Image). (tearing_by torn old).left i) (seen_by torn old) coherent.seen) in
    put_failed torn old next known.slot.number state _ c.commit.result c.from_residual.result c.from_residual.ensures.0
    (c.commit.ensures.put torn known.slot.number state _ (length target / 4096)
    (can_switch known state knows target c.args.adds torn old told honest c.requires.formed c.requires.fits was c.requires.number c.requires.seq stands read _ c.crc32c.result _ c.crc32c.type_inv (c.crc32c.ensures ∙ ap crc_of c.split_at.ensures.front ∙ ap (λ (n : ℕ). crc_of (take n target)) same)
    (ap (λ (n : ℕ). n + 8 * (length target / 4096)) c.block_start.ensures) (c.split_at.ensures.back ∙ ap (λ (n : ℕ). drop n target) same)))

pub returns-clause-put : goal.returns-clause-put
returns-clause-put g c = λ torn state told honest knows stands read.
    let old = g.D.SectorDevice.disk c.args.device.now in
    let known = c.args.known.now in
    let target = c.args.target.now in
    let same : length target / 4096 * 4096 ≡ 4096 * (length target / 4096) = omega arith in
    let coherent = coherent_by torn old (g.met.D.SectorDevice.coherent c.args.device.now honest) (g.met.D.SectorDevice.torn_coherent c.args.device.now honest) in
    let was = stands old.seen (subst (λ (i : Image). (tearing_by torn old).left i) (seen_by torn old) coherent.seen) in
    c.in_ok-commit.ensures.put torn known.slot.number state _ (length target / 4096)
    (can_switch known state knows target c.args.adds torn old told honest c.requires.formed c.requires.fits was c.requires.number c.requires.seq stands read _ c.crc32c.result _ c.crc32c.type_inv (c.crc32c.ensures ∙ ap crc_of c.split_at.ensures.front ∙ ap (λ (n : ℕ). crc_of (take n target)) same)
    (ap (λ (n : ℕ). n + 8 * (length target / 4096)) c.block_start.ensures) (c.split_at.ensures.back ∙ ap (λ (n : ℕ). drop n target) same))
