use Rattle.std.proofs.Common.{rules, ◌≡◌, ◌+◌, ◌*◌, ◌/◌, ◌%◌, ℕ, List, ◌++◌, drop, refl, arith, take, length, ap, ◌∙◌}
use Rattle.std.proofs.lemmas.List.{with_items_is}
use Rattle.std.specs.Vec.{with_items}
use Rattle.checksum.specs.Crc.{crc_of}
use Rattle.slot_commits.specs.States.{blocks_of}
use Rattle.slot_commits.proofs.Copies.{coherent_by}
use Rattle.slot_journal.proofs.Smalls.{can_small, if_failed, knows_small, knows_still, put_failed}
use Rattle.slot_journal.proofs.appending.append_small.Goals as goal

pub returns-in_err-commit-clause-knows_still : goal.returns-in_err-commit-clause-knows_still
returns-in_err-commit-clause-knows_still g c = λ state knows.
    let more = c.args.bytes.now in
    let rest = c.args.known.now.slot.length % 4096 in
    let front = c.put.ensures.front ∙ ap (λ (l : List ℕ). take rest l ++ more) c.deref_mut.ensures.value in
    if_failed c.from_residual.result _
    (knows_still c.args.known.now state knows more c.put.new.buffer _ (omega (arith, c.requires.formed.room)) refl refl (with_items_is c.args.known.now.tail c.put.new.buffer (search rules)) front)

pub returns-in_err-commit-clause-put : goal.returns-in_err-commit-clause-put
returns-in_err-commit-clause-put g c = λ torn state told honest knows stands.
    let old = g.D.SectorDevice.disk c.args.device.now in
    let new = g.D.SectorDevice.disk c.commit.new.device in
    let more = c.args.bytes.now in
    let rest = c.args.known.now.slot.length % 4096 in
    let filled = rest + length more in
    let whole = filled / 4096 * 4096 in
    let front = c.put.ensures.front ∙ ap (λ (l : List ℕ). take rest l ++ more) c.deref_mut.ensures.value in
    let long = c.put.ensures.size ∙ ap length c.deref_mut.ensures.value ∙ c.requires.formed.room in
    let there = with_items_is c.args.known.now.tail c.put.new.buffer (search rules) in
    let coherent = coherent_by torn old (g.met.D.SectorDevice.coherent c.args.device.now honest) (g.met.D.SectorDevice.torn_coherent c.args.device.now honest) in
    put_failed torn old new c.args.known.now.slot.number state _ c.commit.result c.from_residual.result c.from_residual.ensures.0
    (c.commit.ensures.put torn c.args.known.now.slot.number state _ (length state.bytes / 4096)
    (can_small c.args.known.now state knows more c.args.adds c.args.opens c.requires.small c.put.new.buffer front whole refl torn old told honest coherent c.requires.formed c.requires.fits c.requires.seq c.requires.number c.ranges.opens.fits long stands _ _ _
    (ap (λ (n : ℕ). n + 8 * (c.args.known.now.slot.length / 4096)) c.block_start.ensures) (ap (take whole) (c.deref.ensures.value ∙ there)) (ap (take filled) (c.deref-2.ensures.value ∙ there))))

pub returns-clause-knows : goal.returns-clause-knows
returns-clause-knows g c = λ state knows.
    let more = c.args.bytes.now in
    let rest = c.args.known.now.slot.length % 4096 in
    let filled = rest + length more in
    let whole = filled / 4096 * 4096 in
    let front = c.put.ensures.front ∙ ap (λ (l : List ℕ). take rest l ++ more) c.deref_mut.ensures.value in
    let there = with_items_is c.args.known.now.tail c.put.new.buffer (search rules) in
    let check = c.append-known.ensures (blocks_of (length state.bytes / 4096) state.bytes) knows.check_is
    ∙ ap (λ (l : List ℕ). crc_of (blocks_of (length state.bytes / 4096) state.bytes ++ take whole l)) (c.deref-3.ensures.value ∙ there) in
    let moved = c.shift.ensures.front ∙ ap (λ (l : List ℕ). drop whole (take filled l)) (c.deref_mut-2.ensures.value ∙ there) in
    knows_small c.args.known.now state knows more c.args.adds c.args.opens c.requires.small c.put.new.buffer front whole refl c.append-known.result c.shift.new.buffer _ check moved refl refl
    (with_items_is (with_items c.args.known.now.tail c.put.new.buffer) c.shift.new.buffer (c.shift.ensures.size ∙ ap length (c.deref_mut-2.ensures.value ∙ there) ∙ search rules))

pub returns-clause-put : goal.returns-clause-put
returns-clause-put g c = λ torn state told honest knows stands.
    let old = g.D.SectorDevice.disk c.args.device.now in
    let more = c.args.bytes.now in
    let rest = c.args.known.now.slot.length % 4096 in
    let filled = rest + length more in
    let whole = filled / 4096 * 4096 in
    let front = c.put.ensures.front ∙ ap (λ (l : List ℕ). take rest l ++ more) c.deref_mut.ensures.value in
    let long = c.put.ensures.size ∙ ap length c.deref_mut.ensures.value ∙ c.requires.formed.room in
    let there = with_items_is c.args.known.now.tail c.put.new.buffer (search rules) in
    let coherent = coherent_by torn old (g.met.D.SectorDevice.coherent c.args.device.now honest) (g.met.D.SectorDevice.torn_coherent c.args.device.now honest) in
    c.in_ok-commit.ensures.put torn c.args.known.now.slot.number state _ (length state.bytes / 4096)
    (can_small c.args.known.now state knows more c.args.adds c.args.opens c.requires.small c.put.new.buffer front whole refl torn old told honest coherent c.requires.formed c.requires.fits c.requires.seq c.requires.number c.ranges.opens.fits long stands _ _ _
    (ap (λ (n : ℕ). n + 8 * (c.args.known.now.slot.length / 4096)) c.block_start.ensures) (ap (take whole) (c.deref.ensures.value ∙ there)) (ap (take filled) (c.deref-2.ensures.value ∙ there)))
