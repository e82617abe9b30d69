use Rattle.std.proofs.Common.{rules, ◌≡◌, ℕ, ◌+◌, ◌-◌, ◌*◌, ◌/◌, List, ◌++◌, take, drop, length, refl, ap, ◌∙◌, arith}
use Rattle.std.proofs.lemmas.List.{with_items_is}
use Rattle.checksum.specs.Crc.{crc_of}
use Rattle.slot_commits.specs.States.{blocks_of}
use Rattle.slot_journal.proofs.Opened.{can_renew, check_found, knows_opened, renew_failed}
use Rattle.slot_journal.proofs.opening.renew.Goals as goal

pub returns-clause-knows : goal.returns-clause-knows
returns-clause-knows g c = λ state knows.
    let known = c.args.known.now in
    let rest = known.slot.length - 4096 * c.from.result in
    let whole = rest / 4096 * 4096 in
    let check = c.append-known.ensures (blocks_of state.blocks state.bytes) (check_found known state knows c.args.number c.args.opens) ∙ ap (λ (l : List ℕ). crc_of (blocks_of state.blocks state.bytes ++ take whole l)) c.deref-2.ensures.value in
    let moved = c.shift.ensures.front ∙ ap (λ (l : List ℕ). drop whole (take rest l)) c.deref_mut.ensures.value in
    knows_opened known state knows c.args.number c.args.opens rest whole c.append-known.result c.shift.new.buffer _ c.requires.formed.blocks_fit (ap (λ (n : ℕ). known.slot.length - 4096 * n) c.from.ensures) refl check moved refl refl (with_items_is known.tail c.shift.new.buffer (search rules))

pub returns-in_err-renew-clause-renewed : goal.returns-in_err-renew-clause-renewed
returns-in_err-renew-clause-renewed g c = λ torn state told honest knows alone awaits.
    let old = g.D.SectorDevice.disk c.args.device.now in
    let next = g.D.SectorDevice.disk c.renew.new.device in
    let known = c.args.known.now in
    let rest = known.slot.length - 4096 * c.from.result in
    renew_failed torn old next c.args.number state _ c.renew.result c.from_residual.result c.from_residual.ensures.0
    (c.renew.ensures.renewed torn state _ (can_renew known state knows c.args.number c.args.opens torn old _ c.args.first told honest c.requires.formed (ap (take rest) c.deref.ensures.value ∙ ap (λ (n : ℕ). take (known.slot.length - 4096 * n) known.tail.items) c.from.ensures) alone awaits))

pub returns-clause-renewed : goal.returns-clause-renewed
returns-clause-renewed g c = λ torn state told honest knows alone awaits.
    let old = g.D.SectorDevice.disk c.args.device.now in
    let known = c.args.known.now in
    let rest = known.slot.length - 4096 * c.from.result in
    c.in_ok-renew.ensures.renewed torn state _ (can_renew known state knows c.args.number c.args.opens torn old _ c.args.first told honest c.requires.formed (ap (take rest) c.deref.ensures.value ∙ ap (λ (n : ℕ). take (known.slot.length - 4096 * n) known.tail.items) c.from.ensures) alone awaits)
