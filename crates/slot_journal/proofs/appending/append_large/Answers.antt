use Rattle.std.proofs.Common.{rules, ◌≡◌, ◌+◌, ◌-◌, ◌*◌, ◌/◌, ◌%◌, ℕ, List, ◌++◌, drop, ◌≤◌, refl, arith, take, length, length-append, length-take, ap, sym, subst, ◌∙◌, Ok}
use Rattle.std.proofs.lemmas.List.{take_rest, with_items_is}
use Rattle.std.specs.Vec.{with_items}
use Rattle.checksum.specs.Crc.{crc_of}
use Rattle.sector_device.specs.Disk.{Image}
use Rattle.sector_device.specs.declared.device.DeviceFault.{DeviceFault}
use Rattle.sector_device.proofs.Moments.{left_now}
use Rattle.sector_device.specs.Charges.{Charges}
use Rattle.sector_device.proofs.Charges.{charges_err, charges_joined, failed_joined}
use Rattle.commit_slots.specs.Slots.{block_start, count_of}
use Rattle.slot_commits.specs.Asides.{IsAside}
use Rattle.slot_commits.specs.States.{Stands, blocks_of}
use Rattle.slot_commits.specs.Tears.{tearing_by}
use Rattle.slot_commits.proofs.Copies.{coherent_by}
use Rattle.slot_commits.proofs.Firsts.{firsts_more}
use Rattle.slot_commits.proofs.Puts.{seen_by, wide_by}
use Rattle.slot_commits.proofs.Runs.{over_outside}
use Rattle.slot_journal.proofs.Smalls.{half_is, if_failed, knows_still, length_is, put_failed}
use Rattle.slot_journal.proofs.Larges.{aside_here, block_holds, calls_large, can_large, check_all, formed_then, half_inside, knows_large, other_outside, put_behind, put_none, starts_even}
use Rattle.slot_journal.proofs.appending.append_large.Goals as goal

pub returns-in_err-write_aside-clause-knows_still : goal.returns-in_err-write_aside-clause-knows_still
returns-in_err-write_aside-clause-knows_still g c = λ state knows.
    let front = c.args.front.now in
    let rest = c.args.known.now.slot.length % 4096 in
    let has = c.put.ensures.front ∙ ap (λ (l : List ℕ). take rest l ++ front) c.deref_mut.ensures.value in
    if_failed c.from_residual.result _
    (knows_still c.args.known.now state knows front c.put.new.buffer _ (omega (arith, c.requires.formed.room)) refl refl (with_items_is c.args.known.now.tail c.put.new.buffer (search rules)) has)

pub returns-in_err-write_aside-clause-put : goal.returns-in_err-write_aside-clause-put
returns-in_err-write_aside-clause-put g c = λ torn state told honest knows stands.
    let old = g.D.SectorDevice.disk c.args.device.now in
    let mid = g.D.SectorDevice.disk c.write_aside.new.device in
    let mid_honest = c.write_aside.ensures.same.honest.0 honest in
    let coherent_mid = coherent_by torn mid (g.met.D.SectorDevice.coherent c.write_aside.new.device mid_honest) (g.met.D.SectorDevice.torn_coherent c.write_aside.new.device mid_honest) in
    let aside = aside_here c.args.known.now state knows old.sectors c.requires.formed _ (ap (λ (n : ℕ). n + 8 * (c.args.known.now.slot.length / 4096)) c.block_start.ensures) in
    put_none torn old mid c.args.known.now.slot.number state _ c.from_residual.result c.from_residual.ensures.0 (c.write_aside.ensures.stands torn c.args.known.now.slot.number state honest aside stands) coherent_mid

pub returns-in_err-commit-clause-knows_still : goal.returns-in_err-commit-clause-knows_still
returns-in_err-commit-clause-knows_still g c = λ state knows.
    let front = c.args.front.now in
    let rest = c.args.known.now.slot.length % 4096 in
    let has = c.put.ensures.front ∙ ap (λ (l : List ℕ). take rest l ++ front) c.deref_mut.ensures.value in
    if_failed c.from_residual-in_err-commit.result _
    (knows_still c.args.known.now state knows front c.put.new.buffer _ (omega (arith, c.requires.formed.room)) refl refl (with_items_is c.args.known.now.tail c.put.new.buffer (search rules)) has)

pub commit-requires-clause-place : goal.commit-requires-clause-place
commit-requires-clause-place g c =
    let slot = c.args.known.now.slot in
    let inside = half_inside slot.sectors slot.half c.requires.formed.half_fits (subst (λ (n : ℕ). 160 ≤ n) (sym c.requires.formed.size) c.requires.formed.at_least) in
    let back = c.args.back.now in
    omega (arith, inside, c.block_start.ensures, c.write_aside.ensures.same.size, c.requires.formed.size, c.requires.fits, c.requires.fills, length-append c.args.front.now back, length-take (length back / 4096 * 4096) back)

pub commit-requires-clause-small : goal.commit-requires-clause-small
commit-requires-clause-small g c =
    let slot = c.args.known.now.slot in
    let inside = half_inside slot.sectors slot.half c.requires.formed.half_fits (subst (λ (n : ℕ). 160 ≤ n) (sym c.requires.formed.size) c.requires.formed.at_least) in
    let back = c.args.back.now in
    omega (arith, inside, c.block_start.ensures, c.requires.formed.size, c.requires.formed.at_most, c.requires.fits, c.requires.fills, length-append c.args.front.now back, length-take (length back / 4096 * 4096) back)

pub returns-in_err-commit-clause-charges : goal.returns-in_err-commit-clause-charges
returns-in_err-commit-clause-charges g c =
    let disk = g.D.SectorDevice.disk in
    let old = disk c.args.device.now in
    let mid = disk c.write_aside.new.device in
    let next = disk c.commit.new.device in
    let back = c.args.back.now in
    let w = length back / 4096 * 4096 in
    let rest = length (take w back) / 512 + (1 + (2 * count_of (length (take (length back - w) (drop w back))) + 1)) in
    let total = ap (λ (l : List ℕ). 8 + (length (take w back) / 512 + (1 + (2 * count_of (length l) + 1)))) (take_rest back w) ∙ calls_large c.args.known.now.slot.length c.args.front.now back c.requires.fills c.requires.large in
    subst (λ (n : ℕ). Charges old next n c.from_residual-in_err-commit.result) total
    (charges_err old next (8 + rest) c.from_residual-in_err-commit.result c.from_residual-in_err-commit.ensures.0 (failed_joined old mid next 8 rest (8 + rest) (omega arith) c.in_ok-write_aside.ensures.charges c.in_err-commit.ensures.charges))

pub returns-clause-charges : goal.returns-clause-charges
returns-clause-charges g c =
    let disk = g.D.SectorDevice.disk in
    let old = disk c.args.device.now in
    let mid = disk c.write_aside.new.device in
    let next = disk c.commit.new.device in
    let back = c.args.back.now in
    let w = length back / 4096 * 4096 in
    let rest = length (take w back) / 512 + (1 + (2 * count_of (length (take (length back - w) (drop w back))) + 1)) in
    let total = ap (λ (l : List ℕ). 8 + (length (take w back) / 512 + (1 + (2 * count_of (length l) + 1)))) (take_rest back w) ∙ calls_large c.args.known.now.slot.length c.args.front.now back c.requires.fills c.requires.large in
    subst (λ (n : ℕ). Charges {T = Unit {0}} {E = DeviceFault} old next n (Ok tt)) total (charges_joined {T = Unit {0}} {E = DeviceFault} old mid next 8 rest (Ok tt) c.in_ok-write_aside.ensures.charges c.in_ok-commit.ensures.charges)

pub returns-in_err-commit-clause-sector_0 : goal.returns-in_err-commit-clause-sector_0
returns-in_err-commit-clause-sector_0 g c = λ torn honest.
    let old = g.D.SectorDevice.disk c.args.device.now in
    let mid = g.D.SectorDevice.disk c.write_aside.new.device in
    let mid_honest = c.write_aside.ensures.same.honest.0 honest in
    let coherent_mid = coherent_by torn mid (g.met.D.SectorDevice.coherent c.write_aside.new.device mid_honest) (g.met.D.SectorDevice.torn_coherent c.write_aside.new.device mid_honest) in
    let slot = c.args.known.now.slot in
    let past = (starts_even slot.sectors slot.half c.requires.formed.half_fits).1 in
    firsts_more torn old mid coherent_mid (c.write_aside.ensures.sector_0 torn honest (omega (arith, past, c.block_start.ensures))) (g.D.SectorDevice.disk c.commit.new.device) (c.commit.ensures.sector_0 torn mid_honest (omega (arith, past, c.block_start.ensures)))

pub returns-clause-sector_0 : goal.returns-clause-sector_0
returns-clause-sector_0 g c = λ torn honest.
    let old = g.D.SectorDevice.disk c.args.device.now in
    let mid = g.D.SectorDevice.disk c.write_aside.new.device in
    let mid_honest = c.write_aside.ensures.same.honest.0 honest in
    let coherent_mid = coherent_by torn mid (g.met.D.SectorDevice.coherent c.write_aside.new.device mid_honest) (g.met.D.SectorDevice.torn_coherent c.write_aside.new.device mid_honest) in
    let slot = c.args.known.now.slot in
    let past = (starts_even slot.sectors slot.half c.requires.formed.half_fits).1 in
    firsts_more torn old mid coherent_mid (c.write_aside.ensures.sector_0 torn honest (omega (arith, past, c.block_start.ensures))) (g.D.SectorDevice.disk c.commit.new.device) (c.commit.ensures.sector_0 torn mid_honest (omega (arith, past, c.block_start.ensures)))

pub returns-in_err-commit-clause-others : goal.returns-in_err-commit-clause-others
returns-in_err-commit-clause-others g c = λ honest k other.
    let old = g.D.SectorDevice.disk c.args.device.now in
    let mid = g.D.SectorDevice.disk c.write_aside.new.device in
    let mid_honest = c.write_aside.ensures.same.honest.0 honest in
    let slot = c.args.known.now.slot in
    let back = c.args.back.now in
    let first = c.block_start.result + 8 * (slot.length / 4096) in
    let few = length-take (length back / 4096 * 4096) back in
    let long = length-append c.args.front.now back in
    let one = other_outside c.args.known.now k other c.requires.formed.half_fits first 8 (omega (arith, c.block_start.ensures)) (omega (arith, c.block_start.ensures, c.requires.fits, c.requires.fills, long, c.requires.large)) in
    let two = other_outside c.args.known.now k other c.requires.formed.half_fits (first + 8) (length (take (length back / 4096 * 4096) back) / 512) (omega (arith, c.block_start.ensures)) (omega (arith, c.block_start.ensures, c.requires.fits, c.requires.fills, long, few)) in
    c.commit.ensures.others mid_honest k two.0 two.1 ∙ (over_outside first 8 _ old.seen mid.seen (c.write_aside.ensures.seen honest)).same k one.1

pub returns-clause-others : goal.returns-clause-others
returns-clause-others g c = λ honest k other.
    let old = g.D.SectorDevice.disk c.args.device.now in
    let mid = g.D.SectorDevice.disk c.write_aside.new.device in
    let mid_honest = c.write_aside.ensures.same.honest.0 honest in
    let slot = c.args.known.now.slot in
    let back = c.args.back.now in
    let first = c.block_start.result + 8 * (slot.length / 4096) in
    let few = length-take (length back / 4096 * 4096) back in
    let long = length-append c.args.front.now back in
    let one = other_outside c.args.known.now k other c.requires.formed.half_fits first 8 (omega (arith, c.block_start.ensures)) (omega (arith, c.block_start.ensures, c.requires.fits, c.requires.fills, long, c.requires.large)) in
    let two = other_outside c.args.known.now k other c.requires.formed.half_fits (first + 8) (length (take (length back / 4096 * 4096) back) / 512) (omega (arith, c.block_start.ensures)) (omega (arith, c.block_start.ensures, c.requires.fits, c.requires.fills, long, few)) in
    c.commit.ensures.others mid_honest k two.0 two.1 ∙ (over_outside first 8 _ old.seen mid.seen (c.write_aside.ensures.seen honest)).same k one.1

pub returns-in_err-commit-clause-put : goal.returns-in_err-commit-clause-put
returns-in_err-commit-clause-put g c = λ torn state told honest knows stands.
    let old = g.D.SectorDevice.disk c.args.device.now in
    let mid = g.D.SectorDevice.disk c.write_aside.new.device in
    let next = g.D.SectorDevice.disk c.commit.new.device in
    let mid_honest = c.write_aside.ensures.same.honest.0 honest in
    let coherent_mid = coherent_by torn mid (g.met.D.SectorDevice.coherent c.write_aside.new.device mid_honest) (g.met.D.SectorDevice.torn_coherent c.write_aside.new.device mid_honest) in
    let known = c.args.known.now in
    let front = c.args.front.now in
    let back = c.args.back.now in
    let rest = known.slot.length % 4096 in
    let filled = rest + length front in
    let first = c.block_start.result + 8 * (known.slot.length / 4096) in
    let has = c.put.ensures.front ∙ ap (λ (l : List ℕ). take rest l ++ front) c.deref_mut.ensures.value in
    let there = with_items_is known.tail c.put.new.buffer (search rules) in
    let at = ap (λ (n : ℕ). n + 8 * (known.slot.length / 4096)) c.block_start.ensures in
    let aside = aside_here known state knows old.sectors c.requires.formed first at in
    let leaves = c.write_aside.ensures.stands torn known.slot.number state honest aside stands in
    let standing = λ (image : Image) (left : (tearing_by torn mid).left image). left_now (tearing_by torn old) (tearing_by torn mid) (Stands known.slot.number state) coherent_mid leaves image left in
    let now = standing mid.seen (subst (λ (i : Image). (tearing_by torn mid).left i) (seen_by torn mid) coherent_mid.seen) in
    let wide = wide_by torn mid coherent_mid mid.seen (subst (λ (i : Image). (tearing_by torn mid).left i) (seen_by torn mid) coherent_mid.seen) ∙ c.write_aside.ensures.same.size in
    let size = c.requires.formed.size ∙ sym wide in
    let place = at ∙ (λ i. block_start (size i) (half_is known state knows i) + 8 * (length_is known state knows i / 4096)) in
    let read = block_holds known state knows front back c.requires.fills c.put.new.buffer has mid.seen first _ c.args.adds c.args.opens place (ap (take filled) (c.deref.ensures.value ∙ there)) now.begins (c.in_ok-write_aside.ensures.written honest) in
    let one = c.append.ensures (blocks_of (length state.bytes / 4096) state.bytes) knows.check_is ∙ ap (λ (l : List ℕ). crc_of (blocks_of (length state.bytes / 4096) state.bytes ++ take filled l)) (c.deref-2.ensures.value ∙ there) in
    let check = check_all known state knows front back c.requires.fills c.put.new.buffer has c.append.result c.append-check.result one c.append-check.ensures in
    let formed = formed_then known old.sectors mid.sectors c.requires.formed (sym c.write_aside.ensures.same.size) in
    put_behind torn old mid next known.slot.number state _ c.from_residual-in_err-commit.result leaves
    (put_failed torn mid next known.slot.number state _ c.commit.result c.from_residual-in_err-commit.result c.from_residual-in_err-commit.ensures.0
    (c.commit.ensures.put torn known.slot.number state _ (length state.bytes / 4096 + 1)
    (can_large known state knows front back c.requires.fills c.args.adds c.args.opens c.append-check.result c.requires.large check torn mid told mid_honest formed c.requires.fits c.requires.seq c.requires.number c.ranges.opens.fits c.append-check.type_inv standing read _ _ _
    (ap (λ (n : ℕ). n + 8) at) refl (take_rest back (length back / 4096 * 4096)))))

pub returns-clause-knows : goal.returns-clause-knows
returns-clause-knows g c = λ state knows.
    let known = c.args.known.now in
    let front = c.args.front.now in
    let back = c.args.back.now in
    let rest = known.slot.length % 4096 in
    let filled = rest + length front in
    let w = length back / 4096 * 4096 in
    let plus : length (take (length back - w) (drop w back)) ≡ 0 + length (take (length back - w) (drop w back)) = omega arith in
    let has = c.put.ensures.front ∙ ap (λ (l : List ℕ). take rest l ++ front) c.deref_mut.ensures.value in
    let there = with_items_is known.tail c.put.new.buffer (search rules) in
    let one = c.append.ensures (blocks_of (length state.bytes / 4096) state.bytes) knows.check_is ∙ ap (λ (l : List ℕ). crc_of (blocks_of (length state.bytes / 4096) state.bytes ++ take filled l)) (c.deref-2.ensures.value ∙ there) in
    let check = check_all known state knows front back c.requires.fills c.put.new.buffer has c.append.result c.append-check.result one c.append-check.ensures in
    knows_large known state knows front back c.requires.fills c.args.adds c.args.opens c.append-check.result c.requires.large check c.put-2.new.buffer _ (subst (λ (l : List ℕ). take (length l) c.put-2.new.buffer ≡ l) (take_rest back w) (ap (λ (n : ℕ). take n c.put-2.new.buffer) plus ∙ c.put-2.ensures.front)) refl refl
    (with_items_is (with_items known.tail c.put.new.buffer) c.put-2.new.buffer (c.put-2.ensures.size ∙ ap length (c.deref_mut-2.ensures.value ∙ there) ∙ search rules))

pub returns-clause-put : goal.returns-clause-put
returns-clause-put g c = λ torn state told honest knows stands.
    let old = g.D.SectorDevice.disk c.args.device.now in
    let mid = g.D.SectorDevice.disk c.write_aside.new.device in
    let next = g.D.SectorDevice.disk c.commit.new.device in
    let mid_honest = c.write_aside.ensures.same.honest.0 honest in
    let coherent_mid = coherent_by torn mid (g.met.D.SectorDevice.coherent c.write_aside.new.device mid_honest) (g.met.D.SectorDevice.torn_coherent c.write_aside.new.device mid_honest) in
    let known = c.args.known.now in
    let front = c.args.front.now in
    let back = c.args.back.now in
    let rest = known.slot.length % 4096 in
    let filled = rest + length front in
    let first = c.block_start.result + 8 * (known.slot.length / 4096) in
    let has = c.put.ensures.front ∙ ap (λ (l : List ℕ). take rest l ++ front) c.deref_mut.ensures.value in
    let there = with_items_is known.tail c.put.new.buffer (search rules) in
    let at = ap (λ (n : ℕ). n + 8 * (known.slot.length / 4096)) c.block_start.ensures in
    let aside = aside_here known state knows old.sectors c.requires.formed first at in
    let leaves = c.write_aside.ensures.stands torn known.slot.number state honest aside stands in
    let standing = λ (image : Image) (left : (tearing_by torn mid).left image). left_now (tearing_by torn old) (tearing_by torn mid) (Stands known.slot.number state) coherent_mid leaves image left in
    let now = standing mid.seen (subst (λ (i : Image). (tearing_by torn mid).left i) (seen_by torn mid) coherent_mid.seen) in
    let wide = wide_by torn mid coherent_mid mid.seen (subst (λ (i : Image). (tearing_by torn mid).left i) (seen_by torn mid) coherent_mid.seen) ∙ c.write_aside.ensures.same.size in
    let size = c.requires.formed.size ∙ sym wide in
    let place = at ∙ (λ i. block_start (size i) (half_is known state knows i) + 8 * (length_is known state knows i / 4096)) in
    let read = block_holds known state knows front back c.requires.fills c.put.new.buffer has mid.seen first _ c.args.adds c.args.opens place (ap (take filled) (c.deref.ensures.value ∙ there)) now.begins (c.in_ok-write_aside.ensures.written honest) in
    let one = c.append.ensures (blocks_of (length state.bytes / 4096) state.bytes) knows.check_is ∙ ap (λ (l : List ℕ). crc_of (blocks_of (length state.bytes / 4096) state.bytes ++ take filled l)) (c.deref-2.ensures.value ∙ there) in
    let check = check_all known state knows front back c.requires.fills c.put.new.buffer has c.append.result c.append-check.result one c.append-check.ensures in
    let formed = formed_then known old.sectors mid.sectors c.requires.formed (sym c.write_aside.ensures.same.size) in
    put_behind torn old mid next known.slot.number state _ _ leaves
    (c.in_ok-commit.ensures.put torn known.slot.number state _ (length state.bytes / 4096 + 1)
    (can_large known state knows front back c.requires.fills c.args.adds c.args.opens c.append-check.result c.requires.large check torn mid told mid_honest formed c.requires.fits c.requires.seq c.requires.number c.ranges.opens.fits c.append-check.type_inv standing read _ _ _
    (ap (λ (n : ℕ). n + 8) at) refl (take_rest back (length back / 4096 * 4096))))
