use Rattle.std.proofs.Common.{◌≡◌, ◌-◌, ◌*◌, ℕ, List, length, take, drop, inr, refl, None, Some, subst}
use Rattle.store_journal.proofs.Found.{no_buffer, slots_found}
use Rattle.store_journal.proofs.load.load_slots.Goals as goal

pub returns-in-Err-NotAStore-clause-images : goal.returns-in-Err-NotAStore-clause-images
returns-in-Err-NotAStore-clause-images g c = c.load.ensures.keeps None

pub returns-in-Err-NotAStore-clause-torn : goal.returns-in-Err-NotAStore-clause-torn
returns-in-Err-NotAStore-clause-torn g c = λ torn. c.load.ensures.keeps (Some torn)

pub returns-in-Err-Damaged-clause-images : goal.returns-in-Err-Damaged-clause-images
returns-in-Err-Damaged-clause-images g c = c.load.ensures.keeps None

pub returns-in-Err-Damaged-clause-torn : goal.returns-in-Err-Damaged-clause-torn
returns-in-Err-Damaged-clause-torn g c = λ torn. c.load.ensures.keeps (Some torn)

pub returns-in-Err-Device-clause-images : goal.returns-in-Err-Device-clause-images
returns-in-Err-Device-clause-images g c = c.load.ensures.keeps None

pub returns-in-Err-Device-clause-torn : goal.returns-in-Err-Device-clause-torn
returns-in-Err-Device-clause-torn g c = λ torn. c.load.ensures.keeps (Some torn)

pub returns-in-Err-Memory-clause-images : goal.returns-in-Err-Memory-clause-images
returns-in-Err-Memory-clause-images g c = c.load.ensures.keeps None

pub returns-in-Err-Memory-clause-torn : goal.returns-in-Err-Memory-clause-torn
returns-in-Err-Memory-clause-torn g c = λ torn. c.load.ensures.keeps (Some torn)

pub returns-in-Err-clause-images : goal.returns-in-Err-clause-images
returns-in-Err-clause-images g c = c.load.ensures.keeps None

pub returns-in-Err-clause-torn : goal.returns-in-Err-clause-torn
returns-in-Err-clause-torn g c = λ torn. c.load.ensures.keeps (Some torn)

pub returns-in-Ok-recovered-clause-images : goal.returns-in-Ok-recovered-clause-images
returns-in-Ok-recovered-clause-images g c = c.load.ensures.keeps None

pub returns-in-Ok-recovered-clause-torn : goal.returns-in-Ok-recovered-clause-torn
returns-in-Ok-recovered-clause-torn g c = λ torn. c.load.ensures.keeps (Some torn)

pub returns-in-Err-clause-err : goal.returns-in-Err-clause-err
returns-in-Err-clause-err g c =
    inr (inr (inr (refl, no_buffer (g.D.SectorDevice.disk c.args.device.now) (g.D.SectorDevice.disk c.load.new.device) c.in-Ok.found c.in-Ok.ensures.ok)))

pub returns-in-Ok-recovered-clause-ok : goal.returns-in-Ok-recovered-clause-ok
returns-in-Ok-recovered-clause-ok g c =
    let found = c.in-Ok.found in
    let numbers = c.in-Ok-recovered.ensures.numbers in
    slots_found (g.D.SectorDevice.disk c.args.device.now) (g.D.SectorDevice.disk c.load.new.device) found c.in-Ok-recovered.known c.requires.sized c.in-Ok.ensures.ok numbers.0 numbers.1 numbers.2
    (subst (λ (l : List ℕ). take (length l - 4096 * found.slot.blocks) c.in-Ok-recovered.known.tail.items ≡ drop (4096 * found.slot.blocks) l) c.deref.ensures.value c.in-Ok-recovered.ensures.tail)
