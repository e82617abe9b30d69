use Rattle.std.proofs.Common.{◌≡◌, ◌∙◌, ◌<◌, ◌+◌, ◌*◌, ◌∷◌, ◌++◌, [], ap, subst, sym, min, take, arith, List, ℕ}
use Rattle.sector_device.specs.Disk.{Image}
use Rattle.sector_device.specs.Sectors.{IsRead}
use Rattle.store_parts.specs.Parts.{IsReadBut}
use Rattle.store_parts.proofs.Keeps.{keeps_joined, read_later}
use Rattle.store_parts.proofs.Sectors.{read_more, skip_more, zeros}
use Rattle.store_parts.proofs.part.read_around.Goals.{in-Ok+in_ok-extend_from_slice-in-Ok, in-Err-Device+in_ok-push-in-Err-Device+in_ok-extend_from_slice-in-Err-Device}
use Rattle.store_parts.proofs.part.read_around.Goals as goal

pub loop-k-preserved : goal.loop-k-preserved
loop-k-preserved g c =
    let disk = g.D.SectorDevice.disk in
    let inv = c.loop-k.invariant in
    let old = disk c.args.device.now in
    let mid = disk c.loop-k.device in
    let new = disk c.read_bytes.new.device in
    let read = c.read_bytes.ensures in
    let k = c.loop-k.k in
    let lt : 512 * k < c.args.len = let test = c.loop-k-test.true in omega (arith, test) in
    record {
      same = record { size = read.same.size ∙ inv.same.size; honest = λ h. inv.same.honest (read.same.honest h) };
      later = let more = read_later mid new _ c.read_bytes.result read.charges in omega (arith, inv.later, more);
      keeps = λ h. keeps_joined old mid new (inv.keeps (read.same.honest h)) (read.images h);
      read = λ h. elim c.match-read_bytes.branch [
        | in-Ok+in_ok-extend_from_slice-in-Ok w ↦
            let grown : c.match-read_bytes.bytes.items ≡ c.loop-k.bytes.items ++ w.in-Ok.sector.items = ap (λ v. v.items) w.bytes-is ∙ w.in_ok-extend_from_slice-in-Ok.ensures.items ∙ ap (λ (l : List ℕ). c.loop-k.bytes.items ++ l) w.deref.ensures.value in
            let kept : c.match-read_bytes.unread.items ≡ c.loop-k.unread.items = ap (λ v. v.items) w.unread-is in
            let sector = subst (λ (image : Image). IsRead image (c.args.first + k) c.min-n.result w.in-Ok.sector.items) (inv.keeps (read.same.honest h)).seen (w.in-Ok.ensures.bytes h) in
            subst (λ (l : List ℕ). IsReadBut old.seen c.args.first (min c.args.len (512 * (k + 1))) l c.match-read_bytes.bytes.items) (sym kept)
            (read_more old.seen c.args.first k c.args.len c.min-n.result c.loop-k.unread.items c.loop-k.bytes.items w.in-Ok.sector.items c.match-read_bytes.bytes.items (inv.read (read.same.honest h)) lt c.min-n.ensures sector grown)
        | in-Err-Device+in_ok-push-in-Err-Device+in_ok-extend_from_slice-in-Err-Device w ↦
            let grown : c.match-read_bytes.bytes.items ≡ c.loop-k.bytes.items ++ take c.min-n.result zeros = ap (λ v. v.items) w.bytes-is ∙ w.in_ok-extend_from_slice-in-Err-Device.ensures.items in
            let told : c.match-read_bytes.unread.items ≡ c.loop-k.unread.items ++ (c.args.first + k) ∷ [] = ap (λ v. v.items) w.unread-is ∙ w.in_ok-push-in-Err-Device.ensures.items in
            skip_more old.seen c.args.first k c.args.len c.min-n.result c.loop-k.unread.items c.match-read_bytes.unread.items c.loop-k.bytes.items c.match-read_bytes.bytes.items (inv.read (read.same.honest h)) lt c.min-n.ensures grown told
      ];
    }
