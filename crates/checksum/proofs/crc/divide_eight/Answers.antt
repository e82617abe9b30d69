use Rattle.std.proofs.Common.{List, ℕ, ◌<◌, ◌^◌, ◌∙◌, ap, sym, get_or, arith}
use Rattle.checksum.specs.Crc.{bits_of, divided}
use Rattle.checksum.proofs.Bytes.{eight, eight_of, eight_read, row_first, row_early, row_late}
use Rattle.checksum.proofs.crc.divide_eight.Goals as goal

pub returns : goal.returns
returns c =
    let xs = c.args.bytes.now in
    let left = c.from.result in
    let x = c.from_le_bytes.result in
    let size = c.told-bytes in
    let small : (i : ℕ) → get_or xs i 0 < 256 = λ i. c.fits-bytes i in
    let low : left < 2 ^ 32 = omega (arith, c.from.ensures, c.ranges.left.fits) in
    let at = eight_read xs x size small c.from_le_bytes.ensures in
    eight left (get_or xs 0 0) (get_or xs 1 0) (get_or xs 2 0) (get_or xs 3 0) (get_or xs 4 0) (get_or xs 5 0) (get_or xs 6 0) (get_or xs 7 0)
    c.row.result c.row-2.result c.row-3.result c.row-4.result c.row-5.result c.row-6.result c.row-7.result c.row-8.result
    low (small 0) (small 1) (small 2) (small 3) (small 4) (small 5) (small 6) (small 7)
    (row_first left x (get_or xs 0 0) c.row.result at.0 c.row.ensures)
    (row_early 7 left x (get_or xs 1 0) 8 c.row-2.result at.1 c.row-2.ensures)
    (row_early 6 left x (get_or xs 2 0) 16 c.row-3.result at.2 c.row-3.ensures)
    (row_early 5 left x (get_or xs 3 0) 24 c.row-4.result at.3 c.row-4.ensures)
    (row_late 4 left x (get_or xs 4 0) 32 c.row-5.result (omega (arith, low)) at.4 c.row-5.ensures)
    (row_late 3 left x (get_or xs 5 0) 40 c.row-6.result (omega (arith, low)) at.5 c.row-6.ensures)
    (row_late 2 left x (get_or xs 6 0) 48 c.row-7.result (omega (arith, low)) at.6 c.row-7.ensures)
    (row_late 1 left x (get_or xs 7 0) 56 c.row-8.result (omega (arith, low)) at.7 c.row-8.ensures)
    ∙ ap (λ (l : List ℕ). divided left (bits_of l)) (sym (eight_of xs size)) ∙ ap (λ (n : ℕ). divided n (bits_of xs)) c.from.ensures
