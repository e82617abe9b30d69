use Rattle.std.proofs.Common.{◌++◌, ℕ, List, [], drop, refl, ap, sym, ◌∙◌, arith, take-append-drop}
use Rattle.std.specs.Int.{w32, w64, to_be_bytes}
use Rattle.half_journal.specs.Layout.{magic, fields_of}
use Rattle.sector_device.proofs.Built.{built_start, built_put}
use Rattle.half_journal.proofs.layout.encode.Goals as goal

pub returns : goal.returns
returns c =
    let m = c.args.commit in
    let b1 = built_put 0 8 [] _ c.put.new.sector _ magic built_start c.put.ensures.front c.put.ensures.rest refl refl (omega arith) in
    let b2 = built_put 8 12 _ _ c.put-2.new.sector _ (to_be_bytes w32 m.format) b1 c.put-2.ensures.front c.put-2.ensures.rest c.to_be_bytes.ensures refl (omega arith) in
    let b3 = built_put 12 16 _ _ c.put-3.new.sector _ (to_be_bytes w32 m.half) b2 c.put-3.ensures.front c.put-3.ensures.rest c.to_be_bytes-2.ensures refl (omega arith) in
    let b4 = built_put 16 24 _ _ c.put-4.new.sector _ (to_be_bytes w64 m.length) b3 c.put-4.ensures.front c.put-4.ensures.rest c.to_be_bytes-3.ensures refl (omega arith) in
    let b5 = built_put 24 32 _ _ c.put-5.new.sector _ (to_be_bytes w64 m.seq) b4 c.put-5.ensures.front c.put-5.ensures.rest c.to_be_bytes-4.ensures refl (omega arith) in
    let b6 = built_put 32 40 _ _ c.put-6.new.sector _ (to_be_bytes w64 m.opens) b5 c.put-6.ensures.front c.put-6.ensures.rest c.to_be_bytes-5.ensures refl (omega arith) in
    let b7 = built_put 40 48 _ _ c.put-7.new.sector _ (to_be_bytes w64 m.sectors) b6 c.put-7.ensures.front c.put-7.ensures.rest c.to_be_bytes-6.ensures refl (omega arith) in
    sym (take-append-drop 48 c.put-7.new.sector) ∙ ap (λ (l : List ℕ). l ++ drop 48 c.put-7.new.sector) b7.front ∙ ap (λ (l : List ℕ). fields_of m ++ l) b7.zeros
