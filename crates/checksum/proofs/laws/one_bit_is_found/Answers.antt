use Rattle.std.proofs.Common.{◌≡◌, ◌∷◌, ◌++◌, [], List, Bool, refl, ap, sym, ◌∙◌, arith, append_assoc}
use Rattle.checksum.specs.Crc.{crc_of_bits}
use Rattle.checksum.proofs.Finds.{burst}
use Rattle.checksum.proofs.laws.one_bit_is_found.Goals as goal

single : (front back : List Bool) (x : Bool) → front ++ x ∷ [] ++ back ≡ front ++ x ∷ back
single front back x = append_assoc front (x ∷ []) back

head_of : (x y : Bool) → x ∷ [] ≡ y ∷ [] → x ≡ y
head_of x y e = cc

pub returns : goal.returns
returns c = λ front back one other differ e.
    differ (head_of one other (burst front (one ∷ []) (other ∷ []) back refl (omega arith) (ap crc_of_bits (single front back one) ∙ e ∙ ap crc_of_bits (sym (single front back other)))))
