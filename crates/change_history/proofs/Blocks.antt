-- The bytes of several, one after another in a block.
use Rattle.std.proofs.Common.{◌≡◌, ◌+◌, ◌≤◌, ◌++◌, ◌∷◌, ℕ, List, Option, Some, Vec, Global, drop, length, length-append, sym, ap, subst, ◌∙◌, arith}
use Rattle.std.proofs.Math.Seq.{drop-append_seam}
use Rattle.std.proofs.lemmas.List.{drop-drop, length-drop}
use Rattle.std.specs.Arc.{arc_value}
use Rattle.std.specs.declared.sync.Arc.{Arc}
use Rattle.change_history.specs.Frames.{bytes_all, EndsWith}

-- ---- the first of those that are left

part_of : (block : List ℕ) (from : ℕ) (own rest : List ℕ) → from ≤ length block → drop from block ≡ own ++ rest → from + length own ≤ length block
part_of block from own rest within is =
    let all = ap length is in
    let left = length-drop from block in
    let sum = length-append own rest in
    omega (arith, within, all, left, sum)

behind : (block : List ℕ) (from : ℕ) (own rest : List ℕ) → drop from block ≡ own ++ rest → drop (from + length own) block ≡ rest
behind block from own rest is = sym (drop-drop (length own) from block) ∙ ap (drop (length own)) is ∙ drop-append_seam own rest

pub first_part : (o : Option (Arc (Vec ℕ Global) Global)) (block : Arc (Vec ℕ Global) Global) (from : ℕ) (all : List (Vec ℕ Global)) (own : Vec ℕ Global) (left : List (Vec ℕ Global))
    → EndsWith o from all → o ≡ Some block → all ≡ own ∷ left → from + length own.items ≤ length (arc_value block).items
first_part o block from all own left ends is first =
    let parts = subst (λ vs. EndsWith (Some block) from vs) first (subst (λ b. EndsWith b from all) is ends) in
    part_of (arc_value block).items from own.items (bytes_all left) parts.0 parts.1

pub next_ends : (o : Option (Arc (Vec ℕ Global) Global)) (block : Arc (Vec ℕ Global) Global) (from : ℕ) (all : List (Vec ℕ Global)) (own : Vec ℕ Global) (left : List (Vec ℕ Global))
    → EndsWith o from all → o ≡ Some block → all ≡ own ∷ left → EndsWith o (from + length own.items) left
next_ends o block from all own left ends is first =
    let parts = subst (λ vs. EndsWith (Some block) from vs) first (subst (λ b. EndsWith b from all) is ends) in
    subst (λ b. EndsWith b (from + length own.items) left) (sym is) (
      part_of (arc_value block).items from own.items (bytes_all left) parts.0 parts.1,
      behind (arc_value block).items from own.items (bytes_all left) parts.1,
    )
