-- The beginning of a patch.
use Rattle.std.proofs.Common.{◌≡◌, suc, ◌≤◌, List, [], ◌∷◌, length, Result, Ok, Err, OnErr, refl, ap, arith}
use Rattle.doc_tree.specs.Doc.{Doc}
use Rattle.doc_edits.specs.Operation as pure
use Rattle.doc_edits.specs.declared.operation.Operation as code
use Rattle.doc_patch.specs.Meaning.{meanings}
use Rattle.doc_patch.specs.Progress.{IsUnderWay}
use Rattle.doc_patch.specs.declared.progress.Progress.{Progress}

as_many : (items : List code.Operation) → length (meanings items) ≡ length items
as_many [] = refl
as_many (o ∷ os) = ap (λ n. suc n) (as_many os)

-- nothing was made of a few operations
pub begun : (p : Progress) (items : List code.Operation) (d : Doc) → length items ≤ 8 → ((os : List pure.Operation) → length os ≤ 0xffff_ffff_ffff_ffff → IsUnderWay p os os d d) → IsUnderWay p (meanings items) (meanings items) d d
begun p items d few all = let same = as_many items in all (meanings items) (omega (arith, few, same))

pub on_err : {A E : Type 0} (r : Result A E) (P : Type 0) → P → OnErr r P
on_err (Ok x) P p = tt
on_err (Err e) P p = p
