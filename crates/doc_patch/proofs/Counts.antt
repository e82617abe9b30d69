-- What operations count.
use Rattle.std.proofs.Common.{◌≡◌, ◌<◌, ◌≤◌, ℕ, suc, ◌+◌, List, [], ◌∷◌, length, drop, drop-cons, get_or, Option, Some, None, option_and_then, Ok, refl, sym, ap, subst, ◌∙◌, arith}
use Rattle.std.proofs.lemmas.List.{drop_all}
use Rattle.doc_tree.specs.Doc.{Doc}
use Rattle.doc_pointer.specs.Place.{child_named, resolve}
use Rattle.doc_edits.specs.Edit.{Token, Tokens}
use Rattle.doc_edits.specs.Operation.{Operation, op}
use Rattle.doc_edits.specs.Size.{size}
use Rattle.doc_edits.specs.Meaning.{meaning}
use Rattle.doc_edits.specs.declared.operation.Operation as code
use Rattle.doc_edits.proofs.Sizes.{size-with_child}
use Rattle.doc_patch.specs.Held.{capped, counted, sum}
use Rattle.doc_patch.specs.Meaning.{meanings}
use Rattle.doc_patch.specs.Patch.{go_on, patch_from}

in_child : (t : Token) (d v : Doc) (o : Option Doc) (below : Doc → Option Doc) → child_named t d ≡ o → option_and_then below o ≡ Some v → ((c : Doc) → below c ≡ Some v → size v ≤ size c) → size v ≤ size d
in_child t d v None below none h rest = absurd (cc)
in_child t d v (Some c) below found h rest =
    let low = rest c h in
    let whole = (size-with_child t c d c found).1 in
    omega (arith, low, whole)

-- a value in a document has no longer text
pub place_size : (ts : Tokens) (d v : Doc) → resolve ts d ≡ Some v → size v ≤ size d
place_size [] d v is = let same : d ≡ v = cc in subst (λ (x : Doc). size x ≤ size d) same (omega arith)
place_size (t ∷ ts) d v is = in_child t d v (child_named t d) (resolve ts) refl is (λ c. place_size ts c v)

-- one more number is counted
pub capped_once : (a b c : ℕ) → capped (capped (a + b) + c) ≡ capped (a + (b + c))
capped_once a b c = omega arith

-- the next operation is counted
pub counts_next : (f : Operation → Doc → ℕ) (i j : ℕ) (items : List code.Operation) (o : code.Operation) (d e : Doc) (a b : ℕ) → j ≡ suc i → i < length items → o ≡ get_or items i o → op (meaning o) d ≡ Ok e → b ≡ capped (a + f (meaning o) d)
    → capped (b + sum f (meanings (drop j items)) e) ≡ capped (a + sum f (meanings (drop i items)) d)
counts_next f i j items o d e a b next less is made counts =
    let left : drop i items ≡ o ∷ drop (suc i) items = drop-cons items i o less ∙ ap (λ x. x ∷ drop (suc i) items) (sym is) in
    let rest = sum f (meanings (drop (suc i) items)) in
    ap (λ n. capped (b + sum f (meanings (drop n items)) e)) next ∙ ap (λ n. capped (n + rest e)) counts ∙ capped_once a (f (meaning o) d) (rest e)
    ∙ ap (λ r. capped (a + (f (meaning o) d + counted rest r))) (sym made)
    ∙ ap (λ l. capped (a + sum f (meanings l) d)) (sym left)

pub patch_next : (i j : ℕ) (items : List code.Operation) (o : code.Operation) (d e : Doc) → j ≡ suc i → i < length items → o ≡ get_or items i o → op (meaning o) d ≡ Ok e
    → patch_from j (meanings (drop j items)) e ≡ patch_from i (meanings (drop i items)) d
patch_next i j items o d e next less is made =
    let left : drop i items ≡ o ∷ drop (suc i) items = drop-cons items i o less ∙ ap (λ x. x ∷ drop (suc i) items) (sym is) in
    ap (λ n. patch_from n (meanings (drop n items)) e) next ∙ ap (λ r. go_on i r (patch_from (suc i) (meanings (drop (suc i) items)))) (sym made) ∙ ap (λ l. patch_from i (meanings l) d) (sym left)

-- all of them were counted
pub counts_end : (f : Operation → Doc → ℕ) (i : ℕ) (items all : List code.Operation) (d e : Doc) (a b : ℕ) → length items ≤ i → items ≡ all
    → capped (b + sum f (meanings (drop i items)) e) ≡ capped (a + sum f (meanings items) d) → capped b ≡ capped (a + sum f (meanings all) d)
counts_end f i items all d e a b past same counts =
    let none : b ≡ b + 0 = omega arith in
    ap capped none ∙ ap (λ l. capped (b + sum f (meanings l) e)) (sym (drop_all i items past)) ∙ counts ∙ ap (λ l. capped (a + sum f (meanings l) d)) same

pub inside_some : {A : Type 0} (x y : A) → Some x ≡ Some y → x ≡ y
inside_some x y same = cc same
