-- Numbers that are moved one by one.
use Rattle.std.proofs.Common.{◌≡◌, ℕ, suc, ◌+◌, ◌<◌, List, [], ◌∷◌, ◌++◌, length, get_or, drop, drop-cons, Vec, Global, sym, ap, subst, ◌∙◌, append-nil, append_assoc, arith}
use Rattle.schema_graph.specs.Orders.{at}
use Rattle.schema_nodes.specs.Nodes.{Moved, AreMoved}

pub record Moving (ranks left all moved : List ℕ) : Type 0 where
  pub rest : (more : List ℕ) → Moved ranks left more → Moved ranks all (moved ++ more)

pub moving : (ranks all : List ℕ) → Moving ranks all all []
moving ranks all = record { rest = λ more h. h }

pub moving_on : (ranks left left' all moved : List ℕ) (c j : ℕ) → Moving ranks left all moved → left ≡ c ∷ left' → j ≡ at ranks c → Moving ranks left' all (moved ++ j ∷ [])
moving_on ranks left left' all moved c j m e at = record {
  rest = λ more h. subst (λ l. Moved ranks all l) (sym (append_assoc moved (j ∷ []) more)) (m.rest (j ∷ more) (subst (λ l. Moved ranks l (j ∷ more)) (sym e) (at, h)));
}

pub moved : (ranks left all done : List ℕ) → Moving ranks left all done → left ≡ [] → Moved ranks all done
moved ranks left all done m e = subst (λ l. Moved ranks all l) (append-nil done) (m.rest [] (subst (λ l. Moved ranks l []) (sym e) tt))

pub record RowsMoving (ranks : List ℕ) (left all moved : List (Vec ℕ Global)) : Type 0 where
  pub rest : (more : List (Vec ℕ Global)) → AreMoved ranks left more → AreMoved ranks all (moved ++ more)

pub rows_on : (ranks : List ℕ) (left left' all moved : List (Vec ℕ Global)) (c j : Vec ℕ Global) → RowsMoving ranks left all moved → left ≡ c ∷ left' → Moved ranks c.items j.items → RowsMoving ranks left' all (moved ++ j ∷ [])
rows_on ranks left left' all moved c j m e at = record {
  rest = λ more h. subst (λ l. AreMoved ranks all l) (sym (append_assoc moved (j ∷ []) more)) (m.rest (j ∷ more) (subst (λ l. AreMoved ranks l (j ∷ more)) (sym e) (at, h)));
}

pub rows_moved : (ranks : List ℕ) (left all moved : List (Vec ℕ Global)) → RowsMoving ranks left all moved → left ≡ [] → AreMoved ranks all moved
rows_moved ranks left all moved m e = subst (λ l. AreMoved ranks all l) (append-nil moved) (m.rest [] (subst (λ l. AreMoved ranks l []) (sym e) tt))

pub next : {A : Type 0} (items : List A) (i : ℕ) (x : A) → i < length items → x ≡ get_or items i x → drop i items ≡ x ∷ drop (i + 1) items
next items i x lt e =
    let one : suc i ≡ i + 1 = omega arith in
    drop-cons items i x lt ∙ ap (λ n. get_or items i x ∷ drop n items) one ∙ ap (λ y. y ∷ drop (i + 1) items) (sym e)

pub next_at : {A : Type 0} (items : List A) (i : ℕ) (d : A) → i < length items → drop i items ≡ get_or items i d ∷ drop (i + 1) items
next_at items i d lt =
    let one : suc i ≡ i + 1 = omega arith in
    drop-cons items i d lt ∙ ap (λ n. get_or items i d ∷ drop n items) one
