-- What was read so far.
use Rattle.std.proofs.Common.{◌≡◌, ℕ, List, [], ◌++◌, sym, ap, ◌∙◌, subst, Option, None, Some, append_assoc, take, refl}
use Rattle.std.proofs.lemmas.List.{append-nil}
use Rattle.std.specs.Io.KnownBytes.{Consumes, Keeps}

pub consumes_none : (a : Option (List ℕ)) → Consumes a a []
consumes_none None = tt
consumes_none (Some xs) = refl

pub consumes_more : (a b c : Option (List ℕ)) (x y : List ℕ) → Consumes a b x → Consumes b c y → Consumes a c (x ++ y)
consumes_more None b c x y h k = tt
consumes_more (Some a) None c x y h k = absurd h
consumes_more (Some a) (Some b) None x y h k = absurd k
consumes_more (Some a) (Some b) (Some c) x y h k = h ∙ ap (λ t. x ++ t) k ∙ sym (append_assoc x y c)

-- the last read gave nothing
pub consumes_end : (a b c : Option (List ℕ)) (x p : List ℕ) (n : ℕ) → Consumes a b x → Consumes b c (take n p) → n ≡ 0 → Consumes a c x
consumes_end a b c x p n h k e =
    let all = consumes_more a b c x [] h (subst (λ (m : ℕ). Consumes b c (take m p)) e k) in
    subst (λ (t : List ℕ). Consumes a c t) (append-nil x) all

-- a read that failed took nothing
pub consumes_kept : (a b c : Option (List ℕ)) (x : List ℕ) → Consumes a b x → Keeps b c → Consumes a c x
consumes_kept None b c x h k = tt
consumes_kept (Some a) None c x h k = absurd h
consumes_kept (Some a) (Some b) None x h k = absurd k
consumes_kept (Some a) (Some b) (Some c) x h k = h ∙ ap (λ t. x ++ t) (sym k)
