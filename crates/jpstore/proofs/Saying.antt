-- What is said on standard error, one piece behind another.
use Rattle.std.proofs.Common.{◌≡◌, ◌∙◌, ◌++◌, ℕ, List, [], ◌∷◌, Option, None, Some, Result, Ok, Err, IfSome, OnOk, unwrap_or, refl, ap, subst, sym}
use Rattle.std.proofs.lemmas.List.{append-nil}
use Rattle.std.specs.Io.KnownBytes.{Appends}

append_assoc : (xs ys zs : List ℕ) → (xs ++ ys) ++ zs ≡ xs ++ (ys ++ zs)
append_assoc [] ys zs = refl
append_assoc (x ∷ xs) ys zs = ap (λ (l : List ℕ). x ∷ l) (append_assoc xs ys zs)

pub appends_both : (a b c : Option (List ℕ)) (one other : List ℕ) → Appends a b one → Appends b c other → Appends a c (one ++ other)
appends_both None b c one other f g = tt
appends_both (Some xs) None c one other f g = absurd f
appends_both (Some xs) (Some ys) None one other f g = absurd g
appends_both (Some xs) (Some ys) (Some zs) one other f g = g ∙ ap (λ (l : List ℕ). l ++ other) f ∙ append_assoc xs one other

appends_no_more : (a b c : Option (List ℕ)) (one : List ℕ) → Appends a b one → c ≡ b → Appends a c (one ++ [])
appends_no_more a b c one f same = subst (λ (k : Option (List ℕ)). Appends a k (one ++ [])) (sym same) (subst (λ (l : List ℕ). Appends a b l) (sym (append-nil one)) f)

-- one piece, and then another, if there is one
pub said_both : {T E : Type 0} (r : Result T E) (more : Option (List ℕ)) (a b c : Option (List ℕ)) (one : List ℕ) → Appends a b one → OnOk r (IfSome more (Appends b c)) → (more ≡ None → c ≡ b)
    → OnOk r (Appends a c (one ++ unwrap_or more []))
said_both (Err fault) more a b c one first then silent = tt
said_both (Ok value) None a b c one first then silent = appends_no_more a b c one first (silent refl)
said_both (Ok value) (Some other) a b c one first then silent = appends_both a b c one other first then
