-- A list that takes part after part, up to the limit. `found` is listed so far, `new` comes next, and `rest` after it;
-- evaluating `new` is refused where `here` says so, the rest where `later` does.
use Rattle.std.proofs.Common.{◌≡◌, ◌++◌, ◌||◌, ◌∙◌, Bool, true, false, List, [], length, length-append, append_assoc, append-nil, sym, ap, subst, refl, arith}
use Rattle.std.proofs.lemmas.Bool.Decides.{Decides-ltb}
use Rattle.path_select.specs.Limit.{is_over}

either : (a b : Bool) → a ≡ true → (a || b) ≡ true
either a b e = ap (λ c. c || b) e

or_else : (a b : Bool) → b ≡ true → (a || b) ≡ true
or_else true b e = refl
or_else false b e = e

-- more are over too
pub over_more : {A : Type 0} (a b c : List A) → is_over (length b) ≡ true → is_over (length (a ++ (b ++ c))) ≡ true
over_more a b c over = (Decides-ltb 100000 _).1 (let h = (Decides-ltb 100000 (length b)).0 over in omega (arith, h, length-append a (b ++ c), length-append b c))

module _ {A : Type 0} (found new rest total : List A) (here later refused : Bool) (whole : found ++ (new ++ rest) ≡ total) (same : (here || later) ≡ refused) where
  pub stop_here : here ≡ true → (refused || is_over (length total)) ≡ true
  stop_here h = either refused _ (sym same ∙ either here later h)

  pub stop_over : is_over (length (found ++ new)) ≡ true → (refused || is_over (length total)) ≡ true
  stop_over over =
      let all : [] ++ ((found ++ new) ++ rest) ≡ total = append_assoc found new rest ∙ whole in
      or_else refused _ (subst (λ t. is_over (length t) ≡ true) all (over_more [] (found ++ new) rest over))

  pub stop_new : (here || is_over (length new)) ≡ true → (refused || is_over (length total)) ≡ true
  stop_new h = cases here refl
    where
      cases : (b : Bool) → here ≡ b → (refused || is_over (length total)) ≡ true
      cases true e = stop_here e
      cases false e = or_else refused _ (subst (λ t. is_over (length t) ≡ true) whole (over_more found new rest (sym (ap (λ b. b || is_over (length new)) e) ∙ h)))

  pub stop_all : (here || is_over (length (found ++ new))) ≡ true → (refused || is_over (length total)) ≡ true
  stop_all h = cases here refl
    where
      cases : (b : Bool) → here ≡ b → (refused || is_over (length total)) ≡ true
      cases true e = stop_here e
      cases false e = stop_over (sym (ap (λ b. b || is_over (length (found ++ new))) e) ∙ h)

  pub go_on : here ≡ false → is_over (length (found ++ new)) ≡ false → (more : List A) → more ≡ found ++ new → (more ++ rest ≡ total) × (later ≡ refused) × (is_over (length more) ≡ false)
  go_on h within more is = (ap (λ t. t ++ rest) is ∙ (append_assoc found new rest ∙ whole), sym (ap (λ b. b || later) h) ∙ same, ap (λ t. is_over (length t)) is ∙ within)

pub all_found : {A : Type 0} (found total : List A) (refused : Bool) → found ++ [] ≡ total → false ≡ refused → is_over (length found) ≡ false → ((refused || is_over (length total)) ≡ false) × (found ≡ total)
all_found found total refused whole same within =
    let all : found ≡ total = sym (append-nil found) ∙ whole in (
      ap (λ b. b || is_over (length total)) (sym same) ∙ ap (λ t. is_over (length t)) (sym all) ∙ within,
      all,
    )

-- both parts of a test are false
pub both_false : (a b : Bool) → (a || b) ≡ false → (a ≡ false) × (b ≡ false)
both_false true b e = absurd (cc)
both_false false b e = (refl, e)
