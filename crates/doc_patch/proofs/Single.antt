-- What a patch makes of whose operations one alone changes anything.
use Rattle.std.proofs.Common.{◌≡◌, ◌≢◌, ℕ, suc, ◌+◌, Bool, Option, Some, None, IfNone, IfSome, is_some, Bor, Ok, true, false, cond, List, [], ◌∷◌, length, drop, drop-cons, get_or, nat_lt, refl, sym, ap, subst, ◌∙◌, ◌<◌, ◌≤◌, arith, count_by}
use Rattle.std.proofs.lemmas.List.{drop_all}
use Rattle.std.proofs.lemmas.List.Sums.{sum_by-cons}
use Rattle.doc_tree.specs.Doc.{Doc, height}
use Rattle.doc_tree.specs.Text.{text_of}
use Rattle.doc_edits.specs.Meaning.{meaning}
use Rattle.doc_edits.specs.Operation as pure
use Rattle.doc_edits.specs.Operation.{Operation, change, op}
use Rattle.doc_edits.specs.Limits.{within_limits}
use Rattle.doc_edits.specs.declared.operation.Operation as code
use Rattle.doc_patch.specs.Meaning.{meanings}
use Rattle.doc_patch.specs.Only.{may_change}
use Rattle.doc_patch.specs.Patch.{patch, patch_from}
use Rattle.refusals.specs.declared.numbers.TheConstants.{DEPTH, TOO_LARGE}
use Rattle.doc_patch.proofs.Untouched.{gone_on, goes_on, within_same}
use Rattle.doc_patch.proofs.Within.{unreached}

-- what the operation makes that was found, if one was, goes on to those that are left
abbrev pub Leaves : Option (Bor code.Operation) → ℕ → List code.Operation → Doc → Doc → Type 0
Leaves None i left d e = patch_from i (meanings left) d ≡ Ok e
Leaves (Some o) i left d e = (x : Doc) × (change (meaning o.now) d ≡ Ok x) × (patch_from i (meanings left) x ≡ Ok e)

-- what an operation makes within the limits is what it makes
pub made_within : (o : Operation) (d e : Doc) → op o d ≡ Ok e → change o d ≡ Ok e
made_within o d e h =
    let g = goes_on (change o d) within_limits e h in
    g.1 ∙ ap Ok (within_same (nat_lt 64 (height g.0)) (nat_lt 1_048_576 (length (text_of g.0))) DEPTH TOO_LARGE g.0 e g.2)

tested : (o : Operation) (d e : Doc) → may_change o ≡ false → change o d ≡ Ok e → d ≡ e
tested (pure.test path v) d e is h = unreached (pure.test path v) d e (λ ts. refl) h
tested _ d e is h = absurd cc

-- the next of those that are left
next : (i : ℕ) (o : code.Operation) (left : List code.Operation) (d e : Doc) → patch_from i (meanings (o ∷ left)) d ≡ Ok e → (x : Doc) × (change (meaning o) d ≡ Ok x) × (patch_from (suc i) (meanings left) x ≡ Ok e)
next i o left d e h =
    let g = gone_on i (op (meaning o) d) (patch_from (suc i) (meanings left)) e h in
    (g.0, made_within (meaning o) d g.0 g.1, g.2)

left_at : (os : List code.Operation) (i : ℕ) (o : code.Operation) → i < length os → o ≡ get_or os i o → drop i os ≡ o ∷ drop (suc i) os
left_at os i o less is = drop-cons os i o less ∙ ap (λ x. x ∷ drop (suc i) os) (sym is)

past_test : (i : ℕ) (found : Option (Bor code.Operation)) (o : code.Operation) (left : List code.Operation) (d e : Doc) → may_change (meaning o) ≡ false → Leaves found i (o ∷ left) d e → Leaves found (suc i) left d e
past_test i None o left d e is h =
    let n = next i o left d e h in
    subst (λ x. patch_from (suc i) (meanings left) x ≡ Ok e) (sym (tested (meaning o) d n.0 is n.1)) n.2
past_test i (Some p) o left d e is h =
    let n = next i o left h.0 e h.2 in
    (h.0, h.1, subst (λ x. patch_from (suc i) (meanings left) x ≡ Ok e) (sym (tested (meaning o) h.0 n.0 is n.1)) n.2)

-- a test more
pub after_test : (os : List code.Operation) (i m : ℕ) (found : Option (Bor code.Operation)) (o : code.Operation) (d e : Doc) → m ≡ suc i → i < length os → o ≡ get_or os i o → may_change (meaning o) ≡ false
    → Leaves found i (drop i os) d e → Leaves found m (drop m os) d e
after_test os i m found o d e s less is test h =
    subst (λ n. Leaves found n (drop n os) d e) (sym s) (past_test i found o (drop (suc i) os) d e test (subst (λ l. Leaves found i l d e) (left_at os i o less is) h))

-- the first that may change something
pub after_first : (os : List code.Operation) (i m : ℕ) (found new : Option (Bor code.Operation)) (b : Bor code.Operation) (o : code.Operation) (d e : Doc) → m ≡ suc i → i < length os → o ≡ get_or os i o → is_some found ≡ false → new ≡ Some b → b.now ≡ o
    → Leaves found i (drop i os) d e → Leaves new m (drop m os) d e
after_first os i m (Some p) new b o d e s less is none one same h = absurd cc
after_first os i m None new b o d e s less is none one same h =
    let n = next i o (drop (suc i) os) d e (subst (λ l. patch_from i (meanings l) d ≡ Ok e) (left_at os i o less is) h) in
    let made : change (meaning b.now) d ≡ Ok n.0 = ap (λ p. change (meaning p) d) same ∙ n.1 in
    subst (λ f. Leaves f m (drop m os) d e) (sym one) (subst (λ k. Leaves (Some b) k (drop k os) d e) (sym s) (n.0, made, n.2))

ended : (i : ℕ) (x e : Doc) → patch_from i [] x ≡ Ok e → x ≡ e
ended i x e h = cc

-- where none is left, what was found made it
pub at_end : (os : List code.Operation) (i : ℕ) (found : Option (Bor code.Operation)) → length os ≤ i → ((d e : Doc) → patch (meanings os) d ≡ Ok e → Leaves found i (drop i os) d e)
    → IfSome found (λ o. (d e : Doc) → patch (meanings os) d ≡ Ok e → change (meaning o.now) d ≡ Ok e)
at_end os i None le all = tt
at_end os i (Some o) le all = λ d e h.
    let k = all d e h in
    k.1 ∙ ap Ok (ended i k.0 e (subst (λ l. patch_from i (meanings l) k.0 ≡ Ok e) (drop_all i os le) k.2))

-- ---- how many may change something

abbrev counted : Bool → ℕ
counted b = cond b 1 0

-- of all operations as many as were found, and those that are left
abbrev pub Counts : Option (Bor code.Operation) → List code.Operation → List code.Operation → Type 0
Counts found left all = count_by may_change (meanings all) ≡ counted (is_some found) + count_by may_change (meanings left)

-- the next one, and those behind it
counted_at : (os : List code.Operation) (i m : ℕ) (o : code.Operation) → m ≡ suc i → i < length os → o ≡ get_or os i o
    → count_by may_change (meanings (drop i os)) ≡ counted (may_change (meaning o)) + count_by may_change (meanings (drop m os))
counted_at os i m o s less is =
    ap (λ l. count_by may_change (meanings l)) (left_at os i o less is) ∙ sum_by-cons (λ x. counted (may_change x)) (meaning o) (meanings (drop (suc i) os))
    ∙ ap (λ n. counted (may_change (meaning o)) + count_by may_change (meanings (drop n os))) (sym s)

pub count_test : (os : List code.Operation) (i m : ℕ) (found : Option (Bor code.Operation)) (o : code.Operation) → m ≡ suc i → i < length os → o ≡ get_or os i o → may_change (meaning o) ≡ false
    → Counts found (drop i os) os → Counts found (drop m os) os
count_test os i m found o s less is test h = let at = counted_at os i m o s less is ∙ ap (λ b. counted b + count_by may_change (meanings (drop m os))) test in omega (arith, at, h)

pub count_first : (os : List code.Operation) (i m : ℕ) (found new : Option (Bor code.Operation)) (b : Bor code.Operation) (o : code.Operation) → m ≡ suc i → i < length os → o ≡ get_or os i o → may_change (meaning o) ≡ true → is_some found ≡ false → new ≡ Some b
    → Counts found (drop i os) os → Counts new (drop m os) os
count_first os i m found new b o s less is changes none one h =
    let at = counted_at os i m o s less is ∙ ap (λ b. counted b + count_by may_change (meanings (drop m os))) changes in
    let before = ap counted none in
    let after : counted (is_some new) ≡ 1 = ap (λ f. counted (is_some f)) one in
    omega (arith, at, h, before, after)

-- a second one
pub count_second : (os : List code.Operation) (i : ℕ) (found : Option (Bor code.Operation)) (o : code.Operation) → i < length os → o ≡ get_or os i o → may_change (meaning o) ≡ true → is_some found ≡ true
    → Counts found (drop i os) os → count_by may_change (meanings os) ≢ 1
count_second os i found o less is changes some h one =
    let at = counted_at os i (suc i) o refl less is ∙ ap (λ b. counted b + count_by may_change (meanings (drop (suc i) os))) changes in
    let before = ap counted some in
    omega (arith, at, h, before, one)

-- where none is left, what was found is all
pub count_end : (os : List code.Operation) (i : ℕ) (found : Option (Bor code.Operation)) → length os ≤ i → Counts found (drop i os) os → IfNone found (count_by may_change (meanings os) ≢ 1)
count_end os i None le h = λ one. let none = h ∙ ap (λ l. 0 + count_by may_change (meanings l)) (drop_all i os le) in omega (arith, none, one)
count_end os i (Some o) le h = tt
