-- The first tokens of a place.
use Rattle.std.proofs.Common.{◌≡◌, ◌↔◌, ℕ, zero, suc, ◌-◌, ◌<◌, ◌≤◌, List, [], ◌∷◌, ◌++◌, Option, Some, None, IfNone, IfSome, option_map, Bor, String, Global, string_bytes, Bool, Ok, true, false, ◌&&◌, length, get_or, take, refl, sym, ap, subst, ◌∙◌, arith}
use Rattle.std.proofs.lemmas.Slice.Eq.{bytes_eq-Decides}
use Rattle.std.specs.Str.{bytes_eq}
use Rattle.doc_edits.specs.Change.{tokens_of}
use Rattle.doc_edits.specs.Edit.{Token, Tokens}
use Rattle.doc_edits.specs.Meaning.{meaning}
use Rattle.doc_patch.specs.Meaning.{meanings}
use Rattle.doc_edits.specs.Operation.{Operation, change}
use Rattle.doc_tree.specs.Doc.{Doc}
use Rattle.doc_edits.specs.declared.operation.Operation as code
use Rattle.doc_patch.specs.Within.{IsWithin, KeepsBut, LeadsToFound, Narrows, holder, holds_all, leads_to, leads_to_each, reaches}
use Rattle.doc_patch.proofs.Untouched.{both}
use Rattle.doc_patch.proofs.Within.{changed, unreached}

pub and_true : (a b : Bool) → a ≡ true → b ≡ true → (a && b) ≡ true
and_true true b e f = f
and_true false b e f = e

equals : (t : Token) → bytes_eq t t ≡ true
equals t = (bytes_eq-Decides t t).1 refl

-- ---- one place leads to another

follows_by : (a b : Bool) (t u v : Token) (ts us vs : Tokens) → bytes_eq t u ≡ a → bytes_eq u v ≡ b → (a && leads_to ts us) ≡ true → (b && leads_to us vs) ≡ true → (leads_to ts us ≡ true → leads_to us vs ≡ true → leads_to ts vs ≡ true) → (bytes_eq t v && leads_to ts vs) ≡ true
follows_by false b t u v ts us vs p q h k rest = absurd cc
follows_by true false t u v ts us vs p q h k rest = absurd cc
follows_by true true t u v ts us vs p q h k rest =
    let same : t ≡ v = (bytes_eq-Decides t u).0 p ∙ (bytes_eq-Decides u v).0 q in
    and_true (bytes_eq t v) (leads_to ts vs) ((bytes_eq-Decides t v).1 same) (rest h k)

pub follows : (ts us vs : Tokens) → leads_to ts us ≡ true → leads_to us vs ≡ true → leads_to ts vs ≡ true
follows [] us vs h k = refl
follows (t ∷ ts) [] vs h k = absurd cc
follows (t ∷ ts) (u ∷ us) [] h k = absurd cc
follows (t ∷ ts) (u ∷ us) (v ∷ vs) h k = follows_by (bytes_eq t u) (bytes_eq u v) t u v ts us vs refl refl h k (follows ts us vs)

-- ---- the first of some tokens

pub front_leads : (n : ℕ) (xs : List (String Global)) → leads_to (tokens_of (take n xs)) (tokens_of xs) ≡ true
front_leads zero xs = refl
front_leads (suc n) [] = refl
front_leads (suc n) (x ∷ xs) = and_true (bytes_eq (string_bytes x) (string_bytes x)) (leads_to (tokens_of (take n xs)) (tokens_of xs)) (equals (string_bytes x)) (front_leads n xs)

pub one_longer : (n m : ℕ) (xs ys : List (String Global)) (x y : String Global) → m ≡ suc n → n < length xs → n < length ys → x ≡ get_or xs n x → y ≡ get_or ys n y → string_bytes x ≡ string_bytes y → leads_to (tokens_of (take n xs)) (tokens_of ys) ≡ true
    → leads_to (tokens_of (take m xs)) (tokens_of ys) ≡ true
one_longer n m [] ys x y s lt lt' p q e h = absurd (omega arith)
one_longer n m (a ∷ xs) [] x y s lt lt' p q e h = absurd (omega arith)
one_longer zero m (a ∷ xs) (b ∷ ys) x y s lt lt' p q e h =
    let same : string_bytes a ≡ string_bytes b = sym (ap string_bytes p) ∙ e ∙ ap string_bytes q in
    subst (λ k. leads_to (tokens_of (take k (a ∷ xs))) (tokens_of (b ∷ ys)) ≡ true) (sym s) (and_true (bytes_eq (string_bytes a) (string_bytes b)) true ((bytes_eq-Decides (string_bytes a) (string_bytes b)).1 same) refl)
one_longer (suc n) m (a ∷ xs) (b ∷ ys) x y s lt lt' p q e h =
    let two = both (bytes_eq (string_bytes a) (string_bytes b)) (leads_to (tokens_of (take n xs)) (tokens_of ys)) h in
    subst (λ k. leads_to (tokens_of (take k (a ∷ xs))) (tokens_of (b ∷ ys)) ≡ true) (sym s)
    (and_true (bytes_eq (string_bytes a) (string_bytes b)) (leads_to (tokens_of (take (suc n) xs)) (tokens_of ys)) two.0 (one_longer n (suc n) xs ys x y refl (omega arith) (omega arith) p q e two.1))

-- the two part at n, if both go on there
abbrev pub PartAt : ℕ → List (String Global) → List (String Global) → Type 0
PartAt n xs ys = n < length xs → n < length ys → (x : String Global) × (y : String Global) × (x ≡ get_or xs n x) × (y ≡ get_or ys n y) × (string_bytes x ≡ string_bytes y → ⊥)

-- what leads to both leads to the first that they have in common
pub meets : (n : ℕ) (xs ys : List (String Global)) (ts : Tokens) → PartAt n xs ys → leads_to ts (tokens_of xs) ≡ true → leads_to ts (tokens_of ys) ≡ true → leads_to ts (tokens_of (take n xs)) ≡ true
meets n xs ys [] part h k = refl
meets n [] ys (t ∷ ts) part h k = absurd cc
meets n (a ∷ xs) [] (t ∷ ts) part h k = absurd cc
meets zero (a ∷ xs) (b ∷ ys) (t ∷ ts) part h k =
    let one = (bytes_eq-Decides t (string_bytes a)).0 (both (bytes_eq t (string_bytes a)) (leads_to ts (tokens_of xs)) h).0 in
    let two = (bytes_eq-Decides t (string_bytes b)).0 (both (bytes_eq t (string_bytes b)) (leads_to ts (tokens_of ys)) k).0 in
    let p = part (omega arith) (omega arith) in
    absurd (p.4 (ap string_bytes p.2 ∙ sym one ∙ two ∙ sym (ap string_bytes p.3)))
meets (suc n) (a ∷ xs) (b ∷ ys) (t ∷ ts) part h k =
    let one = both (bytes_eq t (string_bytes a)) (leads_to ts (tokens_of xs)) h in
    let two = both (bytes_eq t (string_bytes b)) (leads_to ts (tokens_of ys)) k in
    and_true (bytes_eq t (string_bytes a)) (leads_to ts (tokens_of (take n xs))) one.0 (meets n xs ys ts (λ lt lt'. part (omega arith) (omega arith)) one.1 two.1)

pub all_but_last : (n : ℕ) (xs : List (String Global)) → n ≡ length xs - 1 → tokens_of (take n xs) ≡ holder (tokens_of xs)
all_but_last n [] e = let none : n ≡ 0 = omega arith in rw none refl
all_but_last n (x ∷ []) e = let none : n ≡ 0 = omega arith in rw none refl
all_but_last n (x ∷ y ∷ xs) e =
    let s : n ≡ suc (length (y ∷ xs) - 1) = omega arith in
    ap (λ k. tokens_of (take k (x ∷ y ∷ xs))) s ∙ ap (λ l. string_bytes x ∷ l) (all_but_last (length (y ∷ xs) - 1) (y ∷ xs) refl)

-- ---- operations

pub one_place : (new found : Option Tokens) (result place : Tokens) (o : Operation) → new ≡ Some result → reaches o ≡ place ∷ [] → IsWithin result found place → Narrows new found o
one_place new found result place o is reached within ts = (
  λ leads. let h = (within ts).0 (subst (LeadsToFound ts) is leads) in (h.0, ap (leads_to_each ts) reached ∙ and_true (leads_to ts place) true h.1 refl),
  λ h. subst (LeadsToFound ts) (sym is) ((within ts).1 (h.0, (both (leads_to ts place) true (sym (ap (leads_to_each ts) reached) ∙ h.1)).0)),
)

pub two_places : (new found : Option Tokens) (result first second other : Tokens) (o : Operation) → new ≡ Some result → reaches o ≡ first ∷ other ∷ [] → IsWithin second found first → IsWithin result (Some second) other → Narrows new found o
two_places new found result first second other o is reached within last ts = (
  λ leads.
      let h = (last ts).0 (subst (LeadsToFound ts) is leads) in
      let k = (within ts).0 h.0 in
      (k.0, ap (leads_to_each ts) reached ∙ and_true (leads_to ts first) (leads_to ts other && true) k.1 (and_true (leads_to ts other) true h.1 refl)),
  λ h.
      let two = both (leads_to ts first) (leads_to ts other && true) (sym (ap (leads_to_each ts) reached) ∙ h.1) in
      subst (LeadsToFound ts) (sym is) ((last ts).1 ((within ts).1 (h.0, two.0), (both (leads_to ts other) true two.1).0)),
)

pub all_and_one : (ts : Tokens) (os : List Operation) (o : Operation) → holds_all ts os ≡ true → leads_to_each ts (reaches o) ≡ true → holds_all ts (os ++ o ∷ []) ≡ true
all_and_one ts [] o h k = and_true (leads_to_each ts (reaches o)) true k refl
all_and_one ts (p ∷ os) o h k =
    let two = both (leads_to_each ts (reaches p)) (holds_all ts os) h in
    and_true (leads_to_each ts (reaches p)) (holds_all ts (os ++ o ∷ [])) two.0 (all_and_one ts os o two.1 k)

pub next_holds : (ts : Tokens) (os : List code.Operation) (i m : ℕ) (o : code.Operation) → m ≡ suc i → i < length os → o ≡ get_or os i o → holds_all ts (meanings (take i os)) ≡ true → leads_to_each ts (reaches (meaning o)) ≡ true
    → holds_all ts (meanings (take m os)) ≡ true
next_holds ts [] i m o s lt is h k = absurd (omega arith)
next_holds ts (p ∷ os) zero m o s lt is h k =
    subst (λ n. holds_all ts (meanings (take n (p ∷ os))) ≡ true) (sym s) (and_true (leads_to_each ts (reaches (meaning p))) true (subst (λ x. leads_to_each ts (reaches (meaning x)) ≡ true) is k) refl)
next_holds ts (p ∷ os) (suc i) m o s lt is h k =
    let two = both (leads_to_each ts (reaches (meaning p))) (holds_all ts (meanings (take i os))) h in
    subst (λ n. holds_all ts (meanings (take n (p ∷ os))) ≡ true) (sym s)
    (and_true (leads_to_each ts (reaches (meaning p))) (holds_all ts (meanings (take (suc i) os))) two.0 (next_holds ts os i (suc i) o refl (omega arith) is two.1 k))

holds_to : (ts : Tokens) (os : List code.Operation) (i m : ℕ) (o : code.Operation) → m ≡ suc i → i < length os → o ≡ get_or os i o → holds_all ts (meanings (take m os)) ≡ true
    → (holds_all ts (meanings (take i os)) ≡ true) × (leads_to_each ts (reaches (meaning o)) ≡ true)
holds_to ts [] i m o s lt is h = absurd (omega arith)
holds_to ts (p ∷ os) zero m o s lt is h =
    let two = both (leads_to_each ts (reaches (meaning p))) true (subst (λ n. holds_all ts (meanings (take n (p ∷ os))) ≡ true) s h) in
    (refl, subst (λ x. leads_to_each ts (reaches (meaning x)) ≡ true) (sym is) two.0)
holds_to ts (p ∷ os) (suc i) m o s lt is h =
    let two = both (leads_to_each ts (reaches (meaning p))) (holds_all ts (meanings (take (suc i) os))) (subst (λ n. holds_all ts (meanings (take n (p ∷ os))) ≡ true) s h) in
    let rest = holds_to ts os i (suc i) o refl (omega arith) is two.1 in
    (and_true (leads_to_each ts (reaches (meaning p))) (holds_all ts (meanings (take i os))) two.0 rest.0, rest.1)

-- the place that holds what the first operations reach, and no other that is as long
abbrev pub IsHolder : Option (Bor (List (String Global))) → List Operation → Type 0
IsHolder found os = (ts : Tokens) → (LeadsToFound ts (option_map (λ p. tokens_of p.now) found) ↔ (holds_all ts os ≡ true))

-- one operation more
pub holder_next : (new found : Option (Bor (List (String Global)))) (os : List code.Operation) (i m : ℕ) (o : code.Operation) → m ≡ suc i → i < length os → o ≡ get_or os i o
    → Narrows (option_map (λ p. tokens_of p.now) new) (option_map (λ p. tokens_of p.now) found) (meaning o) → IsHolder found (meanings (take i os)) → IsHolder new (meanings (take m os))
holder_next new found os i m o s lt is narrows before ts = (
  λ leads. let h = (narrows ts).0 leads in next_holds ts os i m o s lt is ((before ts).0 h.0) h.1,
  λ holds. let h = holds_to ts os i m o s lt is holds in (narrows ts).1 ((before ts).1 h.0, h.1),
)

take_past : (os : List code.Operation) (i : ℕ) → length os ≤ i → take i os ≡ os
take_past [] zero le = refl
take_past [] (suc i) le = refl
take_past (p ∷ os) zero le = absurd (omega arith)
take_past (p ∷ os) (suc i) le = ap (λ l. p ∷ l) (take_past os i (omega arith))

leads_to_itself : (ts : Tokens) → leads_to ts ts ≡ true
leads_to_itself [] = refl
leads_to_itself (t ∷ ts) = and_true (bytes_eq t t) (leads_to ts ts) (equals t) (leads_to_itself ts)

-- all of them
holder_all : (os : List code.Operation) (i : ℕ) (found : Option (Bor (List (String Global)))) → length os ≤ i → IsHolder found (meanings (take i os)) → IsHolder found (meanings os)
holder_all os i found le h = subst (λ l. IsHolder found (meanings l)) (take_past os i le) h

pub ends : (os : List code.Operation) (i : ℕ) (found : Option (Bor (List (String Global)))) → length os ≤ i → IsHolder found (meanings (take i os))
    → IfSome found (λ place. holds_all (tokens_of place.now) (meanings os) ≡ true)
ends os i None le h = tt
ends os i (Some place) le h = (holder_all os i (Some place) le h (tokens_of place.now)).0 (leads_to_itself (tokens_of place.now))

pub ends_longest : (os : List code.Operation) (i : ℕ) (found : Option (Bor (List (String Global)))) → length os ≤ i → IsHolder found (meanings (take i os))
    → IfSome found (λ place. (ts : Tokens) → holds_all ts (meanings os) ≡ true → leads_to ts (tokens_of place.now) ≡ true)
ends_longest os i None le h = tt
ends_longest os i (Some place) le h = λ ts holds. (holder_all os i (Some place) le h ts).1 holds

-- where none was found, each place holds all that they reach
pub ends_without : (os : List code.Operation) (i : ℕ) (found : Option (Bor (List (String Global)))) → length os ≤ i → IsHolder found (meanings (take i os))
    → (P : Type 0) → (((ts : Tokens) → holds_all ts (meanings os) ≡ true) → P) → IfNone found P
ends_without os i None le h P by = by (λ ts. (holder_all os i None le h ts).0 tt)
ends_without os i (Some place) le h P by = tt

-- ---- one operation alone

pub one_holds : (new : Option (Bor (List (String Global)))) (o : Operation) → Narrows (option_map (λ p. tokens_of p.now) new) None o
    → IfSome new (λ place. (d e : Doc) → change o d ≡ Ok e → KeepsBut (tokens_of place.now) d e)
one_holds None o narrows = tt
one_holds (Some place) o narrows = λ d e h. changed o (tokens_of place.now) d e ((narrows (tokens_of place.now)).0 (leads_to_itself (tokens_of place.now))).1 h

pub one_without : (new : Option (Bor (List (String Global)))) (o : Operation) → Narrows (option_map (λ p. tokens_of p.now) new) None o → IfNone new ((d e : Doc) → change o d ≡ Ok e → d ≡ e)
one_without None o narrows = λ d e h. unreached o d e (λ ts. ((narrows ts).0 tt).1) h
one_without (Some place) o narrows = tt
