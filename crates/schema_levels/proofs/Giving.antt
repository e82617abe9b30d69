-- Nodes that have a counter keep it while others get theirs.
use Rattle.std.proofs.Common.{◌≡◌, ℕ, zero, suc, ◌+◌, ◌<◌, ⊎_elim, List, [], ◌∷◌, ◌++◌, true, length, Option, Some, None, Result, Ok, Err, IfOk, set, refl, sym, ap, subst, ◌∙◌, arith, drop, drop-cons, get_or, slice_get, slice_index_or, get_or-set_same, get_or-set_other, length-set}
use Rattle.std.proofs.lemmas.Bool.{eqb-true, eq-eqb}
use Rattle.std.proofs.lemmas.List.{length-append}
use Rattle.schema_graph.proofs.Numbers.{same_or_not}
use Rattle.schema_levels.specs.Counters.{counter, is_number, owns, HasCounter, HaveCounters, EachCounted, Keeps, wants, wanted, wanted_in}
use Rattle.schema_levels.specs.declared.counters.Counters.{Counters}
use Rattle.schema_levels.specs.declared.node.Node.{Node}
use Rattle.schema_levels.specs.declared.node.Rule.{Rule}
use Rattle.schema_levels.specs.declared.node.Rule.TheVariants.{Says, Asserts, Matches, All, Any, One, Not, Then, Else, Dependent, Refers, Properties, Matching, Others, Names, ByPlace, Rest, Contains, AtLeast, AtMost}

pub if_ok : {A E : Type 0} {P Q : A → Type 0} (r : Result A E) → ((a : A) → P a → Q a) → IfOk r P → IfOk r Q
if_ok (Ok a) f h = f a h
if_ok (Err e) f h = tt

pub kept : (a : Counters) → Keeps a a
kept a = record { ranks = omega arith; owners = λ j o. o }

pub kept_on : (a b c : Counters) → Keeps a b → Keeps b c → Keeps a c
kept_on a b c h g = record { ranks = omega (arith, h.ranks, g.ranks); owners = λ j o. g.owners j (h.owners j o) }

rule_kept : (a b : Counters) (r : Rule) → Keeps a b → HasCounter a r → HasCounter b r
rule_kept a b (Contains j) h i = omega (arith, i, h.ranks)
rule_kept a b (AtLeast j v) h i = (omega (arith, i.0, h.ranks), h.owners j i.1)
rule_kept a b (AtMost j v) h i = (omega (arith, i.0, h.ranks), h.owners j i.1)
rule_kept a b (Says x) h i = tt
rule_kept a b (Asserts s) h i = tt
rule_kept a b (Matches n v) h i = tt
rule_kept a b (All v) h i = tt
rule_kept a b (Any v) h i = tt
rule_kept a b (One v) h i = tt
rule_kept a b (Not j) h i = tt
rule_kept a b (Then n j) h i = tt
rule_kept a b (Else n j) h i = tt
rule_kept a b (Dependent ns v) h i = tt
rule_kept a b (Refers j) h i = tt
rule_kept a b Properties h i = tt
rule_kept a b (Matching q j) h i = tt
rule_kept a b (Others qs j) h i = tt
rule_kept a b (Names j) h i = tt
rule_kept a b (ByPlace v) h i = tt
rule_kept a b (Rest j) h i = tt

rules_kept : (a b : Counters) (rs : List Rule) → Keeps a b → HaveCounters a rs → HaveCounters b rs
rules_kept a b [] h i = tt
rules_kept a b (r ∷ rs) h i = (rule_kept a b r h i.0, rules_kept a b rs h i.1)

-- ---- what is left of the rules and of the nodes stands for all of them

abbrev pub RulesLeft : Counters → List Rule → List Rule → Type 0
RulesLeft now left all = (c : Counters) → Keeps now c → HaveCounters c left → HaveCounters c all

pub rules_go : (now now' : Counters) (rules all : List Rule) (i : ℕ) (r : Rule) → i < length rules → r ≡ get_or rules i r → RulesLeft now (drop i rules) all → Keeps now now' → HasCounter now' r → RulesLeft now' (drop (i + 1) rules) all
rules_go now now' rules all i r lt is h keeps has c keeps' left =
    let next : suc i ≡ i + 1 = omega arith in
    h c (kept_on now now' c keeps keeps') (subst (HaveCounters c) (sym (drop-cons rules i r lt)) (subst (HasCounter c) is (rule_kept now' c r keeps' has), subst (λ n. HaveCounters c (drop n rules)) (sym next) left))

abbrev pub NodesLeft : Counters → List Node → List Node → Type 0
NodesLeft now left all = (c : Counters) → Keeps now c → EachCounted left c → EachCounted all c

pub nodes_go : (now now' : Counters) (nodes all : List Node) (i : ℕ) (x : Node) → i < length nodes → x ≡ get_or nodes i x → NodesLeft now (drop i nodes) all → Keeps now now' → HaveCounters now' x.rules.items → NodesLeft now' (drop (i + 1) nodes) all
nodes_go now now' nodes all i x lt is h keeps has c keeps' left =
    let next : suc i ≡ i + 1 = omega arith in
    h c (kept_on now now' c keeps keeps') (subst (λ l. EachCounted l c) (sym (drop-cons nodes i x lt))
    (subst (λ y. HaveCounters c y.rules.items) is (rules_kept now' c x.rules.items keeps' has), subst (λ n. EachCounted (drop n nodes) c) (sym next) left))

-- ---- how many counters what is left wants

pub wanted_left : (rules : List Rule) (i : ℕ) (r : Rule) → i < length rules → r ≡ get_or rules i r → wanted (drop i rules) ≡ wants r + wanted (drop (i + 1) rules)
wanted_left rules i r lt is =
    let next : suc i ≡ i + 1 = omega arith in
    ap wanted (drop-cons rules i r lt) ∙ ap (λ n. wants (get_or rules i r) + wanted (drop n rules)) next ∙ ap (λ y. wants y + wanted (drop (i + 1) rules)) (sym is)

pub wanted_in_left : (nodes : List Node) (i : ℕ) (x : Node) → i < length nodes → x ≡ get_or nodes i x → wanted_in (drop i nodes) ≡ wanted x.rules.items + wanted_in (drop (i + 1) nodes)
wanted_in_left nodes i x lt is =
    let next : suc i ≡ i + 1 = omega arith in
    ap wanted_in (drop-cons nodes i x lt) ∙ ap (λ n. wanted (get_or nodes i x).rules.items + wanted_in (drop n nodes)) next ∙ ap (λ y. wanted y.rules.items + wanted_in (drop (i + 1) nodes)) (sym is)

-- ---- one more rank, and one more counter

index_longer : (xs : List ℕ) (j : ℕ) → slice_index_or (xs ++ 0 ∷ []) j 0 ≡ slice_index_or xs j 0
index_longer [] zero = refl
index_longer [] (suc j) = refl
index_longer (x ∷ xs) zero = refl
index_longer (x ∷ xs) (suc j) = index_longer xs j

get_longer : (xs : List ℕ) (n c j : ℕ) → slice_get xs c ≡ Some j → slice_get (xs ++ n ∷ []) c ≡ Some j
get_longer [] n c j e = absurd cc
get_longer (x ∷ xs) n zero j e = e
get_longer (x ∷ xs) n (suc c) j e = get_longer xs n c j e

get_last : (xs : List ℕ) (n : ℕ) → slice_get (xs ++ n ∷ []) (length xs) ≡ Some n
get_last [] n = refl
get_last (x ∷ xs) n = get_last xs n

pub is_it : (j : ℕ) (o : Option ℕ) → is_number j o ≡ true → o ≡ Some j
is_it j None e = absurd cc
is_it j (Some n) e = ap (λ m. Some m) (eqb-true n j e)

it_is : (j : ℕ) (o : Option ℕ) → o ≡ Some j → is_number j o ≡ true
it_is j None e = absurd cc
it_is j (Some n) e = let same : n ≡ j = cc in eq-eqb n j same

pub rank_more : (a b : Counters) → b.ranks.items ≡ a.ranks.items ++ 0 ∷ [] → b.counted.items ≡ a.counted.items → Keeps a b
rank_more a b ranks counted = record {
  ranks = let more = ap length ranks ∙ length-append a.ranks.items (0 ∷ []) in omega (arith, more);
  owners = λ j o. (let same : counter b j ≡ counter a j = ap (λ l. slice_index_or l j 0) ranks ∙ index_longer a.ranks.items j in ap (is_number j) (ap (slice_get b.counted.items) same ∙ ap (λ l. slice_get l (counter a j)) counted) ∙ o);
}

module _ (a b : Counters) (n : ℕ) (lt : n < length a.ranks.items) (ranks : b.ranks.items ≡ set a.ranks.items n (length a.counted.items)) (counted : b.counted.items ≡ a.counted.items ++ n ∷ []) where
  pub counter_given : owns b n ≡ true
  counter_given =
      let at : counter b n ≡ length a.counted.items = ap (λ l. slice_index_or l n 0) ranks ∙ get_or-set_same a.ranks.items n (length a.counted.items) 0 lt in
      it_is n (slice_get b.counted.items (counter b n)) (ap (slice_get b.counted.items) at ∙ ap (λ l. slice_get l (length a.counted.items)) counted ∙ get_last a.counted.items n)

  pub counter_more : Keeps a b
  counter_more = record {
    ranks = let same = ap length ranks ∙ length-set a.ranks.items n (length a.counted.items) in omega (arith, same);
    owners = λ j o. ⊎_elim
        (λ (same : j ≡ n). subst (λ i. owns b i ≡ true) (sym same) counter_given)
        (λ ne.
        let at : counter b j ≡ counter a j = ap (λ l. slice_index_or l j 0) ranks ∙ get_or-set_other a.ranks.items n j (length a.counted.items) 0 ne in
        it_is j (slice_get b.counted.items (counter b j)) (ap (slice_get b.counted.items) at ∙ ap (λ l. slice_get l (counter a j)) counted ∙ get_longer a.counted.items n (counter a j) j (is_it j (slice_get a.counted.items (counter a j)) o)))
        (same_or_not j n);
  }
