-- What a loop over elements keeps of the counts, and what is then right of them.
use Rattle.std.proofs.Common.{◌≡◌, ◌≢◌, ℕ, zero, suc, ◌+◌, ◌/◌, ◌%◌, ◌^◌, ◌<◌, ◌≤◌, ◌⊎◌, ⊎_elim, List, [], ◌∷◌, ◌++◌, map, Bool, true, false, ◌&&◌, ◌||◌, length, Option, Some, None, refl, sym, ap, ap₂, subst, ◌∙◌, if◌then◌else◌, arith, drop, drop-cons, get_or, replicate, slice_get, set, nat_lt, slice_index_or, get_or-set_same, get_or-set_other, length-set}
use Rattle.std.specs.Option.{option_to_list}
use Rattle.std.proofs.lemmas.Option.{slice_get_within}
use Rattle.doc_tree.specs.Doc.{Doc, list, Elements, no_elements, element}
use Rattle.doc_tree.specs.Lists.{elements_list}
use Rattle.doc_tree.specs.TreeView.{view, elements_view}
use Rattle.doc_tree.specs.declared.tree.Tree.{Tree}
use Rattle.schema_graph.specs.Walks.{In, first, later}
use Rattle.schema_graph.proofs.Among.{In-right, none_in}
use Rattle.schema_graph.proofs.Numbers.{same_or_not}
use Rattle.schema_rules.specs.Assertions.{at_least, at_most}
use Rattle.schema_rules.specs.Rules.{some, how_many}
use Rattle.schema_levels.specs.PlaceInValue.{index}
use Rattle.schema_levels.specs.Bits.{bit, put, size}
use Rattle.schema_levels.specs.Below.{below}
use Rattle.schema_levels.specs.Counters.{counter, owns, HaveCounters, EachCounted, more, more_in_fourths, counted, count_of, fourth, held, most, one, unit, width, word_of, is_tallied, Tallied, rules_say, weigh, rules_count}
use Rattle.schema_levels.specs.Levels.{AreFolded, AreLowered, AreTold, AskNothing}
use Rattle.schema_levels.specs.Nodes.{node_get, asked_below, AreOrdered}
use Rattle.schema_levels.specs.Table.{IsTable, items_from, lower, rules_together}
use Rattle.schema_levels.specs.declared.counters.Counters.{Counters}
use Rattle.schema_levels.specs.declared.node.Node.{Node}
use Rattle.schema_levels.specs.declared.node.Rule.{Rule}
use Rattle.schema_levels.specs.declared.node.Rule.TheVariants.{Says, Asserts, Matches, All, Any, One, Not, Then, Else, Dependent, Refers, Properties, Matching, Others, Names, ByPlace, Rest, Contains, AtLeast, AtMost}
use Rattle.schema_levels.proofs.Giving.{is_it}
use Rattle.schema_levels.proofs.Marks.{bit_same, bit_other, set_len}
use Rattle.schema_levels.proofs.Folding.{none_clear, zero_at}
use Rattle.schema_levels.proofs.Sweeps.{sweep_at}
use Rattle.schema_levels.proofs.Tables.{and_assoc, within_get}

-- ---- counters

owned : (cs : Counters) (j : ℕ) → owns cs j ≡ true → slice_get cs.counted.items (counter cs j) ≡ Some j
owned cs j e = is_it j (slice_get cs.counted.items (counter cs j)) e

-- two nodes have no counter together
alone : (cs : Counters) (i j : ℕ) → owns cs i ≡ true → owns cs j ≡ true → i ≢ j → counter cs i ≢ counter cs j
alone cs i j oi oj ne e = ne (let both : Some i ≡ Some j = sym (owned cs i oi) ∙ ap (slice_get cs.counted.items) e ∙ owned cs j oj in cc)

fourth_zero : (part : ℕ) → fourth 0 part ≡ 0
fourth_zero zero = refl
fourth_zero (suc zero) = refl
fourth_zero (suc (suc zero)) = refl
fourth_zero (suc (suc (suc n))) = refl

set_past : (xs : List ℕ) (i v : ℕ) → length xs ≤ i → set xs i v ≡ xs
set_past [] i v le = refl
set_past (x ∷ xs) zero v le = absurd (omega arith)
set_past (x ∷ xs) (suc i) v le = ap (λ l. x ∷ l) (set_past xs i v (omega arith))

cases_of : (a b : ℕ) → (a < b) ⊎ (b ≤ a)
cases_of a b = grind arith

fourth_same : (w part : ℕ) → part < 4 → fourth w part < 65535 → fourth (w + unit part) part ≡ fourth w part + 1
fourth_same w zero lt less = omega (arith, less)
fourth_same w (suc zero) lt less = omega (arith, less)
fourth_same w (suc (suc zero)) lt less = omega (arith, less)
fourth_same w (suc (suc (suc zero))) lt less = omega (arith, less)
fourth_same w (suc (suc (suc (suc n)))) lt less = absurd (omega (arith, lt))

fourth_other : (w p q : ℕ) → p < 4 → q < 4 → q ≢ p → fourth w p < 65535 → fourth (w + unit p) q ≡ fourth w q
fourth_other w zero zero lp lq ne less = absurd (ne refl)
fourth_other w zero (suc zero) lp lq ne less = omega (arith, less)
fourth_other w zero (suc (suc zero)) lp lq ne less = omega (arith, less)
fourth_other w zero (suc (suc (suc zero))) lp lq ne less = omega (arith, less)
fourth_other w (suc zero) zero lp lq ne less = omega (arith, less)
fourth_other w (suc zero) (suc zero) lp lq ne less = absurd (ne refl)
fourth_other w (suc zero) (suc (suc zero)) lp lq ne less = omega (arith, less)
fourth_other w (suc zero) (suc (suc (suc zero))) lp lq ne less = omega (arith, less)
fourth_other w (suc (suc zero)) zero lp lq ne less = omega (arith, less)
fourth_other w (suc (suc zero)) (suc zero) lp lq ne less = omega (arith, less)
fourth_other w (suc (suc zero)) (suc (suc zero)) lp lq ne less = absurd (ne refl)
fourth_other w (suc (suc zero)) (suc (suc (suc zero))) lp lq ne less = omega (arith, less)
fourth_other w (suc (suc (suc zero))) zero lp lq ne less = omega (arith, less)
fourth_other w (suc (suc (suc zero))) (suc zero) lp lq ne less = omega (arith, less)
fourth_other w (suc (suc (suc zero))) (suc (suc zero)) lp lq ne less = omega (arith, less)
fourth_other w (suc (suc (suc zero))) (suc (suc (suc zero))) lp lq ne less = absurd (ne refl)
fourth_other w (suc (suc (suc (suc n)))) q lp lq ne less = absurd (omega (arith, lp))
fourth_other w p (suc (suc (suc (suc n)))) lp lq ne less = absurd (omega (arith, lq))

-- a quarter that isn't full makes no word overflow
pub fourth_fits : (w part : ℕ) → part < 4 → fourth w part < 65535 → w < 2 ^ 64 → w + unit part < 2 ^ 64
fourth_fits w zero lt less h = omega (arith, less, h)
fourth_fits w (suc zero) lt less h = omega (arith, less, h)
fourth_fits w (suc (suc zero)) lt less h = omega (arith, less, h)
fourth_fits w (suc (suc (suc zero))) lt less h = omega (arith, less, h)
fourth_fits w (suc (suc (suc (suc n)))) lt less h = absurd (omega (arith, lt))

part_within : (c : ℕ) → c % 4 < 4
part_within c = omega arith

less_is : (a b : ℕ) → a < b → nat_lt a b ≡ true
less_is a b lt = grind (arith, lt)

is_less : (a b : ℕ) → nat_lt a b ≡ true → a < b
is_less a b e = grind (arith, e)

more_same : (narrow : Bool) (counts : List ℕ) (c : ℕ) → word_of narrow c < length counts → held narrow counts c < most narrow → held narrow (more narrow counts c) c ≡ held narrow counts c + 1
unfolding more more_in_fourths
more_same true counts c lt less =
    let w = slice_index_or counts (c / 4) 0 in
    let yes : nat_lt (held true counts c) 65535 ≡ true = less_is (held true counts c) 65535 less in
    ap (λ b. held true (if b then set counts (c / 4) (w + unit (c % 4)) else counts) c) yes
    ∙ ap (λ v. fourth v (c % 4)) (get_or-set_same counts (c / 4) (w + unit (c % 4)) 0 lt) ∙ fourth_same w (c % 4) (part_within c) less
more_same false counts c lt less = get_or-set_same counts c ((slice_index_or counts c 0 + 1) % 2 ^ 64) 0 lt ∙ omega (arith, less)

other_word : (counts : List ℕ) (c d v : ℕ) → d / 4 ≢ c / 4 → held true (set counts (c / 4) v) d ≡ held true counts d
other_word counts c d v ne = ap (λ w. fourth w (d % 4)) (get_or-set_other counts (c / 4) (d / 4) v 0 ne)

other_part : (counts : List ℕ) (c d : ℕ) → d ≢ c → d / 4 ≡ c / 4 → fourth (slice_index_or counts (c / 4) 0) (c % 4) < 65535 → (c / 4 < length counts) ⊎ (length counts ≤ c / 4)
    → held true (set counts (c / 4) (slice_index_or counts (c / 4) 0 + unit (c % 4))) d ≡ held true counts d
other_part counts c d ne same less within =
    let w = slice_index_or counts (c / 4) 0 in
    let apart : d % 4 ≢ c % 4 = λ e. ne (omega (arith, e, same)) in
    ⊎_elim
    (λ lt. ap (λ n. fourth (slice_index_or (set counts (c / 4) (w + unit (c % 4))) n 0) (d % 4)) same
    ∙ ap (λ v. fourth v (d % 4)) (get_or-set_same counts (c / 4) (w + unit (c % 4)) 0 lt)
    ∙ fourth_other w (c % 4) (d % 4) (part_within c) (part_within d) apart less
    ∙ ap (λ n. fourth (slice_index_or counts n 0) (d % 4)) (sym same))
    (λ past. ap (λ l. held true l d) (set_past counts (c / 4) (w + unit (c % 4)) past))
    within

more_other : (narrow : Bool) (counts : List ℕ) (c d : ℕ) → d ≢ c → held narrow (more narrow counts c) d ≡ held narrow counts d
unfolding more more_in_fourths
more_other true counts c d ne = fourths_other (nat_lt (held true counts c) 65535) refl
  where
    fourths_other : (b : Bool) → nat_lt (held true counts c) 65535 ≡ b → held true (if b then set counts (c / 4) (slice_index_or counts (c / 4) 0 + unit (c % 4)) else counts) d ≡ held true counts d
    fourths_other true e = ⊎_elim
        (λ same. other_part counts c d ne same (is_less (held true counts c) 65535 e) (cases_of (c / 4) (length counts)))
        (λ apart. other_word counts c d (slice_index_or counts (c / 4) 0 + unit (c % 4)) apart)
        (same_or_not (d / 4) (c / 4))
    fourths_other false e = refl
more_other false counts c d ne = get_or-set_other counts c d ((slice_index_or counts c 0 + 1) % 2 ^ 64) 0 ne

more_len : (narrow : Bool) (counts : List ℕ) (c : ℕ) → length (more narrow counts c) ≡ length counts
unfolding more more_in_fourths
more_len true counts c = len (nat_lt (held true counts c) 65535)
  where
    len : (b : Bool) → length (if b then set counts (c / 4) (slice_index_or counts (c / 4) 0 + unit (c % 4)) else counts) ≡ length counts
    len true = length-set counts (c / 4) (slice_index_or counts (c / 4) 0 + unit (c % 4))
    len false = refl
more_len false counts c = length-set counts c ((slice_index_or counts c 0 + 1) % 2 ^ 64)

-- ---- one number of an element

or_false : (b : Bool) → (b || false) ≡ b
or_false true = refl
or_false false = refl

or_true : (b : Bool) → (b || true) ≡ true
or_true true = refl
or_true false = refl

cases : (a b : ℕ) → (a < b) ⊎ (b ≤ a)
cases a b = grind arith

module _ (cs : Counters) (narrow : Bool) (asked passed found0 counts0 : List ℕ) where
  pub none_tallied : (n : ℕ) → ((k : ℕ) → 0 ≤ k → k < n → bit asked k ≡ false) → Tallied cs narrow asked passed n found0 counts0 found0 counts0
  none_tallied n none = record {
    found_len = refl;
    counts_len = refl;
    found_in = λ j lt on len. (let off = none j (omega arith) lt in absurd cc);
    found_out = λ j le. refl;
    count_in = λ j lt o on len less. (let off = none j (omega arith) lt in absurd cc);
    count_out = λ j le o. refl;
  }

  module _ (n : ℕ) (found counts : List ℕ) (h : Tallied cs narrow asked passed n found0 counts0 found counts) where
    found_step : (b : Bool) → length (if b then put found n true else found) ≡ length found
    found_step true = set_len found n true
    found_step false = refl

    found_other : (b : Bool) (j : ℕ) → j ≢ n → bit (if b then put found n true else found) j ≡ bit found j
    found_other true j ne = bit_other found n j true ne
    found_other false j ne = refl

    found_here : (b : Bool) → n < size found → bit (if b then put found n true else found) n ≡ (bit found n || b)
    found_here true lt = bit_same found n true lt ∙ sym (or_true (bit found n))
    found_here false lt = sym (or_false (bit found n))

    counts_step : (b o : Bool) → length (if b then (if o then more narrow counts (counter cs n) else counts) else counts) ≡ length counts
    counts_step true true = more_len narrow counts (counter cs n)
    counts_step true false = refl
    counts_step false o = refl

    counts_other : (b o : Bool) (d : ℕ) → (o ≡ true → d ≢ counter cs n) → held narrow (if b then (if o then more narrow counts (counter cs n) else counts) else counts) d ≡ held narrow counts d
    counts_other true true d ne = more_other narrow counts (counter cs n) d (ne refl)
    counts_other true false d ne = refl
    counts_other false o d ne = refl

    counts_here : (b o : Bool) → o ≡ true → word_of narrow (counter cs n) < length counts → (b ≡ true → count_of cs narrow counts n < most narrow) → held narrow (if b then (if o then more narrow counts (counter cs n) else counts) else counts) (counter cs n) ≡ count_of cs narrow counts n + one b
    counts_here true true e lt less = more_same narrow counts (counter cs n) lt (less refl)
    counts_here true false e lt less = absurd cc
    counts_here false o e lt less = omega arith

    tallied_here : bit asked n ≡ true → is_tallied asked passed n ≡ bit passed n
    tallied_here on = ap (λ b. b && bit passed n) on

    earlier : {P : Type 0} (m j : ℕ) → ((k : ℕ) → n + 1 ≤ k → k < m → bit asked k ≡ false) → j < m → bit asked j ≡ true → j ≢ n → (j < n → P) → P
    earlier m j none lt on ne f = ⊎_elim f (λ (le : n ≤ j). let off = none j (omega (arith, ne, le)) lt in absurd cc) (cases j n)

    pub one_tallied : (m : ℕ) (found' counts' : List ℕ) → found' ≡ (if is_tallied asked passed n then put found n true else found) → counts' ≡ (if is_tallied asked passed n then counted cs narrow n counts else counts)
        → n + 1 ≤ m → ((k : ℕ) → n + 1 ≤ k → k < m → bit asked k ≡ false) → Tallied cs narrow asked passed m found0 counts0 found' counts'
    one_tallied m found' counts' is_found is_counts le none =
        let b = is_tallied asked passed n in
        let apart : (j : ℕ) → owns cs j ≡ true → j ≢ n → count_of cs narrow counts' j ≡ count_of cs narrow counts j = λ j o ne.
        ap (λ l. held narrow l (counter cs j)) is_counts ∙ counts_other b (owns cs n) (counter cs j) (λ on. alone cs j n o on ne) in
        let far : (j : ℕ) → j ≢ n → bit found' j ≡ bit found j = λ j ne. ap (λ l. bit l j) is_found ∙ found_other b j ne in
        record {
          found_len = ap length is_found ∙ found_step b ∙ h.found_len;
          counts_len = ap length is_counts ∙ counts_step b (owns cs n) ∙ h.counts_len;
          found_in = λ j lt on len. ⊎_elim
              (λ (same : j ≡ n). rw same (
              let on' : bit asked n ≡ true = subst (λ k. bit asked k ≡ true) same on in
              let len' : n < size found = omega (arith, len, same, h.found_len) in
              ap (λ l. bit l n) is_found ∙ found_here b len' ∙ ap₂ (λ x y. x || y) (h.found_out n (omega arith)) (tallied_here on')))
              (λ ne. far j ne ∙ earlier m j none lt on ne (λ less. h.found_in j less on len))
              (same_or_not j n);
          found_out = λ j past. far j (λ e. absurd (omega (arith, e, past, le))) ∙ h.found_out j (omega (arith, past, le));
          count_in = λ j lt o on len less. ⊎_elim
              (λ (same : j ≡ n). rw same (
              let on' : bit asked n ≡ true = subst (λ k. bit asked k ≡ true) same on in
              let o' : owns cs n ≡ true = subst (λ k. owns cs k ≡ true) same o in
              let was : count_of cs narrow counts n ≡ count_of cs narrow counts0 n = h.count_out n (omega arith) o' in
              let len' : word_of narrow (counter cs n) < length counts = subst (λ l. word_of narrow (counter cs n) < l) (sym h.counts_len) (subst (λ k. word_of narrow (counter cs k) < length counts0) same len) in
              ap (λ l. held narrow l (counter cs n)) is_counts
              ∙ counts_here b (owns cs n) o' len' (λ e. subst (λ w. w < most narrow) (sym was) (subst (λ k. count_of cs narrow counts0 k < most narrow) same (less (subst (λ k. bit passed k ≡ true) (sym same) (sym (tallied_here on') ∙ e)))))
              ∙ ap₂ (λ w y. w + one y) was (tallied_here on')))
              (λ ne. apart j o ne ∙ earlier m j none lt on ne (λ before. h.count_in j before o on len less))
              (same_or_not j n);
          count_out = λ j past o. apart j o (λ e. absurd (omega (arith, e, past, le))) ∙ h.count_out j (omega (arith, past, le)) o;
        }

-- ---- rules that speak of the elements together

-- the node that a rule asks of each element
abbrev pub looks : Rule → Option ℕ
looks (Contains j) = Some j
looks (AtLeast j v) = Some j
looks (AtMost j v) = Some j
looks _ = None

abbrev pub all_looked : List Rule → List ℕ
all_looked [] = []
all_looked (r ∷ rs) = option_to_list (looks r) ++ all_looked rs

same_or_later : (j i : ℕ) (xs ys : List ℕ) → (In j xs → In j ys) → In j (i ∷ xs) → In j (i ∷ ys)
same_or_later j i xs ys f first = first
same_or_later j i xs ys f (later at) = later (f at)

looked_below : (x : Node) (n j : ℕ) (rs : List Rule) → In j (all_looked rs) → In j (asked_below x (index n) rs)
looked_below x n j [] i = none_in j i
looked_below x n j (Says b ∷ rs) at = In-right j (option_to_list (below x (Says b) (index n))) _ (looked_below x n j rs at)
looked_below x n j (Asserts a ∷ rs) at = In-right j (option_to_list (below x (Asserts a) (index n))) _ (looked_below x n j rs at)
looked_below x n j (Matches m v ∷ rs) at = In-right j (option_to_list (below x (Matches m v) (index n))) _ (looked_below x n j rs at)
looked_below x n j (All v ∷ rs) at = In-right j (option_to_list (below x (All v) (index n))) _ (looked_below x n j rs at)
looked_below x n j (Any v ∷ rs) at = In-right j (option_to_list (below x (Any v) (index n))) _ (looked_below x n j rs at)
looked_below x n j (One v ∷ rs) at = In-right j (option_to_list (below x (One v) (index n))) _ (looked_below x n j rs at)
looked_below x n j (Not i ∷ rs) at = In-right j (option_to_list (below x (Not i) (index n))) _ (looked_below x n j rs at)
looked_below x n j (Then m i ∷ rs) at = In-right j (option_to_list (below x (Then m i) (index n))) _ (looked_below x n j rs at)
looked_below x n j (Else m i ∷ rs) at = In-right j (option_to_list (below x (Else m i) (index n))) _ (looked_below x n j rs at)
looked_below x n j (Dependent ns v ∷ rs) at = In-right j (option_to_list (below x (Dependent ns v) (index n))) _ (looked_below x n j rs at)
looked_below x n j (Refers i ∷ rs) at = In-right j (option_to_list (below x (Refers i) (index n))) _ (looked_below x n j rs at)
looked_below x n j (Properties ∷ rs) at = In-right j (option_to_list (below x Properties (index n))) _ (looked_below x n j rs at)
looked_below x n j (Matching q i ∷ rs) at = In-right j (option_to_list (below x (Matching q i) (index n))) _ (looked_below x n j rs at)
looked_below x n j (Others qs i ∷ rs) at = In-right j (option_to_list (below x (Others qs i) (index n))) _ (looked_below x n j rs at)
looked_below x n j (Names i ∷ rs) at = In-right j (option_to_list (below x (Names i) (index n))) _ (looked_below x n j rs at)
looked_below x n j (ByPlace v ∷ rs) at = In-right j (option_to_list (below x (ByPlace v) (index n))) _ (looked_below x n j rs at)
looked_below x n j (Rest i ∷ rs) at = In-right j (option_to_list (below x (Rest i) (index n))) _ (looked_below x n j rs at)
looked_below x n j (Contains i ∷ rs) at = same_or_later j i _ _ (looked_below x n j rs) at
looked_below x n j (AtLeast i v ∷ rs) at = same_or_later j i _ _ (looked_below x n j rs) at
looked_below x n j (AtMost i v ∷ rs) at = same_or_later j i _ _ (looked_below x n j rs) at

first_or_later : (cs : Counters) (j i : ℕ) (xs : List ℕ) → i < length cs.ranks.items → (In j xs → j < length cs.ranks.items) → In j (i ∷ xs) → j < length cs.ranks.items
first_or_later cs j _ xs lt f first = lt
first_or_later cs j i xs lt f (later at) = f at

within_ranks : (cs : Counters) (j : ℕ) (rs : List Rule) → HaveCounters cs rs → In j (all_looked rs) → j < length cs.ranks.items
within_ranks cs j [] h i = none_in j i
within_ranks cs j (Says b ∷ rs) h at = within_ranks cs j rs h.1 at
within_ranks cs j (Asserts a ∷ rs) h at = within_ranks cs j rs h.1 at
within_ranks cs j (Matches n v ∷ rs) h at = within_ranks cs j rs h.1 at
within_ranks cs j (All v ∷ rs) h at = within_ranks cs j rs h.1 at
within_ranks cs j (Any v ∷ rs) h at = within_ranks cs j rs h.1 at
within_ranks cs j (One v ∷ rs) h at = within_ranks cs j rs h.1 at
within_ranks cs j (Not i ∷ rs) h at = within_ranks cs j rs h.1 at
within_ranks cs j (Then n i ∷ rs) h at = within_ranks cs j rs h.1 at
within_ranks cs j (Else n i ∷ rs) h at = within_ranks cs j rs h.1 at
within_ranks cs j (Dependent ns v ∷ rs) h at = within_ranks cs j rs h.1 at
within_ranks cs j (Refers i ∷ rs) h at = within_ranks cs j rs h.1 at
within_ranks cs j (Properties ∷ rs) h at = within_ranks cs j rs h.1 at
within_ranks cs j (Matching q i ∷ rs) h at = within_ranks cs j rs h.1 at
within_ranks cs j (Others qs i ∷ rs) h at = within_ranks cs j rs h.1 at
within_ranks cs j (Names i ∷ rs) h at = within_ranks cs j rs h.1 at
within_ranks cs j (ByPlace v ∷ rs) h at = within_ranks cs j rs h.1 at
within_ranks cs j (Rest i ∷ rs) h at = within_ranks cs j rs h.1 at
within_ranks cs j (Contains i ∷ rs) h at = first_or_later cs j i (all_looked rs) h.0 (within_ranks cs j rs h.1) at
within_ranks cs j (AtLeast i v ∷ rs) h at = first_or_later cs j i (all_looked rs) h.0.0 (within_ranks cs j rs h.1) at
within_ranks cs j (AtMost i v ∷ rs) h at = first_or_later cs j i (all_looked rs) h.0.0 (within_ranks cs j rs h.1) at

has_counters : (nodes : List Node) (cs : Counters) (k : ℕ) (x : Node) → EachCounted nodes cs → node_get nodes k ≡ Some x → HaveCounters cs x.rules.items
has_counters [] cs k x h e = absurd cc
has_counters (y ∷ ys) cs zero x h e = let is : y ≡ x = cc in subst (λ z. HaveCounters cs z.rules.items) is h.0
has_counters (y ∷ ys) cs (suc k) x h e = has_counters ys cs k x h.1 e

-- ---- how many

many_step : (b : Bool) (bs : List Bool) → how_many (b ∷ bs) ≡ one b + how_many bs
many_step true bs = omega arith
many_step false bs = omega arith

many_most : (bs : List Bool) → how_many bs ≤ length bs
many_most [] = omega arith
many_most (true ∷ bs) = omega (arith, many_most bs)
many_most (false ∷ bs) = omega (arith, many_most bs)

map_len : (f : Doc → Bool) (ds : List Doc) → length (map f ds) ≡ length ds
map_len f [] = refl
map_len f (d ∷ ds) = ap suc (map_len f ds)

or_assoc : (a b c : Bool) → ((a || b) || c) ≡ (a || (b || c))
or_assoc true b c = refl
or_assoc false b c = refl

-- ---- the loop over the elements: what is found and counted, with what is left, is what all of them make
abbrev pub Counting : List Node → Counters → Bool → List ℕ → List ℕ → List ℕ → Elements → Elements → Type 0
Counting nodes cs narrow asked found counts left all = (known : ℕ → Doc → Bool) → IsTable nodes known → (k j : ℕ) (x : Node) → node_get nodes k ≡ Some x → bit asked k ≡ true → In j (all_looked x.rules.items)
    → ((bit found j || some (map (known j) (elements_list left))) ≡ some (map (known j) (elements_list all)))
    × (owns cs j ≡ true → count_of cs narrow counts j + how_many (map (known j) (elements_list left)) ≡ how_many (map (known j) (elements_list all)))

held_clear : (narrow : Bool) (n c : ℕ) → held narrow (replicate n 0) c ≡ 0
held_clear true n c = ap (λ w. fourth w (c % 4)) (zero_at n (c / 4)) ∙ fourth_zero (c % 4)
held_clear false n c = zero_at n c

within_words : (narrow : Bool) (c n m : ℕ) → c < n → width narrow n ≤ m → word_of narrow c < m
within_words true c n m lt le = omega (arith, lt, le)
within_words false c n m lt le = omega (arith, lt, le)

pub counting_begins : (nodes : List Node) (cs : Counters) (narrow : Bool) (asked : List ℕ) (w n : ℕ) (all : Elements) → Counting nodes cs narrow asked (replicate w 0) (replicate n 0) all all
counting_begins nodes cs narrow asked w n all known table k j x at on i =
    let none = none_clear w j in
    (ap (λ b. b || some (map (known j) (elements_list all))) none, λ o. (let zero_is = held_clear narrow n (counter cs j) in omega (arith, zero_is)))

-- nothing is asked of the next element
pub counting_skips : (nodes : List Node) (cs : Counters) (narrow : Bool) (asked found counts : List ℕ) (n : ℕ) (rest all : Elements) → AskNothing nodes asked (index n) → Counting nodes cs narrow asked found counts rest all
counting_skips nodes cs narrow asked found counts n rest all nothing known table k j x at on i = absurd (nothing k j x at on (looked_below x n j x.rules.items i))

module _ (nodes : List Node) (order : AreOrdered nodes) (cs : Counters) (each : EachCounted nodes cs) (narrow : Bool) (asked found0 counts0 found counts child_asked child_passed : List ℕ) (n upto : ℕ) (d : Doc) (left rest all : Elements)
    (room : length nodes ≤ size found0) (counters_room : width narrow (length cs.counted.items) ≤ length counts0) (reaches : length cs.ranks.items ≤ upto) (many : length (elements_list all) ≤ most narrow) where
  -- the next element is found and counted
  pub counting_goes : Counting nodes cs narrow asked found0 counts0 left all → left ≡ element d rest → AreTold nodes asked (index n) d child_asked child_passed → Tallied cs narrow child_asked child_passed upto found0 counts0 found counts
      → Counting nodes cs narrow asked found counts rest all
  counting_goes h e told t known table k j x at on i =
      let below_i = looked_below x n j x.rules.items i in
      let is_told = told known table k j x at on below_i in
      let of_j = h known table k j x at on i in
      let within : j < upto = omega (arith, within_ranks cs j x.rules.items (has_counters nodes cs k x each at) i, reaches) in
      let less = order.among k j x (index n) at below_i in
      let is_found = t.found_in j within is_told.0 (omega (arith, less, room)) in
      let bs : List Bool = map (known j) (elements_list rest) in
      let lists : elements_list left ≡ d ∷ elements_list rest = ap elements_list e in
      let count = count_of cs narrow counts0 j in
      let total : owns cs j ≡ true → count + (one (known j d) + how_many bs) ≡ how_many (map (known j) (elements_list all)) = λ o.
      ap (λ m. count + m) (sym (ap (λ l. how_many (map (known j) l)) lists ∙ many_step (known j d) bs)) ∙ of_j.1 o in (
        ap (λ b. b || some bs) (is_found ∙ ap (λ b. bit found0 j || b) is_told.1) ∙ or_assoc (bit found0 j) (known j d) (some bs) ∙ ap (λ l. bit found0 j || some (map (known j) l)) (sym lists) ∙ of_j.0,
        λ o.
            let bound : (bit child_passed j ≡ true) → count < most narrow = λ passes.
            let one_is : one (known j d) ≡ 1 = ap one (sym is_told.1 ∙ passes) in
            omega (arith, total o, one_is, many_most (map (known j) (elements_list all)), map_len (known j) (elements_list all), many) in
            let owner : word_of narrow (counter cs j) < length counts0 = within_words narrow (counter cs j) (length cs.counted.items) (length counts0) (slice_get_within cs.counted.items (counter cs j) j (owned cs j o)) counters_room in
            let is_counted = t.count_in j within o is_told.0 owner bound in
            omega (arith, is_counted, ap one is_told.1, total o),
      )

pub element_next : (items : List Tree) (i : ℕ) (x : Tree) → i < length items → x ≡ get_or items i x → elements_view (drop i items) ≡ element (view x) (elements_view (drop (i + 1) items))
element_next items i x lt e =
    let next : suc i ≡ i + 1 = omega arith in
    ap elements_view (drop-cons items i x lt) ∙ ap (λ n. element (view (get_or items i x)) (elements_view (drop n items))) next ∙ ap (λ y. element (view y) (elements_view (drop (i + 1) items))) (sym e)

-- ---- in the end

pub drop_all : {A : Type 0} (xs : List A) (i : ℕ) → length xs ≤ i → drop i xs ≡ []
drop_all [] zero le = refl
drop_all [] (suc i) le = refl
drop_all (x ∷ xs) zero le = absurd (omega arith)
drop_all (x ∷ xs) (suc i) le = drop_all xs i (omega arith)

rules_agree : (cs : Counters) (narrow : Bool) (found known_found : ℕ → Bool) (counts : List ℕ) (known_many : ℕ → ℕ) (rs : List Rule) → HaveCounters cs rs → ((j : ℕ) → In j (all_looked rs) → (found j ≡ known_found j) × (owns cs j ≡ true → count_of cs narrow counts j ≡ known_many j))
    → rules_say found (count_of cs narrow counts) rs ≡ rules_say known_found known_many rs
rules_agree cs narrow found f counts m [] h agree = refl
rules_agree cs narrow found f counts m (Says b ∷ rs) h agree = rules_agree cs narrow found f counts m rs h.1 agree
rules_agree cs narrow found f counts m (Asserts a ∷ rs) h agree = rules_agree cs narrow found f counts m rs h.1 agree
rules_agree cs narrow found f counts m (Matches n v ∷ rs) h agree = rules_agree cs narrow found f counts m rs h.1 agree
rules_agree cs narrow found f counts m (All v ∷ rs) h agree = rules_agree cs narrow found f counts m rs h.1 agree
rules_agree cs narrow found f counts m (Any v ∷ rs) h agree = rules_agree cs narrow found f counts m rs h.1 agree
rules_agree cs narrow found f counts m (One v ∷ rs) h agree = rules_agree cs narrow found f counts m rs h.1 agree
rules_agree cs narrow found f counts m (Not i ∷ rs) h agree = rules_agree cs narrow found f counts m rs h.1 agree
rules_agree cs narrow found f counts m (Then n i ∷ rs) h agree = rules_agree cs narrow found f counts m rs h.1 agree
rules_agree cs narrow found f counts m (Else n i ∷ rs) h agree = rules_agree cs narrow found f counts m rs h.1 agree
rules_agree cs narrow found f counts m (Dependent ns v ∷ rs) h agree = rules_agree cs narrow found f counts m rs h.1 agree
rules_agree cs narrow found f counts m (Refers i ∷ rs) h agree = rules_agree cs narrow found f counts m rs h.1 agree
rules_agree cs narrow found f counts m (Properties ∷ rs) h agree = rules_agree cs narrow found f counts m rs h.1 agree
rules_agree cs narrow found f counts m (Matching q i ∷ rs) h agree = rules_agree cs narrow found f counts m rs h.1 agree
rules_agree cs narrow found f counts m (Others qs i ∷ rs) h agree = rules_agree cs narrow found f counts m rs h.1 agree
rules_agree cs narrow found f counts m (Names i ∷ rs) h agree = rules_agree cs narrow found f counts m rs h.1 agree
rules_agree cs narrow found f counts m (ByPlace v ∷ rs) h agree = rules_agree cs narrow found f counts m rs h.1 agree
rules_agree cs narrow found f counts m (Rest i ∷ rs) h agree = rules_agree cs narrow found f counts m rs h.1 agree
rules_agree cs narrow found f counts m (Contains j ∷ rs) h agree = ap₂ (λ a b. a && b) (agree j first).0 (rules_agree cs narrow found f counts m rs h.1 (λ i at. agree i (later at)))
rules_agree cs narrow found f counts m (AtLeast j v ∷ rs) h agree = ap₂ (λ a b. at_least (view v) a && b) ((agree j first).1 h.0.1) (rules_agree cs narrow found f counts m rs h.1 (λ i at. agree i (later at)))
rules_agree cs narrow found f counts m (AtMost j v ∷ rs) h agree = ap₂ (λ a b. at_most (view v) a && b) ((agree j first).1 h.0.1) (rules_agree cs narrow found f counts m rs h.1 (λ i at. agree i (later at)))

module _ (nodes : List Node) (cs : Counters) (each : EachCounted nodes cs) (narrow : Bool) (asked old mid new found counts : List ℕ) (left all : Elements) (room : length nodes ≤ size mid) where
  pub counted_is : AreFolded nodes asked (items_from 0 all) old mid → Counting nodes cs narrow asked found counts left all → left ≡ no_elements → new ≡ weigh cs narrow (bit found) counts asked 0 nodes mid → AreLowered nodes asked (list all) old new
  counted_is folded h e is known table k x at on =
      let z : k ≡ 0 + k = omega arith in
      let lt = within_get nodes k x at in
      let part : Node → Bool = λ y. rules_count cs narrow (bit found) counts y.rules.items in
      let swept : bit (weigh cs narrow (bit found) counts asked 0 nodes mid) k ≡ (bit mid k && part x) =
      subst (λ i. bit (weigh cs narrow (bit found) counts asked 0 nodes mid) i ≡ (bit mid i && part x)) (sym z) (sweep_at (λ _ y. part y) asked part (λ b y. refl) 0 k x nodes mid at (subst (λ i. bit asked i ≡ true) z on) (omega (arith, lt, room))) in
      let none : elements_list left ≡ [] = ap elements_list e in
      let agree = rules_agree cs narrow (bit found) (λ j. some (map (known j) (elements_list all))) counts (λ j. how_many (map (known j) (elements_list all))) x.rules.items (has_counters nodes cs k x each at) (λ j i.
      let of_j = h known table k j x at on i in (
        sym (or_false (bit found j)) ∙ ap (λ l. bit found j || some (map (known j) l)) (sym none) ∙ of_j.0,
        λ o. (let zero_left : how_many (map (known j) (elements_list left)) ≡ 0 = ap (λ l. how_many (map (known j) l)) none in omega (arith, of_j.1 o, zero_left)),
      )) in
      ap (λ bs. bit bs k) is ∙ swept ∙ ap₂ (λ a b. a && b) (folded known table k x at on) agree ∙ and_assoc (bit old k) (lower known x (items_from 0 all)) (rules_together known x.rules.items (list all))
