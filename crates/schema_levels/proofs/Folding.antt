-- What a loop over children keeps, and what is then right of the value.
use Rattle.std.proofs.Common.{◌≡◌, ℕ, zero, suc, ◌+◌, ◌*◌, ◌/◌, ◌%◌, ◌^◌, ◌-◌, ◌<◌, ◌≤◌, List, [], ◌∷◌, ◌++◌, replicate, Bool, true, false, ◌&&◌, nat_eq, length, Option, Some, None, refl, sym, ap, ap₂, subst, ◌∙◌, arith, get_or, slice_index_or, drop, drop-cons, String, Global, string_bytes}
use Rattle.std.specs.Int.{bit_at}
use Rattle.std.proofs.lemmas.List.{get_or-replicate}
use Rattle.std.proofs.lemmas.Nat.Bits.{bit_at_ones, bit_at-zero}
use Rattle.doc_tree.specs.Doc.{Doc, text, Members, no_members, member}
use Rattle.schema_levels.specs.PlaceInValue.{PlaceInValue, name, index, member_name}
use Rattle.doc_tree.specs.TreeView.{view, elements_view, members_view}
use Rattle.doc_tree.specs.declared.tree.Tree.{Tree}
use Rattle.schema_graph.specs.Walks.{In, first}
use Rattle.schema_graph.proofs.Among.{In-left, In-right}
use Rattle.std.specs.Option.{option_to_list}
use Rattle.schema_levels.specs.Bits.{bit, size}
use Rattle.schema_levels.specs.Below.{below, found_passes, rule_below, rules_below, collect, fold}
use Rattle.schema_levels.specs.Closure.{close}
use Rattle.schema_levels.specs.Conclude.{conclude, rules_here}
use Rattle.schema_levels.specs.Nodes.{node_get, asked_here, asked_below, AreOrdered}
use Rattle.schema_levels.specs.Table.{Child, child_at, children, items_from, members_each, titles, IsTable, rules_together, lower, said}
use Rattle.schema_levels.specs.Levels.{AreJudged, AreFolded, AreKept, AreLowered, AreTold, AskNothing}
use Rattle.schema_levels.specs.declared.node.Node.{Node}
use Rattle.schema_levels.specs.declared.node.Rule.{Rule}
use Rattle.schema_levels.specs.declared.node.Rule.TheVariants.{Says, Asserts, Matches, All, Any, One, Not, Then, Else, Dependent, Refers, Properties, Matching, Others, Names, ByPlace, Rest, Contains, AtLeast, AtMost}
use Rattle.schema_levels.proofs.Sweeps.{sweep_len, collect_in}
use Rattle.schema_levels.proofs.Tables.{and_true, and_assoc, fold_is, lead_from, rules_at_get, within_get, settled_is}
use Rattle.schema_levels.proofs.Closing.{Falls, LeadsIn, close_leads, close_keeps}

pub zero_at : (n i : ℕ) → slice_index_or {A = ℕ} (replicate {A = ℕ} n 0) i 0 ≡ 0
zero_at zero i = refl
zero_at (suc n) zero = refl
zero_at (suc n) (suc i) = zero_at n i

pub none_clear : (n j : ℕ) → bit (replicate n 0) j ≡ false
none_clear n j = ap (λ w. nat_eq (bit_at w (j % 64)) 1) (zero_at n (j / 64)) ∙ ap (λ b. nat_eq b 1) (bit_at-zero (j % 64))

found_none : (o : Option ℕ) (known : ℕ → Bool) → ((j : ℕ) → In j (option_to_list o) → ⊥) → found_passes known o ≡ true
found_none None known h = refl
found_none (Some j) known h = absurd (h j first)

rule_none : (x : Node) (p : PlaceInValue) (known : ℕ → Bool) (r : Rule) → ((j : ℕ) → In j (option_to_list (below x r p)) → ⊥) → rule_below known x r p ≡ true
rule_none x p known (Says b) h = found_none (below x (Says b) p) known h
rule_none x p known (Asserts a) h = found_none (below x (Asserts a) p) known h
rule_none x p known (Matches n v) h = found_none (below x (Matches n v) p) known h
rule_none x p known (All v) h = found_none (below x (All v) p) known h
rule_none x p known (Any v) h = found_none (below x (Any v) p) known h
rule_none x p known (One v) h = found_none (below x (One v) p) known h
rule_none x p known (Not j) h = found_none (below x (Not j) p) known h
rule_none x p known (Then n j) h = found_none (below x (Then n j) p) known h
rule_none x p known (Else n j) h = found_none (below x (Else n j) p) known h
rule_none x p known (Dependent ns v) h = found_none (below x (Dependent ns v) p) known h
rule_none x p known (Refers j) h = found_none (below x (Refers j) p) known h
rule_none x p known Properties h = found_none (below x Properties p) known h
rule_none x p known (Matching q j) h = found_none (below x (Matching q j) p) known h
rule_none x p known (Others qs j) h = found_none (below x (Others qs j) p) known h
rule_none x p known (Names j) h = found_none (below x (Names j) p) known h
rule_none x p known (ByPlace v) h = found_none (below x (ByPlace v) p) known h
rule_none x p known (Rest j) h = found_none (below x (Rest j) p) known h
rule_none x p known (Contains j) h = refl
rule_none x p known (AtLeast j v) h = refl
rule_none x p known (AtMost j v) h = refl

rules_pass_all : (x : Node) (p : PlaceInValue) (known : ℕ → Bool) (rs : List Rule) → ((j : ℕ) → In j (asked_below x p rs) → ⊥) → rules_below known x p rs ≡ true
rules_pass_all x p known [] h = refl
rules_pass_all x p known (r ∷ rs) h =
    ap₂ (λ a b. a && b) (rule_none x p known r (λ j i. h j (In-left j _ _ i))) (rules_pass_all x p known rs (λ j i. h j (In-right j (option_to_list (below x r p)) _ i)))

lower_append : (known : ℕ → Doc → Bool) (x : Node) (cs ds : List Child) → lower known x (cs ++ ds) ≡ (lower known x cs && lower known x ds)
lower_append known x [] ds = refl
lower_append known x (c ∷ cs) ds =
    let here = rules_below (λ j. known j c.value) x c.place x.rules.items in
    ap (λ b. here && b) (lower_append known x cs ds) ∙ sym (and_assoc here (lower known x cs) (lower known x ds))

-- what is left of the children stands for all of them
abbrev pub Going : List Node → List ℕ → List ℕ → List ℕ → List Child → List Child → Type 0
Going nodes asked passed0 passed left all = (known : ℕ → Doc → Bool) → IsTable nodes known → (k : ℕ) (x : Node) → node_get nodes k ≡ Some x → bit asked k ≡ true → (bit passed k && lower known x left) ≡ (bit passed0 k && lower known x all)

-- the next child is joined
pub goes_on : (nodes : List Node) (asked passed0 passed passed' : List ℕ) (c : Child) (left cs all : List Child) → Going nodes asked passed0 passed left all → left ≡ c ∷ cs → AreFolded nodes asked (c ∷ []) passed passed' → Going nodes asked passed0 passed' cs all
goes_on nodes asked passed0 passed passed' c left cs all g e folded known table k x at on =
    let here = rules_below (λ j. known j c.value) x c.place x.rules.items in
    ap (λ b. b && lower known x cs) (folded known table k x at on ∙ ap (λ b. bit passed k && b) (and_true here))
    ∙ and_assoc (bit passed k) here (lower known x cs)
    ∙ subst (λ l. (bit passed k && lower known x l) ≡ (bit passed0 k && lower known x all)) e (g known table k x at on)

-- ---- one child

module _ (nodes : List Node) (order : AreOrdered nodes) (asked passed clear : List ℕ) (room : length nodes ≤ size passed) (clear_room : length nodes ≤ size clear) (c : Child) (begun : List ℕ) (begun_is : begun ≡ collect asked c.place 0 nodes clear) where
  pub one_folded : (child passed' : List ℕ) → AreJudged nodes c.value begun child → passed' ≡ fold (bit child) asked c.place 0 nodes passed → AreFolded nodes asked (c ∷ []) passed passed'
  one_folded child passed' judged passed_is known table k x at on =
      ap (λ bs. bit bs k) passed_is ∙ sym (and_true (bit (fold (bit child) asked c.place 0 nodes passed) k))
      ∙ fold_is nodes known table order asked c clear child clear_room (λ j lt on'. judged known table j lt (ap (λ bs. bit bs j) begun_is ∙ on')) passed [] room k x at on

  -- nothing is asked of it
  pub none_folded : ((j : ℕ) → bit begun j ≡ false) → AreFolded nodes asked (c ∷ []) passed passed
  none_folded none known table k x at on =
      let z : k ≡ 0 + k = omega arith in
      let passes = rules_pass_all x c.place (λ j. known j c.value) x.rules.items (λ j at'.
      let lt = order.among k j x c.place at at' in
      let is_in : bit begun j ≡ true = ap (λ bs. bit bs j) begun_is ∙ collect_in asked c.place 0 k j x nodes clear at (subst (λ n. bit asked n ≡ true) z on) at' (omega (arith, lt, clear_room)) in
      let out = none j in absurd cc) in
      sym (and_true (bit passed k)) ∙ ap (λ b. bit passed k && b) (sym (and_true (rules_below (λ j. known j c.value) x c.place x.rules.items) ∙ passes))

-- a set that is as it was when it was empty
pub none_in_clear : (n : ℕ) (bs : List ℕ) → bs ≡ replicate n 0 → (j : ℕ) → bit bs j ≡ false
none_in_clear n bs e j = ap (λ ws. bit ws j) e ∙ none_clear n j

pub ends : (nodes : List Node) (asked passed0 passed : List ℕ) (left all : List Child) → Going nodes asked passed0 passed left all → left ≡ [] → AreFolded nodes asked all passed0 passed
ends nodes asked passed0 passed left all g e known table k x at on = sym (and_true (bit passed k)) ∙ sym (ap (λ z. bit passed k && lower known x z) e) ∙ g known table k x at on

-- what is said child by child is all that is said of children that are no elements
pub lowered : (nodes : List Node) (asked : List ℕ) (t : Doc) (a b : List ℕ) → ((known : ℕ → Doc → Bool) (rs : List Rule) → rules_together known rs t ≡ true) → AreFolded nodes asked (children t) a b → AreLowered nodes asked t a b
lowered nodes asked t a b alone folded known table k x at on =
    let l = lower known x (children t) in
    folded known table k x at on ∙ ap (λ y. bit a k && y) (sym (and_true l) ∙ ap (λ y. l && y) (sym (alone known x.rules.items)))

-- of no children nothing is said
pub nothing_below : (nodes : List Node) (asked bs : List ℕ) → AreFolded nodes asked [] bs bs
nothing_below nodes asked bs known table k x at on = sym (and_true (bit bs k))

-- some children after others
pub folded_append : (nodes : List Node) (asked : List ℕ) (cs ds : List Child) (a b d : List ℕ) → AreFolded nodes asked cs a b → AreFolded nodes asked ds b d → AreFolded nodes asked (cs ++ ds) a d
folded_append nodes asked cs ds a b d f g known table k x at on =
    g known table k x at on ∙ ap (λ y. y && lower known x ds) (f known table k x at on)
    ∙ and_assoc (bit a k) (lower known x cs) (lower known x ds) ∙ ap (λ y. bit a k && y) (sym (lower_append known x cs ds))

-- ---- names

module _ (nodes : List Node) (order : AreOrdered nodes) (asked passed clear : List ℕ) (room : length nodes ≤ size passed) (clear_room : length nodes ≤ size clear) where
  -- nothing is asked of any
  pub titles_folded : (begun : List ℕ) → begun ≡ collect asked member_name 0 nodes clear → ((j : ℕ) → bit begun j ≡ false) → (ms : Members) → AreFolded nodes asked (titles ms) passed passed
  titles_folded begun e none no_members = nothing_below nodes asked passed
  titles_folded begun e none (member k d ms) = folded_append nodes asked (child_at member_name (text k) ∷ []) (titles ms) passed passed passed
      (none_folded nodes order asked passed clear room clear_room (child_at member_name (text k)) begun e none) (titles_folded begun e none ms)

  -- one is judged with all that was asked of names, and maybe more
  pub title_folded : (begun more child passed' s : List ℕ) → begun ≡ collect asked member_name 0 nodes clear → AreKept nodes begun more → AreJudged nodes (text s) more child → passed' ≡ fold (bit child) asked member_name 0 nodes passed
      → AreFolded nodes asked (child_at member_name (text s) ∷ []) passed passed'
  title_folded begun more child passed' s e kept judged is = one_folded nodes order asked passed clear room clear_room (child_at member_name (text s)) begun e child passed' (λ known table i lt on. judged known table i lt (kept i lt on)) is

pub title_next : (k : String Global) (s : List ℕ) (v : Tree) (es left : List (String Global × Tree)) → es ≡ (k, v) ∷ left → s ≡ string_bytes k → titles (members_view es) ≡ child_at member_name (text s) ∷ titles (members_view left)
title_next k s v es left e f = ap (λ l. titles (members_view l)) e ∙ ap (λ n. child_at member_name (text n) ∷ titles (members_view left)) (sym f)

-- what was asked is among what is asked once it is closed
pub closed_keeps : (nodes : List Node) (asked asked' : List ℕ) → length nodes ≤ size asked → asked' ≡ close nodes (length nodes) asked → AreKept nodes asked asked'
closed_keeps nodes asked asked' len e i lt on = ap (λ bs. bit bs i) e ∙ close_keeps nodes (length nodes) i asked on (omega (arith, lt, len))

-- ---- one child, and what was asked of it

module _ (nodes : List Node) (order : AreOrdered nodes) (asked clear : List ℕ) (clear_room : length nodes ≤ size clear) (p : PlaceInValue) (begun : List ℕ) (begun_is : begun ≡ collect asked p 0 nodes clear) where
  begun_in : (k j : ℕ) (x : Node) → node_get nodes k ≡ Some x → bit asked k ≡ true → In j (asked_below x p x.rules.items) → bit begun j ≡ true
  begun_in k j x at on at' =
      let z : k ≡ 0 + k = omega arith in
      let lt = order.among k j x p at at' in
      ap (λ bs. bit bs j) begun_is ∙ collect_in asked p 0 k j x nodes clear at (subst (λ n. bit asked n ≡ true) z on) at' (omega (arith, lt, clear_room))

  pub child_told : (t : Doc) (more child : List ℕ) → AreKept nodes begun more → AreJudged nodes t begun child → AreTold nodes asked p t more child
  child_told t more child kept judged known table k j x at on at' =
      let lt = order.among k j x p at at' in
      let is_in = begun_in k j x at on at' in
      (kept j lt is_in, judged known table j lt is_in)

  pub nothing_asked : ((j : ℕ) → bit begun j ≡ false) → AskNothing nodes asked p
  nothing_asked none k j x at on at' = let is_in = begun_in k j x at on at' in let out = none j in absurd cc

-- ---- the next child

pub item_next : (items : List Tree) (i : ℕ) (x : Tree) → i < length items → x ≡ get_or items i x → items_from i (elements_view (drop i items)) ≡ child_at (index i) (view x) ∷ items_from (i + 1) (elements_view (drop (i + 1) items))
item_next items i x lt e =
    let one : suc i ≡ i + 1 = omega arith in
    ap (λ l. items_from i (elements_view l)) (drop-cons items i x lt) ∙ ap (λ n. child_at (index i) (view (get_or items i x)) ∷ items_from n (elements_view (drop n items))) one ∙ ap (λ y. child_at (index i) (view y) ∷ items_from (i + 1) (elements_view (drop (i + 1) items))) (sym e)

pub member_next : (k : String Global) (s : List ℕ) (v : Tree) (es left : List (String Global × Tree)) → es ≡ (k, v) ∷ left → s ≡ string_bytes k → members_each (members_view es) ≡ child_at (name s) (view v) ∷ members_each (members_view left)
member_next k s v es left e f = ap (λ l. members_each (members_view l)) e ∙ ap (λ n. child_at (name n) (view v) ∷ members_each (members_view left)) (sym f)

-- ---- one value

all_in : (n i : ℕ) → i < 64 * n → bit (replicate n (2 ^ 64 - 1)) i ≡ true
all_in n i lt =
    let within : i / 64 < n = omega (arith, lt) in
    let low : i % 64 < 64 = omega arith in
    ap (λ w. nat_eq (bit_at w (i % 64)) 1) (get_or-replicate n (i / 64) (2 ^ 64 - 1) 0 within) ∙ ap (λ b. nat_eq b 1) (bit_at_ones 64 (i % 64) low)

falls : (nodes : List Node) (bs : List ℕ) → AreOrdered nodes → length nodes ≤ size bs → Falls nodes bs
falls nodes bs order len i j at =
    let x = lead_from nodes i j at in
    let less = order.falls i j x.0 x.1 (subst (λ rs. In j (asked_here rs)) (rules_at_get nodes i x.0 x.1) at) in
    let lt = within_get nodes i x.0 x.1 in
    (less, omega (arith, less, lt, len))

module _ (nodes : List Node) (order : AreOrdered nodes) (t : Doc) (asked passed asked' passed' passed'' result : List ℕ)
    (len : length nodes ≤ size asked) (len-passed : length nodes ≤ size passed)
    (opened_asked : asked' ≡ close nodes (length nodes) asked) (opened_passed : passed' ≡ replicate (length passed) (2 ^ 64 - 1))
    (lowered : AreLowered nodes asked' t passed' passed'') (len' : length nodes ≤ size passed'')
    (ends : result ≡ conclude t asked' 0 nodes passed'') where
  pub judge_right : AreJudged nodes t asked result
  judge_right known table i lt on =
      let closed : (k : ℕ) → LeadsIn nodes asked' k = λ k. subst (λ bs. LeadsIn nodes bs k) (sym opened_asked) (close_leads nodes asked (falls nodes asked order len) k) in
      let on' : bit asked' i ≡ true = ap (λ bs. bit bs i) opened_asked ∙ close_keeps nodes (length nodes) i asked on (omega (arith, lt, len)) in
      let start : (k : ℕ) (x : Node) → node_get nodes k ≡ Some x → bit asked' k ≡ true → bit passed'' k ≡ said known x t = λ k x at at'.
      let less = within_get nodes k x at in
      lowered known table k x at at' ∙ ap (λ b. b && said known x t) (ap (λ bs. bit bs k) opened_passed ∙ all_in (length passed) k (omega (arith, less, len-passed))) in
      ap (λ bs. bit bs i) ends ∙ settled_is nodes known table order asked' closed t passed'' len' start i lt on'

pub conclude_len : (t : Doc) (asked : List ℕ) (nodes : List Node) (bs : List ℕ) → length (conclude t asked 0 nodes bs) ≡ length bs
conclude_len t asked nodes bs = sweep_len (λ now x. rules_here (bit now) t x.rules.items) asked 0 nodes bs
