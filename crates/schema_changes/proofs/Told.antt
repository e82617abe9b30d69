-- What the tests of the code tell, where each node is judged.
use Rattle.std.proofs.Common.{◌≡◌, ℕ, ◌+◌, ◌<◌, ◌≤◌, ⊎_elim, List, [], ◌∷◌, ◌++◌, Bool, true, false, ◌&&◌, length, Option, Some, None, refl, sym, ap, subst, ◌∙◌, if◌then◌else◌, arith}
use Rattle.doc_tree.specs.Doc.{Doc}
use Rattle.schema_graph.specs.Walks.{In, first}
use Rattle.schema_graph.proofs.Among.{In-left, In-right, In-parts, none_in}
use Rattle.schema_levels.specs.Bits.{bit, mark_all, size}
use Rattle.schema_levels.specs.Closure.{here}
use Rattle.schema_levels.specs.Levels.{AreJudged}
use Rattle.schema_levels.specs.Nodes.{asked_here, node_get, AreOrdered}
use Rattle.schema_levels.specs.Table.{IsTable}
use Rattle.schema_levels.specs.declared.node.Node.{Node}
use Rattle.schema_levels.specs.declared.node.Rule.{Rule}
use Rattle.schema_levels.specs.declared.node.Rule.TheVariants.{Says, Asserts, Matches, All, Any, One, Not, Then, Else, Dependent, Refers, Properties, Matching, Others, Names, ByPlace, Rest, Contains, AtLeast, AtMost}
use Rattle.schema_levels.proofs.Marks.{mark_append}
use Rattle.schema_levels.proofs.Tables.{within_get}
use Rattle.schema_changes.specs.Again.{AllAgain, AllPass, Tells, anew_here, collect_anew, is_list, mark_anew, node_again, one_if, rules_again, some_counts}
use Rattle.schema_changes.proofs.Marking.{anew_all_here, mark_anew_rules_is, walk_in}
use Rattle.schema_changes.proofs.Rules.{rules_again_agree}
use Rattle.schema_changes.proofs.Values.{past_passes}

in_here : (r : Rule) (j : ℕ) → In j (anew_here r) → In j (here r)
in_here (Any v) j at = at
in_here (One v) j at = at
in_here (Not k) j at = at
in_here (Then c k) j at = at
in_here (Else c k) j at = at
in_here (Dependent ns v) j at = at
in_here (All v) j at = none_in j at
in_here (Refers k) j at = none_in j at
in_here (Says b) j at = none_in j at
in_here (Asserts a) j at = none_in j at
in_here (Matches n v) j at = none_in j at
in_here Properties j at = none_in j at
in_here (Matching q k) j at = none_in j at
in_here (Others qs k) j at = none_in j at
in_here (Names k) j at = none_in j at
in_here (ByPlace v) j at = none_in j at
in_here (Rest k) j at = none_in j at
in_here (Contains k) j at = none_in j at
in_here (AtLeast k v) j at = none_in j at
in_here (AtMost k v) j at = none_in j at

anew_asked : (rs : List Rule) (j : ℕ) → In j (anew_all_here rs) → In j (asked_here rs)
anew_asked [] j at = none_in j at
anew_asked (r ∷ rs) j at = ⊎_elim (λ h. In-left j (here r) (asked_here rs) (in_here r j h)) (λ h. In-right j (here r) (asked_here rs) (anew_asked rs j h)) (In-parts j (anew_here r) (anew_all_here rs) at)

anew_of : Bool → ℕ → Node → List ℕ
anew_of in_list n x = one_if (in_list && some_counts x.rules.items) n ++ anew_all_here x.rules.items

mark_anew_is : (in_list : Bool) (n : ℕ) (x : Node) (bs : List ℕ) → mark_anew in_list n x bs ≡ mark_all (anew_of in_list n x) bs
unfolding anew_of
mark_anew_is in_list n x bs =
    mark_anew_rules_is x.rules.items (mark_all (one_if (in_list && some_counts x.rules.items) n) bs) ∙ sym (mark_append (one_if (in_list && some_counts x.rules.items) n) (anew_all_here x.rules.items) bs)

module _ (nodes : List Node) (known : ℕ → Doc → Bool) (table : IsTable nodes known) (t : Doc) (asked : List ℕ) where
  -- a set of which each node was judged whole
  pub whole_told : (judging passed : List ℕ) (b : Bool) → judging ≡ asked → AreJudged nodes t judging passed → Tells b ((j : ℕ) → j < length nodes → bit asked j ≡ true → bit passed j ≡ true) → Tells b (AllPass known asked t)
  whole_told judging passed b is judged told = record {
    yes = λ e i on. by_node (node_get nodes i) refl (told.yes e) on;
    all = λ all. told.all (λ j lt on. judged known table j lt (ap (λ bs. bit bs j) is ∙ on) ∙ all j on);
  }
    where
      by_node : {i : ℕ} (o : Option Node) → node_get nodes i ≡ o → ((j : ℕ) → j < length nodes → bit asked j ≡ true → bit passed j ≡ true) → bit asked i ≡ true → known i t ≡ true
      by_node {i} None at h on = past_passes nodes known table i t at
      by_node {i} (Some x) at h on = let lt = within_get nodes i x at in sym (judged known table i lt (ap (λ bs. bit bs i) is ∙ on)) ∙ h i lt on

  module _ (order : AreOrdered nodes) (clear judging passed : List ℕ) (in_list : Bool) (room : length nodes ≤ size clear) (is : judging ≡ collect_anew in_list asked 0 nodes clear) (judged : AreJudged nodes t judging passed) where
    is_judged : (i j : ℕ) (x : Node) → node_get nodes i ≡ Some x → bit asked i ≡ true → In j (anew_of in_list i x) → j < length nodes → bit passed j ≡ known j t
    is_judged i j x at on in_j lt =
        let z : i ≡ 0 + i = omega arith in
        judged known table j lt (ap (λ bs. bit bs j) is
        ∙ walk_in (mark_anew in_list) (anew_of in_list) (mark_anew_is in_list) asked 0 i j x nodes clear at (subst (λ n. bit asked n ≡ true) z on) (subst (λ n. In j (anew_of in_list n x)) z in_j) (omega (arith, lt, room)))

    node_agrees : (i : ℕ) (x : Node) → node_get nodes i ≡ Some x → bit asked i ≡ true → node_again (bit passed) in_list t i x ≡ node_again (λ j. known j t) in_list t i x
    unfolding anew_of
    node_agrees i x at on = by_counts (in_list && some_counts x.rules.items) refl
      where
        by_counts : (b : Bool) → (in_list && some_counts x.rules.items) ≡ b → (if b then bit passed i else rules_again (bit passed) t x.rules.items) ≡ (if b then known i t else rules_again (λ j. known j t) t x.rules.items)
        by_counts true e = is_judged i i x at on (In-left i (one_if (in_list && some_counts x.rules.items) i) (anew_all_here x.rules.items) (subst (λ b. In i (one_if b i)) (sym e) first)) (within_get nodes i x at)
        by_counts false e = rules_again_agree (bit passed) (λ j. known j t) t x.rules.items (λ j in_j.
            let less = order.falls i j x at (anew_asked x.rules.items j in_j) in
            let lt = within_get nodes i x at in
            is_judged i j x at on (In-right j (one_if (in_list && some_counts x.rules.items) i) (anew_all_here x.rules.items) in_j) (omega (arith, less, lt)))

    -- a set of which each node was judged again
    pub again_told : (b : Bool) → in_list ≡ is_list t → Tells b (AllAgain (bit passed) in_list t nodes asked) → Tells b (AllAgain (λ j. known j t) (is_list t) t nodes asked)
    again_told b in_is told = record {
      yes = λ e i x at on. ap (λ l. node_again (λ j. known j t) l t i x) (sym in_is) ∙ sym (node_agrees i x at on) ∙ told.yes e i x at on;
      all = λ all. told.all (λ i x at on. node_agrees i x at on ∙ ap (λ l. node_again (λ j. known j t) l t i x) in_is ∙ all i x at on);
    }
