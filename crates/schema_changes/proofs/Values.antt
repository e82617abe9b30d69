-- One value along a change: what must pass it passes exactly where what is judged again does.
use Rattle.std.proofs.Common.{◌≡◌, ℕ, zero, suc, ◌<◌, ⊎_elim, List, [], ◌∷◌, Bool, true, false, ◌&&◌, Option, Some, None, refl, sym, subst, ◌∙◌, if◌then◌else◌, arith}
use Rattle.doc_tree.specs.Doc.{Doc, text, Place, name, child}
use Rattle.schema_graph.specs.Walks.{In}
use Rattle.schema_graph.proofs.Among.{In-left, In-parts, In-right, none_in}
use Rattle.schema_levels.specs.Below.{rules_below}
use Rattle.schema_levels.specs.Bits.{bit}
use Rattle.schema_levels.specs.Closure.{here, rules_at}
use Rattle.schema_levels.specs.Nodes.{asked_here, node_get, AreOrdered}
use Rattle.schema_levels.specs.Conclude.{rules_here}
use Rattle.schema_levels.specs.PlaceInValue.{member_name}
use Rattle.schema_levels.specs.Table.{Child, children, IsTable, lower, rules_together, said}
use Rattle.schema_levels.specs.declared.node.Node.{Node}
use Rattle.schema_levels.specs.declared.node.Rule.{Rule}
use Rattle.schema_levels.specs.declared.node.Rule.TheVariants.{Says, Asserts, Matches, All, Any, One, Not, Then, Else, Dependent, Refers, Properties, Matching, Others, Names, ByPlace, Rest, Contains, AtLeast, AtMost}
use Rattle.schema_levels.proofs.Tables.{passes_past, rules_at_get, table_at}
use Rattle.schema_changes.specs.Again.{AllAgain, AllPass, HoldsHere, PassBelow, is_list, must_all_here, must_here, node_again, rules_again, site_of, some_counts}
use Rattle.schema_changes.proofs.Marking.{LeadsIn}
use Rattle.schema_changes.proofs.Children.{both_true, child_of, children_all, left_true, named_of, right_true}
use Rattle.schema_changes.proofs.Rules.{lower_each, rules_again_from, rules_below_from, rules_below_must, rules_here_from, rules_must, together_alone}

pub none_past : (xs : List Node) (i : ℕ) → node_get xs i ≡ None → rules_at xs i ≡ []
none_past [] i e = refl
none_past (y ∷ ys) zero e = absurd cc
none_past (y ∷ ys) (suc i) e = none_past ys i e

in_here : (r : Rule) (j : ℕ) → In j (must_here r) → In j (here r)
in_here (All v) j at = at
in_here (Refers k) j at = at
in_here (Says b) j at = none_in j at
in_here (Asserts a) j at = none_in j at
in_here (Any v) j at = none_in j at
in_here (One v) j at = none_in j at
in_here (Not k) j at = none_in j at
in_here (Then c k) j at = none_in j at
in_here (Else c k) j at = none_in j at
in_here (Dependent ns v) j at = none_in j at
in_here (Matches n v) j at = none_in j at
in_here Properties j at = none_in j at
in_here (Matching q k) j at = none_in j at
in_here (Others qs k) j at = none_in j at
in_here (Names k) j at = none_in j at
in_here (ByPlace v) j at = none_in j at
in_here (Rest k) j at = none_in j at
in_here (Contains k) j at = none_in j at
in_here (AtLeast k v) j at = none_in j at
in_here (AtMost k v) j at = none_in j at

-- what must pass is asked
pub must_asked : (rs : List Rule) (j : ℕ) → In j (must_all_here rs) → In j (asked_here rs)
must_asked [] j at = none_in j at
must_asked (r ∷ rs) j at = ⊎_elim (λ h. In-left j (here r) (asked_here rs) (in_here r j h)) (λ h. In-right j (here r) (asked_here rs) (must_asked rs j h)) (In-parts j (must_here r) (must_all_here rs) at)

module _ (nodes : List Node) (known : ℕ → Doc → Bool) (table : IsTable nodes known) where
  -- what a node that passes says, part by part
  passes_parts : (i : ℕ) (x : Node) (t : Doc) → node_get nodes i ≡ Some x → known i t ≡ true → (lower known x (children t) ≡ true) × (rules_together known x.rules.items t ≡ true) × (rules_here (λ j. known j t) t x.rules.items ≡ true)
  passes_parts i x t at e =
      let all : (said known x t && rules_here (λ j. known j t) t x.rules.items) ≡ true = sym (table_at nodes known table i x t at) ∙ e in
      let children_said = left_true (said known x t) (rules_here (λ j. known j t) t x.rules.items) all in (
        left_true (lower known x (children t)) (rules_together known x.rules.items t) children_said,
        right_true (lower known x (children t)) (rules_together known x.rules.items t) children_said,
        right_true (said known x t) (rules_here (λ j. known j t) t x.rules.items) all,
      )

  from_parts : (i : ℕ) (x : Node) (t : Doc) → node_get nodes i ≡ Some x → lower known x (children t) ≡ true → rules_together known x.rules.items t ≡ true → rules_here (λ j. known j t) t x.rules.items ≡ true → known i t ≡ true
  from_parts i x t at l g h =
      table_at nodes known table i x t at
      ∙ both_true (said known x t) (rules_here (λ j. known j t) t x.rules.items) (both_true (lower known x (children t)) (rules_together known x.rules.items t) l g) h

  pub past_passes : (i : ℕ) (t : Doc) → node_get nodes i ≡ None → known i t ≡ true
  past_passes i t e = table i t ∙ passes_past known nodes i t e

  -- ---- where all pass, so do those that they need

  pub must_pass : (t : Doc) (i j : ℕ) (x : Node) → node_get nodes i ≡ Some x → known i t ≡ true → In j (must_all_here x.rules.items) → known j t ≡ true
  must_pass t i j x at e i_in = rules_must (λ j. known j t) t x.rules.items j (passes_parts i x t at e).2 i_in

  pub leads_pass : (t : Doc) (i j : ℕ) → In j (must_all_here (rules_at nodes i)) → known i t ≡ true → known j t ≡ true
  leads_pass t i j at e = by_node (node_get nodes i) refl
    where
      by_node : (o : Option Node) → node_get nodes i ≡ o → known j t ≡ true
      by_node (Some x) found = must_pass t i j x found e (subst (λ rs. In j (must_all_here rs)) (rules_at_get nodes i x found) at)
      by_node None found = none_in j (subst (λ rs. In j (must_all_here rs)) (none_past nodes i found) at)

  pub again_holds : (t : Doc) (i : ℕ) (x : Node) → node_get nodes i ≡ Some x → known i t ≡ true → node_again (λ j. known j t) (is_list t) t i x ≡ true
  again_holds t i x at e = by_counts (is_list t && some_counts x.rules.items)
    where
      by_counts : (b : Bool) → (if b then known i t else rules_again (λ j. known j t) t x.rules.items) ≡ true
      by_counts true = e
      by_counts false = rules_again_from (λ j. known j t) t x.rules.items (passes_parts i x t at e).2

  pub all_again : (asked : List ℕ) (t : Doc) → AllPass known asked t → AllAgain (λ j. known j t) (is_list t) t nodes asked
  all_again asked t all i x at on = again_holds t i x at (all i on)

  pub pass_below : (asked : List ℕ) (t : Doc) (p : Place) (d : Doc) → AllPass known asked t → child p t ≡ Some d → PassBelow known nodes asked p d
  pass_below asked t p d all at = record {
    value = λ i j x found on must. (let low = sym (lower_each known x x.rules.items (children t)) ∙ (passes_parts i x t found (all i on)).0 in
        rules_below_must (λ j. known j d) x (site_of p) x.rules.items j (child_of (λ c. rules_below (λ j. known j c.value) x c.place x.rules.items) p d t low at) must);
    named = λ k is i j x found on must. (let low = sym (lower_each known x x.rules.items (children t)) ∙ (passes_parts i x t found (all i on)).0 in
        rules_below_must (λ j. known j (text k)) x member_name x.rules.items j (named_of (λ c. rules_below (λ j. known j c.value) x c.place x.rules.items) k d t low (subst (λ q. child q t ≡ Some d) is at)) must);
  }

  -- ---- what holds again, with children that pass, passes

  module _ (order : AreOrdered nodes) (asked : List ℕ) (new : Doc) (closed : (i : ℕ) → LeadsIn nodes asked i) (holds : HoldsHere known nodes asked new) (below : (q : Place) (d : Doc) → child q new ≡ Some d → PassBelow known nodes asked q d) where
    lower_holds : (i : ℕ) (x : Node) → node_get nodes i ≡ Some x → bit asked i ≡ true → lower known x (children new) ≡ true
    lower_holds i x at on =
        lower_each known x x.rules.items (children new)
        ∙ children_all P new holds.sorted
        (λ q d found. rules_below_from (λ j. known j d) x (site_of q) x.rules.items (λ j must. (below q d found).value i j x at on must))
        (λ k d found. rules_below_from (λ j. known j (text k)) x member_name x.rules.items (λ j must. (below (name k) d found).named k refl i j x at on must))
      where
        P : Child → Bool
        P c = rules_below (λ j. known j c.value) x c.place x.rules.items

    node_holds : (i : ℕ) (x : Node) → node_get nodes i ≡ Some x → bit asked i ≡ true → ((j : ℕ) → j < i → bit asked j ≡ true → known j new ≡ true) → known i new ≡ true
    node_holds i x at on before = by_counts (is_list new && some_counts x.rules.items) refl (holds.again i x at on)
      where
        musts : (j : ℕ) → In j (must_all_here x.rules.items) → known j new ≡ true
        musts j must = before j (order.falls i j x at (must_asked x.rules.items j must)) (closed i on j (subst (λ rs. In j (must_all_here rs)) (sym (rules_at_get nodes i x at)) must))

        by_counts : (b : Bool) → (is_list new && some_counts x.rules.items) ≡ b → (if b then known i new else rules_again (λ j. known j new) new x.rules.items) ≡ true → known i new ≡ true
        by_counts true e h = h
        by_counts false e h = from_parts i x new at (lower_holds i x at on) (together_alone known x.rules.items new e) (rules_here_from (λ j. known j new) new x.rules.items musts h)

    by_node : (i : ℕ) (o : Option Node) → node_get nodes i ≡ o → bit asked i ≡ true → ((j : ℕ) → j < i → bit asked j ≡ true → known j new ≡ true) → known i new ≡ true
    by_node i None found on before = past_passes i new found
    by_node i (Some x) found on before = node_holds i x found on before

    below_holds : (n i : ℕ) → i < n → bit asked i ≡ true → known i new ≡ true
    below_holds zero i lt on = absurd (omega arith)
    below_holds (suc n) i lt on = by_node i (node_get nodes i) refl on (λ j less on'. below_holds n j (omega arith) on')

    -- all that must pass the new value do
    pub all_hold : AllPass known asked new
    all_hold i on = below_holds (suc i) i (omega arith) on
