-- The set that is collected for a child passes it exactly where each node that must does.
use Rattle.std.proofs.Common.{◌≡◌, ℕ, ◌+◌, ◌≤◌, ⊎_elim, List, [], ◌∷◌, Bool, true, false, length, sym, ap, subst, ◌∙◌, arith}
use Rattle.std.specs.Option.{option_to_list}
use Rattle.doc_tree.specs.Doc.{Doc, text, Place, name}
use Rattle.schema_graph.specs.Walks.{In}
use Rattle.schema_graph.proofs.Among.{In-left, In-right, In-parts, none_in}
use Rattle.schema_levels.specs.Below.{below}
use Rattle.schema_levels.specs.Bits.{bit, size}
use Rattle.schema_levels.specs.Nodes.{asked_below, AreOrdered}
use Rattle.schema_levels.specs.PlaceInValue.{PlaceInValue, member_name}
use Rattle.schema_levels.specs.declared.node.Node.{Node}
use Rattle.schema_levels.specs.declared.node.Rule.{Rule}
use Rattle.schema_levels.specs.declared.node.Rule.TheVariants.{Says, Asserts, Matches, All, Any, One, Not, Then, Else, Dependent, Refers, Properties, Matching, Others, Names, ByPlace, Rest, Contains, AtLeast, AtMost}
use Rattle.schema_changes.specs.Again.{AllPass, NamePasses, Tells, ValuePasses, collect_must, mark_must_below, must_all_below, must_below}
use Rattle.schema_changes.proofs.Marking.{mark_must_below_is, walk_in, walk_out}

in_below : (x : Node) (p : PlaceInValue) (r : Rule) (j : ℕ) → In j (option_to_list (must_below x r p)) → In j (option_to_list (below x r p))
in_below x p (Contains k) j at = none_in j at
in_below x p (AtLeast k v) j at = none_in j at
in_below x p (AtMost k v) j at = none_in j at
in_below x p (Says b) j at = at
in_below x p (Asserts a) j at = at
in_below x p (All v) j at = at
in_below x p (Any v) j at = at
in_below x p (One v) j at = at
in_below x p (Not k) j at = at
in_below x p (Then c k) j at = at
in_below x p (Else c k) j at = at
in_below x p (Dependent ns v) j at = at
in_below x p (Matches n v) j at = at
in_below x p (Refers k) j at = at
in_below x p Properties j at = at
in_below x p (Matching q k) j at = at
in_below x p (Others qs k) j at = at
in_below x p (Names k) j at = at
in_below x p (ByPlace v) j at = at
in_below x p (Rest k) j at = at

below_asked : (x : Node) (p : PlaceInValue) (rs : List Rule) (j : ℕ) → In j (must_all_below x p rs) → In j (asked_below x p rs)
below_asked x p [] j at = none_in j at
below_asked x p (r ∷ rs) j at = ⊎_elim
    (λ h. In-left j (option_to_list (below x r p)) (asked_below x p rs) (in_below x p r j h))
    (λ h. In-right j (option_to_list (below x r p)) (asked_below x p rs) (below_asked x p rs j h))
    (In-parts j (option_to_list (must_below x r p)) (must_all_below x p rs) at)

module _ (nodes : List Node) (order : AreOrdered nodes) (known : ℕ → Doc → Bool) (asked : List ℕ) (p : PlaceInValue) (clear found : List ℕ) (room : length nodes ≤ size clear) (none : (j : ℕ) → bit clear j ≡ false)
    (is : found ≡ collect_must asked p 0 nodes clear) (t : Doc) where
  pub from_set : AllPass known found t → ValuePasses known nodes asked p t
  from_set all i j x at on must =
      let z : i ≡ 0 + i = omega arith in
      let lt = order.among i j x p at (below_asked x p x.rules.items j must) in
      all j (ap (λ bs. bit bs j) is
      ∙ walk_in (λ n y now. mark_must_below y p y.rules.items now) (λ n y. must_all_below y p y.rules.items) (λ n y bs. mark_must_below_is y p y.rules.items bs) asked 0 i j x nodes clear at (subst (λ n. bit asked n ≡ true) z on) must (omega (arith, lt, room)))

  pub to_set : ValuePasses known nodes asked p t → AllPass known found t
  to_set all j on =
      walk_out (λ n y now. mark_must_below y p y.rules.items now) (λ n y. must_all_below y p y.rules.items) (λ n y bs. mark_must_below_is y p y.rules.items bs) asked (known j t ≡ true) j 0 nodes clear
      (λ (was : bit clear j ≡ true). absurd (let out = none j in cc))
      (λ k x at on' must. let z : 0 + k ≡ k = omega arith in all k j x at (subst (λ n. bit asked n ≡ true) z on') must)
      (sym (ap (λ bs. bit bs j) is) ∙ on)

-- a name
pub named : (known : ℕ → Doc → Bool) (nodes : List Node) (asked found s : List ℕ) (p : Place) (b : Bool) → p ≡ name s → Tells b (AllPass known found (text s)) → (AllPass known found (text s) → ValuePasses known nodes asked member_name (text s)) → (ValuePasses known nodes asked member_name (text s) → AllPass known found (text s))
    → Tells b (NamePasses known nodes asked p)
named known nodes asked found s p b is told there back = record {
  yes = λ e k same. (let names : s ≡ k = cc in subst (λ l. ValuePasses known nodes asked member_name (text l)) names (there (told.yes e)));
  all = λ all. told.all (back (all s is));
}
