-- A step along the location: from the value to its child, and back.
use Rattle.std.proofs.Common.{◌≡◌, ℕ, ◌<◌, ◌≤◌, inl, inr, List, [], ◌∷◌, Bool, true, false, length, map, replicate, Option, Some, None, option_map, Bor, refl, sym, ap, subst, ◌∙◌, arith}
use Rattle.doc_tree.specs.Doc.{Doc, Place, child}
use Rattle.doc_tree.specs.Place.{place_of}
use Rattle.doc_tree.specs.TreeView.{view}
use Rattle.doc_tree.specs.declared.tree.Step.{Step}
use Rattle.doc_tree.specs.declared.tree.Tree.{Tree}
use Rattle.schema_levels.specs.Bits.{bit, size}
use Rattle.schema_levels.specs.Nodes.{node_get, AreOrdered}
use Rattle.schema_levels.specs.PlaceInValue.{PlaceInValue}
use Rattle.schema_levels.specs.Table.{IsTable}
use Rattle.schema_levels.specs.declared.node.Node.{Node}
use Rattle.schema_levels.proofs.Tables.{rules_at_get, within_get}
use Rattle.schema_graph.specs.Walks.{In}
use Rattle.schema_graph.proofs.Among.{none_in}
use Rattle.schema_changes.specs.Again.{AllAgain, AllPass, HoldsBy, HoldsHere, HoldsShifted, IsSorted, IsSteadyAt, NamePasses, PassBelow, ValuePasses, asked_at, closed, close_must, collect_must, is_list, mark_must_below, must_all_below, must_all_here, site_of}
use Rattle.schema_levels.proofs.Folding.{none_in_clear}
use Rattle.std.proofs.lemmas.List.{length-replicate}
use Rattle.schema_changes.proofs.Collecting.{from_set, to_set}
use Rattle.schema_changes.proofs.Marking.{Falls, LeadsIn, close_keeps, close_leads, close_out, mark_must_below_is, walk_len}
use Rattle.schema_changes.proofs.Values.{all_again, leads_pass, must_asked, none_past, pass_below, past_passes}

falls : (nodes : List Node) (bs : List ℕ) → AreOrdered nodes → length nodes ≤ size bs → Falls nodes bs
falls nodes bs order room i j at = by_node (node_get nodes i) refl
  where
    by_node : (o : Option Node) → node_get nodes i ≡ o → (j < i) × (j < size bs)
    by_node None e = none_in j (subst (λ rs. In j (must_all_here rs)) (none_past nodes i e) at)
    by_node (Some x) e =
        let less = order.falls i j x e (must_asked x.rules.items j (subst (λ rs. In j (must_all_here rs)) (rules_at_get nodes i x e) at)) in
        let lt = within_get nodes i x e in (less, omega (arith, less, lt, room))

module _ (nodes : List Node) (order : AreOrdered nodes) (known : ℕ → Doc → Bool) (table : IsTable nodes known) (asked closed : List ℕ) (room : length nodes ≤ size asked) (is : closed ≡ close_must nodes (length nodes) asked) where
  pub leads : (k : ℕ) → LeadsIn nodes closed k
  leads k = subst (λ bs. LeadsIn nodes bs k) (sym is) (close_leads nodes asked (falls nodes asked order room) k)

  -- what passes the set passes the closed one, and back
  pub to_closed : (t : Doc) → AllPass known asked t → AllPass known closed t
  to_closed t all j on = close_out nodes (λ i. known i t) (λ i k at e. leads_pass nodes known table t i k at e) (length nodes) asked all j (sym (ap (λ bs. bit bs j) is) ∙ on)

  pub from_closed : (t : Doc) → AllPass known closed t → AllPass known asked t
  from_closed t all i on = by_node (node_get nodes i) refl
    where
      by_node : (o : Option Node) → node_get nodes i ≡ o → known i t ≡ true
      by_node None e = past_passes nodes known table i t e
      by_node (Some x) e = let lt = within_get nodes i x e in all i (ap (λ bs. bit bs i) is ∙ close_keeps nodes (length nodes) i asked on (omega (arith, lt, room)))

  pub step_again : (new : Doc) → AllPass known asked new → AllAgain (λ j. known j new) (is_list new) new nodes closed
  step_again new all = all_again nodes known table closed new (to_closed new all)

  pub step_below : (new d : Doc) (p : Place) → AllPass known asked new → child p new ≡ Some d → PassBelow known nodes closed p d
  step_below new d p all at = pass_below nodes known table closed new p d (to_closed new all) at

-- ---- the set that is collected for a child

pub below_len : (nodes : List Node) (asked : List ℕ) (p : Place) → length (asked_at nodes asked p) ≡ length asked
below_len nodes asked p =
    walk_len (λ n y now. mark_must_below y (site_of p) y.rules.items now) (λ n y. must_all_below y (site_of p) y.rules.items) (λ n y bs. mark_must_below_is y (site_of p) y.rules.items bs) asked 0 nodes (replicate (length asked) 0)
    ∙ length-replicate (length asked) 0

module _ (nodes : List Node) (order : AreOrdered nodes) (known : ℕ → Doc → Bool) (asked : List ℕ) (room : length nodes ≤ size asked) (p : Place) (d : Doc) where
  clear_room : length nodes ≤ size (replicate (length asked) 0)
  clear_room = let len = length-replicate {A = ℕ} (length asked) 0 in omega (arith, len, room)

  pub from_below : AllPass known (asked_at nodes asked p) d → ValuePasses known nodes asked (site_of p) d
  from_below = from_set nodes order known asked (site_of p) (replicate (length asked) 0) (asked_at nodes asked p) clear_room (none_in_clear (length asked) (replicate (length asked) 0) refl) refl d

  pub to_below : ValuePasses known nodes asked (site_of p) d → AllPass known (asked_at nodes asked p) d
  to_below = to_set nodes order known asked (site_of p) (replicate (length asked) 0) (asked_at nodes asked p) clear_room (none_in_clear (length asked) (replicate (length asked) 0) refl) refl d

-- ---- what the code finds

pub no_places : (ss : List Step) → length ss ≡ 0 → map place_of ss ≡ []
no_places [] e = refl
no_places (s ∷ ss) e = absurd (omega (arith, e))

pub ends_here : (s : Bool) (nodes : List Node) (known : ℕ → Doc → Bool) (asked : List ℕ) (qs : List Place) (t : Doc) → qs ≡ [] → AllPass known asked t → HoldsBy s known nodes asked qs t
ends_here true nodes known asked qs t is all = subst (λ l. HoldsBy true known nodes asked l t) (sym is) all
ends_here false nodes known asked qs t is all = subst (λ l. HoldsBy false known nodes asked l t) (sym is) all

pub whole_holds : (s : Bool) (nodes : List Node) (known : ℕ → Doc → Bool) (asked : List ℕ) (p : Place) (ps qs : List Place) (t : Doc) → s ≡ true → ps ≡ [] → qs ≡ p ∷ ps → AllPass known asked t → HoldsBy s known nodes asked qs t
whole_holds s nodes known asked p ps qs t shifts none is all =
    subst (λ b. HoldsBy b known nodes asked qs t) (sym shifts) (subst (λ l. HoldsShifted known nodes asked l t) (sym (is ∙ ap (λ l. p ∷ l) none)) (inl all))

here_and_on : (s : Bool) (nodes : List Node) (known : ℕ → Doc → Bool) (asked : List ℕ) (p : Place) (ps : List Place) (t : Doc) → IsSteadyAt s p ps nodes (closed nodes asked) → HoldsHere known nodes (closed nodes asked) t
    → ((d : Doc) → child p t ≡ Some d → NamePasses known nodes (closed nodes asked) p × HoldsBy s known nodes (asked_at nodes (closed nodes asked) p) ps d) → HoldsBy s known nodes asked (p ∷ ps) t
here_and_on false nodes known asked p ps t steady here below = (here, below)
here_and_on true nodes known asked p [] t steady here below = inr (steady, (here, below))
here_and_on true nodes known asked p (q ∷ ps) t steady here below = (here, below)

pub goes_on : (s : Bool) (nodes : List Node) (known : ℕ → Doc → Bool) (asked bs : List ℕ) (p : Place) (ps qs : List Place) (t : Doc) → bs ≡ closed nodes asked → qs ≡ p ∷ ps → IsSteadyAt s p ps nodes bs → IsSorted t → AllAgain (λ j. known j t) (is_list t) t nodes bs
    → ((d : Doc) → child p t ≡ Some d → NamePasses known nodes bs p × HoldsBy s known nodes (asked_at nodes bs p) ps d) → HoldsBy s known nodes asked qs t
goes_on s nodes known asked bs p ps qs t is path_is steady sorted again below =
    subst (λ l. HoldsBy s known nodes asked l t) (sym path_is) (here_and_on s nodes known asked p ps t (subst (IsSteadyAt s p ps nodes) is steady)
    (record { sorted = sorted; again = subst (AllAgain (λ j. known j t) (is_list t) t nodes) is again })
    (subst (λ cs. (d : Doc) → child p t ≡ Some d → NamePasses known nodes cs p × HoldsBy s known nodes (asked_at nodes cs p) ps d) is below))

pub child_holds : (s : Bool) (nodes : List Node) (known : ℕ → Doc → Bool) (asked found : List ℕ) (p : Place) (ps : List Place) (v d : Doc) → found ≡ asked_at nodes asked p → v ≡ d → NamePasses known nodes asked p → HoldsBy s known nodes found ps v
    → NamePasses known nodes asked p × HoldsBy s known nodes (asked_at nodes asked p) ps d
child_holds s nodes known asked found p ps v d is same named along = (named, subst (HoldsBy s known nodes (asked_at nodes asked p) ps) same (subst (λ bs. HoldsBy s known nodes bs ps v) is along))

pub child_complete : (nodes : List Node) (order : AreOrdered nodes) (known : ℕ → Doc → Bool) (asked found : List ℕ) (room : length nodes ≤ size asked) (p : Place) (v : Doc) → found ≡ asked_at nodes asked p → PassBelow known nodes asked p v → AllPass known found v
child_complete nodes order known asked found room p v is h = subst (λ bs. AllPass known bs v) (sym is) (to_below nodes order known asked room p v h.value)

pub collected : (nodes : List Node) (asked clear found : List ℕ) (n : ℕ) (p : Place) (s : PlaceInValue) → n ≡ length asked → clear ≡ replicate n 0 → s ≡ site_of p → found ≡ collect_must asked s 0 nodes clear → found ≡ asked_at nodes asked p
collected nodes asked clear found n p s len empty site is =
    is ∙ ap (λ q. collect_must asked q 0 nodes clear) site ∙ ap (λ bs. collect_must asked (site_of p) 0 nodes bs) (empty ∙ ap (λ m. replicate m 0) len)

-- ---- the child that was found

pub found_some : (o : Option (Bor Tree)) (v : Bor Tree) → o ≡ Some v → option_map (λ x. view x.now) o ≡ Some (view v.now)
found_some o v e = ap (option_map (λ (x : Bor Tree). view x.now)) e

pub found_same : (o : Option (Bor Tree)) (v : Bor Tree) (d : Doc) → o ≡ Some v → option_map (λ x. view x.now) o ≡ Some d → view v.now ≡ d
found_same o v d e at = let both : Some (view v.now) ≡ Some d = sym (found_some o v e) ∙ at in cc
