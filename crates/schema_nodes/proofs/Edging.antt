-- The graph of the entries: its edges lead to entries, and where no schema leads back to itself none of them does.
use Rattle.std.proofs.Common.{◌≡◌, ℕ, zero, suc, ◌⊎◌, inl, inr, ⊎_elim, List, [], ◌∷◌, ◌++◌, length, true, Option, Some, None, option_map, Vec, Global, refl, sym, ap, subst, ◌∙◌, append-nil, append_assoc, arith, slice_get}
use Rattle.std.specs.Option.{option_to_list}
use Rattle.std.specs.Prelude.{MatchOption}
use Rattle.schema_graph.specs.Orders.{IsOrder}
use Rattle.schema_graph.specs.declared.walk.Order.{Order}
use Rattle.doc_tree.specs.Doc.{Doc, null, boolean, Members, no_members, member}
use Rattle.doc_tree.specs.Lists.{elements_list, values_list}
use Rattle.doc_tree.specs.TreeView.{view}
use Rattle.schema_graph.specs.Numbered.{Graph, row_at, IsClosed, IsCyclic, numbers_of}
use Rattle.schema_graph.specs.Walks.{In, first, later, Walk, IsLooped}
use Rattle.schema_graph.proofs.Among.{In-left, In-right, In-parts, none_in}
use Rattle.schema_graph.proofs.Rounds.{walked}
use Rattle.schema_rules.specs.Keywords.{keyword_of, shape_of}
use Rattle.schema_rules.specs.Parts.{elements_in, members_in}
use Rattle.schema_rules.specs.References.{target}
use Rattle.schema_rules.specs.Schemas.{schemas, held_in, applied_by, applied_by_members, applied}
use Rattle.schema_rules.specs.declared.keyword.Keyword.{Keyword}
use Rattle.schema_rules.specs.declared.keyword.Keyword.TheVariants.{AllOf, AnyOf, OneOf, Not, If, Then, Else, DependentSchemas, Ref}
use Rattle.schema_nodes.specs.declared.entries.Entry.{Entry}
use Rattle.schema_nodes.specs.declared.targets.Targets.{Targets}
use Rattle.schema_nodes.specs.Edges.{edges_at, edges_in, AreEdges}
use Rattle.schema_nodes.specs.Entries.{doc_at, StandFor, AreRows, AreEntries}
use Rattle.schema_nodes.specs.Fits.{AreTargets, target_number}
use Rattle.schema_nodes.specs.Nodes.{or_else}
use Rattle.schema_nodes.proofs.Fitting.{finds}
use Rattle.schema_nodes.proofs.RuleKinds.{rows_at, placed_at, doc_is, entry_at, within_entries}

-- ---- the loop over the entries

pub record Edging (ts : Targets) (root : Doc) (left all : List Entry) (graph : Graph) : Type 0 where
  pub rest : (more : Graph) → AreEdges ts root left more → AreEdges ts root all (graph ++ more)

pub edging : (ts : Targets) (root : Doc) (all : List Entry) → Edging ts root all all []
edging ts root all = record { rest = λ more h. h }

pub edging_on : (ts : Targets) (root : Doc) (left left' all : List Entry) (graph : Graph) (e : Entry) (row : Vec ℕ Global) → Edging ts root left all graph → left ≡ e ∷ left'
    → row.items ≡ edges_in ts root (members_in (view e.schema.now)) e.rows.items → Edging ts root left' all (graph ++ row ∷ [])
edging_on ts root left left' all graph e row m is h = record {
  rest = λ more k. subst (λ l. AreEdges ts root all l) (sym (append_assoc graph (row ∷ []) more)) (m.rest (row ∷ more) (subst (λ l. AreEdges ts root l (row ∷ more)) (sym is) (h, k)));
}

pub edged : (ts : Targets) (root : Doc) (left all : List Entry) (graph : Graph) → Edging ts root left all graph → left ≡ [] → AreEdges ts root all graph
edged ts root left all graph m e = subst (λ l. AreEdges ts root all l) (append-nil graph) (m.rest [] (subst (λ l. AreEdges ts root l []) (sym e) tt))

-- ---- its rows

pub edges_many : (ts : Targets) (root : Doc) (es : List Entry) (g : Graph) → AreEdges ts root es g → length g ≡ length es
edges_many ts root [] [] h = refl
edges_many ts root (e ∷ es) (r ∷ g) h = ap suc (edges_many ts root es g h.1)
edges_many ts root [] (r ∷ g) h = absurd h
edges_many ts root (e ∷ es) [] h = absurd h

pub edges_is : (ts : Targets) (root : Doc) (es : List Entry) (g : Graph) (n : ℕ) (e : Entry) → AreEdges ts root es g → slice_get es n ≡ Some e → row_at g n ≡ edges_in ts root (members_in (view e.schema.now)) e.rows.items
edges_is ts root [] g n e h i = absurd cc
edges_is ts root (x ∷ es) (r ∷ g) zero e h i = let same : x ≡ e = cc in subst (λ y. r.items ≡ edges_in ts root (members_in (view y.schema.now)) y.rows.items) same h.0
edges_is ts root (x ∷ es) (r ∷ g) (suc n) e h i = edges_is ts root es g n e h.1 i
edges_is ts root (x ∷ es) [] n e h i = absurd h

row_entry : (ts : Targets) (root : Doc) (es : List Entry) (g : Graph) (a b : ℕ) → AreEdges ts root es g → In b (row_at g a) → (e : Entry) × (slice_get es a ≡ Some e)
row_entry ts root [] [] a b h i = none_in b i
row_entry ts root (x ∷ es) (r ∷ g) zero b h i = (x, refl)
row_entry ts root (x ∷ es) (r ∷ g) (suc a) b h i = row_entry ts root es g a b h.1 i
row_entry ts root [] (r ∷ g) a b h i = absurd h
row_entry ts root (x ∷ es) [] a b h i = absurd h

-- ---- what an edge leads to

-- what is found with two different defaults is there
pub both : (o : Option Doc) (d : Doc) → or_else (boolean true) o ≡ d → or_else null o ≡ d → o ≡ Some d
both None d e f = let no : boolean true ≡ null = e ∙ sym f in absurd cc
both (Some c) d e f = ap (λ x. Some x) e

module _ (ts : Targets) (root : Doc) (es : List Entry) (targets : (x : Doc) → AreTargets (λ n. or_else x (doc_at es n)) root ts) where
  stands_in : (row : List ℕ) (ds : List Doc) → StandFor (doc_at es) row ds → (b : ℕ) → In b row → (d : Doc) × (doc_at es b ≡ Some d) × In d ds
  stands_in [] ds h b i = none_in b i
  stands_in (c ∷ row) (d ∷ ds) h _ first = (d, h.0, first)
  stands_in (c ∷ row) (d ∷ ds) h b (later i) = let r = stands_in row ds h.1 b i in (r.0, r.1, later r.2)
  stands_in (c ∷ row) [] h b i = absurd h

  reference_leads : (v : Doc) (o : Option ℕ) → target_number ts root v ≡ o → (b : ℕ) → In b (option_to_list o) → (d : Doc) × (doc_at es b ≡ Some d) × In d (option_to_list (target root v))
  reference_leads v None e b i = none_in b i
  reference_leads v (Some c) e b (later i) = none_in b i
  reference_leads v (Some _) e b first =
      let says : (x : Doc) → Some (or_else x (doc_at es b)) ≡ target root v = λ x. sym (ap (option_map (λ n. or_else x (doc_at es n))) e) ∙ finds (λ n. or_else x (doc_at es n)) root ts (targets x) v in
      by_target (target root v) (says (boolean true)) (says null)
    where
      by_target : (t : Option Doc) → Some (or_else (boolean true) (doc_at es b)) ≡ t → Some (or_else null (doc_at es b)) ≡ t → (d : Doc) × (doc_at es b ≡ Some d) × In d (option_to_list t)
      by_target None e f = absurd cc
      by_target (Some d) e f =
          let e' : or_else (boolean true) (doc_at es b) ≡ d = cc in
          let f' : or_else null (doc_at es b) ≡ d = cc in
          (d, both (doc_at es b) d e' f', first)

  member_leads : (k : Keyword) (v : Doc) (row : List ℕ) → StandFor (doc_at es) row (held_in (shape_of k) v) → (b : ℕ) → In b (edges_at ts root k v row) → (d : Doc) × (doc_at es b ≡ Some d) × In d (applied_by root k v)
  member_leads AllOf v row h b i = stands_in row (elements_list (elements_in v)) h b i
  member_leads AnyOf v row h b i = stands_in row (elements_list (elements_in v)) h b i
  member_leads OneOf v row h b i = stands_in row (elements_list (elements_in v)) h b i
  member_leads Not v row h b i = stands_in row (v ∷ []) h b i
  member_leads If v row h b i = stands_in row (v ∷ []) h b i
  member_leads Then v row h b i = stands_in row (v ∷ []) h b i
  member_leads Else v row h b i = stands_in row (v ∷ []) h b i
  member_leads DependentSchemas v row h b i = stands_in row (values_list (members_in v)) h b i
  member_leads Ref v row h b i = reference_leads v (target_number ts root v) refl b i
  member_leads _ v row h b i = none_in b i

  members_lead : (ms : Members) (rows : List (Vec ℕ Global)) → AreRows (doc_at es) ms rows → (b : ℕ) → In b (edges_in ts root ms rows) → (d : Doc) × (doc_at es b ≡ Some d) × In d (applied_by_members root ms)
  members_lead no_members [] h b i = none_in b i
  members_lead (member k v ms) (row ∷ rows) h b i =
      ⊎_elim (λ a. (let r = member_leads (keyword_of k) v row.items h.0 b a in (r.0, r.1, In-left r.0 _ _ r.2)))
      (λ c. (let r = members_lead ms rows h.1 b c in (r.0, r.1, In-right r.0 (applied_by root (keyword_of k) v) _ r.2)))
      (In-parts b (edges_at ts root (keyword_of k) v row.items) (edges_in ts root ms rows) i)
  members_lead no_members (row ∷ rows) h b i = absurd h
  members_lead (member k v ms) [] h b i = absurd h

  module _ (are : AreEntries root es) (g : Graph) (edges : AreEdges ts root es g) where
    pub edge_leads : (a b : ℕ) → In b (row_at g a) → (c d : Doc) × (doc_at es a ≡ Some c) × (doc_at es b ≡ Some d) × In d (applied root c)
    edge_leads a b i =
        let e = row_entry ts root es g a b edges i in
        let row = edges_is ts root es g a e.0 edges e.1 in
        let r = members_lead (members_in (view e.0.schema.now)) e.0.rows.items (rows_at root (doc_at es) es a e.0 are e.1) b (subst (λ (l : List ℕ). In b l) row i) in
        (view e.0.schema.now, r.0, doc_is es a e.0 e.1, r.1, r.2)

    pub graph_closed : IsClosed g
    graph_closed a b i = let r = edge_leads a b i in omega (arith, within_entries es b r.1 r.3, edges_many ts root es g edges)

    walk_leads : (n a b : ℕ) (c : Doc) → doc_at es a ≡ Some c → Walk (row_at g) a b n → (d : Doc) × (doc_at es b ≡ Some d) × Walk (applied root) c d n
    walk_leads zero a b c e w = (c, subst (λ x. doc_at es x ≡ Some c) w e, refl)
    walk_leads (suc n) a b c e w =
        let r = edge_leads a w.0 w.1 in
        let same : r.0 ≡ c = some_is r.0 c (sym r.2 ∙ e) in
        let rest = walk_leads n w.0 b r.1 r.3 w.2 in
        (rest.0, rest.1, (r.1, subst (λ x. In r.1 (applied root x)) same r.4, rest.2))
      where
        some_is : (x y : Doc) → Some x ≡ Some y → x ≡ y
        some_is x y f = cc

    pub graph_cyclic : IsCyclic g → IsLooped (applied root) (schemas root)
    graph_cyclic c =
        let l : IsLooped (row_at g) (numbers_of g) = walked (row_at g) (numbers_of g) c in
        let r = edge_leads l.0 l.3.0 l.3.1 in
        let w = walk_leads (suc l.2) l.0 l.0 r.0 r.2 l.3 in
        let same : w.0 ≡ r.0 = some_is w.0 r.0 (sym w.1 ∙ r.2) in
        let e = entry_at es l.0 r.0 r.2 in
        (r.0, subst (λ x. In x (schemas root)) e.2 (placed_at root (doc_at es) es l.0 e.0 are e.1), l.2, subst (λ x. Walk (applied root) r.0 x (suc l.2)) same w.2)
      where
        some_is : (x y : Doc) → Some x ≡ Some y → x ≡ y
        some_is x y f = cc

-- ---- at the end of the loops

pub edges_none : (ts : Targets) (root : Doc) (ms : Members) (rows : List (Vec ℕ Global)) → (ms ≡ no_members) ⊎ (length rows ≡ 0) → edges_in ts root ms rows ≡ []
edges_none ts root no_members [] h = refl
edges_none ts root no_members (row ∷ rows) h = refl
edges_none ts root (member k v ms) [] h = refl
edges_none ts root (member k v ms) (row ∷ rows) (inl e) = absurd cc
edges_none ts root (member k v ms) (row ∷ rows) (inr e) = absurd (omega (arith, e))

-- ---- what the walk over the graph found

pub order_is : (g : Graph) (o : Option Order) (x : Order) → MatchOption o (IsCyclic g) (λ y. IsOrder g y.places.items y.ranks.items) → o ≡ Some x → IsOrder g x.places.items x.ranks.items
order_is g None x h e = absurd cc
order_is g (Some y) x h e = let same : y ≡ x = cc in subst (λ z. IsOrder g z.places.items z.ranks.items) same h

pub loop_is : (g : Graph) (o : Option Order) → MatchOption o (IsCyclic g) (λ y. IsOrder g y.places.items y.ranks.items) → o ≡ None → IsCyclic g
loop_is g None h e = h
loop_is g (Some y) h e = absurd cc
