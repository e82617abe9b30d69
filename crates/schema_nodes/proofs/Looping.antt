-- Some entry leads back to itself where some schema does, and only there.
use Rattle.std.proofs.Common.{◌≡◌, ℕ, zero, suc, ◌<◌, ⊎_elim, List, [], ◌∷◌, length, eqb, true, Option, Some, None, option_map, Vec, Global, refl, sym, ap, subst, ◌∙◌, arith}
use Rattle.std.specs.Option.{option_to_list}
use Rattle.doc_tree.specs.Doc.{Doc, null, boolean, int, text, list, object, Elements, no_elements, element, Members, no_members, member}
use Rattle.doc_tree.specs.Lists.{elements_list, values_list}
use Rattle.doc_tree.specs.TreeView.{view}
use Rattle.schema_graph.specs.Numbered.{Graph, row_at, IsCyclic, numbers_of}
use Rattle.schema_graph.specs.Walks.{In, first, later, Walk, IsLooped}
use Rattle.schema_graph.proofs.Among.{In-left, In-right, In-parts, none_in}
use Rattle.schema_graph.proofs.Numbers.{in_numbers, closed_numbers, same_number}
use Rattle.schema_graph.proofs.Ranks.{long_walk, any_length}
use Rattle.schema_graph.proofs.Rounds.{any_walk, same_loops}
use Rattle.schema_rules.specs.Keywords.{keyword_of, shape_of}
use Rattle.schema_rules.specs.Parts.{elements_in, members_in}
use Rattle.schema_rules.specs.References.{target}
use Rattle.schema_rules.specs.Schemas.{schemas, schemas_in, schemas_each, schemas_named, schemas_below, held_in, applied_by, applied_by_members, applied}
use Rattle.schema_rules.specs.declared.keyword.Keyword.{Keyword}
use Rattle.schema_rules.specs.declared.keyword.Keyword.TheVariants.{AllOf, AnyOf, OneOf, Not, If, Then, Else, DependentSchemas, Ref}
use Rattle.schema_rules.specs.declared.keyword.Shape.{Shape}
use Rattle.schema_rules.specs.declared.keyword.Shape.TheVariants.{One, Several, Named}
use Rattle.schema_nodes.specs.declared.entries.Entry.{Entry}
use Rattle.schema_nodes.specs.declared.targets.Targets.{Targets}
use Rattle.schema_nodes.specs.Edges.{edges_at, edges_in, AreEdges}
use Rattle.schema_nodes.specs.Entries.{doc_at, StandFor, AreRows, AreEntries}
use Rattle.schema_nodes.specs.Fits.{AreTargets, target_number}
use Rattle.schema_nodes.specs.Nodes.{or_else}
use Rattle.schema_nodes.proofs.Edging.{both, edges_is, edges_many, graph_closed}
use Rattle.schema_nodes.proofs.Fitting.{finds}
use Rattle.schema_nodes.proofs.RuleKinds.{rows_at, entry_at, within_entries}

only_one : (d e : Doc) → In d (e ∷ []) → e ≡ d
only_one _ e first = refl
only_one d e (later i) = none_in d i

module _ (ts : Targets) (root : Doc) (es : List Entry) (targets : (x : Doc) → AreTargets (λ n. or_else x (doc_at es n)) root ts) where
  number_in : (row : List ℕ) (ds : List Doc) → StandFor (doc_at es) row ds → (d : Doc) → In d ds → (b : ℕ) × In b row × (doc_at es b ≡ Some d)
  number_in [] [] h d i = none_in d i
  number_in (c ∷ row) (d ∷ ds) h _ first = (c, first, h.0)
  number_in (c ∷ row) (e ∷ ds) h d (later i) = let r = number_in row ds h.1 d i in (r.0, later r.1, r.2)
  number_in [] (e ∷ ds) h d i = absurd h
  number_in (c ∷ row) [] h d i = none_in d i

  reference_number : (v d : Doc) (o : Option ℕ) → target_number ts root v ≡ o → In d (option_to_list (target root v)) → (b : ℕ) × In b (option_to_list o) × (doc_at es b ≡ Some d)
  reference_number v d None e i =
      let none : None ≡ target root v = sym (ap (option_map (λ n. or_else null (doc_at es n))) e) ∙ finds (λ n. or_else null (doc_at es n)) root ts (targets null) v in
      none_in d (subst (λ (o : Option Doc). In d (option_to_list o)) (sym none) i)
  reference_number v d (Some c) e i =
      let says : (x : Doc) → Some (or_else x (doc_at es c)) ≡ target root v = λ x. sym (ap (option_map (λ n. or_else x (doc_at es n))) e) ∙ finds (λ n. or_else x (doc_at es n)) root ts (targets x) v in
      let is : (x : Doc) → or_else x (doc_at es c) ≡ d = λ x. only_one d (or_else x (doc_at es c)) (subst (λ (o : Option Doc). In d (option_to_list o)) (sym (says x)) i) in
      (c, first, both (doc_at es c) d (is (boolean true)) (is null))

  member_number : (k : Keyword) (v : Doc) (row : List ℕ) → StandFor (doc_at es) row (held_in (shape_of k) v) → (d : Doc) → In d (applied_by root k v) → (b : ℕ) × In b (edges_at ts root k v row) × (doc_at es b ≡ Some d)
  member_number AllOf v row h d i = number_in row (elements_list (elements_in v)) h d i
  member_number AnyOf v row h d i = number_in row (elements_list (elements_in v)) h d i
  member_number OneOf v row h d i = number_in row (elements_list (elements_in v)) h d i
  member_number Not v row h d i = number_in row (v ∷ []) h d i
  member_number If v row h d i = number_in row (v ∷ []) h d i
  member_number Then v row h d i = number_in row (v ∷ []) h d i
  member_number Else v row h d i = number_in row (v ∷ []) h d i
  member_number DependentSchemas v row h d i = number_in row (values_list (members_in v)) h d i
  member_number Ref v row h d i = reference_number v d (target_number ts root v) refl i
  member_number _ v row h d i = none_in d i

  members_number : (ms : Members) (rows : List (Vec ℕ Global)) → AreRows (doc_at es) ms rows → (d : Doc) → In d (applied_by_members root ms) → (b : ℕ) × In b (edges_in ts root ms rows) × (doc_at es b ≡ Some d)
  members_number no_members [] h d i = none_in d i
  members_number (member k v ms) (row ∷ rows) h d i =
      ⊎_elim (λ a. (let r = member_number (keyword_of k) v row.items h.0 d a in (r.0, In-left r.0 _ _ r.1, r.2)))
      (λ c. (let r = members_number ms rows h.1 d c in (r.0, In-right r.0 (edges_at ts root (keyword_of k) v row.items) _ r.1, r.2)))
      (In-parts d (applied_by root (keyword_of k) v) (applied_by_members root ms) i)
  members_number no_members (row ∷ rows) h d i = absurd h
  members_number (member k v ms) [] h d i = absurd h

  module _ (are : AreEntries root es) (g : Graph) (edges : AreEdges ts root es g) where
    edge_number : (a : ℕ) (s d : Doc) → doc_at es a ≡ Some s → In d (applied root s) → (b : ℕ) × In b (row_at g a) × (doc_at es b ≡ Some d)
    edge_number a s d h i =
        let e = entry_at es a s h in
        let r = members_number (members_in (view e.0.schema.now)) e.0.rows.items (rows_at root (doc_at es) es a e.0 are e.1) d (subst (λ x. In d (applied root x)) (sym e.2) i) in
        (r.0, subst (λ (l : List ℕ). In r.0 l) (sym (edges_is ts root es g a e.0 edges e.1)) r.1, r.2)

    walk_number : (n a : ℕ) (s t : Doc) → doc_at es a ≡ Some s → Walk (applied root) s t n → (b : ℕ) × Walk (row_at g) a b n
    walk_number zero a s t h w = (a, refl)
    walk_number (suc n) a s t h w =
        let r = edge_number a s w.0 h w.1 in
        let rest = walk_number n r.0 w.0 t r.2 w.2 in
        (rest.0, (r.0, r.1, rest.1))

    -- each schema of the whole one has a number
    mutual
      numbered : (h : Shape) (v : Doc) (row : List ℕ) → StandFor (doc_at es) row (held_in h v) → (s : Doc) → In s (schemas_in h v) → (n : ℕ) × (doc_at es n ≡ Some s)
      numbered One v [] stand s i = absurd stand
      numbered One (object ms) (c ∷ row) stand _ first = (c, stand.0)
      numbered One (object ms) (c ∷ row) stand s (later i) =
          let e = entry_at es c (object ms) stand.0 in
          numbered_below ms e.0.rows.items (subst (λ d. AreRows (doc_at es) (members_in d) e.0.rows.items) e.2 (rows_at root (doc_at es) es c e.0 are e.1)) s i
      numbered One null (c ∷ row) stand _ first = (c, stand.0)
      numbered One null (c ∷ row) stand s (later i) = none_in s i
      numbered One (boolean b) (c ∷ row) stand _ first = (c, stand.0)
      numbered One (boolean b) (c ∷ row) stand s (later i) = none_in s i
      numbered One (int z) (c ∷ row) stand _ first = (c, stand.0)
      numbered One (int z) (c ∷ row) stand s (later i) = none_in s i
      numbered One (text t) (c ∷ row) stand _ first = (c, stand.0)
      numbered One (text t) (c ∷ row) stand s (later i) = none_in s i
      numbered One (list ds) (c ∷ row) stand _ first = (c, stand.0)
      numbered One (list ds) (c ∷ row) stand s (later i) = none_in s i
      numbered Several (list ds) row stand s i = numbered_each ds row stand s i
      numbered Named (object ms) row stand s i = numbered_named ms row stand s i
      numbered _ v row stand s i = none_in s i

      numbered_each : (ds : Elements) (row : List ℕ) → StandFor (doc_at es) row (elements_list ds) → (s : Doc) → In s (schemas_each ds) → (n : ℕ) × (doc_at es n ≡ Some s)
      numbered_each no_elements row stand s i = none_in s i
      numbered_each (element d ds) [] stand s i = absurd stand
      numbered_each (element d ds) (c ∷ row) stand s i = ⊎_elim (λ a. numbered One d (c ∷ []) (stand.0, tt) s a) (λ b. numbered_each ds row stand.1 s b) (In-parts s (schemas_in One d) (schemas_each ds) i)

      numbered_named : (ms : Members) (row : List ℕ) → StandFor (doc_at es) row (values_list ms) → (s : Doc) → In s (schemas_named ms) → (n : ℕ) × (doc_at es n ≡ Some s)
      numbered_named no_members row stand s i = none_in s i
      numbered_named (member k d ms) [] stand s i = absurd stand
      numbered_named (member k d ms) (c ∷ row) stand s i = ⊎_elim (λ a. numbered One d (c ∷ []) (stand.0, tt) s a) (λ b. numbered_named ms row stand.1 s b) (In-parts s (schemas_in One d) (schemas_named ms) i)

      numbered_below : (ms : Members) (rows : List (Vec ℕ Global)) → AreRows (doc_at es) ms rows → (s : Doc) → In s (schemas_below ms) → (n : ℕ) × (doc_at es n ≡ Some s)
      numbered_below no_members [] h s i = none_in s i
      numbered_below (member k v ms) (row ∷ rows) h s i = ⊎_elim (λ a. numbered (shape_of (keyword_of k)) v row.items h.0 s a) (λ b. numbered_below ms rows h.1 s b) (In-parts s (schemas_in (shape_of (keyword_of k)) v) (schemas_below ms) i)
      numbered_below no_members (row ∷ rows) h s i = absurd h
      numbered_below (member k v ms) [] h s i = absurd h

    pub graph_looped : (whole : ℕ) → doc_at es whole ≡ Some root → IsLooped (applied root) (schemas root) → IsCyclic g
    graph_looped whole here l =
        let closed = closed_numbers g (graph_closed ts root es targets are g edges) in
        let start = numbered One root (whole ∷ []) (here, tt) l.0 l.1 in
        let long = any_walk (applied root) l.0 l.2 l.3 (length (numbers_of g)) in
        let w = walk_number (length (numbers_of g)) start.0 l.0 long.0 start.1 long.1 in
        let inside = in_numbers g start.0 (start_within start.0 l.0 start.1) in
        (same_loops (row_at g) eqb same_number (numbers_of g) closed).1 (any_length (row_at g) (numbers_of g) (long_walk (row_at g) eqb same_number (numbers_of g) closed start.0 w.0 inside w.1))
      where
        start_within : (n : ℕ) (d : Doc) → doc_at es n ≡ Some d → n < length g
        start_within n d h = let lt = within_entries es n d h in omega (arith, lt, edges_many ts root es g edges)
