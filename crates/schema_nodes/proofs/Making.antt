-- Nodes that are made one by one, and what they say together.
use Rattle.std.proofs.Common.{◌≡◌, ℕ, zero, suc, ◌<◌, ◌⊎◌, inl, inr, List, [], ◌∷◌, ◌++◌, length, true, Option, Some, None, Vec, Global, refl, sym, ap, subst, ◌∙◌, append-nil, append_assoc, arith, slice_get, get_or}
use Rattle.std.specs.Option.{option_and_then}
use Rattle.doc_tree.specs.Doc.{Doc, boolean}
use Rattle.doc_tree.specs.TreeView.{view}
use Rattle.schema_graph.specs.Orders.{at, IsOrder}
use Rattle.schema_graph.specs.Walks.{In}
use Rattle.schema_rules.specs.Parts.{members_in}
use Rattle.schema_rules.specs.PatternTexts.{pattern_texts, texts_by}
use Rattle.schema_rules.specs.Schemas.{schemas}
use Rattle.schema_rules.specs.declared.profile.Profile.TheVariants.{Three}
use Rattle.schema_levels.specs.Nodes.{node_get}
use Rattle.schema_levels.specs.declared.node.Node.{Node}
use Rattle.schema_nodes.specs.declared.entries.Entry.{Entry}
use Rattle.schema_nodes.specs.declared.targets.Targets.{Targets}
use Rattle.schema_nodes.specs.Entries.{doc_at, StandFor, EachEntry, AreEntries}
use Rattle.schema_nodes.specs.Fits.{AreTargets, IsTargets, IsMade, AreMade, patterns_of}
use Rattle.schema_nodes.specs.Nodes.{or_else, schema_of, HaveRows, IsNodeFor, AreNodesFor, AreNumbers}
use Rattle.schema_nodes.proofs.Reaching.{by_schema}
use Rattle.schema_nodes.proofs.Fitting.{built_node}
use Rattle.schema_nodes.proofs.Searches.{HaveNumbers, has_number, texts_within}
use Rattle.schema_nodes.proofs.RuleKinds.{Back, moved_rows, placed_at, rows_at, doc_is, within_entries}

pub record NodesMaking (ts : Targets) (ranks : List ℕ) (root : Doc) (order : List ℕ) (es : List Entry) (left : List ℕ) (nodes : List Node) : Type 0 where
  pub rest : (more : List Node) → AreMade ts ranks root es left more → AreMade ts ranks root es order (nodes ++ more)

pub begins : (ts : Targets) (ranks : List ℕ) (root : Doc) (order : List ℕ) (es : List Entry) → NodesMaking ts ranks root order es order []
begins ts ranks root order es = record { rest = λ more h. h }

pub goes_on : (ts : Targets) (ranks : List ℕ) (root : Doc) (order : List ℕ) (es : List Entry) (left left' : List ℕ) (nodes : List Node) (n : ℕ) (x : Node) → NodesMaking ts ranks root order es left nodes → left ≡ n ∷ left' → IsMade ts ranks root es n x → NodesMaking ts ranks root order es left' (nodes ++ x ∷ [])
goes_on ts ranks root order es left left' nodes n x m e made = record {
  rest = λ more h. subst (λ l. AreMade ts ranks root es order l) (sym (append_assoc nodes (x ∷ []) more)) (m.rest (x ∷ more) (subst (λ l. AreMade ts ranks root es l (x ∷ more)) (sym e) (made, h)));
}

pub ends : (ts : Targets) (ranks : List ℕ) (root : Doc) (order : List ℕ) (es : List Entry) (left : List ℕ) (nodes : List Node) → NodesMaking ts ranks root order es left nodes → left ≡ [] → AreMade ts ranks root es order nodes
ends ts ranks root order es left nodes m e = subst (λ l. AreMade ts ranks root es order l) (append-nil nodes) (m.rest [] (subst (λ l. AreMade ts ranks root es l []) (sym e) tt))

-- ---- all of them

module _ (ts : Targets) (ranks : List ℕ) (root : Doc) (es : List Entry) where
  pub made_at : (ns : List ℕ) (nodes : List Node) (q : ℕ) (x : Node) → AreMade ts ranks root es ns nodes → node_get nodes q ≡ Some x → (n : ℕ) × (slice_get ns q ≡ Some n) × IsMade ts ranks root es n x
  made_at [] [] q x h e = absurd cc
  made_at (n ∷ ns) (y ∷ nodes) zero x h e = let same : y ≡ x = cc in (n, refl, subst (IsMade ts ranks root es n) same h.0)
  made_at (n ∷ ns) (y ∷ nodes) (suc q) x h e = made_at ns nodes q x h.1 e
  made_at [] (y ∷ nodes) q x h e = absurd h
  made_at (n ∷ ns) [] q x h e = absurd h

  made_past : (ns : List ℕ) (nodes : List Node) (q : ℕ) → AreMade ts ranks root es ns nodes → node_get nodes q ≡ None → slice_get ns q ≡ None
  made_past [] [] q h e = refl
  made_past (n ∷ ns) (y ∷ nodes) zero h e = absurd cc
  made_past (n ∷ ns) (y ∷ nodes) (suc q) h e = made_past ns nodes q h.1 e
  made_past [] (y ∷ nodes) q h e = absurd h
  made_past (n ∷ ns) [] q h e = absurd h

  pub made_many : (ns : List ℕ) (nodes : List Node) → AreMade ts ranks root es ns nodes → length nodes ≡ length ns
  made_many [] [] h = refl
  made_many (n ∷ ns) (y ∷ nodes) h = ap suc (made_many ns nodes h.1)
  made_many [] (y ∷ nodes) h = absurd h
  made_many (n ∷ ns) [] h = absurd h

  pub numbered : AreEntries root es → patterns_of ts ≡ pattern_texts root → (n : ℕ) (e : Entry) → slice_get es n ≡ Some e → HaveNumbers (patterns_of ts) (texts_by Three (members_in (view e.schema.now)))
  numbered are patterns n e at_n s i = has_number (patterns_of ts) s (subst (λ l. In s l) (sym patterns) (texts_within Three (schemas root) (view e.schema.now) s (placed_at root (doc_at es) es n e are at_n) i))

  pub nodes_are : (places : List ℕ) (nodes : List Node) → AreEntries root es → Back places ranks es → AreTargets (λ c. schema_of places es (at ranks c)) root ts → patterns_of ts ≡ pattern_texts root → AreMade ts ranks root es places nodes → AreNodesFor root (schema_of places es) nodes
  nodes_are places nodes are back targets patterns h = record {
    says = λ q x e. (let m = made_at places nodes q x h e in
        let d = view m.2.entry.schema.now in
        let have = moved_rows (boolean true) places ranks es back (members_in d) m.2.entry.rows.items m.2.rows (rows_at root (doc_at es) es m.0 m.2.entry are m.2.is_entry) m.2.moved in
        let known = numbered are patterns m.0 m.2.entry m.2.is_entry in
        let is : schema_of places es q ≡ d = ap (λ o. or_else (boolean true) (option_and_then (doc_at es) o)) m.1 ∙ ap (or_else (boolean true)) (doc_is es m.0 m.2.entry m.2.is_entry) in
        subst (IsNodeFor root (schema_of places es) x) (sym is) (built_node (schema_of places es) ranks root ts targets d m.2.rows x have known m.2.built));
    past = λ q e. ap (λ o. or_else (boolean true) (option_and_then (doc_at es) o)) (made_past places nodes q h e);
  }

-- ---- the numbers are those of schemas

among : (root : Doc) (at' : ℕ → Option Doc) (es : List Entry) (n : ℕ) → EachEntry root at' es → In (or_else (boolean true) (doc_at es n)) (schemas root) ⊎ (or_else (boolean true) (doc_at es n) ≡ boolean true)
among root at' [] n h = inr refl
among root at' (e ∷ es) zero h = inl h.0
among root at' (e ∷ es) (suc n) h = among root at' es n h.2

pub numbers_are : (root : Doc) (places : List ℕ) (es : List Entry) → AreEntries root es → AreNumbers root (schema_of places es)
numbers_are root places es h p = by_place (slice_get places p)
  where
    by_place : (o : Option ℕ) → In (or_else (boolean true) (option_and_then (doc_at es) o)) (schemas root) ⊎ (or_else (boolean true) (option_and_then (doc_at es) o) ≡ boolean true)
    by_place None = inr refl
    by_place (Some n) = among root (doc_at es) es n h

-- ---- the numbers of the schemas that references name

pub targets_are : (schema : ℕ → Doc) (root : Doc) (es : List Entry) (whole : ℕ) (rows : List (Vec ℕ Global)) (ts : Targets) → IsTargets root es whole rows ts → HaveRows schema (members_in root) rows → AreEntries root es → doc_at es whole ≡ Some root
    → ((n : ℕ) (d : Doc) → doc_at es n ≡ Some d → schema n ≡ d) → AreTargets schema root ts
targets_are schema root es whole rows ts is have are here agree = record {
  whole = ap schema is.whole ∙ agree whole root here;
  named = is.named schema have;
  anchors = λ s. by_schema schema (doc_at es) _ _ agree (is.anchors s);
  entries = es;
  are = are;
  held = is.held;
  stands = ap (doc_at es) is.whole ∙ here;
  agree = agree;
}

pub got_at : (places : List ℕ) (i : ℕ) → i < length places → slice_get places i ≡ Some (at places i)
got_at [] i lt = absurd (omega arith)
got_at (n ∷ places) zero lt = refl
got_at (n ∷ places) (suc i) lt = got_at places i (omega arith)

pub back_is : (g : List (Vec ℕ Global)) (places ranks : List ℕ) (es : List Entry) → length g ≡ length es → IsOrder g places ranks → Back places ranks es
back_is g places ranks es many o c d h =
    let lt : c < length g = omega (arith, many, within_entries es c d h) in
    let r = o.placed c lt in
    got_at places (at ranks c) (omega (arith, r.0, o.many_places)) ∙ ap (λ n. Some n) r.1

-- ---- the whole schema's number

pub stand_first : (at' : ℕ → Option Doc) (row : List ℕ) (d : Doc) (n : ℕ) → StandFor at' row (d ∷ []) → n ≡ get_or row 0 n → at' n ≡ Some d
stand_first at' [] d n h e = absurd h
stand_first at' (m ∷ row) d n h e = ap at' e ∙ h.0

pub stand_some : (at' : ℕ → Option Doc) (row : List ℕ) (d : Doc) → StandFor at' row (d ∷ []) → 0 < length row
stand_some at' [] d h = absurd h
stand_some at' (m ∷ row) d h = omega arith

pub same_doc : (a b : Doc) → Some a ≡ Some b → a ≡ b
same_doc a b e = cc
