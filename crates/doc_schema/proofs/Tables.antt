-- What the schemas of the numbers say in the end is a table of the nodes, so what a judge by nodes answers is the judgement.
use Rattle.std.proofs.Common.{◌≡◌, ℕ, Bool, true, ◌&&◌, List, [], ◌∷◌, ◌++◌, map, Option, Some, None, refl, sym, ap, ap₂, ◌∙◌, ⊎_elim, arith}
use Rattle.doc_tree.specs.Doc.{Doc, null, boolean, int, text, list, object, Members, no_members, member, Place}
use Rattle.schema_rules.specs.Keywords.{keyword_of}
use Rattle.schema_rules.specs.Rules.{joins}
use Rattle.schema_levels.specs.Nodes.{node_get}
use Rattle.schema_levels.specs.Rules.{Rule}
use Rattle.schema_levels.specs.Table.{IsTable, node_passes, passes_at, rule_of, rules_pass, told_by}
use Rattle.schema_levels.specs.declared.node.Node.{Node}
use Rattle.schema_levels.proofs.Tables.{and_true, and_assoc, passes_at_get, passes_past}
use Rattle.schema_changes.specs.Agree.{AgreeButShifted, AgreeOff, AgreeOffEach}
use Rattle.schema_changes.specs.Again.{IsPassedAfter, IsPassedAgain, IsPassedShifted}
use Rattle.schema_nodes.specs.Compiled.{IsCompiled}
use Rattle.schema_nodes.specs.Nodes.{IsNodeFor}
use Rattle.schema_nodes.specs.Rules.{schemas_asked, all_asked, AreRulesFor}
use Rattle.doc_schema.specs.Judge.{Judges, enough}
use Rattle.doc_schema.specs.Schemas.{IsLoopedSchema}
use Rattle.doc_schema.specs.Steps.{told, all_hold, passes, verdict}
use Rattle.doc_schema.proofs.Fuel.{verdict_is, enough_is}

-- ---- a node and its schema pass alike, where their parts do

module _ (root : Doc) (schema : ℕ → Doc) (known : Doc → Doc → Bool) where
  told_join : (xs : List (ℕ × Doc)) → told_by (λ q u. known (schema q) u) xs ≡ told known (schemas_asked schema xs)
  told_join [] = refl
  told_join (a ∷ xs) = ap (λ bs. known (schema a.0) a.1 ∷ bs) (told_join xs)

  pass_append : (rs more : List Rule) (t : Doc) → rules_pass (λ q u. known (schema q) u) (rs ++ more) t ≡ (rules_pass (λ q u. known (schema q) u) rs t && rules_pass (λ q u. known (schema q) u) more t)
  pass_append [] more t = refl
  pass_append (r ∷ rs) more t =
      let one = r.joined t (told_by (λ q u. known (schema q) u) (r.asked t)) in
      ap (λ b. one && b) (pass_append rs more t) ∙ sym (and_assoc one (rules_pass (λ q u. known (schema q) u) rs t) (rules_pass (λ q u. known (schema q) u) more t))

  rules_join : (beside : Members) (rules : List Rule) (ms : Members) (t : Doc) → AreRulesFor root schema beside rules ms → rules_pass (λ q u. known (schema q) u) rules t ≡ all_hold known root beside ms t
  rules_join beside rules no_members t h = ap (λ rs. rules_pass (λ q u. known (schema q) u) rs t) h
  rules_join beside rules (member k v ms) t h =
      let mine = h.3.joined (λ q u. known (schema q) u) t ∙ ap (joins beside (keyword_of k) v t) (told_join (all_asked h.0 t) ∙ ap (told known) (h.3.asked t)) in
      ap (λ rs. rules_pass (λ q u. known (schema q) u) rs t) h.2 ∙ pass_append h.0 h.1 t ∙ ap₂ (λ a b. a && b) mine (rules_join beside h.1 ms t h.4)

  says : (x : Node) (s t : Doc) → IsNodeFor root schema x s → node_passes (λ q u. known (schema q) u) x t ≡ passes known root s t
  says x (boolean b) t h = ap (λ rs. rules_pass (λ q u. known (schema q) u) (map (rule_of x) rs) t) h ∙ and_true b
  says x (object ms) t h = rules_join ms (map (rule_of x) x.rules.items) ms t h
  says x null t h = ap (λ rs. rules_pass (λ q u. known (schema q) u) (map (rule_of x) rs) t) h
  says x (int z) t h = ap (λ rs. rules_pass (λ q u. known (schema q) u) (map (rule_of x) rs) t) h
  says x (text s) t h = ap (λ rs. rules_pass (λ q u. known (schema q) u) (map (rule_of x) rs) t) h
  says x (list ds) t h = ap (λ rs. rules_pass (λ q u. known (schema q) u) (map (rule_of x) rs) t) h

-- ---- all nodes

table : (root : Doc) (nodes : List Node) (whole : ℕ) (c : IsCompiled root nodes whole) → (IsLoopedSchema root → ⊥) → IsTable nodes (λ p t. verdict root (c.schema p) t)
table root nodes whole c none p t = by_node (node_get nodes p) refl
  where
    unfolds : verdict root (c.schema p) t ≡ passes (verdict root) root (c.schema p) t
    unfolds = ⊎_elim (λ i. verdict_is root none (c.schema p) t i) (λ (e : c.schema p ≡ boolean true). ap (λ d. verdict root d t) e ∙ sym (ap (λ d. passes (verdict root) root d t) e)) (c.numbers p)

    by_node : (o : Option Node) → node_get nodes p ≡ o → verdict root (c.schema p) t ≡ passes_at (λ q u. verdict root (c.schema q) u) nodes p t
    by_node None e = ap (λ d. verdict root d t) (c.says.past p e) ∙ sym (passes_past (λ q u. verdict root (c.schema q) u) nodes p t e)
    by_node (Some x) e = unfolds ∙ sym (says root c.schema (verdict root) x (c.schema p) t (c.says.says p x e)) ∙ sym (passes_at_get (λ q u. verdict root (c.schema q) u) nodes p x t e)

pub judged : (root : Doc) (nodes : List Node) (whole : ℕ) (t : Doc) (b : Bool) → IsCompiled root nodes whole → (IsLoopedSchema root → ⊥) → ((known : ℕ → Doc → Bool) → IsTable nodes known → b ≡ known whole t) → Judges root t b
judged root nodes whole t b c none h =
    enough_is root none t (enough root t) (omega arith) ∙ ap (λ v. Some v) (sym (h (λ p u. verdict root (c.schema p) u) (table root nodes whole c none) ∙ ap (λ s. verdict root s t) c.is_whole))

-- the same of what a judge answers for a value that agrees with a valid one off a location
pub judged_again : (root : Doc) (nodes : List Node) (whole : ℕ) (ps : List Place) (valid t : Doc) (b : Bool) → IsCompiled root nodes whole → (IsLoopedSchema root → ⊥)
    → ((known : ℕ → Doc → Bool) → IsTable nodes known → IsPassedAgain known whole ps t b) → Judges root valid true → AgreeOff ps valid t → Judges root t b
judged_again root nodes whole ps valid t b c none h was agree =
    let same : Some (verdict root root valid) ≡ Some true = sym (enough_is root none valid (enough root valid) (omega arith)) ∙ was in
    let passed : verdict root root valid ≡ true = cc in
    enough_is root none t (enough root t) (omega arith)
    ∙ ap (λ v. Some v) (sym (h (λ p u. verdict root (c.schema p) u) (table root nodes whole c none) valid (ap (λ s. verdict root s valid) c.is_whole ∙ passed) agree ∙ ap (λ s. verdict root s t) c.is_whole))

-- and off several, one after another
pub judged_after : (root : Doc) (nodes : List Node) (whole : ℕ) (pss : List (List Place)) (valid t : Doc) (b : Bool) → IsCompiled root nodes whole → (IsLoopedSchema root → ⊥)
    → ((known : ℕ → Doc → Bool) → IsTable nodes known → IsPassedAfter known whole pss t b) → Judges root valid true → AgreeOffEach pss valid t → Judges root t b
judged_after root nodes whole pss valid t b c none h was agree =
    let same : Some (verdict root root valid) ≡ Some true = sym (enough_is root none valid (enough root valid) (omega arith)) ∙ was in
    let passed : verdict root root valid ≡ true = cc in
    enough_is root none t (enough root t) (omega arith)
    ∙ ap (λ v. Some v) (sym (h (λ p u. verdict root (c.schema p) u) (table root nodes whole c none) valid (ap (λ s. verdict root s valid) c.is_whole ∙ passed) agree ∙ ap (λ s. verdict root s t) c.is_whole))

-- and where an element came or went at its end
pub judged_shifted : (root : Doc) (nodes : List Node) (whole : ℕ) (ps : List Place) (valid t : Doc) (b : Bool) → IsCompiled root nodes whole → (IsLoopedSchema root → ⊥)
    → ((known : ℕ → Doc → Bool) → IsTable nodes known → IsPassedShifted known whole ps t b) → Judges root valid true → AgreeButShifted ps valid t → Judges root t b
judged_shifted root nodes whole ps valid t b c none h was agree =
    let same : Some (verdict root root valid) ≡ Some true = sym (enough_is root none valid (enough root valid) (omega arith)) ∙ was in
    let passed : verdict root root valid ≡ true = cc in
    enough_is root none t (enough root t) (omega arith)
    ∙ ap (λ v. Some v) (sym (h (λ p u. verdict root (c.schema p) u) (table root nodes whole c none) valid (ap (λ s. verdict root s valid) c.is_whole ∙ passed) agree ∙ ap (λ s. verdict root s t) c.is_whole))
