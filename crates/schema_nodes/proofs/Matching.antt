-- The rules of `patternProperties` ask and join together as the keyword does.
use Rattle.std.proofs.Common.{◌≡◌, ℕ, List, [], ◌∷◌, ◌++◌, map, Bool, true, false, ◌&&◌, refl, sym, ap, ap₂, ◌∙◌, if◌then◌else◌, append-nil, string_bytes}
use Rattle.doc_tree.specs.Doc.{Doc, null, boolean, int, text, list, object, Members, no_members, member}
use Rattle.doc_tree.specs.Lists.{values_list}
use Rattle.schema_pattern.specs.Patterns.{is_found, pattern_in}
use Rattle.schema_rules.specs.Parts.{members_in}
use Rattle.schema_rules.specs.Rules.{Ask, ask, asks, joins, every, of_matching, by_pattern}
use Rattle.schema_rules.specs.declared.keyword.Keyword.{Keyword}
use Rattle.schema_rules.specs.declared.keyword.Keyword.TheVariants.{PatternProperties}
use Rattle.schema_levels.specs.Below.{where_found}
use Rattle.schema_levels.specs.Rules as alone
use Rattle.schema_levels.specs.Table.{children, members_each, ask_children, ask_found, joined_by, rule_of, rules_pass, told_by}
use Rattle.schema_levels.specs.declared.node.NamePattern.{NamePattern}
use Rattle.schema_levels.specs.declared.node.Node.{Node}
use Rattle.schema_levels.specs.declared.node.Rule.{Rule}
use Rattle.schema_levels.specs.declared.node.Rule.TheVariants.{Matching}
use Rattle.schema_levels.proofs.Tables.{and_true}
use Rattle.schema_nodes.specs.Rules.{schemas_asked, all_asked, SayAs}
use Rattle.schema_nodes.specs.Fits.{AreMatching}
use Rattle.schema_nodes.proofs.RuleKinds.{asked_append, no_items, of_members}

-- ---- one rule alone

pub say_one : (root : Doc) (schema : ℕ → Doc) (ms : Members) (k : Keyword) (v : Doc) (r : alone.Rule) → ((t : Doc) → schemas_asked schema (r.asked t) ≡ asks root ms k v t) → ((t : Doc) (bs : List Bool) → r.joined t bs ≡ joins ms k v t bs)
    → SayAs root schema ms k v (r ∷ [])
say_one root schema ms k v r a j = record {
  asked = λ t. ap (schemas_asked schema) (append-nil (r.asked t)) ∙ a t;
  joined = λ known t. and_true (r.joined t (told_by known (r.asked t))) ∙ j t (told_by known (r.asked t)) ∙ ap (λ l. joins ms k v t (told_by known l)) (sym (append-nil (r.asked t)));
}

-- ---- one pattern

every_append : (bs cs : List Bool) → every (bs ++ cs) ≡ (every bs && every cs)
every_append [] cs = refl
every_append (true ∷ bs) cs = every_append bs cs
every_append (false ∷ bs) cs = refl

told_append : (known : ℕ → Doc → Bool) (xs ys : List (ℕ × Doc)) → told_by known (xs ++ ys) ≡ told_by known xs ++ told_by known ys
told_append known [] ys = refl
told_append known (x ∷ xs) ys = ap (λ l. known x.0 x.1 ∷ l) (told_append known xs ys)

module _ (schema : ℕ → Doc) (x : Node) where
  matched_join : (b : Bool) (j : ℕ) (t : Doc) (rest : List (ℕ × Doc)) (asked : List Ask) → schemas_asked schema rest ≡ asked → schemas_asked schema (ask_found (where_found b j) t rest) ≡ (if b then (ask (schema j) t ∷ asked) else asked)
  matched_join true j t rest asked h = ap (λ l. ask (schema j) t ∷ l) h
  matched_join false j t rest asked h = h

  matching_join : (p : NamePattern) (j : ℕ) (ts : Members) → schemas_asked schema (ask_children x (Matching p j) (members_each ts)) ≡ of_matching (string_bytes p.text) (schema j) ts
  matching_join p j no_members = refl
  matching_join p j (member k t ts) = matched_join (is_found (pattern_in (string_bytes p.text)) k) j t (ask_children x (Matching p j) (members_each ts)) (of_matching (string_bytes p.text) (schema j) ts) (matching_join p j ts)

  matching_asked : (p : NamePattern) (j : ℕ) (t : Doc) → schemas_asked schema (ask_children x (Matching p j) (children t)) ≡ of_matching (string_bytes p.text) (schema j) (members_in t)
  matching_asked p j null = refl
  matching_asked p j (boolean b) = refl
  matching_asked p j (int z) = refl
  matching_asked p j (text s) = refl
  matching_asked p j (list ts) = ap (schemas_asked schema) (no_items x (Matching p j) (λ n. refl) 0 ts)
  matching_asked p j (object ts) = ap (schemas_asked schema) (of_members x (Matching p j) refl ts) ∙ matching_join p j ts

  -- ---- all of them

  all_matching : (ps : List (List ℕ)) (t : Doc) (ss : Members) (row : List ℕ) (rs : List Rule) → AreMatching ps ss row rs → map schema row ≡ values_list ss → schemas_asked schema (all_asked (map (rule_of x) rs) t) ≡ by_pattern ss (members_in t)
  all_matching ps t no_members row [] h e = refl
  all_matching ps t no_members row (r ∷ rs) h e = absurd h
  all_matching ps t (member s d ss) [] rs h e = absurd cc
  all_matching ps t (member s d ss) (j ∷ row) [] h e = absurd h
  all_matching ps t (member s d ss) (j ∷ row) (r ∷ rs) h e =
      let is : schema j ≡ d = cc in
      let more : map schema row ≡ values_list ss = cc in
      let one : schemas_asked schema ((rule_of x r).asked t) ≡ of_matching s d (members_in t) =
      ap (λ q. schemas_asked schema ((rule_of x q).asked t)) h.1 ∙ matching_asked h.0 j t ∙ ap₂ (λ u w. of_matching u w (members_in t)) h.2.is_text is in
      asked_append schema ((rule_of x r).asked t) (all_asked (map (rule_of x) rs) t) ∙ ap₂ (λ a b. a ++ b) one (all_matching ps t ss row rs h.3 more)

  all_joined : (ps : List (List ℕ)) (known : ℕ → Doc → Bool) (t : Doc) (ss : Members) (row : List ℕ) (rs : List Rule) → AreMatching ps ss row rs → rules_pass known (map (rule_of x) rs) t ≡ every (told_by known (all_asked (map (rule_of x) rs) t))
  all_joined ps known t no_members row [] h = refl
  all_joined ps known t no_members row (r ∷ rs) h = absurd h
  all_joined ps known t (member s d ss) [] [] h = refl
  all_joined ps known t (member s d ss) [] (r ∷ rs) h = absurd h
  all_joined ps known t (member s d ss) (j ∷ row) [] h = absurd h
  all_joined ps known t (member s d ss) (j ∷ row) (r ∷ rs) h =
      let mine = (rule_of x r).asked t in
      let others = all_asked (map (rule_of x) rs) t in
      ap₂ (λ a b. a && b) (ap (λ q. joined_by q t (told_by known mine)) h.1) (all_joined ps known t ss row rs h.3)
      ∙ sym (every_append (told_by known mine) (told_by known others)) ∙ sym (ap every (told_append known mine others))

  pub say_patterns : (root : Doc) (ms : Members) (ps : List (List ℕ)) (v : Doc) (row : List ℕ) (rs : List Rule) → AreMatching ps (members_in v) row rs → map schema row ≡ values_list (members_in v) → SayAs root schema ms PatternProperties v (map (rule_of x) rs)
  say_patterns root ms ps v row rs h e = record {
    asked = λ t. all_matching ps t (members_in v) row rs h e;
    joined = λ known t. all_joined ps known t (members_in v) row rs h;
  }
