-- A text has the number of a pattern that is this text, and rules search for patterns by these numbers.
use Rattle.std.proofs.Common.{◌≡◌, ℕ, zero, suc, ◌+◌, ◌<◌, ◌≤◌, ◌⊎◌, inl, inr, List, [], ◌∷◌, ◌++◌, map, codes, slice_get, string_bytes, length, drop, get_or, Bool, true, false, if◌then◌else◌, Option, Some, None, Vec, Global, option_map, refl, sym, ap, subst, ◌∙◌, arith}
use Rattle.std.specs.Str.{bytes_eq}
use Rattle.std.proofs.lemmas.Slice.Eq.{bytes_eq-Decides}
use Rattle.std.proofs.Math.Seq.{drop-cons}
use Rattle.doc_tree.specs.Doc.{Doc, null, boolean, int, text, list, object, Members, no_members, member, get_member}
use Rattle.doc_tree.specs.Lists.{names_list}
use Rattle.doc_tree.proofs.Members.{get_member-first, get_member-later}
use Rattle.doc_tree.specs.TreeView.{view}
use Rattle.schema_graph.specs.Orders.{at}
use Rattle.schema_graph.specs.Walks.{In, first, later}
use Rattle.schema_graph.proofs.Among.{In-left, In-right, none_in}
use Rattle.schema_pattern.specs.Tables.{source_at}
use Rattle.schema_rules.specs.Parts.{members_in, or_null}
use Rattle.schema_rules.specs.PatternTexts.{texts_of as texts_of_keyword, texts_by, texts_in}
use Rattle.schema_rules.specs.declared.profile.Profile.{Profile}
use Rattle.schema_rules.specs.declared.profile.Profile.TheVariants.{Three}
use Rattle.schema_rules.specs.Keywords.{keyword_of}
use Rattle.schema_rules.specs.declared.keyword.Keyword.{Keyword}
use Rattle.schema_rules.specs.declared.keyword.Keyword.TheVariants as keywords
use Rattle.schema_levels.specs.Searched.{IsSearched, IsNameSearched, AreNamesSearched, AreRulesSearched, AreSearched}
use Rattle.schema_levels.specs.NamePatterns.{patterns_by, texts_of}
use Rattle.schema_levels.specs.declared.node.NamePattern.{NamePattern}
use Rattle.schema_levels.specs.declared.node.Node.{Node}
use Rattle.schema_levels.specs.declared.node.Rule.{Rule}
use Rattle.schema_levels.specs.declared.node.Rule.TheVariants.{Says, Asserts, Matches, All, Any, One, Then, Else, Dependent, Refers, Others, ByPlace, Contains, AtLeast, AtMost}
use Rattle.schema_nodes.specs.declared.entries.Entry.{Entry}
use Rattle.schema_nodes.specs.declared.targets.Targets.{Targets}
use Rattle.schema_nodes.proofs.KeywordNames.{pattern_properties_is}
use Rattle.schema_nodes.specs.Fits.{Around, Fits, FitAll, around, first_of, AreFitting, AreMatching, ArePatterns, IsNumbered, or_first, IsBuilt, IsChoice, IsCount, IsLimit, IsMatch, IsReference, AreMade, number_in, pattern_number, patterns_of, target_number}

-- each of these texts has a number
abbrev pub HaveNumbers : List (List ℕ) → List (List ℕ) → Type 0
HaveNumbers ps ss = (s : List ℕ) → In s ss → number_in ps s ≡ None → ⊥

-- ---- the number of a text

number_at : (ps : List (List ℕ)) (s : List ℕ) (n : ℕ) → number_in ps s ≡ Some n → (n < length ps) × (source_at ps n ≡ s)
number_at [] s n e = absurd cc
number_at (p ∷ ps) s n e = by_test (bytes_eq p s) refl (number_in ps s) refl (λ m h. number_at ps s m h) e
  where
    by_test : (b : Bool) → bytes_eq p s ≡ b → (o : Option ℕ) → number_in ps s ≡ o → ((m : ℕ) → number_in ps s ≡ Some m → (m < length ps) × (source_at ps m ≡ s)) → (if b then Some 0 else option_map suc o) ≡ Some n
        → (n < length (p ∷ ps)) × (source_at (p ∷ ps) n ≡ s)
    by_test true same o h more f = let z : 0 ≡ n = cc in subst (λ m. (m < length (p ∷ ps)) × (source_at (p ∷ ps) m ≡ s)) z (omega arith, (bytes_eq-Decides p s).0 same)
    by_test false same None h more f = absurd cc
    by_test false same (Some m) h more f =
        let r = more m h in
        let next : suc m ≡ n = cc in
        subst (λ k. (k < length (p ∷ ps)) × (source_at (p ∷ ps) k ≡ s)) next (omega (arith, r.0), r.1)

pub has_number : (ps : List (List ℕ)) (s : List ℕ) → In s ps → number_in ps s ≡ None → ⊥
has_number [] s i e = elim i [ ]
has_number (_ ∷ ps) s first e = let yes = (bytes_eq-Decides s s).1 refl in by_test (bytes_eq s s) yes (number_in ps s) e
  where
    by_test : (b : Bool) → b ≡ true → (o : Option ℕ) → (if b then Some 0 else option_map suc o) ≡ None → ⊥
    by_test true h o f = absurd cc
    by_test false h o f = absurd cc
has_number (p ∷ ps) s (later i) e = by_test (bytes_eq p s) (number_in ps s) refl (has_number ps s i) e
  where
    by_test : (b : Bool) (o : Option ℕ) → number_in ps s ≡ o → (number_in ps s ≡ None → ⊥) → (if b then Some 0 else option_map suc o) ≡ None → ⊥
    by_test true o h none f = absurd cc
    by_test false None h none f = none h
    by_test false (Some m) h none f = absurd cc

-- a text of one of these schemas is a text of them all
pub texts_within : (profile : Profile) (ds : List Doc) (d : Doc) (s : List ℕ) → In d ds → In s (texts_by profile (members_in d)) → In s (texts_in profile ds)
texts_within profile [] d s i h = elim i [ ]
texts_within profile (_ ∷ ds) d s first h = In-left s _ _ h
texts_within profile (c ∷ ds) d s (later i) h = In-right s (texts_by profile (members_in c)) _ (texts_within profile ds d s i h)

-- ---- the loop over the texts

-- so many numbers further
abbrev pub further : ℕ → Option ℕ → Option ℕ
further i None = None
further i (Some n) = Some (i + n)

further_on : (i : ℕ) (o : Option ℕ) → further i (option_map suc o) ≡ further (i + 1) o
further_on i None = refl
further_on i (Some n) = let e : i + suc n ≡ (i + 1) + n = omega arith in ap (λ k. Some k) e

further_none : (o : Option ℕ) → further 0 o ≡ o
further_none None = refl
further_none (Some n) = let z : 0 + n ≡ n = omega arith in ap (λ k. Some k) z

module _ (ps : List (List ℕ)) (s d : List ℕ) (i : ℕ) (below : i < length ps) where
  split : drop i ps ≡ get_or ps i d ∷ drop (suc i) ps
  split = drop-cons ps i d below

  pub found_here : (o : Option ℕ) → bytes_eq (get_or ps i d) s ≡ true → further i (number_in (drop i ps) s) ≡ o → Some i ≡ o
  found_here o same h =
      let z : i ≡ i + 0 = omega arith in
      ap (λ k. Some k) z ∙ sym (ap (λ b. further i (if b then Some 0 else option_map suc (number_in (drop (suc i) ps) s))) same) ∙ sym (ap (λ l. further i (number_in l s)) split) ∙ h

  pub found_later : (o : Option ℕ) → bytes_eq (get_or ps i d) s ≡ false → further i (number_in (drop i ps) s) ≡ o → further (i + 1) (number_in (drop (i + 1) ps) s) ≡ o
  found_later o other h =
      let one : i + 1 ≡ suc i = omega arith in
      ap (λ k. further (i + 1) (number_in (drop k ps) s)) one
      ∙ sym (further_on i (number_in (drop (suc i) ps) s))
      ∙ sym (ap (λ b. further i (if b then Some 0 else option_map suc (number_in (drop (suc i) ps) s))) other) ∙ sym (ap (λ l. further i (number_in l s)) split) ∙ h

-- ---- the patterns of `patternProperties` beside a member

pub beside_texts : (ms : Members) (s : List ℕ) → In s (names_list (members_in (or_null (get_member (codes "patternProperties") ms)))) → In s (texts_by Three ms)
beside_texts no_members s i = none_in s i
beside_texts (member k v ms) s i = by_name (bytes_eq k (codes "patternProperties")) refl (λ h. beside_texts ms s h)
  where
    by_name : (b : Bool) → bytes_eq k (codes "patternProperties") ≡ b → (In s (names_list (members_in (or_null (get_member (codes "patternProperties") ms)))) → In s (texts_by Three ms)) → In s (texts_of_keyword (keyword_of k) v ++ texts_by Three ms)
    by_name true e rest =
        let same : k ≡ codes "patternProperties" = (bytes_eq-Decides k (codes "patternProperties")).0 e in
        let is : keyword_of k ≡ keywords.PatternProperties = ap keyword_of same ∙ pattern_properties_is in
        let found : get_member (codes "patternProperties") (member k v ms) ≡ Some v = sym (ap (λ n. get_member n (member k v ms)) same) ∙ get_member-first k v ms in
        In-left s _ _ (subst (λ w. In s (texts_of_keyword w v)) (sym is) (subst (λ o. In s (names_list (members_in (or_null o)))) found i))
    by_name false e rest =
        let found : get_member (codes "patternProperties") (member k v ms) ≡ get_member (codes "patternProperties") ms = get_member-later (codes "patternProperties") k v ms (λ (same : codes "patternProperties" ≡ k). (let t = (bytes_eq-Decides k (codes "patternProperties")).1 (sym same) in absurd cc)) in
        In-right s (texts_of_keyword (keyword_of k) v) _ (rest (subst (λ o. In s (names_list (members_in (or_null o)))) found i))

-- ---- rules

rules_append : (ss : List (List ℕ)) (xs ys : List Rule) → AreRulesSearched ss xs → AreRulesSearched ss ys → AreRulesSearched ss (xs ++ ys)
rules_append ss [] ys h g = g
rules_append ss (r ∷ xs) ys h g = (h.0, h.1, rules_append ss xs ys h.2 g)

module _ (ss : List (List ℕ)) (few : length ss ≤ 64) where
  -- what it searches texts for, and what names
  abbrev Both : Rule → Type 0
  Both r = IsSearched ss r × AreNamesSearched ss (patterns_by r)

  both : (s : Rule) → IsSearched ss s → patterns_by s ≡ [] → Both s
  both s h none = (h, λ p at. none_in p (subst (λ l. In p l) none at))

  same : (r s : Rule) → r ≡ s → IsSearched ss s → patterns_by s ≡ [] → Both r
  same r s e h none = subst Both (sym e) (both s h none)

  -- ---- patterns for names

  has_text : (found : List NamePattern) (p : NamePattern) → In p found → In (string_bytes p.text) (texts_of found)
  has_text [] p i = none_in p i
  has_text (_ ∷ found) p first = first
  has_text (q ∷ found) p (later i) = later (has_text found p i)

  name_searched : (p : NamePattern) → (number_in ss (string_bytes p.text) ≡ None → ⊥) → IsNumbered ss p → IsNameSearched ss p
  name_searched p known e = by_number (number_in ss (string_bytes p.text)) refl
    where
      by_number : (o : Option ℕ) → number_in ss (string_bytes p.text) ≡ o → IsNameSearched ss p
      by_number None h = absurd (known h)
      by_number (Some n) h =
          let at' = number_at ss (string_bytes p.text) n h in
          let is : p.number ≡ n = e ∙ ap or_first h in
          record { small = omega (arith, is, at'.0, few); within = omega (arith, is, at'.0); is_text = sym (ap (source_at ss) is ∙ at'.1) }

  names_searched : (names : List (List ℕ)) (found : List NamePattern) → ((s : List ℕ) → In s names → number_in ss s ≡ None → ⊥) → ArePatterns ss names found → AreNamesSearched ss found
  names_searched names found known h p i = name_searched p (known (string_bytes p.text) (subst (λ l. In (string_bytes p.text) l) h.are_texts (has_text found p i))) (h.numbered p i)

  matching_searched : (ms : Members) (row : List ℕ) (rs : List Rule) → ((s : List ℕ) → In s (names_list ms) → number_in ss s ≡ None → ⊥) → AreMatching ss ms row rs → AreRulesSearched ss rs
  matching_searched no_members row [] known h = tt
  matching_searched no_members row (r ∷ rs) known h = absurd h
  matching_searched (member s d ms) [] [] known h = tt
  matching_searched (member s d ms) [] (r ∷ rs) known h = absurd h
  matching_searched (member s d ms) (j ∷ row) [] known h = absurd h
  matching_searched (member s d ms) (j ∷ row) (r ∷ rs) known h =
      let is = name_searched h.0 (subst (λ u. number_in ss u ≡ None → ⊥) (sym h.2.is_text) (known s first)) h.2.numbered in (
        subst (IsSearched ss) (sym h.1) tt,
        subst (λ q. AreNamesSearched ss (patterns_by q)) (sym h.1) (λ p i. only h.0 is p i),
        matching_searched ms row rs (λ u i. known u (later i)) h.3,
      )
    where
      only : (q : NamePattern) → IsNameSearched ss q → (p : NamePattern) → In p (q ∷ []) → IsNameSearched ss p
      only q is _ first = is
      only q is p (later i) = none_in p i

  of_choice : (o : Option ℕ) (f : ℕ → ℕ → Rule) (row : List ℕ) (r : Rule) → ((a b : ℕ) → IsSearched ss (f a b)) → ((a b : ℕ) → patterns_by (f a b) ≡ []) → IsChoice f o row r → Both r
  of_choice None f row r none empty h = same r (Says true) h tt refl
  of_choice (Some c) f row r none empty h = same r _ h (none _ _) (empty _ _)

  of_reference : (o : Option ℕ) (r : Rule) → IsReference o r → Both r
  of_reference (Some j) r h = same r (Refers j) h tt refl
  of_reference None r h = same r (All h.0) h.1 tt refl

  of_count : (o : Option Doc) (row : List ℕ) (r : Rule) → IsCount o row r → Both r
  of_count None row r h = same r (Contains _) h tt refl
  of_count (Some d) row r h = same r (AtLeast _ h.0) h.1 tt refl

  of_limit : (o : Option ℕ) (v : Doc) (r : Rule) → IsLimit o v r → Both r
  of_limit None v r h = same r (Says true) h tt refl
  of_limit (Some j) v r h = same r (AtMost j h.0) h.1 tt refl

  at_value : (v : Doc) (n : ℕ) → pattern_number ss v ≡ Some n → (n < length ss) × (v ≡ text (source_at ss n))
  at_value (text s) n e = let r = number_at ss s n e in (r.0, ap (λ x. text x) (sym r.1))
  at_value null n e = absurd cc
  at_value (boolean b) n e = absurd cc
  at_value (int z) n e = absurd cc
  at_value (list ds) n e = absurd cc
  at_value (object ms) n e = absurd cc

  of_match : (v : Doc) (o : Option ℕ) (r : Rule) → pattern_number ss v ≡ o → IsMatch o v r → Both r
  of_match v None r e h = same r (Says true) h tt refl
  of_match v (Some n) r e h = let a = at_value v n e in same r (Matches n h.0) h.1 (a.0, h.2 ∙ a.1) refl

  -- each pattern of `patternProperties` beside a member has a number
  abbrev HavePatterns : Around → Type 0
  HavePatterns near = HaveNumbers ss (names_list (members_in (or_null near.patterned)))

  module _ (ts : Targets) (ranks : List ℕ) (root : Doc) (are : patterns_of ts ≡ ss) where
    of_member : (near : Around) → HavePatterns near → (k : Keyword) (v : Doc) (row : List ℕ) (r : Rule) → Fits ts ranks root near k v row r → Both r
    of_member near known keywords.Properties v row r h = same r _ h tt refl
    of_member near known keywords.AdditionalProperties v row r h =
        let others = Others h.0 (first_of row) in
        let names = names_list (members_in (or_null near.patterned)) in
        let none : IsSearched ss others = tt in
        subst Both (sym h.1) (none, names_searched names h.0.items known (subst (λ l. ArePatterns l names h.0.items) are h.2))
    of_member near known keywords.PropertyNames v row r h = same r _ h tt refl
    of_member near known keywords.PrefixItems v row r h = same r (ByPlace h.0) h.1 tt refl
    of_member near known keywords.Items v row r h = same r _ h tt refl
    of_member near known keywords.AllOf v row r h = same r (All h.0) h.1 tt refl
    of_member near known keywords.AnyOf v row r h = same r (Any h.0) h.1 tt refl
    of_member near known keywords.OneOf v row r h = same r (One h.0) h.1 tt refl
    of_member near known keywords.Not v row r h = same r _ h tt refl
    of_member near known keywords.Then v row r h = of_choice near.condition Then row r (λ a b. tt) (λ a b. refl) h
    of_member near known keywords.Else v row r h = of_choice near.condition Else row r (λ a b. tt) (λ a b. refl) h
    of_member near known keywords.DependentSchemas v row r h = same r (Dependent h.0 h.1) h.2 tt refl
    of_member near known keywords.Ref v row r h = of_reference (option_map (at ranks) (target_number ts root v)) r h
    of_member near known keywords.Contains v row r h = of_count near.least row r h
    of_member near known keywords.MaxContains v row r h = of_limit near.contained v r h
    of_member near known keywords.Pattern v row r h = of_match v (pattern_number ss v) r refl (subst (λ l. IsMatch (pattern_number l v) v r) are h)
    of_member near known keywords.MinContains v row r h = same r (Says true) h tt refl
    of_member near known keywords.If v row r h = same r (Says true) h tt refl
    of_member near known keywords.Defs v row r h = same r (Says true) h tt refl
    of_member near known keywords.Anchor v row r h = same r (Says true) h tt refl
    of_member near known keywords.Id v row r h = same r (Says true) h tt refl
    of_member near known keywords.Dialect v row r h = same r (Says true) h tt refl
    of_member near known keywords.LeftOut v row r h = same r (Says true) h tt refl
    of_member near known keywords.Unknown v row r h = same r (Says true) h tt refl
    of_member near known _ v row r h = same r (Asserts h.0) h.1 tt refl

    fit_all : (near : Around) → HavePatterns near → (k : Keyword) (v : Doc) (row : List ℕ) (mine : List Rule) → HaveNumbers ss (texts_of_keyword k v) → FitAll ts ranks root near k v row mine → AreRulesSearched ss mine
    fit_all near patterned k v row mine known (inl h) =
        matching_searched (members_in v) row mine (subst (λ w. HaveNumbers ss (texts_of_keyword w v)) h.0 known) (subst (λ l. AreMatching l (members_in v) row mine) are h.1)
    fit_all near patterned k v row mine known (inr h) = (let one = of_member near patterned k v row h.1 h.3 in subst (AreRulesSearched ss) (sym h.2) (one.0, one.1, tt))

    of_members : (near : Around) → HavePatterns near → (ms : Members) (rows : List (Vec ℕ Global)) (rs : List Rule) → HaveNumbers ss (texts_by Three ms) → AreFitting ts ranks root near ms rows rs → AreRulesSearched ss rs
    of_members near patterned no_members [] rs known h = subst (AreRulesSearched ss) (sym h) tt
    of_members near patterned (member k v ms) (row ∷ rows) rs known h = subst (AreRulesSearched ss) (sym h.2)
        (rules_append ss h.0 h.1 (fit_all near patterned (keyword_of k) v row.items h.0 (λ s i. known s (In-left s _ _ i)) h.3) (of_members near patterned ms rows h.1 (λ s i. known s (In-right s (texts_of_keyword (keyword_of k) v) _ i)) h.4))
    of_members near patterned no_members (row ∷ rows) rs known h = absurd h
    of_members near patterned (member k v ms) [] rs known h = absurd h

    of_built : (rows : List (Vec ℕ Global)) (x : Node) (d : Doc) → HaveNumbers ss (texts_by Three (members_in d)) → IsBuilt ts ranks root rows x d → AreRulesSearched ss x.rules.items
    of_built rows x (object ms) known h = of_members (around ms rows) (λ s i. known s (beside_texts ms s i)) ms rows x.rules.items known h.fits
    of_built rows x (boolean b) known h = subst (AreRulesSearched ss) (sym h) (tt, (λ p i. none_in p i), tt)
    of_built rows x null known h = subst (AreRulesSearched ss) (sym h) tt
    of_built rows x (int z) known h = subst (AreRulesSearched ss) (sym h) tt
    of_built rows x (text s) known h = subst (AreRulesSearched ss) (sym h) tt
    of_built rows x (list ds) known h = subst (AreRulesSearched ss) (sym h) tt

    pub all_searched : (es : List Entry) (places : List ℕ) (nodes : List Node) → ((n : ℕ) (e : Entry) → slice_get es n ≡ Some e → HaveNumbers ss (texts_by Three (members_in (view e.schema.now)))) → AreMade ts ranks root es places nodes → AreSearched ss nodes
    all_searched es [] [] known h = tt
    all_searched es (n ∷ places) (x ∷ nodes) known h = (of_built h.0.rows x (view h.0.entry.schema.now) (known n h.0.entry h.0.is_entry) h.0.built, all_searched es places nodes known h.1)
    all_searched es [] (x ∷ nodes) known h = absurd h
    all_searched es (n ∷ places) [] known h = absurd h
