-- The nodes want no more counters than their schemas do.
use Rattle.std.proofs.Common.{◌≡◌, ℕ, zero, suc, ◌+◌, ◌<◌, ◌≤◌, ◌⊎◌, inl, inr, List, [], ◌∷◌, ◌++◌, length, true, Option, Some, None, Vec, Global, refl, sym, ap, ap₂, ◌∙◌, arith, set, slice_get, get_or-set_other, length-set, option_map}
use Rattle.doc_tree.specs.Doc.{Doc, null, boolean, int, text, list, object, Members, no_members, member}
use Rattle.doc_tree.specs.TreeView.{view}
use Rattle.schema_graph.specs.Numbered.{Graph}
use Rattle.schema_graph.specs.Orders.{at, IsOrder}
use Rattle.schema_rules.specs.Keywords.{keyword_of}
use Rattle.schema_rules.specs.Parts.{members_in}
use Rattle.schema_rules.specs.declared.keyword.Keyword.{Keyword}
use Rattle.schema_rules.specs.declared.keyword.Keyword.TheVariants as keywords
use Rattle.schema_levels.specs.Counters.{wants, wanted, wanted_in}
use Rattle.schema_levels.specs.declared.node.Node.{Node}
use Rattle.schema_levels.specs.declared.node.Rule.{Rule}
use Rattle.schema_levels.specs.declared.node.Rule.TheVariants.{Says, Asserts, Matches, All, Any, One, Then, Else, Dependent, Refers, Properties, Matching, ByPlace, AtLeast, AtMost}
use Rattle.schema_nodes.specs.declared.entries.Entry.{Entry}
use Rattle.schema_nodes.specs.declared.targets.Targets.{Targets}
use Rattle.schema_nodes.specs.Entries.{entries_want}
use Rattle.schema_nodes.specs.Fits.{Around, around, Fits, FitAll, AreFitting, AreMatching, IsBuilt, IsChoice, IsMatch, IsReference, AreMade, pattern_number, patterns_of, target_number}
use Rattle.schema_nodes.specs.Wants.{keyword_wants, members_want}

-- ---- one rule

one_at_most : (r : Rule) → wants r ≤ 1
one_at_most (AtLeast j v) = omega arith
one_at_most (AtMost j v) = omega arith
one_at_most _ = omega arith

is_none : (r s : Rule) → r ≡ s → wants s ≡ 0 → wants r ≤ 0
is_none r s e none = let same = ap wants e in omega (arith, same, none)

choice_wants : (o : Option ℕ) (f : ℕ → ℕ → Rule) (row : List ℕ) (r : Rule) → ((a b : ℕ) → wants (f a b) ≡ 0) → IsChoice f o row r → wants r ≤ 0
choice_wants None f row r none h = is_none r (Says true) h refl
choice_wants (Some c) f row r none h = is_none r _ h (none _ _)

reference_wants : (o : Option ℕ) (r : Rule) → IsReference o r → wants r ≤ 0
reference_wants (Some j) r h = is_none r (Refers j) h refl
reference_wants None r h = is_none r (All h.0) h.1 refl

match_wants : (o : Option ℕ) (v : Doc) (r : Rule) → IsMatch o v r → wants r ≤ 0
match_wants (Some n) v r h = is_none r (Matches n h.0) h.1 refl
match_wants None v r h = is_none r (Says true) h refl

-- ---- several

wanted_append : (xs ys : List Rule) → wanted (xs ++ ys) ≡ wanted xs + wanted ys
wanted_append [] ys = omega arith
wanted_append (r ∷ xs) ys = (let rest = wanted_append xs ys in omega (arith, rest))

matching_want : (ps : List (List ℕ)) (ss : Members) (row : List ℕ) (rs : List Rule) → AreMatching ps ss row rs → wanted rs ≤ 0
matching_want ps no_members row [] h = omega arith
matching_want ps no_members row (r ∷ rs) h = absurd h
matching_want ps (member s d ss) [] [] h = omega arith
matching_want ps (member s d ss) [] (r ∷ rs) h = absurd h
matching_want ps (member s d ss) (j ∷ row) [] h = absurd h
matching_want ps (member s d ss) (j ∷ row) (r ∷ rs) h =
    let one = is_none r (Matching h.0 j) h.1 refl in
    let rest = matching_want ps ss row rs h.3 in
    omega (arith, one, rest)

module _ (ts : Targets) (ranks : List ℕ) (root : Doc) (near : Around) where
  fits_wants : (k : Keyword) (v : Doc) (row : List ℕ) (r : Rule) → Fits ts ranks root near k v row r → wants r ≤ keyword_wants k
  fits_wants keywords.Contains v row r h = one_at_most r
  fits_wants keywords.MaxContains v row r h = one_at_most r
  fits_wants keywords.Properties v row r h = is_none r Properties h refl
  fits_wants keywords.AdditionalProperties v row r h = is_none r _ h.1 refl
  fits_wants keywords.PropertyNames v row r h = is_none r _ h refl
  fits_wants keywords.PrefixItems v row r h = is_none r (ByPlace h.0) h.1 refl
  fits_wants keywords.Items v row r h = is_none r _ h refl
  fits_wants keywords.AllOf v row r h = is_none r (All h.0) h.1 refl
  fits_wants keywords.AnyOf v row r h = is_none r (Any h.0) h.1 refl
  fits_wants keywords.OneOf v row r h = is_none r (One h.0) h.1 refl
  fits_wants keywords.Not v row r h = is_none r _ h refl
  fits_wants keywords.Then v row r h = choice_wants near.condition Then row r (λ a b. refl) h
  fits_wants keywords.Else v row r h = choice_wants near.condition Else row r (λ a b. refl) h
  fits_wants keywords.DependentSchemas v row r h = is_none r (Dependent h.0 h.1) h.2 refl
  fits_wants keywords.Ref v row r h = reference_wants (option_map (at ranks) (target_number ts root v)) r h
  fits_wants keywords.Pattern v row r h = match_wants (pattern_number (patterns_of ts) v) v r h
  fits_wants keywords.MinContains v row r h = is_none r (Says true) h refl
  fits_wants keywords.If v row r h = is_none r (Says true) h refl
  fits_wants keywords.Defs v row r h = is_none r (Says true) h refl
  fits_wants keywords.Anchor v row r h = is_none r (Says true) h refl
  fits_wants keywords.Id v row r h = is_none r (Says true) h refl
  fits_wants keywords.Dialect v row r h = is_none r (Says true) h refl
  fits_wants keywords.LeftOut v row r h = is_none r (Says true) h refl
  fits_wants keywords.Unknown v row r h = is_none r (Says true) h refl
  fits_wants _ v row r h = is_none r (Asserts h.0) h.1 refl

  all_want : (k : Keyword) (v : Doc) (row : List ℕ) (mine : List Rule) → FitAll ts ranks root near k v row mine → wanted mine ≤ keyword_wants k
  all_want k v row mine (inl h) = (let none = matching_want (patterns_of ts) (members_in v) row mine h.1 in omega (arith, none))
  all_want k v row mine (inr h) = (let one = fits_wants k v row h.1 h.3 in let is = ap wanted h.2 in omega (arith, one, is))

  fitting_wants : (ms : Members) (rows : List (Vec ℕ Global)) (rs : List Rule) → AreFitting ts ranks root near ms rows rs → wanted rs ≤ members_want ms
  fitting_wants no_members [] rs h = (let is = ap wanted h in omega (arith, is))
  fitting_wants (member k v ms) (row ∷ rows) rs h =
      let one = all_want (keyword_of k) v row.items h.0 h.3 in
      let rest = fitting_wants ms rows h.1 h.4 in
      let is = ap wanted h.2 ∙ wanted_append h.0 h.1 in
      omega (arith, one, rest, is)
  fitting_wants no_members (row ∷ rows) rs h = absurd h
  fitting_wants (member k v ms) [] rs h = absurd h

-- ---- one node

none_wanted : (rs ss : List Rule) (n : ℕ) → rs ≡ ss → wanted ss ≡ 0 → wanted rs ≤ n
none_wanted rs ss n e none = let same = ap wanted e in omega (arith, same, none)

built_wants : (ts : Targets) (ranks : List ℕ) (root : Doc) (rows : List (Vec ℕ Global)) (x : Node) (d : Doc) → IsBuilt ts ranks root rows x d → wanted x.rules.items ≤ members_want (members_in d)
built_wants ts ranks root rows x (object ms) h = fitting_wants ts ranks root (around ms rows) ms rows x.rules.items h.fits
built_wants ts ranks root rows x (boolean b) h = none_wanted x.rules.items _ 0 h refl
built_wants ts ranks root rows x null h = none_wanted x.rules.items _ 0 h refl
built_wants ts ranks root rows x (int z) h = none_wanted x.rules.items _ 0 h refl
built_wants ts ranks root rows x (text s) h = none_wanted x.rules.items _ 0 h refl
built_wants ts ranks root rows x (list ds) h = none_wanted x.rules.items _ 0 h refl

-- ---- all nodes: each is that of another entry

-- entry by entry
abbrev pub each_wants : List Entry → List ℕ
each_wants [] = []
each_wants (e ∷ es) = members_want (members_in (view e.schema.now)) ∷ each_wants es

abbrev sum_of : List ℕ → ℕ
sum_of [] = 0
sum_of (w ∷ ws) = w + sum_of ws

-- of the numbers at these places
abbrev sum_at : List ℕ → List ℕ → ℕ
sum_at ws [] = 0
sum_at ws (p ∷ places) = at ws p + sum_at ws places

sum_entries : (es : List Entry) → sum_of (each_wants es) ≡ entries_want es
sum_entries [] = refl
sum_entries (e ∷ es) = ap (λ n. members_want (members_in (view e.schema.now)) + n) (sum_entries es)

many_wants : (es : List Entry) → length (each_wants es) ≡ length es
many_wants [] = refl
many_wants (e ∷ es) = ap suc (many_wants es)

wants_at : (es : List Entry) (n : ℕ) (e : Entry) → slice_get es n ≡ Some e → members_want (members_in (view e.schema.now)) ≡ at (each_wants es) n
wants_at [] n e h = absurd cc
wants_at (x ∷ es) zero e h = let same : x ≡ e = cc in ap (λ y. members_want (members_in (view y.schema.now))) (sym same)
wants_at (x ∷ es) (suc n) e h = wants_at es n e h

module _ (ts : Targets) (ranks : List ℕ) (root : Doc) (es : List Entry) where
  made_wants : (places : List ℕ) (nodes : List Node) → AreMade ts ranks root es places nodes → wanted_in nodes ≤ sum_at (each_wants es) places
  made_wants [] [] h = omega arith
  made_wants (n ∷ places) (x ∷ nodes) h =
      let one = built_wants ts ranks root h.0.rows x (view h.0.entry.schema.now) h.0.built in
      let is = wants_at es n h.0.entry h.0.is_entry in
      let rest = made_wants places nodes h.1 in
      omega (arith, one, is, rest)
  made_wants [] (x ∷ nodes) h = absurd h
  made_wants (n ∷ places) [] h = absurd h

-- ---- a sum over places that all differ

sum_without : (ws : List ℕ) (p : ℕ) → p < length ws → sum_of (set ws p 0) + at ws p ≡ sum_of ws
sum_without [] p lt = absurd (omega arith)
sum_without (w ∷ ws) zero lt = omega arith
sum_without (w ∷ ws) (suc p) lt = let rest = sum_without ws p (omega arith) in omega (arith, rest)

-- the places have ranks after that of p
others_stay : (ranks ws : List ℕ) (p k : ℕ) (places : List ℕ) → at ranks p < k → ((i : ℕ) → i < length places → at ranks (at places i) ≡ k + i) → sum_at (set ws p 0) places ≡ sum_at ws places
others_stay ranks ws p k [] before h = refl
others_stay ranks ws p k (q ∷ places) before h =
    let here = h 0 (omega arith) in
    let other : q ≡ p → ⊥ = λ e. (let same = ap (at ranks) e in absurd (omega (arith, same, here, before))) in
    let after : (i : ℕ) → i < length places → at ranks (at places i) ≡ (k + 1) + i = λ i lt. (let there = h (suc i) (omega arith) in omega (arith, there)) in
    ap₂ (λ a b. a + b) (get_or-set_other ws p q 0 0 other) (others_stay ranks ws p (k + 1) places (omega (arith, before)) after)

sum_of_some : (ranks ws : List ℕ) (k : ℕ) (places : List ℕ) → ((i : ℕ) → i < length places → (at places i < length ws) × (at ranks (at places i) ≡ k + i)) → sum_at ws places ≤ sum_of ws
sum_of_some ranks ws k [] h = omega arith
sum_of_some ranks ws k (p ∷ places) h =
    let here = h 0 (omega arith) in
    let long = length-set ws p 0 in
    let after : (i : ℕ) → i < length places → at ranks (at places i) ≡ (k + 1) + i = λ i lt. (let there = h (suc i) (omega arith) in omega (arith, there.1)) in
    let within : (i : ℕ) → i < length places → at places i < length (set ws p 0) = λ i lt. (let there = h (suc i) (omega arith) in omega (arith, there.0, long)) in
    let rest = sum_of_some ranks (set ws p 0) (k + 1) places (λ i lt. (within i lt, after i lt)) in
    let stay = others_stay ranks ws p (k + 1) places (omega (arith, here.1)) after in
    let whole = sum_without ws p here.0 in
    omega (arith, rest, stay, whole)

pub nodes_want : (ts : Targets) (root : Doc) (es : List Entry) (g : Graph) (places ranks : List ℕ) (nodes : List Node) → length g ≡ length es → IsOrder g places ranks → AreMade ts ranks root es places nodes → wanted_in nodes ≤ entries_want es
nodes_want ts root es g places ranks nodes many o made =
    let all = made_wants ts ranks root es places nodes made in
    let long = many_wants es in
    let some = sum_of_some ranks (each_wants es) 0 places (λ i lt. (let r = o.ranked i (omega (arith, lt, o.many_places)) in (omega (arith, r.0, many, long), omega (arith, r.1)))) in
    let sum = sum_entries es in
    omega (arith, all, some, sum)
