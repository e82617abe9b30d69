-- For the clauses within the crate: the rule that is made of a member.
use Rattle.std.specs.Prelude.{◌≡◌, ⊤, ◌⊎◌, ℕ, suc, List, [], ◌∷◌, ◌++◌, Bool, true, Option, Some, None, option_map, if◌then◌else◌, codes, length, map, slice_get, String, string_bytes}
use Rattle.std.specs.declared.alloc.Global.{Global}
use Rattle.std.specs.Global.{Vec}
use Rattle.std.specs.Option.{option_and_then}
use Rattle.std.specs.Str.{bytes_eq}
use Rattle.doc_tree.specs.Doc.{Doc, boolean, object, text, Members, no_members, member, get_member}
use Rattle.doc_tree.specs.Sound.{IsBefore}
use Rattle.doc_tree.specs.TreeView.{view}
use Rattle.doc_tree.specs.declared.tree.Tree.{Tree}
use Rattle.schema_rules.specs.Holds.{holds}
use Rattle.schema_rules.specs.Assertions.{asserts}
use Rattle.schema_rules.specs.Keywords.{keyword_of}
use Rattle.schema_rules.specs.Parts.{elements_in, members_in, beside, or_null}
use Rattle.schema_rules.specs.EarlierReferences.{earlier_target, without_front}
use Rattle.schema_rules.specs.References.{spelled_by, tokens_to}
use Rattle.schema_rules.specs.Anchors.{with_anchor}
use Rattle.schema_rules.specs.Schemas.{schemas}
use Rattle.schema_rules.specs.declared.keyword.Shape.TheVariants as shapes
use Rattle.schema_nodes.specs.Entries.{AreEntries, doc_at}
use Rattle.schema_nodes.specs.Holding.{AreHeld}
use Rattle.schema_nodes.specs.Reaching.{Reached, number_to}
use Rattle.schema_rules.specs.declared.assertion.Assertion.{Assertion}
use Rattle.schema_rules.specs.declared.keyword.Keyword.{Keyword}
use Rattle.schema_rules.specs.declared.keyword.Keyword.TheVariants as keywords
use Rattle.schema_graph.specs.Walks.{In}
use Rattle.schema_levels.specs.Below.{number_named}
use Rattle.schema_levels.specs.NamePatterns.{texts_of}
use Rattle.schema_levels.specs.declared.node.NamePattern.{NamePattern}
use Rattle.schema_levels.specs.declared.node.Rule.{Rule}
use Rattle.schema_levels.specs.declared.node.Rule.TheVariants.{Says, Asserts, Matches, All, Any, One, Not, Then, Else, Dependent, Refers, Properties, Matching, Others, Names, ByPlace, Rest, Contains, AtLeast, AtMost}
use Rattle.schema_nodes.specs.declared.rules.Near.{Near}
use Rattle.schema_nodes.specs.declared.targets.Targets.{Targets}
use Rattle.schema_graph.specs.Orders.{at}
use Rattle.schema_nodes.specs.Nodes.{AreNamed, HaveRows, AreMoved}
pub use Rattle.schema_nodes.specs.Entries.{AsMany}
pub use Rattle.schema_nodes.specs.Reaching.{row_named}
use Rattle.schema_nodes.specs.declared.entries.Entry.{Entry}
use Rattle.schema_levels.specs.declared.node.Node.{Node}
use Rattle.doc_tree.specs.Lists.{elements_list, names_list}

-- the numbers of the schemas that references name: that of the whole one, and those in its row of definitions
pub record IsTargets (root : Doc) (es : List Entry) (number : ℕ) (rows : List (Vec ℕ)) (ts : Targets) : Type 0 where
  pub held : AreHeld es ts.held.now
  pub whole : ts.whole ≡ number
  pub named : (schema : ℕ → Doc) → HaveRows schema (members_in root) rows → AreNamed schema ts.named.entries (members_in (beside (codes "$defs") (members_in root)))
  pub anchors : (s : List ℕ) → Reached (doc_at es) (number_named s ts.anchors.entries) (with_anchor s (schemas root))

-- the same, if it is known which schema each number is that of
pub record AreTargets (schema : ℕ → Doc) (root : Doc) (ts : Targets) : Type 0 where
  pub whole : schema ts.whole ≡ root
  pub named : AreNamed schema ts.named.entries (members_in (beside (codes "$defs") (members_in root)))
  pub anchors : (s : List ℕ) → option_map schema (number_named s ts.anchors.entries) ≡ with_anchor s (schemas root)
  pub entries : List Entry
  pub are : AreEntries root entries
  pub held : AreHeld entries ts.held.now
  pub stands : doc_at entries ts.whole ≡ Some root
  pub agree : (n : ℕ) (d : Doc) → doc_at entries n ≡ Some d → schema n ≡ d

abbrev pub number_by : Targets → Doc → Option ℕ
number_by ts (text s) = if bytes_eq s (codes "#") then Some ts.whole else option_and_then (λ n. number_named n ts.named.entries) (without_front (codes "#/$defs/") s)
number_by ts _ = None

abbrev pub if_found : Option Doc → Option ℕ → Option ℕ
if_found None o = None
if_found (Some d) o = o

-- the second if the schema isn't there
abbrev pub unless_found : Option Doc → Option ℕ → Option ℕ → Option ℕ
unless_found (Some d) o others = o
unless_found None o others = others

-- the number of the schema at the end of the tokens that lead from the whole one; without tokens of the one that has this anchor
abbrev pub number_at_end : Targets → Doc → Option (List (List ℕ)) → Option (List ℕ) → Option ℕ
number_at_end ts root (Some ks) name = number_to ts.held.now shapes.One ks root (ts.whole ∷ []) ts.named.entries
number_at_end ts root None name = option_and_then (λ s. number_named s ts.anchors.entries) name

-- the number of the schema that a reference names, if it names one: of a definition by its name
abbrev pub target_number : Targets → Doc → Doc → Option ℕ
target_number ts root v = unless_found (earlier_target root v) (number_by ts v) (number_at_end ts root (tokens_to root v) (spelled_by root v))

abbrev pub first_of : List ℕ → ℕ
first_of [] = 0
first_of (n ∷ row) = n

abbrev pub IsReference : Option ℕ → Rule → Type 0
IsReference (Some j) r = r ≡ Refers j
IsReference None r = (w : Vec ℕ) × (r ≡ All w) × (w.items ≡ [])

-- a rule that speaks of the schema of `if`, whose number is given, and of the first of these; one that passes everything without `if`
abbrev pub IsChoice : (ℕ → ℕ → Rule) → Option ℕ → List ℕ → Rule → Type 0
IsChoice choice None row r = r ≡ Says true
IsChoice choice (Some condition) row r = r ≡ choice condition (first_of row)

-- a rule that counts the elements that pass the first of these, at least as many as `minContains` beside it says
abbrev pub IsCount : Option Doc → List ℕ → Rule → Type 0
IsCount None row r = r ≡ Contains (first_of row)
IsCount (Some d) row r = (a : Tree) × (r ≡ AtLeast (first_of row) a) × (view a ≡ d)

-- at most `maxContains` elements pass the schema of `contains`, whose number is given; everything passes without it
abbrev pub IsLimit : Option ℕ → Doc → Rule → Type 0
IsLimit None v r = r ≡ Says true
IsLimit (Some j) v r = (a : Tree) × (r ≡ AtMost j a) × (view a ≡ v)

-- a rule with the names of these members, and the numbers of their schemas
abbrev pub IsDependent : Doc → List ℕ → Rule → Type 0
IsDependent v row r = (ns : Vec (String Global)) × (w : Vec ℕ) × (r ≡ Dependent ns w) × (map string_bytes ns.items ≡ names_list (members_in v)) × (w.items ≡ row)

-- the number of the first of these texts that is this one
abbrev pub number_in : List (List ℕ) → List ℕ → Option ℕ
number_in [] s = None
number_in (p ∷ ps) s = if bytes_eq p s then Some 0 else option_map suc (number_in ps s)

-- the number of the pattern that this value is
abbrev pub pattern_number : List (List ℕ) → Doc → Option ℕ
pattern_number ps (text s) = number_in ps s
pattern_number ps _ = None

-- the texts of the patterns, in the order of their numbers
abbrev pub patterns_of : Targets → List (List ℕ)
patterns_of ts = map (λ s. s.now) ts.patterns.now

-- a rule that asks for a match of the pattern of that number; one that passes everything without a number
abbrev pub IsMatch : Option ℕ → Doc → Rule → Type 0
IsMatch None v r = r ≡ Says true
IsMatch (Some n) v r = (a : Tree) × (r ≡ Matches n a) × (view a ≡ v)

-- ---- patterns for the names of members

abbrev pub or_first : Option ℕ → ℕ
or_first None = 0
or_first (Some n) = n

-- the number of the pattern is that of its text
abbrev pub IsNumbered : List (List ℕ) → NamePattern → Type 0
IsNumbered ps p = p.number ≡ or_first (number_in ps (string_bytes p.text))

-- and it has this text
pub record IsNamePattern (ps : List (List ℕ)) (s : List ℕ) (p : NamePattern) : Type 0 where
  pub is_text : string_bytes p.text ≡ s
  pub numbered : IsNumbered ps p

-- one with each of these texts
pub record ArePatterns (ps : List (List ℕ)) (names : List (List ℕ)) (found : List NamePattern) : Type 0 where
  pub are_texts : texts_of found ≡ names
  pub numbered : (p : NamePattern) → In p found → IsNumbered ps p

-- a rule that asks the first of these of the members that have no node, with the patterns of `patternProperties` beside, which has this value
abbrev pub IsOthers : List (List ℕ) → Option Doc → List ℕ → Rule → Type 0
IsOthers ps patterned row r = (found : Vec NamePattern) × (r ≡ Others found (first_of row)) × ArePatterns ps (names_list (members_in (or_null patterned))) found.items

-- one rule for each member and number, as far as there are both
abbrev pub AreMatching : List (List ℕ) → Members → List ℕ → List Rule → Type 0
AreMatching ps (member s d ss) (j ∷ row) (r ∷ rs) = (p : NamePattern) × (r ≡ Matching p j) × IsNamePattern ps s p × AreMatching ps ss row rs
AreMatching ps (member s d ss) (j ∷ row) [] = ⊥
AreMatching ps _ _ [] = ⊤
AreMatching ps _ _ (r ∷ rs) = ⊥

-- a keyword that asks no schema: its rule says that everything passes, if the keyword asserts nothing, and else what it
-- asserts
abbrev pub AsksNoSchema : Keyword → Doc → Rule → Type 0
AsksNoSchema keywords.MinContains v r = r ≡ Says true
AsksNoSchema keywords.If v r = r ≡ Says true
AsksNoSchema keywords.Defs v r = r ≡ Says true
AsksNoSchema keywords.Anchor v r = r ≡ Says true
AsksNoSchema keywords.Id v r = r ≡ Says true
AsksNoSchema keywords.Dialect v r = r ≡ Says true
AsksNoSchema keywords.LeftOut v r = r ≡ Says true
AsksNoSchema keywords.Unknown v r = r ≡ Says true
AsksNoSchema k v r = (a : Assertion) × (r ≡ Asserts a) × ((t : Doc) → holds a t ≡ asserts k v t)

-- what a rule needs to know of the members beside its own: the numbers of the schemas of `if` and of `contains`, and the values of `minContains` and of `patternProperties`
pub record Around : Type 0 where
  pub condition : Option ℕ
  pub contained : Option ℕ
  pub least : Option Doc
  pub patterned : Option Doc

abbrev pub known_near : Near → Around
known_near near = record { condition = near.condition; contained = near.contained; least = option_map (λ t. view t.now) near.least; patterned = option_map (λ t. view t.now) near.patterned }

-- among these members
abbrev pub Fits : Targets → List ℕ → Doc → Around → Keyword → Doc → List ℕ → Rule → Type 0
Fits ts ranks root near keywords.Properties v row r = r ≡ Properties
Fits ts ranks root near keywords.AdditionalProperties v row r = IsOthers (patterns_of ts) near.patterned row r
Fits ts ranks root near keywords.PropertyNames v row r = r ≡ Names (first_of row)
Fits ts ranks root near keywords.PrefixItems v row r = (w : Vec ℕ) × (r ≡ ByPlace w) × (w.items ≡ row)
Fits ts ranks root near keywords.Items v row r = r ≡ Rest (first_of row)
Fits ts ranks root near keywords.AllOf v row r = (w : Vec ℕ) × (r ≡ All w) × (w.items ≡ row)
Fits ts ranks root near keywords.AnyOf v row r = (w : Vec ℕ) × (r ≡ Any w) × (w.items ≡ row)
Fits ts ranks root near keywords.OneOf v row r = (w : Vec ℕ) × (r ≡ One w) × (w.items ≡ row)
Fits ts ranks root near keywords.Not v row r = r ≡ Not (first_of row)
Fits ts ranks root near keywords.Then v row r = IsChoice Then near.condition row r
Fits ts ranks root near keywords.Else v row r = IsChoice Else near.condition row r
Fits ts ranks root near keywords.DependentSchemas v row r = IsDependent v row r
Fits ts ranks root near keywords.Ref v row r = IsReference (option_map (at ranks) (target_number ts root v)) r
Fits ts ranks root near keywords.Pattern v row r = IsMatch (pattern_number (patterns_of ts) v) v r
Fits ts ranks root near keywords.Contains v row r = IsCount near.least row r
Fits ts ranks root near keywords.MaxContains v row r = IsLimit near.contained v r
Fits ts ranks root near k v row r = AsksNoSchema k v r

-- the rules of one member: one for each pattern of `patternProperties`, and else one
abbrev pub FitAll : Targets → List ℕ → Doc → Around → Keyword → Doc → List ℕ → List Rule → Type 0
FitAll ts ranks root near k v row rs =
    ((k ≡ keywords.PatternProperties) × AreMatching (patterns_of ts) (members_in v) row rs)
    ⊎ ((k ≡ keywords.PatternProperties → ⊥) × (r : Rule) × (rs ≡ r ∷ []) × Fits ts ranks root near k v row r)

-- rules, with such rules after them
abbrev pub Follow : List Rule → (List Rule → Type 0) → List Rule → Type 0
Follow before Are rs = (mine : List Rule) × (rs ≡ before ++ mine) × Are mine

-- those of all members, one after another
abbrev pub AreFitting : Targets → List ℕ → Doc → Around → Members → List (Vec ℕ) → List Rule → Type 0
AreFitting ts ranks root near no_members [] rs = rs ≡ []
AreFitting ts ranks root near (member k v ms) (row ∷ rows) rs = (mine : List Rule) × (others : List Rule) × (rs ≡ mine ++ others) × FitAll ts ranks root near (keyword_of k) v row.items mine × AreFitting ts ranks root near ms rows others
AreFitting ts ranks root near _ _ rs = ⊥

-- each name before those after it
abbrev pub AreSorted : Members → Type 0
AreSorted no_members = ⊤
AreSorted (member k v ms) = IsBefore k ms × AreSorted ms

-- ---- names

-- the number of the schema of that name among these members
abbrev pub single_number : List ℕ → Members → List (Vec ℕ) → Option ℕ
single_number n ms rows = if_found (get_member n ms) (slice_get (row_named n ms rows) 0)

abbrev pub around : Members → List (Vec ℕ) → Around
around ms rows = record { condition = single_number (codes "if") ms rows; contained = single_number (codes "contains") ms rows; least = get_member (codes "minContains") ms; patterned = get_member (codes "patternProperties") ms }

abbrev pub says_rules : Option Bool → List Rule
says_rules None = []
says_rules (Some b) = Says b ∷ []

-- ---- a node, as it is built

pub record IsBuiltOf (ts : Targets) (ranks : List ℕ) (root : Doc) (rows : List (Vec ℕ)) (x : Node) (ms : Members) : Type 0 where
  pub fits : AreFitting ts ranks root (around ms rows) ms rows x.rules.items
  pub sorted : AreSorted ms
  pub named : (schema : ℕ → Doc) → HaveRows schema ms rows → AreNamed schema x.named.entries (members_in (beside (codes "properties") ms))
  pub prefix : x.prefix ≡ length (elements_list (elements_in (beside (codes "prefixItems") ms)))

-- of a schema, whose members' schemas have these ranks
abbrev pub IsBuilt : Targets → List ℕ → Doc → List (Vec ℕ) → Node → Doc → Type 0
IsBuilt ts ranks root rows x (object ms) = IsBuiltOf ts ranks root rows x ms
IsBuilt ts ranks root rows x (boolean b) = x.rules.items ≡ Says b ∷ []
IsBuilt ts ranks root rows x _ = x.rules.items ≡ []

-- of the entry with that number
pub record IsMade (ts : Targets) (ranks : List ℕ) (root : Doc) (es : List Entry) (n : ℕ) (x : Node) : Type 0 where
  pub entry : Entry
  pub is_entry : slice_get es n ≡ Some entry
  pub rows : List (Vec ℕ)
  pub moved : AreMoved ranks entry.rows.items rows
  pub built : IsBuilt ts ranks root rows x (view entry.schema.now)

-- one node for each of the numbers
abbrev pub AreMade : Targets → List ℕ → Doc → List Entry → List ℕ → List Node → Type 0
AreMade ts ranks root es [] [] = ⊤
AreMade ts ranks root es (n ∷ ns) (x ∷ xs) = IsMade ts ranks root es n x × AreMade ts ranks root es ns xs
AreMade ts ranks root es _ _ = ⊥
