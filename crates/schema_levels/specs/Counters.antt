-- The counters of nodes whose passing elements are counted, and what rules say of the counts.
use Rattle.std.specs.Prelude.{◌≡◌, ⊤, ℕ, zero, suc, ◌+◌, ◌*◌, ◌-◌, ◌/◌, ◌%◌, ◌^◌, ◌<◌, ◌≤◌, List, [], ◌∷◌, Bool, true, false, ◌&&◌, ◌||◌, Option, Some, None, if◌then◌else◌, length, nat_eq, nat_lt, set, slice_get, slice_index_or}
use Rattle.doc_tree.specs.TreeView.{view}
use Rattle.schema_rules.specs.Assertions.{at_least, at_most}
use Rattle.schema_levels.specs.Bits.{bit, size}
use Rattle.schema_levels.specs.EachInSet.{sweep}
use Rattle.schema_levels.specs.declared.counters.Counters.{Counters}
use Rattle.schema_levels.specs.declared.counters.TheConstants.{MOST_COUNTERS}
use Rattle.schema_levels.specs.declared.node.Node.{Node}
use Rattle.schema_levels.specs.declared.node.Rule.{Rule}
use Rattle.schema_levels.specs.declared.node.Rule.TheVariants.{Contains, AtLeast, AtMost}

-- the counter of the node with that number
abbrev pub counter : Counters → ℕ → ℕ
counter cs j = slice_index_or cs.ranks.items j 0

abbrev pub is_number : ℕ → Option ℕ → Bool
is_number j None = false
is_number j (Some n) = nat_eq n j

-- it is that of this node
abbrev pub owns : Counters → ℕ → Bool
owns cs j = is_number j (slice_get cs.counted.items (counter cs j))

-- a node whose elements are looked for has a rank, and one whose elements are counted has a counter
abbrev pub HasCounter : Counters → Rule → Type 0
HasCounter cs (Contains j) = j < length cs.ranks.items
HasCounter cs (AtLeast j v) = (j < length cs.ranks.items) × (owns cs j ≡ true)
HasCounter cs (AtMost j v) = (j < length cs.ranks.items) × (owns cs j ≡ true)
HasCounter cs _ = ⊤

abbrev pub HaveCounters : Counters → List Rule → Type 0
HaveCounters cs [] = ⊤
HaveCounters cs (r ∷ rs) = HasCounter cs r × HaveCounters cs rs

-- in all nodes
abbrev pub EachCounted : List Node → Counters → Type 0
EachCounted [] cs = ⊤
EachCounted (x ∷ xs) cs = HaveCounters cs x.rules.items × EachCounted xs cs

-- how many counters the rule needs at most
abbrev pub wants : Rule → ℕ
wants (AtLeast j v) = 1
wants (AtMost j v) = 1
wants _ = 0

-- all of them
abbrev pub wanted : List Rule → ℕ
wanted [] = 0
wanted (r ∷ rs) = wants r + wanted rs

-- in all nodes
abbrev pub wanted_in : List Node → ℕ
wanted_in [] = 0
wanted_in (x ∷ xs) = wanted x.rules.items + wanted_in xs

-- each of `n` counters has 13 bytes of a text of 262,144
abbrev pub HaveRoom : ℕ → Type 0
HaveRoom n = 13 * n ≤ 262_144

-- the same, and there aren't more counters than there is room for
pub record AreCounted (nodes : List Node) (cs : Counters) : Type 0 where
  pub each : EachCounted nodes cs
  pub few : length cs.counted.items ≤ MOST_COUNTERS

-- what has a counter keeps it
pub record Keeps (old new : Counters) : Type 0 where
  pub ranks : length old.ranks.items ≤ length new.ranks.items
  pub owners : (j : ℕ) → owns old j ≡ true → owns new j ≡ true

-- ---- an element

-- one was asked of the node, and passes
abbrev pub is_tallied : List ℕ → List ℕ → ℕ → Bool
is_tallied asked passed j = bit asked j && bit passed j

-- a word holds four narrow counters: the one in that quarter
abbrev pub unit : ℕ → ℕ
unit zero = 1
unit (suc zero) = 65536
unit (suc (suc zero)) = 4294967296
unit _ = 281474976710656

-- the count in it
abbrev pub fourth : ℕ → ℕ → ℕ
fourth w part = w / unit part % 65536

-- how many words `n` counters take
abbrev pub width : Bool → ℕ → ℕ
width true n = n / 4 + 1
width false n = n

-- the word that has the counter
abbrev pub word_of : Bool → ℕ → ℕ
word_of true c = c / 4
word_of false c = c

-- what the counter holds
abbrev pub held : Bool → List ℕ → ℕ → ℕ
held true ws c = fourth (slice_index_or ws (c / 4) 0) (c % 4)
held false ws c = slice_index_or ws c 0

-- and holds at most
abbrev pub most : Bool → ℕ
most true = 65535
most false = 2 ^ 64 - 1

-- the counter counts one more, up to that
unfoldable pub more_in_fourths : List ℕ → ℕ → List ℕ
more_in_fourths ws c = if nat_lt (held true ws c) 65535 then set ws (c / 4) (slice_index_or ws (c / 4) 0 + unit (c % 4)) else ws

unfoldable pub more : Bool → List ℕ → ℕ → List ℕ
more true ws c = more_in_fourths ws c
more false ws c = set ws c ((slice_index_or ws c 0 + 1) % 2 ^ 64)

-- the node's one does, if it has one
abbrev pub counted : Counters → Bool → ℕ → List ℕ → List ℕ
counted cs narrow j counts = if owns cs j then more narrow counts (counter cs j) else counts

abbrev pub count_of : Counters → Bool → List ℕ → ℕ → ℕ
count_of cs narrow counts j = held narrow counts (counter cs j)

abbrev pub one : Bool → ℕ
one true = 1
one false = 0

-- of the nodes below that number, an element is found and counted; of the others nothing changes
pub record Tallied (cs : Counters) (narrow : Bool) (asked passed : List ℕ) (upto : ℕ) (found0 counts0 found counts : List ℕ) : Type 0 where
  pub found_len : length found ≡ length found0
  pub counts_len : length counts ≡ length counts0
  pub found_in : (j : ℕ) → j < upto → bit asked j ≡ true → j < size found0 → bit found j ≡ (bit found0 j || bit passed j)
  pub found_out : (j : ℕ) → upto ≤ j → bit found j ≡ bit found0 j
  pub count_in : (j : ℕ) → j < upto → owns cs j ≡ true → bit asked j ≡ true → word_of narrow (counter cs j) < length counts0 → (bit passed j ≡ true → count_of cs narrow counts0 j < most narrow) → count_of cs narrow counts j ≡ count_of cs narrow counts0 j + one (bit passed j)
  pub count_out : (j : ℕ) → upto ≤ j → owns cs j ≡ true → count_of cs narrow counts j ≡ count_of cs narrow counts0 j

-- ---- what rules say of the counts

-- of which nodes some element passes, and how many pass each
abbrev pub rule_says : (ℕ → Bool) → (ℕ → ℕ) → Rule → Bool
rule_says found many (Contains j) = found j
rule_says found many (AtLeast j v) = at_least (view v) (many j)
rule_says found many (AtMost j v) = at_most (view v) (many j)
rule_says found many _ = true

abbrev pub rules_say : (ℕ → Bool) → (ℕ → ℕ) → List Rule → Bool
rules_say found many [] = true
rules_say found many (r ∷ rs) = rule_says found many r && rules_say found many rs

abbrev pub rule_counts : Counters → Bool → (ℕ → Bool) → List ℕ → Rule → Bool
rule_counts cs narrow found counts r = rule_says found (count_of cs narrow counts) r

abbrev pub rules_count : Counters → Bool → (ℕ → Bool) → List ℕ → List Rule → Bool
rules_count cs narrow found counts rs = rules_say found (count_of cs narrow counts) rs

-- of the nodes in the set
abbrev pub weigh : Counters → Bool → (ℕ → Bool) → List ℕ → List ℕ → ℕ → List Node → List ℕ → List ℕ
weigh cs narrow found counts asked i nodes bs = sweep (λ _ x. rules_count cs narrow found counts x.rules.items) asked i nodes bs
