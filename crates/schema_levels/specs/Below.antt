-- The nodes that are asked of a child, and how their answers are joined.
use Rattle.std.specs.Prelude.{ℕ, List, [], ◌∷◌, Bool, true, false, ◌&&◌, ◌||◌, Option, Some, None, is_some, String, slice_get, nat_lt}
use Rattle.std.specs.Map.{lookup}
use Rattle.std.specs.BTreeMap.{is_at}
use Rattle.std.specs.Cmp.Lexicographic.{slice_cmp}
use Rattle.std.specs.Ordering.{nat_cmp}
use Rattle.std.specs.Prelude.{string_bytes}
use Rattle.std.specs.declared.alloc.Global.{Global}
use Rattle.schema_pattern.specs.Patterns.{is_found, pattern_in}
use Rattle.schema_pattern.specs.Tables.{some_found}
use Rattle.schema_levels.specs.PlaceInValue.{PlaceInValue, name, index, member_name}
use Rattle.schema_levels.specs.Bits.{put}
use Rattle.schema_levels.specs.EachInSet.{sweep, walk}
use Rattle.schema_levels.specs.NamePatterns.{texts_of}
use Rattle.schema_levels.specs.declared.node.Node.{Node}
use Rattle.schema_levels.specs.declared.node.Rule.{Rule}
use Rattle.schema_levels.specs.declared.node.Rule.TheVariants.{Properties, Matching, Others, Names, ByPlace, Rest, Contains, AtLeast, AtMost}
use Rattle.schema_levels.specs.declared.node.ChildPlace.{ChildPlace}
use Rattle.schema_levels.specs.declared.node.ChildPlace.TheVariants.{Name, Index, MemberName}

abbrev pub seen : ChildPlace → PlaceInValue
seen (Name s found) = name s.now
seen (Index i) = index i
seen MemberName = member_name

-- the number at a name
abbrev pub number_named : List ℕ → List (String Global × ℕ) → Option ℕ
number_named k es = lookup (is_at (λ s. slice_cmp nat_cmp k (string_bytes s))) es

-- the number at an index
abbrev pub number_at : List ℕ → ℕ → Option ℕ
number_at js n = slice_get js n

abbrev pub unless : Bool → ℕ → Option ℕ
unless true j = None
unless false j = Some j

abbrev pub where_found : Bool → ℕ → Option ℕ
where_found true j = Some j
where_found false j = None

-- of each element
abbrev pub at_index : ℕ → PlaceInValue → Option ℕ
at_index j (index n) = Some j
at_index j _ = None

-- the node that a rule asks of the child at that place
abbrev pub below : Node → Rule → PlaceInValue → Option ℕ
below x Properties (name k) = number_named k x.named.entries
below x (Matching p j) (name k) = where_found (is_found (pattern_in (string_bytes p.text)) k) j
below x (Others ps j) (name k) = unless (is_some (number_named k x.named.entries) || some_found (texts_of ps.items) k) j
below x (Names j) member_name = Some j
below x (ByPlace v) (index n) = number_at v.items n
below x (Rest j) (index n) = unless (nat_lt n x.prefix) j
below x (Contains j) p = at_index j p
below x (AtLeast j v) p = at_index j p
below x (AtMost j v) p = at_index j p
below x _ _ = None

abbrev pub mark_found : Option ℕ → List ℕ → List ℕ
mark_found None bs = bs
mark_found (Some j) bs = put bs j true

abbrev pub collect_rules : Node → PlaceInValue → List Rule → List ℕ → List ℕ
collect_rules x p [] bs = bs
collect_rules x p (r ∷ rs) bs = collect_rules x p rs (mark_found (below x r p) bs)

-- what the nodes from the number i on ask, of those in the set
abbrev pub collect : List ℕ → PlaceInValue → ℕ → List Node → List ℕ → List ℕ
collect asked p i nodes bs = walk (λ n x now. collect_rules x p x.rules.items now) asked i nodes bs

abbrev pub found_passes : (ℕ → Bool) → Option ℕ → Bool
found_passes known None = true
found_passes known (Some j) = known j

-- what a rule says of that child alone: one that speaks of the elements together says nothing
abbrev pub rule_below : (ℕ → Bool) → Node → Rule → PlaceInValue → Bool
rule_below known x (Contains j) p = true
rule_below known x (AtLeast j v) p = true
rule_below known x (AtMost j v) p = true
rule_below known x r p = found_passes known (below x r p)

abbrev pub rules_below : (ℕ → Bool) → Node → PlaceInValue → List Rule → Bool
rules_below known x p [] = true
rules_below known x p (r ∷ rs) = rule_below known x r p && rules_below known x p rs

abbrev pub fold : (ℕ → Bool) → List ℕ → PlaceInValue → ℕ → List Node → List ℕ → List ℕ
fold known asked p i nodes bs = sweep (λ _ x. rules_below known x p x.rules.items) asked i nodes bs
