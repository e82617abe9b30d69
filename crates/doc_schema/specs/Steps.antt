-- The steps that a judgement takes, and its answer in the end.
use Rattle.std.specs.Prelude.{◌≡◌, ℕ, suc, max, ◌+◌, ◌*◌, List, [], ◌∷◌, length, Bool, true, false, ◌&&◌, Option, Some, None}
use Rattle.doc_tree.specs.Doc.{Doc, boolean, object, Members, no_members, member, height}
use Rattle.schema_graph.specs.Walks.{In, depth}
use Rattle.schema_rules.specs.Keywords.{keyword_of}
use Rattle.schema_rules.specs.Rules.{Ask, asks, joins}
use Rattle.schema_rules.specs.declared.keyword.Keyword.{Keyword}
use Rattle.doc_schema.specs.Judge.{judge}
use Rattle.doc_schema.specs.Schemas.{schemas, applied}

-- ---- the table if each part is known

abbrev pub told : (Doc → Doc → Bool) → List Ask → List Bool
told known [] = []
told known (a ∷ rest) = known a.schema a.instance ∷ told known rest

abbrev pub holds : (Doc → Doc → Bool) → Doc → Members → Keyword → Doc → Doc → Bool
holds known root beside k v t = joins beside k v t (told known (asks root beside k v t))

abbrev pub all_hold : (Doc → Doc → Bool) → Doc → Members → Members → Doc → Bool
all_hold known root beside no_members t = true
all_hold known root beside (member k v ms) t = holds known root beside (keyword_of k) v t && all_hold known root beside ms t

abbrev pub passes : (Doc → Doc → Bool) → Doc → Doc → Doc → Bool
passes known root (boolean b) t = b
passes known root (object ms) t = all_hold known root ms ms t
passes known root _ t = true

-- ---- how many steps are enough

abbrev pub IsDecided : Option Bool → Type 0
IsDecided o = (b : Bool) × (o ≡ Some b)

-- the longest walk that begins at a schema
abbrev pub rank : Doc → Doc → ℕ
rank root s = depth (applied root) (length (schemas root)) s

abbrev pub steps : Doc → Doc → Doc → ℕ
steps root s t = height t * (length (schemas root) + 1) + rank root s

abbrev pub settled : Option Bool → Bool
settled None = false
settled (Some b) = b

-- what a schema without a loop says in the end
abbrev pub verdict : Doc → Doc → Doc → Bool
verdict root s t = settled (judge root (suc (steps root s t)) s t)

-- ---- what a call of the judge may rely on

-- the asked schemas are schemas of the whole one
abbrev pub ArePlaced : Doc → List Ask → Type 0
ArePlaced root xs = (a : Ask) → In a xs → In a.schema (schemas root)

-- more steps than any of the parts takes
abbrev pub most : Doc → List Ask → ℕ
most root [] = 0
most root (a ∷ xs) = max (suc (steps root a.schema a.instance)) (most root xs)
