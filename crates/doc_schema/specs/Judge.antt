-- The judgement of an instance under a schema, with a number of steps (JSON Schema Core, section 4.3; Validation).
use Rattle.std.specs.Prelude.{◌≡◌, ◌≤◌, ℕ, zero, suc, ◌+◌, ◌*◌, List, [], ◌∷◌, length, Bool, true, ◌&&◌, Option, Some, None, option_map, option_and_then}
use Rattle.doc_tree.specs.Doc.{Doc, boolean, object, Members, no_members, member, height}
use Rattle.schema_rules.specs.Keywords.{keyword_of}
use Rattle.schema_rules.specs.Rules.{Ask, asks, joins}
use Rattle.schema_rules.specs.declared.keyword.Keyword.{Keyword}
use Rattle.doc_schema.specs.Positions.{positions}

-- undecided if either part is
abbrev pub both : Option Bool → Option Bool → Option Bool
both a b = option_and_then (λ x. option_map (λ y. x && y) b) a

-- the answers to what is asked; undecided if one is
abbrev pub answers : (Doc → Doc → Option Bool) → List Ask → Option (List Bool)
answers judged [] = Some []
answers judged (a ∷ rest) = option_and_then (λ b. option_map (λ bs. b ∷ bs) (answers judged rest)) (judged a.schema a.instance)

-- what one member says, with all members of its object beside it
abbrev pub says : (Doc → Doc → Option Bool) → Doc → Members → Keyword → Doc → Doc → Option Bool
says judged root beside k v t = option_map (joins beside k v t) (answers judged (asks root beside k v t))

-- all members of a schema object apply together
abbrev pub all_say : (Doc → Doc → Option Bool) → Doc → Members → Members → Doc → Option Bool
all_say judged root beside no_members t = Some true
all_say judged root beside (member k v ms) t = both (says judged root beside (keyword_of k) v t) (all_say judged root beside ms t)

-- the answer of a schema, if parts are judged in this way
abbrev pub step : (Doc → Doc → Option Bool) → Doc → Doc → Doc → Option Bool
step judged root (boolean b) t = Some b
step judged root (object ms) t = all_say judged root ms ms t
step judged root _ t = Some true

-- the judgement of a schema in the whole schema `root` on an instance: undecided without steps, parts judged with one step fewer
abbrev pub judge : Doc → ℕ → Doc → Doc → Option Bool
judge root zero s t = None
judge root (suc n) s t = step (judge root n) root s t

-- steps that are enough for an instance
abbrev pub enough : Doc → Doc → ℕ
enough root t = (height t + 1) * (length (positions root) + 1)

-- the instance is valid, or not, under the whole schema
abbrev pub Judges : Doc → Doc → Bool → Type 0
Judges root t b = judge root (enough root t) root t ≡ Some b

-- decided with enough steps, and every larger number of steps agrees
abbrev pub IsSettledFor : Doc → Doc → Type 0
IsSettledFor root t = (b : Bool) × ((n : ℕ) → enough root t ≤ n → judge root n root t ≡ Some b)
