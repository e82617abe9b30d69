-- Profile 1 of schemas, under names of its own: which schemas it accepted, and what they said. `Profile1Keywords`,
-- `Profile1Forms` and `Profile1Rules` have its rows. Shared are documents and their text, walks that come back, and how
-- answers are joined if one isn't decided.
use Rattle.std.specs.Prelude.{◌≡◌, ◌⊎◌, ◌<◌, ℕ, zero, suc, ◌+◌, ◌*◌, List, [], ◌∷◌, ◌++◌, length, Bool, true, false, not, ◌||◌, Option, Some, None, option_map}
use Rattle.doc_tree.specs.Doc.{Doc, null, boolean, int, text, list, object, Elements, no_elements, element, Members, no_members, member, height, Place, name, index}
use Rattle.doc_tree.specs.Text.{text_of}
use Rattle.schema_graph.specs.Loops.{HasLoop}
use Rattle.schema_graph.specs.Walks.{In}
use Rattle.schema_rules.specs.Parts.{members_in}
use Rattle.schema_rules.specs.declared.keyword.Keyword.{Keyword}
use Rattle.schema_rules.specs.declared.keyword.Shape.{Shape}
use Rattle.schema_rules.specs.declared.keyword.Shape.TheVariants.{One, Several, Named}
use Rattle.doc_schema.specs.Defects.{is_root}
use Rattle.doc_schema.specs.Judge.{both, answers}
use Rattle.doc_schema.specs.Positions.{Position, position}
use Rattle.doc_schema.specs.Profile1Forms.{has_form_1, is_left_out_1, is_dangling_1}
use Rattle.doc_schema.specs.Profile1Keywords.{keyword_1, shape_1}
use Rattle.doc_schema.specs.Profile1Rules.{asks_1, joins_1, led_by_1}
use Rattle.doc_schema.specs.declared.defects.Defect.{Defect}
use Rattle.doc_schema.specs.declared.defects.Defect.TheVariants.{Form, LeftOut as Omitted, Reference}

-- ---- positions

abbrev mutual
  pub positions_in_1 : Shape → List Place → Doc → List Position
  positions_in_1 One here (object ms) = position here (object ms) ∷ positions_below_1 here ms
  positions_in_1 One here null = position here null ∷ []
  positions_in_1 One here (boolean b) = position here (boolean b) ∷ []
  positions_in_1 One here (int z) = position here (int z) ∷ []
  positions_in_1 One here (text s) = position here (text s) ∷ []
  positions_in_1 One here (list ds) = position here (list ds) ∷ []
  positions_in_1 Several here (list ds) = positions_each_1 here 0 ds
  positions_in_1 Named here (object ms) = positions_named_1 here ms
  positions_in_1 _ here _ = []

  pub positions_each_1 : List Place → ℕ → Elements → List Position
  positions_each_1 here n no_elements = []
  positions_each_1 here n (element d ds) = positions_in_1 One (here ++ index n ∷ []) d ++ positions_each_1 here (suc n) ds

  pub positions_named_1 : List Place → Members → List Position
  positions_named_1 here no_members = []
  positions_named_1 here (member k d ms) = positions_in_1 One (here ++ name k ∷ []) d ++ positions_named_1 here ms

  pub positions_below_1 : List Place → Members → List Position
  positions_below_1 here no_members = []
  positions_below_1 here (member k v ms) = positions_in_1 (shape_1 (keyword_1 k)) (here ++ name k ∷ []) v ++ positions_below_1 here ms

abbrev pub positions_1 : Doc → List Position
positions_1 root = positions_in_1 One [] root

-- ---- faults

-- a member of a schema object was wrong: its value hadn't the keyword's form, it was refused, or it was a reference that named no schema
abbrev pub is_wrong_1 : Defect → Doc → Bool → Keyword → Doc → Bool
is_wrong_1 Form root at_root k v = not (has_form_1 at_root k v)
is_wrong_1 Omitted root at_root k v = is_left_out_1 at_root k v
is_wrong_1 _ root at_root k v = is_dangling_1 root k v

-- a schema was a boolean or an object (Core, section 4.3)
abbrev pub lacks_form_1 : Defect → Doc → Bool
lacks_form_1 defect (boolean b) = false
lacks_form_1 defect (object ms) = false
lacks_form_1 Form _ = true
lacks_form_1 _ _ = false

abbrev pub some_member_1 : (Keyword → Doc → Bool) → Members → Bool
some_member_1 test no_members = false
some_member_1 test (member k v ms) = test (keyword_1 k) v || some_member_1 test ms

abbrev pub has_defect_1 : Defect → Doc → Position → Bool
has_defect_1 defect root p = lacks_form_1 defect p.schema || some_member_1 (is_wrong_1 defect root (is_root p.location)) (members_in p.schema)

abbrev pub HasDefect_1 : Defect → Doc → Type 0
HasDefect_1 defect root = (p : Position) × In p (positions_1 root) × (has_defect_1 defect root p ≡ true)

abbrev pub led_by_members_1 : Doc → List Place → Members → List Position
led_by_members_1 root here no_members = []
led_by_members_1 root here (member k v ms) = led_by_1 root (here ++ name k ∷ []) (keyword_1 k) v ++ led_by_members_1 root here ms

abbrev pub leads_1 : Doc → Position → List Position
leads_1 root p = led_by_members_1 root p.location (members_in p.schema)

-- profile 1 accepts the schema
pub record IsFaultless_1 (s : Doc) : Type 0 where
  pub size : (262_144 < length (text_of s)) ⊎ (64 < height s) → ⊥
  pub form : HasDefect_1 Form s → ⊥
  pub keywords : HasDefect_1 Omitted s → ⊥
  pub references : HasDefect_1 Reference s → ⊥
  pub loops : HasLoop (leads_1 s) (positions_1 s) → ⊥

-- ---- validity

-- what one member said, with all members of its object beside it
abbrev pub says_1 : (Doc → Doc → Option Bool) → Doc → Members → Keyword → Doc → Doc → Option Bool
says_1 judged root beside k v t = option_map (joins_1 k v t) (answers judged (asks_1 root beside k v t))

abbrev pub all_say_1 : (Doc → Doc → Option Bool) → Doc → Members → Members → Doc → Option Bool
all_say_1 judged root beside no_members t = Some true
all_say_1 judged root beside (member k v ms) t = both (says_1 judged root beside (keyword_1 k) v t) (all_say_1 judged root beside ms t)

abbrev pub step_1 : (Doc → Doc → Option Bool) → Doc → Doc → Doc → Option Bool
step_1 judged root (boolean b) t = Some b
step_1 judged root (object ms) t = all_say_1 judged root ms ms t
step_1 judged root _ t = Some true

abbrev pub judge_1 : Doc → ℕ → Doc → Doc → Option Bool
judge_1 root zero s t = None
judge_1 root (suc n) s t = step_1 (judge_1 root n) root s t

-- the instance is valid, or not, by profile 1
abbrev pub Judges_1 : Doc → Doc → Bool → Type 0
Judges_1 root t b = judge_1 root ((height t + 1) * (length (positions_1 root) + 1)) root t ≡ Some b
