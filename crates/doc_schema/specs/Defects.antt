-- The defects that a position may have by itself.
use Rattle.std.specs.Prelude.{◌≡◌, List, [], ◌∷◌, Bool, true, false, not, ◌||◌}
use Rattle.doc_tree.specs.Doc.{Doc, boolean, object, Members, no_members, member, Place}
use Rattle.schema_graph.specs.Walks.{In}
use Rattle.schema_rules.specs.Forms.{has_form, is_left_out}
use Rattle.schema_rules.specs.Keywords.{keyword_of}
use Rattle.schema_rules.specs.Parts.{members_in}
use Rattle.schema_rules.specs.Profiles.{offered}
use Rattle.schema_rules.specs.References.{is_dangling}
use Rattle.schema_rules.specs.declared.keyword.Keyword.{Keyword}
use Rattle.schema_rules.specs.declared.profile.Profile.{Profile}
use Rattle.schema_rules.specs.declared.profile.Profile.TheVariants.{Two}
use Rattle.doc_schema.specs.Positions.{Position, offered_positions}
use Rattle.doc_schema.specs.declared.defects.Defect.{Defect}
use Rattle.doc_schema.specs.declared.defects.Defect.TheVariants.{Form, LeftOut, Reference, ByPointer}

-- a member of a schema object is wrong: its value hasn't the keyword's form, it is left out, or it is a reference that names no schema (in the profile, or in profile 2)
abbrev pub is_wrong : Profile → Defect → Doc → Bool → Keyword → Doc → Bool
is_wrong profile Form root at_root k v = not (has_form at_root k v)
is_wrong profile LeftOut root at_root k v = is_left_out at_root k v
is_wrong profile Reference root at_root k v = is_dangling profile root k v
is_wrong profile ByPointer root at_root k v = is_dangling Two root k v

-- some member passes the test, a keyword that the profile doesn't offer as one that is left out
abbrev pub some_member : Profile → (Keyword → Doc → Bool) → Members → Bool
some_member profile test no_members = false
some_member profile test (member k v ms) = test (offered profile (keyword_of k)) v || some_member profile test ms

-- a schema is a boolean or an object (Core, section 4.3)
abbrev pub lacks_form : Defect → Doc → Bool
lacks_form defect (boolean b) = false
lacks_form defect (object ms) = false
lacks_form Form _ = true
lacks_form _ _ = false

-- a schema, at the root or below it, has the defect: by itself or by a member
abbrev pub is_defective : Profile → Defect → Doc → Bool → Doc → Bool
is_defective profile defect root at_root s = lacks_form defect s || some_member profile (is_wrong profile defect root at_root) (members_in s)

abbrev pub is_root : List Place → Bool
is_root [] = true
is_root (p ∷ ps) = false

-- the position has the defect
abbrev pub has_defect : Profile → Defect → Doc → Position → Bool
has_defect profile defect root p = is_defective profile defect root (is_root p.location) p.schema

-- some position that the profile offers has it
abbrev pub HasDefect : Profile → Defect → Doc → Type 0
HasDefect profile defect root = (p : Position) × In p (offered_positions profile root) × (has_defect profile defect root p ≡ true)
