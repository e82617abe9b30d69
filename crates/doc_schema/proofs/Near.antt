-- Without a reference that profile 2 hasn't, each member of each schema is none.
use Rattle.std.proofs.Common.{◌≡◌, ◌<◌, List, [], ◌∷◌, Bool, true, false, ◌||◌, map, refl, sym, ap, subst, ◌∙◌, string_bytes}
use Rattle.doc_tree.specs.Doc.{Doc, object, Members, no_members, member}
use Rattle.schema_graph.specs.Walks.{In}
use Rattle.schema_rules.specs.Keywords.{keyword_of}
use Rattle.schema_rules.specs.Parts.{members_in}
use Rattle.schema_rules.specs.References.{is_dangling}
use Rattle.schema_rules.specs.declared.keyword.Keyword.{Keyword}
use Rattle.schema_rules.specs.declared.profile.Profile.TheVariants.{Two, Three}
use Rattle.doc_schema.specs.Defects.{is_root, is_wrong, lacks_form, some_member, has_defect, HasDefect}
use Rattle.doc_schema.specs.Positions.{Position, offered_positions}
use Rattle.doc_schema.specs.Schemas.{schemas, AreNear}
use Rattle.doc_schema.specs.declared.defects.Defect.TheVariants.{ByPointer}
use Rattle.doc_schema.proofs.Closed.{offered_are, schema_of}
use Rattle.doc_schema.proofs.Mapped.{of_map}

neither : (a b : Bool) → (a || b) ≡ false → (a ≡ false) × (b ≡ false)
neither false b e = (refl, e)
neither true b e = absurd cc

near_members : (root : Doc) (at_root : Bool) (ms : Members) → some_member Three (is_wrong Three ByPointer root at_root) ms ≡ false → AreNear root ms
near_members root at_root no_members e = tt
near_members root at_root (member k v ms) e =
    let parts = neither (is_dangling Two root (keyword_of k) v) (some_member Three (is_wrong Three ByPointer root at_root) ms) e in
    (parts.0, near_members root at_root ms parts.1)

near_at : (root : Doc) → (HasDefect Three ByPointer root → ⊥) → (p : Position) → In p (offered_positions Three root) → AreNear root (members_in p.schema)
near_at root none p i = by_defect (has_defect Three ByPointer root p) refl
  where
    by_defect : (b : Bool) → has_defect Three ByPointer root p ≡ b → AreNear root (members_in p.schema)
    by_defect true e = absurd (none (p, i, e))
    by_defect false e = near_members root (is_root p.location) (members_in p.schema) (neither (lacks_form ByPointer p.schema) _ e).1

pub near_all : (root : Doc) → (HasDefect Three ByPointer root → ⊥) → (ms : Members) → In (object ms) (schemas root) → AreNear root ms
near_all root none ms i =
    let found = of_map schema_of (object ms) (offered_positions Three root) (subst (λ l. In (object ms) l) (sym (offered_are Three root)) i) in
    subst (λ d. AreNear root (members_in d)) found.2 (near_at root none found.0 found.1)
