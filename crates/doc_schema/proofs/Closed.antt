-- The same of schemas without their locations.
use Rattle.std.proofs.Common.{◌≡◌, ℕ, suc, ⊎_elim, List, [], ◌∷◌, ◌++◌, map, length, Option, Some, None, refl, sym, ap, ap₂, subst, ◌∙◌, codes}
use Rattle.std.proofs.lemmas.List.{map-append, length-map}
use Rattle.std.specs.Option.{option_to_list}
use Rattle.doc_tree.specs.Doc.{Doc, null, boolean, int, text, list, object, Elements, no_elements, element, Members, no_members, member, get_member, Place, name, index}
use Rattle.doc_tree.specs.Lists.{elements_list, values_list}
use Rattle.schema_graph.specs.Walks.{In, first, later}
use Rattle.schema_graph.proofs.Among.{In-left, In-right, In-parts, none_in}
use Rattle.schema_rules.specs.Keywords.{keyword_of, shape_of}
use Rattle.schema_rules.specs.Parts.{elements_in, members_in, or_null, beside}
use Rattle.schema_rules.specs.References.{target}
use Rattle.schema_rules.specs.declared.keyword.Keyword.{Keyword}
use Rattle.schema_rules.specs.declared.keyword.Keyword.TheVariants.{AllOf, AnyOf, OneOf, Not, If, Then, Else, DependentSchemas, Ref}
use Rattle.schema_rules.specs.declared.keyword.Shape.{Shape}
use Rattle.schema_rules.specs.declared.keyword.Shape.TheVariants.{Plain, One, Several, Named}
use Rattle.schema_rules.specs.Profiles.{offered}
use Rattle.schema_rules.specs.declared.profile.Profile.{Profile}
use Rattle.schema_rules.specs.declared.profile.Profile.TheVariants.{Three}
use Rattle.doc_schema.specs.Positions.{Position, position, positions, positions_in, positions_each, positions_named, positions_below, offered_in, offered_each, offered_named, offered_below, offered_positions}
use Rattle.doc_schema.specs.Loops.{target_location, elements_at, members_at, led_by, led_by_members, leads}
use Rattle.doc_schema.specs.Schemas.{schemas, schemas_in, schemas_each, schemas_named, schemas_below, held_in, held_by, applied_by, applied_by_members, applied}
use Rattle.doc_schema.proofs.Mapped.{In-map, of_map}
use Rattle.schema_references.proofs.Kept.{defs_is}
use Rattle.doc_schema.proofs.Placed.{within, closed, found_below}
use Rattle.doc_schema.proofs.Bare.{two, schemas_are_below, schemas_are_named}
pub use Rattle.doc_schema.proofs.Bare.{schema_of, offered_are, schemas_are}

pub as_many : (root : Doc) → length (schemas root) ≡ length (positions root)
as_many root = ap length (sym (schemas_are root)) ∙ length-map (positions root) schema_of

-- ---- the schemas that positions lead to

elements_are : (here : List Place) (n : ℕ) (ds : Elements) → map schema_of (elements_at here n ds) ≡ elements_list ds
elements_are here n no_elements = refl
elements_are here n (element d ds) = ap (λ l. d ∷ l) (elements_are here (suc n) ds)

by_name_are : (here : List Place) (ms : Members) → map schema_of (members_at here ms) ≡ values_list ms
by_name_are here no_members = refl
by_name_are here (member k d ms) = ap (λ l. d ∷ l) (by_name_are here ms)

targets_are : (here : List Place) (o : Option Doc) → map schema_of (map (position here) (option_to_list o)) ≡ option_to_list o
targets_are here None = refl
targets_are here (Some d) = refl

led_are : (root : Doc) (here : List Place) (k : Keyword) (v : Doc) → map schema_of (led_by root here k v) ≡ applied_by root k v
led_are root here AllOf v = elements_are here 0 (elements_in v)
led_are root here AnyOf v = elements_are here 0 (elements_in v)
led_are root here OneOf v = elements_are here 0 (elements_in v)
led_are root here Not v = refl
led_are root here If v = refl
led_are root here Then v = refl
led_are root here Else v = refl
led_are root here DependentSchemas v = by_name_are here (members_in v)
led_are root here Ref v = targets_are (target_location root v) (target root v)
led_are root here _ v = refl

members_are : (root : Doc) (here : List Place) (ms : Members) → map schema_of (led_by_members root here ms) ≡ applied_by_members root ms
members_are root here no_members = refl
members_are root here (member k v ms) = two _ _ _ _ (led_are root (here ++ name k ∷ []) (keyword_of k) v) (members_are root here ms)

pub applied_are : (root : Doc) (p : Position) → map schema_of (leads root p) ≡ applied root p.schema
applied_are root p = members_are root p.location (members_in p.schema)

-- ---- from positions to schemas and back

pub to_schema : (root : Doc) (p : Position) → In p (positions root) → In p.schema (schemas root)
to_schema root p i = subst (λ l. In p.schema l) (schemas_are root) (In-map schema_of p (positions root) i)

pub to_position : (root s : Doc) → In s (schemas root) → (p : Position) × In p (positions root) × (p.schema ≡ s)
to_position root s i = of_map schema_of s (positions root) (subst (λ l. In s l) (sym (schemas_are root)) i)

-- an edge between positions is one between their schemas
pub edge_below : (root : Doc) (p q : Position) → In q (leads root p) → In q.schema (applied root p.schema)
edge_below root p q i = subst (λ l. In q.schema l) (applied_are root p) (In-map schema_of q (leads root p) i)

-- and an edge between schemas is one from each position of the first
pub edge_above : (root : Doc) (p : Position) (s : Doc) → In s (applied root p.schema) → (q : Position) × In q (leads root p) × (q.schema ≡ s)
edge_above root p s i = of_map schema_of s (leads root p) (subst (λ l. In s l) (sym (applied_are root p)) i)

pub closed_applied : (root a b : Doc) → In a (schemas root) → In b (applied root a) → In b (schemas root)
closed_applied root a b h i =
    let p = to_position root a h in
    let q = edge_above root p.0 b (subst (λ x. In b (applied root x)) (sym p.2) i) in
    subst (λ x. In x (schemas root)) q.2 (to_schema root q.0 (closed root p.0 q.0 p.1 q.1))

-- ---- what a schema holds

root_in : (d : Doc) → In d (schemas_in One d)
root_in null = first
root_in (boolean b) = first
root_in (int z) = first
root_in (text s) = first
root_in (list ds) = first
root_in (object ms) = first

-- a schema is among its own
pub own : (root : Doc) → In root (schemas root)
own root = root_in root

held_each : (ds : Elements) (q : Doc) → In q (elements_list ds) → In q (schemas_each ds)
held_each no_elements q i = none_in q i
held_each (element d ds) _ first = In-left d _ _ (root_in d)
held_each (element d ds) q (later i) = In-right q (schemas_in One d) _ (held_each ds q i)

held_named : (ms : Members) (q : Doc) → In q (values_list ms) → In q (schemas_named ms)
held_named no_members q i = none_in q i
held_named (member k d ms) _ first = In-left d _ _ (root_in d)
held_named (member k d ms) q (later i) = In-right q (schemas_in One d) _ (held_named ms q i)

held_within : (h : Shape) (v q : Doc) → In q (held_in h v) → In q (schemas_in h v)
held_within One v _ first = root_in v
held_within One v q (later i) = none_in q i
held_within Several (list ds) q i = held_each ds q i
held_within Named (object ms) q i = held_named ms q i
held_within Plain v q i = none_in q i
held_within _ _ q i = none_in q i

held_below : (ms : Members) (q : Doc) → In q (held_by ms) → In q (schemas_below ms)
held_below no_members q i = none_in q i
held_below (member k d ms) q i = ⊎_elim (λ h. In-left q _ _ (held_within (shape_of (keyword_of k)) d q h)) (λ h. In-right q (schemas_in (shape_of (keyword_of k)) d) _ (held_below ms q h)) (In-parts q (held_in (shape_of (keyword_of k)) d) _ i)

-- of a schema object, what it holds
pub closed_held : (root : Doc) (ms : Members) (q : Doc) → In (object ms) (schemas root) → In q (held_by ms) → In q (schemas root)
closed_held root ms q h i =
    let p = to_position root (object ms) h in
    let r = of_map schema_of q (positions_below p.0.location ms) (subst (λ l. In q l) (sym (schemas_are_below Three p.0.location ms)) (held_below ms q i)) in
    let placed : In r.0 (positions_in One p.0.location p.0.schema) = subst (λ s. In r.0 (positions_in One p.0.location s)) (sym p.2) (later r.1) in
    subst (λ x. In x (schemas root)) r.2 (to_schema root r.0 (within One [] root p.0 r.0 p.1 placed))

-- ---- the root's definitions

in_defs : (root d : Doc) (ms : Members) (o : Option Doc) → get_member (codes "$defs") ms ≡ o → In d (values_list (members_in (or_null o))) → In d (schemas_below ms)
in_defs root d ms (Some (object dm)) e i =
    let q = of_map schema_of d (positions_named (name (codes "$defs") ∷ []) dm) (subst (λ l. In d l) (sym (schemas_are_named Three (name (codes "$defs") ∷ []) dm)) (held_named dm d i)) in
    let below = found_below [] (codes "$defs") ms (object dm) q.0 e (subst (λ k. In q.0 (positions_in (shape_of k) (name (codes "$defs") ∷ []) (object dm))) (sym defs_is) q.1) in
    subst (λ l. In d l) (schemas_are_below Three [] ms) (subst (λ x. In x (map schema_of (positions_below [] ms))) q.2 (In-map schema_of q.0 (positions_below [] ms) below))
in_defs root d ms _ e i = none_in d i

pub values_among : (root d : Doc) → In d (values_list (members_in (beside (codes "$defs") (members_in root)))) → In d (schemas root)
values_among (object ms) d i = later (in_defs (object ms) d ms (get_member (codes "$defs") ms) refl i)
values_among _ d i = none_in d i
