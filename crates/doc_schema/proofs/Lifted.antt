-- A loop of positions is the same fact as a walk along schemas that comes back.
use Rattle.std.proofs.Common.{◌≡◌, ℕ, zero, suc, Bool, true, false, ◌&&◌, eqb, List, [], ◌∷◌, length, refl, sym, ap, ap₂, subst}
use Rattle.std.proofs.lemmas.Bool.{and_parts}
use Rattle.std.proofs.lemmas.Bool.Decides.{Decides-eqb}
use Rattle.std.proofs.lemmas.Slice.Eq.{bytes_eq-Decides}
use Rattle.std.specs.Bool.{Decides}
use Rattle.std.specs.Str.{bytes_eq}
use Rattle.doc_tree.specs.Doc.{Doc, Place, name, index}
use Rattle.doc_tree.specs.Same.{same}
use Rattle.doc_tree.proofs.Sameness.{same-Decides}
use Rattle.schema_graph.specs.Walks.{Walk}
use Rattle.schema_graph.proofs.Ranks.{long_walk}
use Rattle.schema_graph.proofs.Rounds.{walked, listed, any_walk}
use Rattle.doc_schema.specs.Positions.{Position, position, positions}
use Rattle.doc_schema.specs.Loops.{leads, HasSchemaLoop}
use Rattle.doc_schema.specs.Schemas.{applied, IsLoopedSchema}
use Rattle.doc_schema.proofs.Placed.{closed}
use Rattle.doc_schema.proofs.Closed.{to_schema, to_position, edge_below, edge_above}

-- ---- telling positions apart

pub same_place : Place → Place → Bool
same_place (name k) (name l) = bytes_eq k l
same_place (index n) (index m) = eqb n m
same_place _ _ = false

pub same_location : List Place → List Place → Bool
same_location [] [] = true
same_location (p ∷ ps) (q ∷ qs) = same_place p q && same_location ps qs
same_location _ _ = false

pub same_position : Position → Position → Bool
same_position p q = same_location p.location q.location && same p.schema q.schema

place_is : (p q : Place) → same_place p q ≡ true → p ≡ q
unfolding same_place
place_is (name k) (name l) h = ap name ((bytes_eq-Decides k l).0 h)
place_is (index n) (index m) h = ap index ((Decides-eqb n m).0 h)
place_is _ _ h = absurd cc

place_itself : (p : Place) → same_place p p ≡ true
unfolding same_place
place_itself (name k) = (bytes_eq-Decides k k).1 refl
place_itself (index n) = (Decides-eqb n n).1 refl

location_is : (p q : List Place) → same_location p q ≡ true → p ≡ q
unfolding same_location
location_is [] [] h = refl
location_is (p ∷ ps) (q ∷ qs) h = let a = and_parts (same_place p q) _ h in ap₂ (λ x y. x ∷ y) (place_is p q a.0) (location_is ps qs a.1)
location_is _ _ h = absurd cc

location_itself : (p : List Place) → same_location p p ≡ true
unfolding same_location
location_itself [] = refl
location_itself (p ∷ ps) = rw (place_itself p, location_itself ps) refl

position_is : (p q : Position) → same_position p q ≡ true → p ≡ q
unfolding same_position
position_is p q h =
    let a = and_parts (same_location p.location q.location) _ h in
    ap₂ position (location_is p.location q.location a.0) ((same-Decides p.schema q.schema).0 a.1)

position_itself : (p : Position) → same_position p p ≡ true
unfolding same_position
position_itself p = rw (location_itself p.location, (same-Decides p.schema p.schema).1 refl) refl

pub same_position-Decides : (p q : Position) → Decides (same_position p q) (p ≡ q)
same_position-Decides p q = (position_is p q, λ e. subst (λ x. same_position p x ≡ true) e (position_itself p))

-- ---- walks

walk_below : (root : Doc) (p q : Position) (n : ℕ) → Walk (leads root) p q n → Walk (applied root) p.schema q.schema n
walk_below root p q zero w = ap (λ x. x.schema) w
walk_below root p q (suc n) w = (w.0.schema, edge_below root p w.0 w.1, walk_below root w.0 q n w.2)

walk_above : (root : Doc) (p : Position) (t : Doc) (n : ℕ) → Walk (applied root) p.schema t n → (q : Position) × Walk (leads root) p q n
walk_above root p t zero w = (p, refl)
walk_above root p t (suc n) w =
    let e = edge_above root p w.0 w.1 in
    let r = walk_above root e.0 t n (subst (λ x. Walk (applied root) x t n) (sym e.2) w.2) in
    (r.0, (e.0, e.1, r.1))

-- ---- loops

pub loop_below : (root : Doc) → HasSchemaLoop root → IsLoopedSchema root
loop_below root l =
    let w = walked (leads root) (positions root) l in
    (w.0.schema, to_schema root w.0 w.1, w.2, walk_below root w.0 w.0 (suc w.2) w.3)

pub loop_above : (root : Doc) → IsLoopedSchema root → HasSchemaLoop root
loop_above root l =
    let w = any_walk (applied root) l.0 l.2 l.3 (length (positions root)) in
    let p = to_position root l.0 l.1 in
    let r = walk_above root p.0 w.0 (length (positions root)) (subst (λ x. Walk (applied root) x w.0 (length (positions root))) (sym p.2) w.1) in
    listed (leads root) (positions root) (closed root) (long_walk (leads root) same_position same_position-Decides (positions root) (closed root) p.0 r.0 p.1 r.1)
