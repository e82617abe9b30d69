-- What is known of a document after one change more.
use Rattle.std.proofs.Common.{◌≡◌, List, [], ◌∷◌, ◌++◌, map, true, Vec, Global, refl, sym, ap, subst, ◌∙◌}
use Rattle.doc_tree.specs.Doc.{Doc, Place}
use Rattle.doc_tree.specs.Place.{place_of}
use Rattle.doc_tree.specs.declared.tree.Step.{Step}
use Rattle.doc_schema.specs.Judge.{Judges}
use Rattle.schema_changes.specs.Agree.{AgreeOffEach}
use Rattle.judged_patches.specs.Known.{AgreesWithValid, locations}

chained : (ps qs : List (List Place)) (a b c : Doc) → AgreeOffEach ps a b → AgreeOffEach qs b c → AgreeOffEach (ps ++ qs) a c
chained [] qs a b c h k = subst (λ x. AgreeOffEach qs x c) (sym h) k
chained (p ∷ ps) qs a b c h k = (h.0, h.1, chained ps qs h.0 b c h.2 k)

both_located : (xs ys : List (Vec Step Global)) → locations (xs ++ ys) ≡ locations xs ++ locations ys
both_located [] ys = refl
both_located (x ∷ xs) ys = ap (λ l. map place_of x.items ∷ l) (both_located xs ys)

-- the places of one change after those before it
pub joined_agrees : (xs ys zs : List (Vec Step Global)) (schema old made : Doc) → zs ≡ xs ++ ys → AgreesWithValid (locations xs) schema old → AgreeOffEach (locations ys) old made → AgreesWithValid (locations zs) schema made
joined_agrees xs ys zs schema old made is h k =
    let whole : locations zs ≡ locations xs ++ locations ys = ap locations is ∙ both_located xs ys in
    (h.0, h.1, subst (λ ps. AgreeOffEach ps h.0 made) (sym whole) (chained (locations xs) (locations ys) h.0 old made h.2 k))

-- a valid document agrees with itself
pub itself : (xs : List (Vec Step Global)) (schema d : Doc) → xs ≡ [] → Judges schema d true → AgreesWithValid (locations xs) schema d
itself xs schema d none valid = subst (λ l. AgreesWithValid (locations l) schema d) (sym none) (d, valid, refl)

-- a document that agrees with a valid one off no place is that
pub none_changed : (xs : List (Vec Step Global)) (schema d : Doc) → xs ≡ [] → AgreesWithValid (locations xs) schema d → Judges schema d true
none_changed xs schema d none h =
    let here : AgreeOffEach (locations []) h.0 d = subst (λ l. AgreeOffEach (locations l) h.0 d) none h.2 in
    subst (λ x. Judges schema x true) here h.1
