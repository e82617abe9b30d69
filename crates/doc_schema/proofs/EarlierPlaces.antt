-- A reference of profile 1 that names a schema leads to the same position.
use Rattle.std.proofs.Common.{◌≡◌, ℕ, List, [], ◌∷◌, ◌++◌, map, Bool, true, false, if◌then◌else◌, Option, Some, None, is_none, codes, bytes_eq, refl, sym, ap, subst, ◌∙◌}
use Rattle.std.specs.Option.{option_to_list}
use Rattle.std.proofs.lemmas.Slice.Eq.{bytes_eq-Decides}
use Rattle.doc_tree.specs.Doc.{Doc, null, boolean, int, text, list, object, get_member, Place, name}
use Rattle.schema_rules.specs.EarlierReferences.{definition, earlier_target, is_name, without_front}
use Rattle.schema_rules.specs.Keywords.{keyword_of, shape_of}
use Rattle.schema_rules.specs.Parts.{members_in, beside, or_null}
use Rattle.schema_rules.specs.Pointers.{held_at, shape_at}
use Rattle.schema_rules.specs.References.{spelled_by, target, tokens_to}
use Rattle.schema_rules.specs.declared.keyword.Keyword.{Keyword}
use Rattle.schema_rules.specs.declared.keyword.Keyword.TheVariants.{Defs}
use Rattle.schema_rules.specs.declared.keyword.Shape.TheVariants.{One, Named}
use Rattle.schema_references.proofs.Kept.{defs_is, name_bytes, stays, tokens_are, tokens_of_whole, without_is}
use Rattle.doc_schema.specs.Loops.{after_place, location_by, places_along, target_location, targets}
use Rattle.doc_schema.specs.Positions.{position}
use Rattle.doc_schema.specs.Profile1Rules.{definition_location_1, target_location_1, targets_1}

along_defs : (n : List ℕ) (d : Doc) (o : Option Doc) → get_member n (members_in (or_null o)) ≡ Some d → after_place (places_along Named (n ∷ [])) o ≡ name n ∷ []
along_defs n d None e = absurd cc
along_defs n d (Some (object ms)) e = ap (λ o. name n ∷ after_place (places_along One []) o) e
along_defs n d (Some null) e = absurd cc
along_defs n d (Some (boolean b)) e = absurd cc
along_defs n d (Some (int z)) e = absurd cc
along_defs n d (Some (text s)) e = absurd cc
along_defs n d (Some (list ds)) e = absurd cc

along : (root d : Doc) (n : List ℕ) → get_member n (members_in (beside (codes "$defs") (members_in root))) ≡ Some d → places_along One (codes "$defs" ∷ n ∷ []) root ≡ name (codes "$defs") ∷ name n ∷ []
along (object ms) d n e =
    ap (λ l. name (codes "$defs") ∷ l) (subst (λ k. after_place (places_along (shape_of k) (n ∷ [])) (get_member (codes "$defs") ms) ≡ name n ∷ []) (sym defs_is) (along_defs n d (get_member (codes "$defs") ms) e))
along null d n e = absurd cc
along (boolean b) d n e = absurd cc
along (int z) d n e = absurd cc
along (text s) d n e = absurd cc
along (list ds) d n e = absurd cc

of_definition : (root d : Doc) (s : List ℕ) (o : Option (List ℕ)) → without_front (codes "#/$defs/") s ≡ o → definition root o ≡ Some d → definition_location_1 o ≡ target_location root (text s)
of_definition root d s None is e = absurd cc
of_definition root d s (Some n) is e = by_name (is_name n) refl e
  where
    by_name : (b : Bool) → is_name n ≡ b → (if b then get_member n (members_in (beside (codes "$defs") (members_in root))) else None) ≡ Some d → name (codes "$defs") ∷ name n ∷ [] ≡ target_location root (text s)
    by_name true named f =
        sym (subst (λ l. target_location root (text l) ≡ name (codes "$defs") ∷ name n ∷ []) (sym (without_is (codes "#/$defs/") s n is))
        (ap (λ o. location_by root o (spelled_by root (text (codes "#/$defs/" ++ n)))) (tokens_are root n (name_bytes n named)) ∙ along root d n f))
    by_name false named f = absurd cc

same_location : (root v d : Doc) → earlier_target root v ≡ Some d → target_location_1 v ≡ target_location root v
same_location root (text s) d e = by_whole (bytes_eq s (codes "#")) refl e
  where
    by_whole : (b : Bool) → bytes_eq s (codes "#") ≡ b → (if b then Some root else definition root (without_front (codes "#/$defs/") s)) ≡ Some d
        → (if b then [] else definition_location_1 (without_front (codes "#/$defs/") s)) ≡ target_location root (text s)
    by_whole true t f = sym (subst (λ l. target_location root (text l) ≡ []) (sym ((bytes_eq-Decides s (codes "#")).0 t)) (ap (λ o. location_by root o (spelled_by root (text (codes "#")))) (tokens_of_whole root)))
    by_whole false t f = of_definition root d s (without_front (codes "#/$defs/") s) refl f
same_location root null d e = absurd cc
same_location root (boolean b) d e = absurd cc
same_location root (int z) d e = absurd cc
same_location root (list ds) d e = absurd cc
same_location root (object ms) d e = absurd cc

pub targets_alike : (root v : Doc) → is_none (earlier_target root v) ≡ false → targets_1 root v ≡ targets root v
targets_alike root v e = by_target (earlier_target root v) refl e
  where
    by_target : (o : Option Doc) → earlier_target root v ≡ o → is_none o ≡ false → map (position (target_location_1 v)) (option_to_list o) ≡ targets root v
    by_target None is f = absurd cc
    by_target (Some d) is f = ap (λ l. position l d ∷ []) (same_location root v d is) ∙ ap (λ o. map (position (target_location root v)) (option_to_list o)) (sym (stays root v d is))
