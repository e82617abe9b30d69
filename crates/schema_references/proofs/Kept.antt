-- A reference of an earlier profile names the same schema.
use Rattle.std.proofs.Common.{◌≡◌, ◌≢◌, ℕ, ◌==◌, ◌<◌, List, [], ◌∷◌, ◌++◌, length, Bool, true, false, ◌&&◌, if◌then◌else◌, Option, Some, None, is_none, option_and_then, codes, refl, sym, ap, ap₂, subst, ◌∙◌, append-nil, arith, bytes_eq, ne_eqb, eqb-true}
use Rattle.std.specs.Prelude.{⊤}
use Rattle.std.specs.List.{list_all}
use Rattle.std.specs.Str.{IsAscii, is_utf8}
use Rattle.std.proofs.lemmas.Bool.Decides.{nat_tests}
use Rattle.std.proofs.lemmas.Slice.Eq.{bytes_eq-Decides}
use Rattle.std.proofs.lemmas.Str.{IsUtf8-from_ascii, is_utf8-from_IsUtf8}
use Rattle.std.proofs.lemmas.Str.Ascii.{IsAscii-nil, IsAscii-cons}
use Rattle.percent_encoding.specs.Percent.{percent_decode}
use Rattle.percent_encoding.proofs.PercentLemmas.{percent_decode-nil, percent_decode_not_percent}
use Rattle.doc_pointer.specs.Reading.{pointer_of}
use Rattle.doc_pointer.specs.Text.{escaped, pointer_text}
use Rattle.doc_pointer.proofs.Readings.{pointer_of-pointer_text}
use Rattle.doc_tree.specs.Doc.{Doc, null, boolean, int, text, list, object, get_member}
use Rattle.schema_rules.specs.Keywords.{keyword_of, shape_of, for_any, for_numbers, for_sizes, for_children, in_place, of_core, not_offered}
use Rattle.schema_rules.specs.EarlierReferences.{definition, earlier_target, is_name, is_name_byte, without_front}
use Rattle.schema_rules.specs.Fragments.{after_hash, behind, fragment, identifier, if_utf8, or_else, spelled}
use Rattle.schema_rules.specs.Parts.{members_in, beside, or_null}
use Rattle.schema_rules.specs.Pointers.{held_at, shape_at, walk}
use Rattle.schema_rules.specs.References.{is_dangling, reached, spelled_by, target, tokens_to}
use Rattle.schema_rules.specs.declared.keyword.Keyword.{Keyword}
use Rattle.schema_rules.specs.declared.keyword.Keyword.TheVariants.{Defs, Ref}
use Rattle.schema_rules.specs.declared.profile.Profile.{Profile}
use Rattle.schema_rules.specs.declared.profile.Profile.TheVariants.{Two, Three}
use Rattle.schema_rules.specs.declared.keyword.Shape.TheVariants.{One, Named}

-- ---- texts without an escape

-- ASCII bytes, none of which is `%`
abbrev PlainAll : List ℕ → Type 0
PlainAll [] = ⊤
PlainAll (c ∷ cs) = (c < 128) × (c ≢ 37) × PlainAll cs

decoded_same : (cs : List ℕ) → PlainAll cs → percent_decode cs ≡ cs
decoded_same [] h = percent_decode-nil
decoded_same (c ∷ cs) h = percent_decode_not_percent c cs h.1 ∙ ap (λ l. c ∷ l) (decoded_same cs h.2)

ascii : (cs : List ℕ) → PlainAll cs → IsAscii cs
ascii [] h = IsAscii-nil
ascii (c ∷ cs) h = IsAscii-cons c cs h.0 (ascii cs h.2)

spelled_same : (cs : List ℕ) → PlainAll cs → spelled cs ≡ Some cs
spelled_same cs h =
    let utf8 : is_utf8 cs ≡ true = is_utf8-from_IsUtf8 cs (IsUtf8-from_ascii cs (ascii cs h)) in
    ap if_utf8 (decoded_same cs h) ∙ ap (λ b. if b then Some cs else None) utf8

-- ---- names

low : (c : ℕ) → is_name_byte c ≡ true → c < 128
low c e = grind (arith, nat_tests)

other_byte : (c n : ℕ) → is_name_byte n ≡ false → is_name_byte c ≡ true → c ≢ n
other_byte c n none e same = let bad : true ≡ false = sym e ∙ ap is_name_byte same ∙ none in absurd cc

both : (a b : Bool) → (a && b) ≡ true → (a ≡ true) × (b ≡ true)
both true true e = (refl, refl)
both true false e = absurd cc
both false b e = absurd cc

plain : (n : List ℕ) → list_all is_name_byte n ≡ true → PlainAll n
plain [] e = tt
plain (c ∷ cs) e = let h = both (is_name_byte c) (list_all is_name_byte cs) e in (low c h.0, other_byte c 37 refl h.0, plain cs h.1)

unescaped_same : (n : List ℕ) → list_all is_name_byte n ≡ true → escaped n ≡ n
unescaped_same [] e = refl
unescaped_same (c ∷ cs) e =
    let h = both (is_name_byte c) (list_all is_name_byte cs) e in
    rw (ne_eqb c 126 (other_byte c 126 refl h.0), ne_eqb c 47 (other_byte c 47 refl h.0), unescaped_same cs h.1) refl

pub name_bytes : (n : List ℕ) → is_name n ≡ true → list_all is_name_byte n ≡ true
name_bytes [] e = absurd cc
name_bytes (c ∷ cs) e = e

-- ---- what is in front

pub without_is : (f s n : List ℕ) → without_front f s ≡ Some n → s ≡ f ++ n
without_is [] s n e = cc
without_is (c ∷ f) [] n e = absurd cc
without_is (c ∷ f) (d ∷ s) n e = by_test (c == d) refl e (λ h. without_is f s n h)
  where
    by_test : (b : Bool) → (c == d) ≡ b → (if b then without_front f s else None) ≡ Some n → (without_front f s ≡ Some n → s ≡ f ++ n) → d ∷ s ≡ (c ∷ f) ++ n
    by_test true t h rest = ap₂ (λ x xs. x ∷ xs) (sym (eqb-true c d t)) (rest h)
    by_test false t h rest = absurd cc

-- ---- a definition by its name

pub defs_is : keyword_of (codes "$defs") ≡ Defs
unfolding keyword_of for_any for_numbers for_sizes for_children in_place of_core not_offered
defs_is = refl

from_defs : (n : List ℕ) (d : Doc) (o : Option Doc) → get_member n (members_in (or_null o)) ≡ Some d → option_and_then (walk Named (n ∷ [])) o ≡ Some d
from_defs n d None e = absurd cc
from_defs n d (Some (object ms)) e = ap (option_and_then (walk One [])) e
from_defs n d (Some null) e = absurd cc
from_defs n d (Some (boolean b)) e = absurd cc
from_defs n d (Some (int z)) e = absurd cc
from_defs n d (Some (text s)) e = absurd cc
from_defs n d (Some (list ds)) e = absurd cc

walk_to : (root d : Doc) (n : List ℕ) → get_member n (members_in (beside (codes "$defs") (members_in root))) ≡ Some d → walk One (codes "$defs" ∷ n ∷ []) root ≡ Some d
walk_to (object ms) d n e = subst (λ k. option_and_then (walk (shape_of k) (n ∷ [])) (get_member (codes "$defs") ms) ≡ Some d) (sym defs_is) (from_defs n d (get_member (codes "$defs") ms) e)
walk_to null d n e = absurd cc
walk_to (boolean b) d n e = absurd cc
walk_to (int z) d n e = absurd cc
walk_to (text s) d n e = absurd cc
walk_to (list ds) d n e = absurd cc

pointer_is : (n : List ℕ) → list_all is_name_byte n ≡ true → pointer_of (codes "/$defs/" ++ n) ≡ Some (codes "$defs" ∷ n ∷ [])
pointer_is n e = pointer_of-pointer_text (codes "/$defs/" ++ n) (codes "$defs" ∷ n ∷ []) (ap (λ l. codes "/$defs/" ++ l) (append-nil (escaped n) ∙ unescaped_same n e))

hashed : (root : Doc) (cs : List ℕ) → fragment root (35 ∷ cs) ≡ Some cs
hashed root cs = ap (λ b. or_else (if b then Some (35 ∷ cs) else Some cs) (option_and_then after_hash (behind (identifier root) (35 ∷ cs)))) (ne_eqb (length (35 ∷ cs)) 0 (λ e. omega (arith, e)))

pub tokens_are : (root : Doc) (n : List ℕ) → list_all is_name_byte n ≡ true → tokens_to root (text (codes "#/$defs/" ++ n)) ≡ Some (codes "$defs" ∷ n ∷ [])
tokens_are root n e =
    let front : PlainAll (codes "/$defs/" ++ n) = (omega arith, omega arith, (omega arith, omega arith, (omega arith, omega arith, (omega arith, omega arith, (omega arith, omega arith, (omega arith, omega arith, (omega arith, omega arith, plain n e))))))) in
    ap (λ f. option_and_then pointer_of (option_and_then spelled f)) (hashed root (codes "/$defs/" ++ n))
    ∙ ap (option_and_then pointer_of) (spelled_same (codes "/$defs/" ++ n) front) ∙ pointer_is n e

-- ---- the law

pub tokens_of_whole : (root : Doc) → tokens_to root (text (codes "#")) ≡ Some []
tokens_of_whole root = ap (option_and_then pointer_of) (spelled_same [] tt)

whole_is : (root : Doc) → target root (text (codes "#")) ≡ Some root
whole_is root = ap (λ o. reached root o (spelled_by root (text (codes "#")))) (tokens_of_whole root)

by_definition : (root d : Doc) (s : List ℕ) (o : Option (List ℕ)) → without_front (codes "#/$defs/") s ≡ o → definition root o ≡ Some d → target root (text s) ≡ Some d
by_definition root d s None is e = absurd cc
by_definition root d s (Some n) is e = by_name (is_name n) refl e
  where
    by_name : (b : Bool) → is_name n ≡ b → (if b then get_member n (members_in (beside (codes "$defs") (members_in root))) else None) ≡ Some d → target root (text s) ≡ Some d
    by_name true named f =
        subst (λ l. target root (text l) ≡ Some d) (sym (without_is (codes "#/$defs/") s n is))
        (ap (λ o. reached root o (spelled_by root (text (codes "#/$defs/" ++ n)))) (tokens_are root n (name_bytes n named)) ∙ walk_to root d n f)
    by_name false named f = absurd cc

pub stays : (root v d : Doc) → earlier_target root v ≡ Some d → target root v ≡ Some d
stays root (text s) d e = by_whole (bytes_eq s (codes "#")) refl e
  where
    by_whole : (b : Bool) → bytes_eq s (codes "#") ≡ b → (if b then Some root else definition root (without_front (codes "#/$defs/") s)) ≡ Some d → target root (text s) ≡ Some d
    by_whole true t f = subst (λ l. target root (text l) ≡ Some d) (sym ((bytes_eq-Decides s (codes "#")).0 t)) (whole_is root ∙ f)
    by_whole false t f = by_definition root d s (without_front (codes "#/$defs/") s) refl f
stays root null d e = absurd cc
stays root (boolean b) d e = absurd cc
stays root (int z) d e = absurd cc
stays root (list ds) d e = absurd cc
stays root (object ms) d e = absurd cc

-- what names a schema in an earlier profile names the same in the one that offers all references
pub none_dangles : (profile : Profile) (root : Doc) (k : Keyword) (v : Doc) → is_dangling profile root k v ≡ false → is_dangling Three root k v ≡ false
none_dangles Three root k v e = e
none_dangles Two root Ref v e = by_target (earlier_target root v) refl e
  where
    by_target : (o : Option Doc) → earlier_target root v ≡ o → is_none o ≡ false → is_none (target root v) ≡ false
    by_target None is f = absurd cc
    by_target (Some d) is f = ap is_none (stays root v d is)
none_dangles Two root _ v e = refl

-- a reference of an earlier profile that names a schema
pub same_target : (root v : Doc) → is_none (earlier_target root v) ≡ false → earlier_target root v ≡ target root v
same_target root v e = by_target (earlier_target root v) refl e
  where
    by_target : (o : Option Doc) → earlier_target root v ≡ o → is_none o ≡ false → o ≡ target root v
    by_target None is f = absurd cc
    by_target (Some d) is f = sym (stays root v d is)
