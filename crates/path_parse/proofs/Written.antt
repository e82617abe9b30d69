-- What a text is after parts were written behind it, each as its UTF-8 bytes.
use Rattle.std.proofs.Common.{◌≡◌, ℕ, suc, ◌+◌, ◌<◌, ◌≤◌, drop, get_or, drop-cons, add-one, List, [], ◌∷◌, ◌++◌, Global, String, string_bytes, length, map, flat_map, encode_utf8, encode_utf8_all, IsUtf8, refl, sym, ap, ◌∙◌, append_assoc, append-nil, arith}
use Rattle.std.specs.Prelude.{codes, chars}
use Rattle.std.proofs.Math.ListN.{drop_of_length-le}
use Rattle.std.proofs.lemmas.List.{nil_from_length}
use Rattle.std.proofs.lemmas.Str.{encodes-append, encode_ascii, chars_from_encodes, chars_past_char, chars-nil, IsUtf8-string_bytes}
use Rattle.doc_tree.specs.Doc.{Place}
use Rattle.path_parse.specs.NormalPath.{normal_step, normal_path}

-- two parts
pub two_parts : (before here after : List ℕ) (a b : List ℕ) → here ≡ before ++ encode_utf8_all a → after ≡ here ++ encode_utf8_all b → after ≡ before ++ encode_utf8_all (a ++ b)
two_parts before here after a b e f = f ∙ ap (λ l. l ++ encode_utf8_all b) e ∙ append_assoc before (encode_utf8_all a) (encode_utf8_all b) ∙ ap (λ l. before ++ l) (sym (encodes-append a b))

-- three parts, the outer ones plain
pub between : (before one two three : List ℕ) (a b c : List ℕ) → encode_utf8_all a ≡ a → encode_utf8_all c ≡ c → one ≡ before ++ a → two ≡ one ++ encode_utf8_all b → three ≡ two ++ c → three ≡ before ++ encode_utf8_all (a ++ b ++ c)
between before one two three a b c plain_a plain_c e f g =
    two_parts before two three (a ++ b) c (two_parts before one two a b (e ∙ ap (λ l. before ++ l) (sym plain_a)) f) (g ∙ ap (λ l. two ++ l) (sym plain_c))

pub dollar : encode_utf8_all (codes "$") ≡ codes "$"
dollar = rw (encode_ascii 36 (omega arith)) refl

pub bracket : encode_utf8_all (codes "[") ≡ codes "["
bracket = rw (encode_ascii 91 (omega arith)) refl

pub bracket_end : encode_utf8_all (codes "]") ≡ codes "]"
bracket_end = rw (encode_ascii 93 (omega arith)) refl

pub quote : encode_utf8_all (codes "['") ≡ codes "['"
quote = rw (encode_ascii 91 (omega arith), encode_ascii 39 (omega arith)) refl

pub quote_end : encode_utf8_all (codes "']") ≡ codes "']"
quote_end = rw (encode_ascii 39 (omega arith), encode_ascii 93 (omega arith)) refl

-- one more item of a list that is written item by item
pub one_more : {X : Type 0} (f : X → List ℕ) (before after : List ℕ) (x : X) (xs : List X) → after ≡ before ++ encode_utf8_all (f x) → after ++ encode_utf8_all (flat_map f xs) ≡ before ++ encode_utf8_all (flat_map f (x ∷ xs))
one_more f before after x xs e = two_parts before after (after ++ encode_utf8_all (flat_map f xs)) (f x) (flat_map f xs) e refl

-- one more character of a text
pub character_more : (f : ℕ → List ℕ) (before after : List ℕ) (c : ℕ) (rest left : List ℕ) → IsUtf8 rest → rest ≡ encode_utf8 c ++ left → after ≡ before ++ encode_utf8_all (f c)
    → after ++ encode_utf8_all (flat_map f (chars left)) ≡ before ++ encode_utf8_all (flat_map f (chars rest))
character_more f before after c rest left utf8 e g = one_more f before after c (chars left) g ∙ ap (λ cs. before ++ encode_utf8_all (flat_map f cs)) (sym (chars_past_char rest left c utf8 e))

-- no character is left
pub no_more : (f : ℕ → List ℕ) (before rest : List ℕ) → length rest ≡ 0 → before ++ encode_utf8_all (flat_map f (chars rest)) ≡ before
no_more f before rest e = rw (nil_from_length rest e, chars-nil) (append-nil before)

-- one more item of what is left of a list
pub item_more : {S X : Type 0} (f : X → List ℕ) (v : S → X) (before after : List ℕ) (xs : List S) (i : ℕ) (x : S) → i < length xs → x ≡ get_or xs i x → after ≡ before ++ encode_utf8_all (f (v x))
    → after ++ encode_utf8_all (flat_map f (map v (drop (i + 1) xs))) ≡ before ++ encode_utf8_all (flat_map f (map v (drop i xs)))
item_more f v before after xs i x in_range is e =
    let left : drop i xs ≡ x ∷ drop (i + 1) xs = rw add-one (drop-cons xs i x in_range ∙ ap (λ y. y ∷ drop (suc i) xs) (sym is)) in
    one_more f before after (v x) (map v (drop (i + 1) xs)) e ∙ ap (λ ys. before ++ encode_utf8_all (flat_map f (map v ys))) (sym left)

-- no item is left
pub no_item_more : {S X : Type 0} (f : X → List ℕ) (v : S → X) (before : List ℕ) (xs : List S) (i : ℕ) → length xs ≤ i → before ++ encode_utf8_all (flat_map f (map v (drop i xs))) ≡ before
no_item_more f v before xs i end = rw (drop_of_length-le xs end) (append-nil before)

-- the whole path, once its steps are written behind the sign of the root
pub path_written : (places : List Place) (text : String Global) (begun none : List ℕ) → string_bytes text ≡ begun ++ encode_utf8_all (flat_map normal_step places) → begun ≡ none ++ encode_utf8 36 → none ≡ [] → chars (string_bytes text) ≡ normal_path places
path_written places text begun none whole sign empty =
    let bytes : string_bytes text ≡ encode_utf8_all (normal_path places) =
    whole ∙ ap (λ l. l ++ encode_utf8_all (flat_map normal_step places)) (sign ∙ ap (λ l. l ++ encode_utf8 36) empty) in
    sym (chars_from_encodes (normal_path places) (string_bytes text) (IsUtf8-string_bytes text) (sym bytes))
