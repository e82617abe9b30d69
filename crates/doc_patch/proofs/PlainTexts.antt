-- Texts that spell operations, part by part.
use Rattle.std.proofs.Common.{◌≡◌, ◌≤◌, ℕ, suc, Bool, true, false, List, [], ◌∷◌, ◌++◌, append_assoc, length, codes, Some, option_map, Ok, refl, sym, ap, ◌∙◌, subst, nat_lt, arith}
use Rattle.std.proofs.lemmas.Bool.{le-ltb}
use Rattle.std.proofs.lemmas.List.{nil_from_length}
use Rattle.std.specs.Str.{IsUtf8}
use Rattle.json.proofs.Printed.Utf8.{IsUtf8-are_ascii}
use Rattle.json.specs.Print.{quoted, escape_byte}
use Rattle.serde_json.specs.Written.{comma_if}
use Rattle.doc_edits.specs.Edit.{Tokens, elements_len}
use Rattle.doc_edits.specs.Operation.{Operation}
use Rattle.doc_patch.specs.Plain.{IsTextOfPatch, Spell, IsTextOfOperations, BeginsWithOperation, BeginsWithPointer, BeginsWithPathAndValue, before_from}
use Rattle.doc_patch.specs.Reading.{with_value, with_path, with_from, spelled_as, or_shape, checked, not_into_itself, operations_from, prepend, or_fault, is_too_long}
use Rattle.doc_patch.proofs.Operations.{read_of_list}
use Rattle.doc_patch.proofs.Unread.{read_both}
use Rattle.doc_pointer.specs.Reading.{pointer_of}
use Rattle.doc_tree.specs.Doc.{Doc, text, list, object, no_members, member, Elements, no_elements, element, height}
use Rattle.doc_tree.specs.Text.{text_of}

-- ---- one operation

-- `"op":WORD,"path":` and what follows it
abbrev pub before_path : List ℕ → List ℕ → List ℕ
before_path word rest = quoted (codes "op") ++ 58 ∷ (quoted word ++ 44 ∷ (quoted (codes "path") ++ 58 ∷ rest))

-- what stands between a path and a value
abbrev pub before_value : List ℕ → List ℕ
before_value rest = 44 ∷ (quoted (codes "value") ++ 58 ∷ rest)

-- {"op":WORD,"path":PATH,"value":VALUE}
abbrev pub with_both : List ℕ → List ℕ → Doc → Doc
with_both word path v =
    object (member (codes "op") (text word) (member (codes "path") (text path) (member (codes "value") v no_members)))

-- {"op":WORD,"path":PATH}
abbrev pub with_one : List ℕ → List ℕ → Doc
with_one word path = object (member (codes "op") (text word) (member (codes "path") (text path) no_members))

-- {"from":FROM,"op":WORD,"path":PATH}
abbrev pub with_source : List ℕ → List ℕ → List ℕ → Doc
with_source word from path =
    object (member (codes "from") (text from) (member (codes "op") (text word) (member (codes "path") (text path) no_members)))

-- what follows a text follows it with more before it
after_path : (word a b e : List ℕ) → a ≡ b ++ e → before_path word a ≡ before_path word b ++ e
unfolding escape_byte
after_path word a b e is =
    ap (before_path word) is
    ∙ ap (λ x. quoted (codes "op") ++ 58 ∷ x) (sym (append_assoc (quoted word) (44 ∷ (quoted (codes "path") ++ 58 ∷ b)) e))

after_last : (path e : List ℕ) → quoted path ++ 125 ∷ e ≡ (quoted path ++ 125 ∷ []) ++ e
after_last path e = sym (append_assoc (quoted path) (125 ∷ []) e)

parts_with_both : (word path : List ℕ) (v : Doc) (e : List ℕ)
    → 123 ∷ before_path word (quoted path ++ before_value (text_of v ++ 125 ∷ e)) ≡ text_of (with_both word path v) ++ e
unfolding escape_byte
parts_with_both word path v e =
    ap (λ x. 123 ∷ x) (after_path word _ (quoted path ++ before_value (text_of v ++ 125 ∷ [])) e
    (ap (λ x. quoted path ++ before_value x) (sym (append_assoc (text_of v) (125 ∷ []) e))
    ∙ sym (append_assoc (quoted path) (before_value (text_of v ++ 125 ∷ [])) e)))

parts_with_one : (word path e : List ℕ) → 123 ∷ before_path word (quoted path ++ 125 ∷ e) ≡ text_of (with_one word path) ++ e
unfolding escape_byte
parts_with_one word path e = ap (λ x. 123 ∷ x) (after_path word _ (quoted path ++ 125 ∷ []) e (after_last path e))

parts_with_source : (word from path e : List ℕ)
    → before_from (quoted from ++ 44 ∷ before_path word (quoted path ++ 125 ∷ e)) ≡ text_of (with_source word from path) ++ e
unfolding escape_byte
parts_with_source word from path e =
    ap (λ x. before_from (quoted from ++ 44 ∷ x)) (after_path word _ (quoted path ++ 125 ∷ []) e (after_last path e))
    ∙ ap before_from (sym (append_assoc (quoted from) (44 ∷ before_path word (quoted path ++ 125 ∷ [])) e))

-- an operation with a value
pub an_operation_with_both : (word : List ℕ) (f : Tokens → Doc → Operation) (bytes a : List ℕ) (tokens : Tokens) (v : Doc) (rest : List ℕ)
    → bytes ≡ 123 ∷ before_path word a → BeginsWithPathAndValue a tokens v rest → IsUtf8 word
    → ((path : List ℕ) → spelled_as word path (with_both word path v) ≡ Some (with_value f path v))
    → not_into_itself (f tokens v) ≡ Ok (f tokens v) → BeginsWithOperation bytes (f tokens v) rest
an_operation_with_both word f bytes a tokens v rest is both utf8 spelled same =
    let path = both.path.written in
    let parts = both.path.text ∙ ap (λ x. quoted path ++ x) (both.between ∙ ap before_value both.value.text) in
    let low = both.value.low in
    record {
      op = with_both word path v;
      text = is ∙ ap (λ x. 123 ∷ before_path word x) parts ∙ parts_with_both word path v rest;
      read = ap or_shape (spelled path) ∙ ap (λ o. checked (option_map (λ p. f p v) o)) both.path.read ∙ same;
      sound = (
        IsUtf8-are_ascii _ refl,
        utf8,
        (refl, (refl, tt)),
        (IsUtf8-are_ascii _ refl, both.path.sound, (refl, tt), (IsUtf8-are_ascii _ refl, both.value.sound, tt, tt)),
      );
      low = omega (arith, low);
    }

-- an operation with a path alone
pub an_operation_with_one : (word : List ℕ) (f : Tokens → Operation) (bytes a : List ℕ) (tokens : Tokens) (rest : List ℕ)
    → bytes ≡ 123 ∷ before_path word a → BeginsWithPointer a tokens (125 ∷ rest) → IsUtf8 word
    → ((path : List ℕ) → spelled_as word path (with_one word path) ≡ Some (with_path f path))
    → not_into_itself (f tokens) ≡ Ok (f tokens) → BeginsWithOperation bytes (f tokens) rest
an_operation_with_one word f bytes a tokens rest is here utf8 spelled same =
    let path = here.written in
    record {
      op = with_one word path;
      text = is ∙ ap (λ x. 123 ∷ before_path word x) here.text ∙ parts_with_one word path rest;
      read = ap or_shape (spelled path) ∙ ap (λ o. checked (option_map f o)) here.read ∙ same;
      sound = (IsUtf8-are_ascii _ refl, utf8, (refl, tt), (IsUtf8-are_ascii _ refl, here.sound, tt, tt));
      low = omega (arith);
    }

-- an operation with the place of what it takes
pub an_operation_with_source : (word : List ℕ) (f : Tokens → Tokens → Operation) (a b d : List ℕ) (from path : Tokens) (o : Operation) (rest : List ℕ)
    → BeginsWithPointer a from b → b ≡ 44 ∷ before_path word d → BeginsWithPointer d path (125 ∷ rest) → IsUtf8 word
    → ((p q : List ℕ) → spelled_as word p (with_source word q p) ≡ Some (with_from f q p))
    → not_into_itself (f from path) ≡ Ok o → BeginsWithOperation (before_from a) o rest
an_operation_with_source word f a b d from path o rest first is last utf8 spelled same =
    let p = last.written in
    let q = first.written in
    let parts = first.text ∙ ap (λ x. quoted q ++ x) (is ∙ ap (λ x. 44 ∷ before_path word x) last.text) in
    record {
      op = with_source word q p;
      text = ap before_from parts ∙ parts_with_source word q p rest;
      read = ap or_shape (spelled p q) ∙ read_both f (pointer_of q) (pointer_of p) from path last.read first.read ∙ same;
      sound = (
        IsUtf8-are_ascii _ refl,
        first.sound,
        (refl, (refl, tt)),
        (IsUtf8-are_ascii _ refl, utf8, (refl, tt), (IsUtf8-are_ascii _ refl, last.sound, tt, tt)),
      );
      low = omega (arith);
    }

-- ---- the operations of a patch

-- one more operation, before others
pub one_operation : (later : Bool) (a b after : List ℕ) (o : Operation) (os : List Operation) → a ≡ comma_if later ++ b
    → BeginsWithOperation b o after → IsTextOfOperations true after os → IsTextOfOperations later a (o ∷ os)
one_operation later a b after o os comma here rest =
    let high = here.low in
    let others = rest.low in
    record {
      ds = element here.op rest.ds;
      text = comma ∙ ap (λ x. comma_if later ++ x) (here.text ∙ ap (λ x. text_of here.op ++ x) rest.text);
      spell = (here.read, rest.spell);
      sound = (here.sound, rest.sound);
      low = omega (arith, high, others);
    }

-- the closing bracket ends the text
pub no_more : (after end : List ℕ) → after ≡ 93 ∷ end → length end ≡ 0 → IsTextOfOperations true after []
no_more after end is none =
    record {
      ds = no_elements;
      text = is ∙ ap (λ x. 93 ∷ x) (nil_from_length end none);
      spell = tt;
      sound = tt;
      low = omega (arith);
    }

read_by : (i : ℕ) (ds : Elements) (os : List Operation) → Spell ds os → operations_from i ds ≡ Ok os
read_by i no_elements [] s = refl
read_by i (element d ds) (o ∷ os) s =
    ap (λ r. or_fault i r (operations_from (suc i) ds)) s.0 ∙ ap (prepend o) (read_by (suc i) ds os s.1)
read_by i no_elements (o ∷ os) s = elim s [ ]
read_by i (element d ds) [] s = elim s [ ]

counted : (ds : Elements) (os : List Operation) → Spell ds os → elements_len ds ≡ length os
counted no_elements [] s = refl
counted (element d ds) (o ∷ os) s = ap suc (counted ds os s.1)
counted no_elements (o ∷ os) s = elim s [ ]
counted (element d ds) [] s = elim s [ ]

-- the whole text
pub the_patch : (bytes a : List ℕ) (os : List Operation) → bytes ≡ 91 ∷ a → IsTextOfOperations false a os → length bytes ≤ 2_097_152 → length os ≤ 4_096
    → IsTextOfPatch bytes os
the_patch bytes a os is here short few =
    let d = list here.ds in
    let high = here.low in
    let whole : bytes ≡ text_of d = is ∙ ap (λ x. 91 ∷ x) here.text in
    let count : nat_lt 4_096 (elements_len here.ds) ≡ false = le-ltb 4_096 (elements_len here.ds) (subst (λ n. n ≤ 4_096) (sym (counted here.ds os here.spell)) few) in
    let len : nat_lt 2_097_152 (length (text_of d)) ≡ false = le-ltb 2_097_152 (length (text_of d)) (subst (λ x. length x ≤ 2_097_152) whole short) in
    let low : height d ≤ 66 = omega (arith, high) in
    let levels : nat_lt 66 (height d) ≡ false = le-ltb 66 (height d) low in
    let within : is_too_long d ≡ false = rw count (rw len levels) in
    record {
      ops = d;
      text = whole;
      read = read_of_list d here.ds within refl ∙ read_by 0 here.ds os here.spell;
      sound = here.sound;
      low = low;
    }
