-- The text of a patch that asks for no revision, part by part.
use Rattle.std.proofs.Common.{◌≡◌, ℕ, ◌≤◌, List, [], ◌∷◌, ◌++◌, append_assoc, append-nil, codes, length, None, Option, Some, IfSome, refl, sym, ap, ◌∙◌, arith}
use denote.Ref.{Bor}
use Rattle.std.proofs.lemmas.List.{nil_from_length}
use Rattle.std.specs.Str.{IsUtf8}
use Rattle.json.specs.Print.{quoted, escape_byte}
use Rattle.doc_tree.specs.Doc.{Doc, height}
use Rattle.doc_tree.specs.Sound.{IsSound}
use Rattle.doc_tree.specs.Text.{text_of}
use Rattle.record_text.specs.Change.{object_of, patch}
use Rattle.record_text.specs.Fault.{IsTextOf}
use Rattle.record_text.proofs.Objects.{IsSound-patch, height-object_of}

-- what stands before the name
abbrev pub before_name : List ℕ → List ℕ
before_name rest = 123 ∷ (quoted (codes "cmd") ++ 58 ∷ (quoted (codes "patch") ++ 44 ∷ (quoted (codes "name") ++ 58 ∷ rest)))

-- what stands between the name and the operations
abbrev pub before_ops : List ℕ → List ℕ
before_ops rest = 44 ∷ (quoted (codes "ops") ++ 58 ∷ rest)

in_parts : (name : List ℕ) (ops : Doc) (e : List ℕ)
    → before_name (quoted name ++ before_ops (text_of ops ++ 125 ∷ e)) ≡ text_of (object_of (patch name ops None)) ++ e
unfolding escape_byte
in_parts name ops e =
    ap (λ x. before_name (quoted name ++ before_ops x)) (sym (append_assoc (text_of ops) (125 ∷ []) e))
    ∙ ap before_name (sym (append_assoc (quoted name) (before_ops (text_of ops ++ 125 ∷ [])) e))

pub after_patch : (name : List ℕ) (ops : Doc) (body a b d e : List ℕ) (r : Option (Bor (List ℕ))) → body ≡ before_name a → a ≡ quoted name ++ b
    → b ≡ before_ops d → d ≡ text_of ops ++ e → IfSome r (λ x. e ≡ 125 ∷ x.now) → IfSome r (λ x. body ≡ text_of (object_of (patch name ops None)) ++ x.now)
after_patch name ops body a b d e None first named second there end = tt
after_patch name ops body a b d e (Some x) first named second there end =
    first ∙ ap before_name (named ∙ ap (λ y. quoted name ++ y) (second ∙ ap before_ops (there ∙ ap (λ y. text_of ops ++ y) end))) ∙ in_parts name ops x.now

pub is_patch_text : (name : List ℕ) (ops : Doc) (body rest : List ℕ) → body ≡ text_of (object_of (patch name ops None)) ++ rest → length rest ≡ 0
    → IsUtf8 name → IsSound ops → height ops ≤ 126 → IsTextOf body (object_of (patch name ops None))
is_patch_text name ops body rest is none utf8 sound low =
    let higher = height-object_of (patch name ops None) in
    let text = text_of (object_of (patch name ops None)) in
    record {
      sound = IsSound-patch name ops None tt utf8 sound;
      low = omega (arith, higher, low);
      text = sym (is ∙ ap (λ x. text ++ x) (nil_from_length rest none) ∙ append-nil text);
    }

-- so is a body whose last byte closes the object, whatever document's text stands before it
pub patch_parts : (name : List ℕ) (ops : Doc) (body a b d t : List ℕ) → body ≡ before_name a → a ≡ quoted name ++ b → b ≡ before_ops d → d ≡ t ++ 125 ∷ [] → t ≡ text_of ops
    → IsUtf8 name → IsSound ops → height ops ≤ 126 → IsTextOf body (object_of (patch name ops None))
patch_parts name ops body a b d t first named second last there utf8 sound low =
    let whole = first ∙ ap before_name (named ∙ ap (λ y. quoted name ++ y) (second ∙ ap before_ops (last ∙ ap (λ y. y ++ 125 ∷ []) there))) ∙ in_parts name ops [] in
    is_patch_text name ops body [] whole refl utf8 sound low
