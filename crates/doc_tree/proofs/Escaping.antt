-- The text of bytes with escapes, part by part.
use Rattle.std.proofs.Common.{◌≡◌, ℕ, List, ◌++◌, append_assoc, take, drop, take-append-drop, sym, ap, ◌∙◌}
use Rattle.std.proofs.lemmas.Grind.{flat_map-append}
use Rattle.json.specs.Print.{escape, escape_byte}

-- the first ones, and those after them
in_two : (n : ℕ) (text : List ℕ) → escape (take n text) ++ escape (drop n text) ≡ escape text
in_two n text = sym (flat_map-append escape_byte (take n text) (drop n text)) ∙ ap escape (take-append-drop n text)

-- with the first ones added, it is as much with the others
pub some_added : (old now new whole text : List ℕ) (n : ℕ) (left : List ℕ) → now ++ escape text ≡ old ++ escape whole → new ≡ now ++ escape (take n text) → left ≡ drop n text
    → new ++ escape left ≡ old ++ escape whole
some_added old now new whole text n left before is rest =
    ap (λ x. new ++ escape x) rest ∙ ap (λ x. x ++ escape (drop n text)) is ∙ append_assoc now (escape (take n text)) (escape (drop n text))
    ∙ ap (λ x. now ++ x) (in_two n text) ∙ before
