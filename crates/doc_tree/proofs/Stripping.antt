-- What bytes begin with, part by part.
use Rattle.std.proofs.Common.{◌≡◌, ℕ, Bool, true, List, ◌∷◌, ◌++◌, append_assoc, sym, ap, ◌∙◌}
use Rattle.std.proofs.Common.{Option, None, Some, IfSome}
use denote.Ref.{Bor}
use Rattle.json.specs.Print.{quoted}
use Rattle.serde_json.specs.Written.{comma_if}
use Rattle.doc_tree.specs.Doc.{Doc, Elements, element, Members, member}
use Rattle.doc_tree.specs.Text.{text_of, elements_text, members_text_of}

-- one element, and what follows it
pub one_element : (later : Bool) (d : Doc) (ds : Elements) (a b e more : List ℕ) → a ≡ comma_if later ++ b → b ≡ text_of d ++ e
    → e ≡ elements_text true ds ++ more → a ≡ elements_text later (element d ds) ++ more
one_element later d ds a b e more comma here rest =
    comma ∙ ap (λ x. comma_if later ++ x) (here ∙ ap (λ x. text_of d ++ x) rest ∙ sym (append_assoc (text_of d) (elements_text true ds) more))
    ∙ sym (append_assoc (comma_if later) (text_of d ++ elements_text true ds) more)

-- one member, and what follows it
pub one_member : (later : Bool) (k : List ℕ) (d : Doc) (ms : Members) (a b e f g more : List ℕ) → a ≡ comma_if later ++ b → b ≡ quoted k ++ e → e ≡ 58 ∷ f
    → f ≡ text_of d ++ g → g ≡ members_text_of true ms ++ more → a ≡ members_text_of later (member k d ms) ++ more
one_member later k d ms a b e f g more comma name colon here rest =
    let value = ap (λ x. 58 ∷ x) (here ∙ ap (λ x. text_of d ++ x) rest ∙ sym (append_assoc (text_of d) (members_text_of true ms) more)) in
    let named = name ∙ ap (λ x. quoted k ++ x) (colon ∙ value) ∙ sym (append_assoc (quoted k) (58 ∷ (text_of d ++ members_text_of true ms)) more) in
    comma ∙ ap (λ x. comma_if later ++ x) named
    ∙ sym (append_assoc (comma_if later) (quoted k ++ 58 ∷ (text_of d ++ members_text_of true ms)) more)

-- the closing bracket ends the text
pub ended : (last : ℕ) (all whole here : List ℕ) (r : Option (Bor (List ℕ))) → ((more : List ℕ) → here ≡ last ∷ more → whole ≡ all ++ more)
    → IfSome r (λ x. here ≡ last ∷ x.now) → IfSome r (λ x. whole ≡ all ++ x.now)
ended last all whole here None goes h = tt
ended last all whole here (Some x) goes h = goes x.now h
