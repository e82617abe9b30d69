-- What is added to bytes, part by part.
use Rattle.std.proofs.Common.{◌≡◌, Bool, true, List, ℕ, [], ◌∷◌, ◌++◌, append_assoc, ap, ◌∙◌}
use Rattle.json.specs.Print.{quoted}
use Rattle.serde_json.specs.Written.{comma_if}
use Rattle.doc_tree.specs.Doc.{Doc, Elements, element, Members, member}
use Rattle.doc_tree.specs.Text.{text_of, elements_text, members_text_of}

-- these and then those
pub both : (these those old mid new : List ℕ) → mid ≡ old ++ these → new ≡ mid ++ those → new ≡ old ++ (these ++ those)
both these those old mid new first later = later ∙ ap (λ x. x ++ those) first ∙ append_assoc old these those

-- one element, and the text of what is left
pub element_put : (later : Bool) (d : Doc) (ds : Elements) (old a b : List ℕ) → a ≡ old ++ comma_if later → b ≡ a ++ text_of d
    → b ++ elements_text true ds ≡ old ++ elements_text later (element d ds)
element_put later d ds old a b comma here =
    let rest = elements_text true ds in
    ap (λ x. x ++ rest) (both (comma_if later) (text_of d) old a b comma here)
    ∙ append_assoc old (comma_if later ++ text_of d) rest ∙ ap (λ x. old ++ x) (append_assoc (comma_if later) (text_of d) rest)

-- one member, and the text of what is left
pub member_put : (later : Bool) (k : List ℕ) (d : Doc) (ms : Members) (old a b e f : List ℕ) → a ≡ old ++ comma_if later → b ≡ a ++ quoted k → e ≡ b ++ 58 ∷ []
    → f ≡ e ++ text_of d → f ++ members_text_of true ms ≡ old ++ members_text_of later (member k d ms)
member_put later k d ms old a b e f comma name colon here =
    let rest = members_text_of true ms in
    (both (comma_if later) (quoted k ++ 58 ∷ (text_of d ++ rest)) old a (f ++ rest) comma
    (both (quoted k) (58 ∷ (text_of d ++ rest)) a b (f ++ rest) name
    (both (58 ∷ []) (text_of d ++ rest) b e (f ++ rest) colon (ap (λ x. x ++ rest) here ∙ append_assoc e (text_of d) rest))))
