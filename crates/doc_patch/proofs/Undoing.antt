-- Operations taken back, one after another.
use Rattle.std.proofs.Common.{◌≡◌, List, [], ◌∷◌, ◌++◌, Option, Some, None, option_and_then, is_some, true, refl, sym, ap, ◌∙◌}
use Rattle.doc_tree.specs.Doc.{Doc}
use Rattle.doc_edits.specs.Back.{Step, step_back}
use Rattle.doc_patch.specs.Undo.{steps_back}

-- ---- steps

none_first : (s : Step) (ss : List Step) (o : Option Doc) → option_and_then (step_back s) (option_and_then (steps_back ss) o) ≡ option_and_then (λ e. option_and_then (step_back s) (steps_back ss e)) o
none_first s ss None = refl
none_first s ss (Some e) = refl

itself : (o : Option Doc) → o ≡ option_and_then (λ e. Some e) o
itself None = refl
itself (Some d) = refl

-- the last step is taken first
pub last_first : (ss : List Step) (s : Step) (d : Doc) → steps_back (ss ++ s ∷ []) d ≡ option_and_then (steps_back ss) (step_back s d)
last_first [] s d = itself (step_back s d)
last_first (x ∷ xs) s d = ap (option_and_then (step_back x)) (last_first xs s d) ∙ none_first x xs (step_back s d)

-- where all of them can be taken, the last one can
pub last_can : (ss : List Step) (s : Step) (d : Doc) → is_some (steps_back (ss ++ s ∷ []) d) ≡ true → is_some (step_back s d) ≡ true
last_can ss s d h = go (step_back s d) (ap is_some (sym (last_first ss s d)) ∙ h)
  where
    go : (o : Option Doc) → is_some (option_and_then (steps_back ss) o) ≡ true → is_some o ≡ true
    go None k = k
    go (Some e) k = refl

-- after the last step was taken, the others are left
pub others_left : (ss : List Step) (s : Step) (d e : Doc) → step_back s d ≡ Some e → steps_back (ss ++ s ∷ []) d ≡ steps_back ss e
others_left ss s d e h = last_first ss s d ∙ ap (option_and_then (steps_back ss)) h

-- one more step
pub one_more : (ss : List Step) (s : Step) (d e : Doc) (o : Option Doc) → step_back s e ≡ Some d → steps_back ss d ≡ o → steps_back (ss ++ s ∷ []) e ≡ o
one_more ss s d e o h k = others_left ss s e d h ∙ k
