-- The query of a location is followed step by step, one node at a time.
use Rattle.std.proofs.Common.{◌≡◌, false, List, [], ◌∷◌, ◌++◌, Option, Some, None, option_and_then, refl, ap, ◌∙◌, append_assoc, append-nil}
use Rattle.doc_tree.specs.Doc.{Doc, Place, name, index, child, at}
use Rattle.path_grammar.specs.Syntax.{Selectors, selector, no_selectors}
use Rattle.path_eval.specs.Answer.{nodelist_of}
use Rattle.path_plans.specs.Evaluating.{selected, all_selected, nodelist}
use Rattle.path_select.specs.Nodes.{list_after, only_node}
use Rattle.path_select.specs.Selectors.{found}
use Rattle.path_plans.specs.TooMany.{too_many, selector_refused}
use Rattle.path_parse.specs.QueryOf.{selector_of, query_of}

-- the selectors of a step's segment
abbrev only : Place → Selectors
only p = selector (selector_of p) no_selectors

goes_on : {A B : Type 0} (o : Option A) (f : A → Option B) (y : B) → option_and_then f o ≡ Some y → (x : A) × (o ≡ Some x) × (f x ≡ Some y)
goes_on None f y e = absurd cc
goes_on (Some x) f y e = (x, refl, e)

selected-selector_of : (root d : Doc) (p : Place) → selected root (selector_of p) d ≡ found p (child p d)
selected-selector_of root d (name k) = refl
selected-selector_of root d (index n) = refl

-- a step goes from one node to one node
one_step : (root d e : Doc) (p : Place) (qs : List Place) → child p d ≡ Some e → list_after (all_selected root (only p)) false ((qs, d) ∷ []) ≡ (qs ++ p ∷ [], e) ∷ []
one_step root d e p qs is = rw (selected-selector_of root d p, is) refl

nodelist-query_of : (root d e : Doc) (qs ps : List Place) → at ps d ≡ Some e → nodelist root (query_of ps) ((qs, d) ∷ []) ≡ (qs ++ ps, e) ∷ []
nodelist-query_of root d e qs [] is = let same : d ≡ e = cc in rw (append-nil qs, same) refl
nodelist-query_of root d e qs (p ∷ ps) is =
    let step = goes_on (child p d) (at ps) e is in
    ap (nodelist root (query_of ps)) (one_step root d step.0 p qs step.1)
    ∙ nodelist-query_of root step.0 e (qs ++ p ∷ []) ps step.2
    ∙ ap (λ l. (l, e) ∷ []) (append_assoc qs (p ∷ []) ps)

not_refused : (root d : Doc) (p : Place) → selector_refused root (selector_of p) d ≡ false
not_refused root d (name k) = refl
not_refused root d (index n) = refl

too_many-query_of : (root d e : Doc) (qs ps : List Place) → at ps d ≡ Some e → too_many root (query_of ps) ((qs, d) ∷ []) ≡ false
too_many-query_of root d e qs [] is = refl
too_many-query_of root d e qs (p ∷ ps) is =
    let step = goes_on (child p d) (at ps) e is in
    rw (not_refused root d p, one_step root d step.0 p qs step.1) (too_many-query_of root step.0 e (qs ++ p ∷ []) ps step.2)

pub location_alone : (d e : Doc) (ps : List Place) → at ps d ≡ Some e → nodelist_of d (query_of ps) ≡ (ps, e) ∷ []
location_alone d e ps is = nodelist-query_of d d e [] ps is

pub location_within : (d e : Doc) (ps : List Place) → at ps d ≡ Some e → too_many d (query_of ps) (only_node d) ≡ false
location_within d e ps is = too_many-query_of d d e [] ps is
