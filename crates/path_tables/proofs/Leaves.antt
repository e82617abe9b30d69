-- A value that is neither a list nor an object has no children, so nothing is taken of it.
use Rattle.std.proofs.Common.{◌≡◌, ◌++◌, ◌||◌, ◌∙◌, true, false, ℕ, List, [], ◌∷◌, flat_map, filter, ap, refl, Option, Some, None}
use Rattle.std.specs.List.{list_any}
use Rattle.doc_tree.specs.Doc.{Doc, null, boolean, int, text, list, object, name, index, child}
use Rattle.path_grammar.specs.Syntax.{Selector, name_selector, wildcard_selector, slice_selector, index_selector, filter_selector}
use Rattle.path_plans.specs.Evaluating.{selected}
use Rattle.path_plans.specs.Planned.{PlanSelector, plain, kept, PlanSelectors, no_choices, choice, taken, all_taken, choice_refused, choices_refused}
use Rattle.path_select.specs.Nodes.{children, descendants}
use Rattle.path_select.specs.Selectors.{found, item, item_if}
use Rattle.path_tables.specs.Visiting.{is_leaf}

no_member : (k : List ℕ) (d : Doc) → is_leaf d ≡ true → child (name k) d ≡ None
no_member k null leaf = refl
no_member k (boolean b) leaf = refl
no_member k (int z) leaf = refl
no_member k (text s) leaf = refl
no_member k (list ds) leaf = refl
no_member k (object ms) leaf = absurd cc

no_element : (i : ℕ) (d : Doc) → is_leaf d ≡ true → child (index i) d ≡ None
no_element i null leaf = refl
no_element i (boolean b) leaf = refl
no_element i (int z) leaf = refl
no_element i (text s) leaf = refl
no_element i (list ds) leaf = absurd cc
no_element i (object ms) leaf = refl

no_children : (d : Doc) → is_leaf d ≡ true → children d ≡ []
no_children null leaf = refl
no_children (boolean b) leaf = refl
no_children (int z) leaf = refl
no_children (text s) leaf = refl
no_children (list ds) leaf = absurd cc
no_children (object ms) leaf = absurd cc

pub it_alone : (d : Doc) → is_leaf d ≡ true → descendants d ≡ ([], d) ∷ []
it_alone null leaf = refl
it_alone (boolean b) leaf = refl
it_alone (int z) leaf = refl
it_alone (text s) leaf = refl
it_alone (list ds) leaf = absurd cc
it_alone (object ms) leaf = absurd cc

no_item : (o : Option ℕ) (d : Doc) → is_leaf d ≡ true → item_if o d ≡ []
no_item None d leaf = refl
no_item (Some i) d leaf = ap (found (index i)) (no_element i d leaf)

no_items : (is : List ℕ) (d : Doc) → is_leaf d ≡ true → flat_map (λ i. item i d) is ≡ []
no_items [] d leaf = refl
no_items (i ∷ is) d leaf = ap (λ cs. cs ++ flat_map (λ j. item j d) is) (no_item (Some i) d leaf) ∙ no_items is d leaf

none_selected : (s : Selector) (d : Doc) → is_leaf d ≡ true → selected d s d ≡ []
none_selected (name_selector k) d leaf = ap (found (name k)) (no_member k d leaf)
none_selected wildcard_selector d leaf = no_children d leaf
none_selected (slice_selector a b c) d leaf = no_items _ d leaf
none_selected (index_selector i) d leaf = no_item _ d leaf
none_selected (filter_selector e) d leaf = ap (filter _) (no_children d leaf)

none_taken : (c : PlanSelector) (d : Doc) → is_leaf d ≡ true → taken c d ≡ []
none_taken (plain s) d leaf = none_selected s d leaf
none_taken (kept t) d leaf = ap (filter _) (no_children d leaf)

pub nothing_taken : (cs : PlanSelectors) (d : Doc) → is_leaf d ≡ true → all_taken cs d ≡ []
nothing_taken no_choices d leaf = refl
nothing_taken (choice c cs) d leaf = ap (λ ks. ks ++ all_taken cs d) (none_taken c d leaf) ∙ nothing_taken cs d leaf

none_refused : (c : PlanSelector) (d : Doc) → is_leaf d ≡ true → choice_refused c d ≡ false
none_refused (plain s) d leaf = refl
none_refused (kept t) d leaf = ap (list_any _) (no_children d leaf)

pub nothing_refused : (cs : PlanSelectors) (d : Doc) → is_leaf d ≡ true → choices_refused cs d ≡ false
nothing_refused no_choices d leaf = refl
nothing_refused (choice c cs) d leaf = ap (λ b. b || choices_refused cs d) (none_refused c d leaf) ∙ nothing_refused cs d leaf
