-- Keywords on numbers, arrays and objects assert nothing of a text.
use Rattle.std.proofs.Common.{◌≡◌, ℕ, ℤ, List, Bool, true, refl}
use Rattle.doc_tree.specs.Doc.{Doc, boolean, int, text, list, object, Members, no_members, member}
use Rattle.schema_rules.specs.Assertions.{on_numbers, is_unique, has_each, each_dependent, has_dependents}

pub on_numbers_text : (test : ℤ → ℤ → Bool) (v : Doc) (s : List ℕ) → on_numbers test v (text s) ≡ true
on_numbers_text test (int z) s = refl
on_numbers_text test _ s = refl

pub is_unique_text : (v : Doc) (s : List ℕ) → is_unique v (text s) ≡ true
is_unique_text (boolean true) s = refl
is_unique_text _ s = refl

pub has_each_text : (v : Doc) (s : List ℕ) → has_each v (text s) ≡ true
has_each_text (list ds) s = refl
has_each_text _ s = refl

each_dependent_text : (ms : Members) (s : List ℕ) → each_dependent ms (text s) ≡ true
each_dependent_text no_members s = refl
each_dependent_text (member k names ms) s = each_dependent_text ms s

pub has_dependents_text : (v : Doc) (s : List ℕ) → has_dependents v (text s) ≡ true
has_dependents_text (object ms) s = each_dependent_text ms s
has_dependents_text _ s = refl
