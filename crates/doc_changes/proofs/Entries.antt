-- What a look-up in the map says of the documents that it stands for, and what each change of the map does to them.
use Rattle.std.proofs.Common.{◌≡◌, ℕ, suc, ◌+◌, ◌≤◌, arith, Bool, true, false, not, cond, List, [], ◌∷◌, ◌++◌, Option, None, Some, refl, sym, ap, ◌∙◌, subst, map, is_some, length, take, String, Global, string_bytes, string_eq, bytes_eq, remove, slice_get, position, option_map, option_copied, MatchOption, Bor}
use Rattle.std.proofs.lemmas.List.{take_all}
use Rattle.std.proofs.lemmas.Slice.Eq.{bytes_eq-Decides}
use Rattle.std.specs.List.{position_or_len}
use Rattle.std.specs.Map.{lookup, keys_of, values_of}
use Rattle.indexmap.specs.IndexMap.{insert_entry, shift_remove_entry}
use Rattle.indexmap.specs.Layout.{set_value_at}
use Rattle.indexmap.proofs.MapLemmas.{absent_from_lookup, insert_entry-absent, remove_entry-first, Found-position}
use Rattle.doc_changes.specs.State.{Document, find, changed, without}
use Rattle.doc_changes.specs.StateView.{document_of, named, IsStoredAt}
use Rattle.doc_changes.specs.declared.stored.Stored.{Stored}

abbrev pub Entry : Type 0
Entry = String Global × Stored

pub none_at : {A : Type 0} (b : Bool) (x : A) (r : Option A) → cond b (Some x) r ≡ None → (b ≡ false) × (r ≡ None)
none_at true x r h = cc
none_at false x r h = (refl, h)

pub none_found : {A : Type 0} (o : Option A) → is_some o ≡ false → o ≡ None
none_found None h = refl
none_found (Some x) h = absurd (cc)

pub same_some : {A : Type 0} (o : Option A) (a b : A) → o ≡ Some a → o ≡ Some b → a ≡ b
same_some o a b h g = cc

-- the document of a name is what the map has there
pub find-map : (n : List ℕ) (es : List Entry) → find n (map document_of es) ≡ option_map (named n) (lookup (λ k. bytes_eq n (string_bytes k)) es)
find-map n [] = refl
find-map n (e ∷ es) = by (bytes_eq n (string_bytes e.0)) (λ h. (bytes_eq-Decides n (string_bytes e.0)).0 h) (find-map n es)
  where
    by : (b : Bool) → (b ≡ true → n ≡ string_bytes e.0) → find n (map document_of es) ≡ option_map (named n) (lookup (λ k. bytes_eq n (string_bytes k)) es)
        → cond b (Some (document_of e)) (find n (map document_of es)) ≡ option_map (named n) (cond b (Some e.1) (lookup (λ k. bytes_eq n (string_bytes k)) es))
    by true h rest = ap (λ (m : List ℕ). Some (named m e.1)) (sym (h refl))
    by false h rest = rest

is_some-option_map : {A B : Type 0} (f : A → B) (o : Option A) → is_some (option_map f o) ≡ is_some o
is_some-option_map f None = refl
is_some-option_map f (Some x) = refl

-- and it is there where the map has its name
pub is_some-find-map : (n : List ℕ) (es : List Entry) → is_some (find n (map document_of es)) ≡ is_some (lookup (λ k. bytes_eq n (string_bytes k)) es)
is_some-find-map n es = ap is_some (find-map n es) ∙ is_some-option_map (named n) (lookup (λ k. bytes_eq n (string_bytes k)) es)

-- nor has the map the key of a name that no document has
pub no_key : (n : List ℕ) (es : List Entry) → find n (map document_of es) ≡ None → lookup (λ k. bytes_eq n (string_bytes k)) es ≡ None
no_key n es h = none_found (lookup (λ k. bytes_eq n (string_bytes k)) es) (sym (is_some-find-map n es) ∙ ap is_some h)

-- a new key goes last
pub pushed : (k : String Global) (s : Stored) (es : List Entry) → find (string_bytes k) (map document_of es) ≡ None → insert_entry string_eq es k s ≡ es ++ (k, s) ∷ []
pushed k s es h = insert_entry-absent string_eq k s es (absent_from_lookup (string_eq k) es (no_key (string_bytes k) es h))

names-map : (es : List Entry) → map string_bytes (keys_of es) ≡ map (λ d. d.name) (map document_of es)
names-map [] = refl
names-map (e ∷ es) = ap (λ ns. string_bytes e.0 ∷ ns) (names-map es)

-- the names of the documents are the keys
pub names_of_keys : (es : List Entry) (ks : List (String Global)) (i : ℕ) → ks ≡ keys_of es → length ks ≤ i → map string_bytes (take i ks) ≡ map (λ d. d.name) (map document_of es)
names_of_keys es ks i e h = ap (map string_bytes) (take_all i ks h ∙ e) ∙ names-map es

-- a look-up in the map answers what is stored
pub stored_at : (n : List ℕ) (ds : List Document) (o : Option (Bor Stored)) → find n ds ≡ option_map (named n) (option_copied o)
    → MatchOption o (find n ds ≡ None) (λ s. IsStoredAt n s.now ds)
stored_at n ds None h = h
stored_at n ds (Some s) h = h

-- f makes the document of what is stored anew out of that of what was stored
abbrev pub Makes : (Document → Document) → Stored → Stored → Type 0
Makes f old new = (n : List ℕ) → named n new ≡ f (named n old)

-- what is stored at the index of a key
pub stored_there : (n : List ℕ) (es : List Entry) (i : ℕ) (w : Stored) → position (λ k. bytes_eq n (string_bytes k)) (keys_of es) ≡ Some i → slice_get (values_of es) i ≡ Some w
    → lookup (λ k. bytes_eq n (string_bytes k)) es ≡ Some w
stored_there n es i w at value = (Found-position (λ k. bytes_eq n (string_bytes k)) es i at).value ∙ value

-- and that is the document of that name
pub found_at : (n : List ℕ) (es : List Entry) (i : ℕ) (w : Stored) → position (λ k. bytes_eq n (string_bytes k)) (keys_of es) ≡ Some i → slice_get (values_of es) i ≡ Some w
    → find n (map document_of es) ≡ Some (named n w)
found_at n es i w at value = find-map n es ∙ ap (option_map (named n)) (stored_there n es i w at value)

written_first : (f : Document → Document) (n : List ℕ) (es : List Entry) (old w : Stored) → slice_get (values_of es) (position_or_len (λ k. bytes_eq n (string_bytes k)) (keys_of es)) ≡ Some old
    → Makes f old w → map document_of (set_value_at es (position_or_len (λ k. bytes_eq n (string_bytes k)) (keys_of es)) w) ≡ changed f n (map document_of es)
written_first f n [] old w value makes = refl
written_first f n (e ∷ es) old w value makes = by (bytes_eq n (string_bytes e.0)) value (λ h. written_first f n es old w h makes)
  where
    later : ℕ
    later = position_or_len (λ k. bytes_eq n (string_bytes k)) (keys_of es)

    by : (b : Bool) → slice_get (e.1 ∷ values_of es) (cond (not b) (1 + later) 0) ≡ Some old
        → (slice_get (values_of es) later ≡ Some old → map document_of (set_value_at es later w) ≡ changed f n (map document_of es))
        → map document_of (set_value_at (e ∷ es) (cond (not b) (1 + later) 0) w) ≡ cond b (f (document_of e) ∷ map document_of es) (document_of e ∷ changed f n (map document_of es))
    by true at rest =
        let same : e.1 ≡ old = cc in
        ap (λ (d : Document). d ∷ map document_of es) (makes (string_bytes e.0) ∙ ap (λ (s : Stored). f (named (string_bytes e.0) s)) (sym same))
    by false at rest =
        let next : 1 + later ≡ suc later = omega arith in
        subst (λ j. map document_of (set_value_at (e ∷ es) j w) ≡ document_of e ∷ changed f n (map document_of es)) (sym next)
        (ap (λ ds. document_of e ∷ ds) (rest (subst (λ j. slice_get (e.1 ∷ values_of es) j ≡ Some old) next at)))

-- a value that is written there changes the document of that name
pub written : (f : Document → Document) (n : List ℕ) (es : List Entry) (i : ℕ) (old w : Stored) → position (λ k. bytes_eq n (string_bytes k)) (keys_of es) ≡ Some i
    → slice_get (values_of es) i ≡ Some old → Makes f old w → map document_of (set_value_at es i w) ≡ changed f n (map document_of es)
written f n es i old w at value makes =
    let first = (Found-position (λ k. bytes_eq n (string_bytes k)) es i at).or_len in
    subst (λ j. map document_of (set_value_at es j w) ≡ changed f n (map document_of es)) first
    (written_first f n es old w (subst (λ j. slice_get (values_of es) j ≡ Some old) (sym first) value) makes)

map-shift_remove_entry : (n : List ℕ) (es : List Entry) → map document_of (shift_remove_entry (λ k. bytes_eq n (string_bytes k)) es) ≡ without n (map document_of es)
map-shift_remove_entry n [] = refl
map-shift_remove_entry n (e ∷ es) =
    elim (bytes_eq n (string_bytes e.0)) as (λ b. map document_of (cond b es (e ∷ shift_remove_entry (λ k. bytes_eq n (string_bytes k)) es)) ≡ cond b (map document_of es) (document_of e ∷ without n (map document_of es))) [
      | true ↦ refl
      | false ↦ ap (λ ds. document_of e ∷ ds) (map-shift_remove_entry n es)
    ]

-- the entry at the index of a key leaves the others
pub removed : (n : List ℕ) (es : List Entry) (i : ℕ) → position (λ k. bytes_eq n (string_bytes k)) (keys_of es) ≡ Some i → map document_of (remove es i) ≡ without n (map document_of es)
removed n es i at =
    let test : String Global → Bool = λ k. bytes_eq n (string_bytes k) in
    ap (map document_of) (sym (remove_entry-first test es i (Found-position test es i at).first)) ∙ map-shift_remove_entry n es

-- two changes that agree on the document of that name
pub changed-found : (f g : Document → Document) (n : List ℕ) (ds : List Document) (d : Document) → find n ds ≡ Some d → f d ≡ g d → changed f n ds ≡ changed g n ds
changed-found f g n [] d h e = refl
changed-found f g n (x ∷ xs) d h e = by (bytes_eq n x.name) h (changed-found f g n xs d)
  where
    by : (b : Bool) → cond b (Some x) (find n xs) ≡ Some d → (find n xs ≡ Some d → f d ≡ g d → changed f n xs ≡ changed g n xs)
        → cond b (f x ∷ xs) (x ∷ changed f n xs) ≡ cond b (g x ∷ xs) (x ∷ changed g n xs)
    by true found rest = let same : x ≡ d = cc in ap (λ (y : Document). y ∷ xs) (ap f same ∙ e ∙ ap g (sym same))
    by false found rest = ap (λ l. x ∷ l) (rest found e)
