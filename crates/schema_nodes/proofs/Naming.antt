-- Numbers by name, where the names are those of members.
use Rattle.std.proofs.Common.{◌≡◌, ℕ, List, [], ◌∷◌, ◌++◌, map, length, Bool, true, false, Option, Some, option_map, String, Global, Ordering, Less, Equal, Greater, string_bytes, string_cmp, nat_cmp, is_eq, cond, refl, sym, ap, subst, ◌∙◌, append-nil, append_assoc, arith, ◌⊎◌, inl, inr, if◌then◌else◌}
use Rattle.std.proofs.lemmas.Slice.Eq.{bytes_eq-Decides}
use Rattle.std.specs.BTreeMap.{insert_entry}
use Rattle.std.specs.Cmp.Lexicographic.{slice_cmp}
use Rattle.std.specs.List.Sorted.{IsStrictlySortedBy}
use Rattle.std.specs.Map.{keys_of}
use Rattle.std.specs.Ordering.{match_ordering}
use Rattle.std.specs.Str.{bytes_eq}
use Rattle.doc_tree.specs.Doc.{Doc, Members, no_members, member, get_member, put}
use Rattle.doc_tree.specs.Lists.{values_list}
use Rattle.doc_tree.specs.TreeView.{view, members_view, members_of}
use Rattle.doc_tree.proofs.Members.{get_member-first, get_member-later}
use Rattle.doc_tree.proofs.Views.{Entry, put_last}
use Rattle.schema_rules.specs.Keywords.{keyword_of, shape_of}
use Rattle.schema_rules.specs.Parts.{beside, members_in, or_null}
use Rattle.schema_rules.specs.declared.keyword.Shape.TheVariants as shapes
use Rattle.schema_rules.specs.Schemas.{held_in}
use Rattle.schema_levels.specs.Below.{number_named}
use Rattle.schema_nodes.specs.Nodes.{AreNamed, HaveRows}
use Rattle.schema_nodes.specs.Fits.{row_named}
use Rattle.std.proofs.Common.{Vec}

-- ---- numbers as members

abbrev pub by : (ℕ → Doc) → List (String Global × ℕ) → Members
by schema es = members_of (map (λ e. (e.0, schema e.1)) es)

found_or : (schema : ℕ → Doc) (o : Ordering) (j : ℕ) (rest : Option ℕ) (d : Option Doc) → option_map schema rest ≡ d → option_map schema (cond (is_eq o) (Some j) rest) ≡ match_ordering o d (Some (schema j)) d
found_or schema Less j rest d e = e
found_or schema Equal j rest d e = refl
found_or schema Greater j rest d e = e

pub by_lookup : (schema : ℕ → Doc) (name : List ℕ) (es : List (String Global × ℕ)) → option_map schema (number_named name es) ≡ get_member name (by schema es)
by_lookup schema name [] = refl
by_lookup schema name (e ∷ es) = found_or schema (slice_cmp nat_cmp name (string_bytes e.0)) e.1 _ _ (by_lookup schema name es)

by_match : (schema : ℕ → Doc) (o : Ordering) (a b c : List (String Global × ℕ)) → by schema (match_ordering o a b c) ≡ match_ordering o (by schema a) (by schema b) (by schema c)
by_match schema Less a b c = refl
by_match schema Equal a b c = refl
by_match schema Greater a b c = refl

by_insert : (schema : ℕ → Doc) (es : List (String Global × ℕ)) (k : String Global) (j : ℕ) → by schema (insert_entry string_cmp es k j) ≡ put (string_bytes k) (schema j) (by schema es)
by_insert schema [] k j = refl
by_insert schema (e ∷ es) k j = by_match schema (string_cmp k e.0) _ _ _ ∙ rw (by_insert schema es k j)

-- ---- the loop

pub record Naming (all : List Entry) (row : List ℕ) (numbers : List (String Global × ℕ)) (left : List Entry) (left_row : List ℕ) : Type 0 where
  pub done : List Entry
  pub is_all : all ≡ done ++ left
  pub joins : (schema : ℕ → Doc) → map schema row ≡ values_list (members_view all) → (by schema numbers ≡ members_view done) × (map schema left_row ≡ values_list (members_view left))

pub naming : (all : List Entry) (row : List ℕ) → Naming all row [] all row
naming all row = record { done = []; is_all = refl; joins = λ schema e. (refl, e) }

pub naming_on : (all : List Entry) (row : List ℕ) (numbers new : List (String Global × ℕ)) (left left' : List Entry) (left_row left_row' : List ℕ) (e : Entry) (j : ℕ) (name : String Global)
    → Naming all row numbers left left_row → IsStrictlySortedBy string_cmp (keys_of all) → left ≡ e ∷ left' → left_row ≡ j ∷ left_row' → string_bytes name ≡ string_bytes e.0 → new ≡ insert_entry string_cmp numbers name j
    → Naming all row new left' left_row'
naming_on all row numbers new left left' left_row left_row' e j name n order is is_row named is_new =
    let whole : all ≡ n.done ++ e ∷ left' = n.is_all ∙ ap (λ l. n.done ++ l) is in
    record {
      done = n.done ++ e ∷ [];
      is_all = whole ∙ sym (append_assoc n.done (e ∷ []) left');
      joins = λ schema h.
          let so = n.joins schema h in
          let both : map schema (j ∷ left_row') ≡ values_list (members_view (e ∷ left')) = ap (map schema) (sym is_row) ∙ so.1 ∙ ap (λ l. values_list (members_view l)) is in
          let one : schema j ≡ view e.1 = cc in
          let rest : map schema left_row' ≡ values_list (members_view left') = cc in
          let last = put_last n.done e left' (subst (λ es. IsStrictlySortedBy string_cmp (keys_of es)) whole order) in
          (ap (by schema) is_new ∙ by_insert schema numbers name j ∙ ap (λ k. put k (schema j) (by schema numbers)) named ∙ ap (λ d. put (string_bytes e.0) d (by schema numbers)) one ∙ ap (put (string_bytes e.0) (view e.1)) so.0 ∙ last, rest);
    }

none_left : (left : List Entry) (left_row : List ℕ) (schema : ℕ → Doc) → (left ≡ []) ⊎ (length left_row ≡ 0) → map schema left_row ≡ values_list (members_view left) → left ≡ []
none_left [] left_row schema h e = refl
none_left (x ∷ left) [] schema h e = absurd cc
none_left (x ∷ left) (j ∷ left_row) schema (inl h) e = h
none_left (x ∷ left) (j ∷ left_row) schema (inr h) e = absurd (omega (arith, h))

pub named_all : (all : List Entry) (row : List ℕ) (numbers : List (String Global × ℕ)) (left : List Entry) (left_row : List ℕ) → Naming all row numbers left left_row → (left ≡ []) ⊎ (length left_row ≡ 0)
    → (schema : ℕ → Doc) → map schema row ≡ values_list (members_view all) → AreNamed schema numbers (members_view all)
named_all all row numbers left left_row n h schema e k =
    let so = n.joins schema e in
    let none = none_left left left_row schema h so.1 in
    let whole : all ≡ n.done = n.is_all ∙ ap (λ l. n.done ++ l) none ∙ append-nil n.done in
    by_lookup schema k numbers ∙ ap (get_member k) so.0 ∙ ap (λ l. get_member k (members_view l)) (sym whole)

-- ---- a member's row by its name

beside_first : (n k : List ℕ) (v : Doc) (ms : Members) → k ≡ n → beside n (member k v ms) ≡ v
beside_first n k v ms e = ap (λ x. beside x (member k v ms)) (sym e) ∙ ap or_null (get_member-first k v ms)

pub row_is : (schema : ℕ → Doc) (n : List ℕ) (ms : Members) (rows : List (Vec ℕ Global)) → shape_of (keyword_of n) ≡ shapes.Named → HaveRows schema ms rows → map schema (row_named n ms rows) ≡ values_list (members_in (beside n ms))
row_is schema n no_members [] s h = refl
row_is schema n no_members (row ∷ rows) s h = absurd h
row_is schema n (member k v ms) [] s h = absurd h
row_is schema n (member k v ms) (row ∷ rows) s h = by_name (bytes_eq k n) refl (row_is schema n ms rows s h.1)
  where
    by_name : (b : Bool) → bytes_eq k n ≡ b → map schema (row_named n ms rows) ≡ values_list (members_in (beside n ms)) → map schema (if b then row.items else row_named n ms rows) ≡ values_list (members_in (beside n (member k v ms)))
    by_name true e rest =
        let same : k ≡ n = (bytes_eq-Decides k n).0 e in
        h.0 ∙ ap (λ x. held_in (shape_of (keyword_of x)) v) same ∙ ap (λ x. held_in x v) s ∙ ap (λ d. values_list (members_in d)) (sym (beside_first n k v ms same))
    by_name false e rest =
        rest ∙ ap (λ o. values_list (members_in (or_null o))) (sym (get_member-later n k v ms (λ (same : n ≡ k). (let t = (bytes_eq-Decides k n).1 (sym same) in absurd cc))))

pub row_none : (n : List ℕ) (ms : Members) (rows : List (Vec ℕ Global)) → (ms ≡ no_members) ⊎ (length rows ≡ 0) → [] ≡ row_named n ms rows
row_none n no_members rows h = refl
row_none n (member k v ms) [] h = refl
row_none n (member k v ms) (row ∷ rows) (inl e) = absurd cc
row_none n (member k v ms) (row ∷ rows) (inr e) = absurd (omega (arith, e))
