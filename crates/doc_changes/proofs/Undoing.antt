-- What takes changes back.
use Rattle.std.proofs.Common.{◌≡◌, ℕ, zero, suc, ◌≤◌, ◌-◌, Bool, true, false, cond, List, [], ◌∷◌, ◌++◌, Option, None, Some, is_some, option_to_list, refl, sym, ap, ◌∙◌, subst, map, length, length-append, take, take_all, drop, slice_get, arith, insert, remove, string_bytes, string_eq, bytes_eq, String, Global}
use Rattle.std.specs.Cmp.Lexicographic.{nat_list_eq_equiv}
use Rattle.std.proofs.lemmas.List.{map-append, take-append-drop, take-append-le}
use Rattle.std.specs.List.{position_or_len}
use Rattle.std.specs.Map.{keys_of}
use Rattle.indexmap.proofs.MapLemmas.{absent_from_lookup, or_len-absent}
use Rattle.indexmap.proofs.MoveLemmas.{push_moved}
use Rattle.indexmap.proofs.SetLemmas.{map-insert}
use Rattle.indexmap.specs.IndexMap.{insert_entry, move_index}
use Rattle.doc_changes.specs.State.{Document, AreDistinct, find, changed}
use Rattle.doc_changes.specs.Undo.{with_rules, reversed_doc}
use Rattle.doc_changes.specs.StateView.{document_of}
use Rattle.doc_changes.specs.declared.stored.Stored.{Stored}
use Rattle.std.specs.Prelude.{unwrap_or}
use Rattle.doc_tree.specs.Doc.{Doc}
use Rattle.doc_tree.specs.declared.tree.Tree.{Tree}
use Rattle.doc_patch.specs.Measured.{Reverses, reversed}
use Rattle.doc_patch.specs.declared.document.Reversal.{Reversal}
use Rattle.doc_changes.proofs.Entries.{Entry, no_key, none_at, pushed}
use Rattle.doc_changes.proofs.Goodness.{KeepsName}

-- ---- a change in place

-- a second change that undoes the first
pub changed-back : (f g : Document → Document) (n : List ℕ) (ds : List Document) (d : Document) → KeepsName f → find n ds ≡ Some d → g (f d) ≡ d → changed g n (changed f n ds) ≡ ds
changed-back f g n [] d keeps h e = refl
changed-back f g n (x ∷ xs) d keeps h e = by (bytes_eq n x.name) refl h (changed-back f g n xs d keeps)
  where
    by : (b : Bool) → bytes_eq n x.name ≡ b → cond b (Some x) (find n xs) ≡ Some d → (find n xs ≡ Some d → g (f d) ≡ d → changed g n (changed f n xs) ≡ xs)
        → changed g n (cond b (f x ∷ xs) (x ∷ changed f n xs)) ≡ x ∷ xs
    by true at found rest =
        let same : x ≡ d = cc in
        let name : bytes_eq n (f x).name ≡ true = ap (bytes_eq n) (keeps x) ∙ at in
        ap (λ b. cond b (g (f x) ∷ xs) (f x ∷ changed g n xs)) name ∙ ap (λ (y : Document). y ∷ xs) (ap (λ (y : Document). g (f y)) same ∙ e ∙ sym same)
    by false at found rest =
        ap (λ b. cond b (g x ∷ changed f n xs) (x ∷ changed g n (changed f n xs))) at ∙ ap (λ (l : List Document). x ∷ l) (rest found e)

pub keeps_name : (schema : Tree) (rev : ℕ) → KeepsName (with_rules schema rev)
keeps_name schema rev d = refl

pub reversed_keeps : (r : Reversal) (rev : ℕ) → KeepsName (reversed_doc r rev)
reversed_keeps r rev d = refl

-- a reversal leads to the one document
pub reversed_is : (r : Reversal) (e d : Doc) → Reverses r e d → reversed r e ≡ d
reversed_is r e d h = ap (λ o. unwrap_or o e) h.back

pub changed_found : (f : Document → Document) (n : List ℕ) (ds : List Document) (d : Document) → KeepsName f → find n ds ≡ Some d → find n (changed f n ds) ≡ Some (f d)
changed_found f n [] d keeps h = absurd (cc)
changed_found f n (x ∷ xs) d keeps h = by (bytes_eq n x.name) refl h (changed_found f n xs d keeps)
  where
    by : (b : Bool) → bytes_eq n x.name ≡ b → cond b (Some x) (find n xs) ≡ Some d → (find n xs ≡ Some d → find n (changed f n xs) ≡ Some (f d)) → find n (cond b (f x ∷ xs) (x ∷ changed f n xs)) ≡ Some (f d)
    by true at found rest =
        let same : x ≡ d = cc in
        ap (λ b. cond b (Some (f x)) (find n xs)) (ap (bytes_eq n) (keeps x) ∙ at) ∙ ap (λ (y : Document). Some (f y)) same
    by false at found rest = ap (λ b. cond b (Some x) (find n (changed f n xs))) at ∙ rest found

pub changed_to_itself : (n : List ℕ) (ds : List Document) → changed (λ d. d) n ds ≡ ds
changed_to_itself n [] = refl
changed_to_itself n (x ∷ xs) = elim (bytes_eq n x.name) as (λ b. cond b (x ∷ xs) (x ∷ changed (λ d. d) n xs) ≡ x ∷ xs) [ true ↦ refl | false ↦ ap (λ (l : List Document). x ∷ l) (changed_to_itself n xs) ]

-- ---- a document at the end

-- one that was added last goes again
pub take-push : (ds : List Document) (d : Document) → take (length (ds ++ d ∷ []) - 1) (ds ++ d ∷ []) ≡ ds
take-push ds d =
    let size : length (ds ++ d ∷ []) - 1 ≡ length ds = omega (arith, length-append ds (d ∷ [])) in
    ap (λ n. take n (ds ++ d ∷ [])) size ∙ take-append-le (length ds) ds (d ∷ []) (omega arith) ∙ take_all (length ds) ds (omega arith)

-- what is left of the map is all but its last entry
pub map_popped : (old new : List Entry) (last : Option Entry) → old ≡ new ++ option_to_list last → is_some last ≡ true
    → map document_of new ≡ take (length (map document_of old) - 1) (map document_of old)
map_popped old new None e h = absurd (cc)
map_popped old new (Some last) e h =
    let is = ap (map document_of) e ∙ map-append document_of new (last ∷ []) in
    sym (ap (λ (ds : List Document). take (length ds - 1) ds) is ∙ take-push (map document_of new) (document_of last))

-- ---- a document that goes

-- what was removed, put back
pub insert-remove : {X : Type 0} (xs : List X) (i : ℕ) (x : X) → slice_get xs i ≡ Some x → insert (remove xs i) i x ≡ xs
insert-remove [] i x at = absurd (cc at)
insert-remove (y ∷ ys) zero x at = let same : y ≡ x = cc in ap (λ z. z ∷ ys) (sym same)
insert-remove (y ∷ ys) (suc i) x at = ap (λ l. y ∷ l) (insert-remove ys i x at)

-- a document beside which all names differ
apart : (x d : Document) (ws ys : List Document) → find x.name (ws ++ d ∷ ys) ≡ None → bytes_eq x.name d.name ≡ false
apart x d [] ys e = (none_at (bytes_eq x.name d.name) d (find x.name ys) e).0
apart x d (w ∷ ws) ys e = apart x d ws ys (none_at (bytes_eq x.name w.name) w (find x.name (ws ++ d ∷ ys)) e).1

absent_between : (xs ys : List Document) (d : Document) → AreDistinct (xs ++ d ∷ ys) → find d.name (xs ++ ys) ≡ None
absent_between [] ys d h = h.0
absent_between (x ∷ xs) ys d h =
    let other : bytes_eq d.name x.name ≡ false = nat_list_eq_equiv.symm d.name x.name ∙ apart x d xs ys h.0 in
    ap (λ b. cond b (Some x) (find d.name (xs ++ ys))) other ∙ absent_between xs ys d h.1

pub absent_at : (ds : List Document) (i : ℕ) (d : Document) → AreDistinct (insert ds i d) → find d.name ds ≡ None
absent_at ds i d h = subst (λ (l : List Document). find d.name l ≡ None) (take-append-drop i ds) (absent_between (take i ds) (drop i ds) d h)

-- a new key goes last, and is then moved
pub inserted : (k : String Global) (s : Stored) (es : List Entry) (i : ℕ) → i ≤ length es → find (string_bytes k) (map document_of es) ≡ None
    → map document_of (move_index (insert_entry string_eq es k s) (position_or_len (string_eq k) (keys_of es)) i) ≡ insert (map document_of es) i (document_of (k, s))
inserted k s es i within h =
    let last = or_len-absent (string_eq k) es (absent_from_lookup (string_eq k) es (no_key (string_bytes k) es h)) in
    (λ j. map document_of (move_index (pushed k s es h j) (last j) i)) ∙ ap (map document_of) (push_moved es (k, s) i within) ∙ map-insert document_of es i (k, s)
