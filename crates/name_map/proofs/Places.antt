-- What an edit at a sought place does.
use Rattle.std.proofs.Common.{◌≡◌, ℕ, zero, suc, ◌<◌, Bool, true, false, List, [], ◌∷◌, ◌++◌, ◌-◌, length, get_or, set, slice_get, String, string_cmp, string_bytes, Ordering, Less, Equal, Greater, Result, Ok, Err, Some, None, IfSome, is_eq, cond, refl, sym, ap, ◌∙◌, subst, arith}
use Rattle.std.specs.declared.alloc.Global.{Global}
use Rattle.std.proofs.lemmas.Cmp.{nat_list_cmp_total}
use Rattle.std.specs.BTreeMap.{is_at, insert_entry}
use Rattle.std.specs.List.{insert, remove}
use Rattle.std.specs.List.Sorted.{IsStrictlySortedBy}
use Rattle.std.specs.Map.{keys_of, lookup, remove_entry, set_value}
use Rattle.std.specs.Ordering.{match_ordering, ordering_reverse}
use Rattle.name_map.specs.Entries.{named, seek, one_further}
use Rattle.name_map.proofs.Order.{Entry, Rises, Below, below_at, turned}

one_before : (r : Result ℕ ℕ) (i : ℕ) → one_further r ≡ Ok i → (j : ℕ) × (r ≡ Ok j) × (suc j ≡ i)
one_before (Ok j) i h = (j, refl, cc)
one_before (Err j) i h = absurd (cc)

none_before : (r : Result ℕ ℕ) (i : ℕ) → one_further r ≡ Err i → (j : ℕ) × (r ≡ Err j) × (suc j ≡ i)
none_before (Ok j) i h = absurd (cc)
none_before (Err j) i h = (j, refl, cc)

module _ {X : Type 0} where
  -- the entry at place i has the name
  pub record Found (name : List ℕ) (es : List (Entry X)) (i : ℕ) : Type 0 where
    pub within : i < length es
    pub same : (d : Entry X) → named name (get_or es i d).0 ≡ Equal
    pub value : (d : Entry X) → lookup (is_at (named name)) es ≡ Some (get_or es i d).1
    pub without : remove_entry (is_at (named name)) es ≡ remove es i
    pub written : (d : Entry X) (w : X) → set_value (is_at (named name)) es w ≡ set es i ((get_or es i d).0, w)

  here : (name : List ℕ) (e : Entry X) (es : List (Entry X)) → named name e.0 ≡ Equal → Found name (e ∷ es) 0
  here name e es h = record {
    within = omega arith;
    same = λ d. h;
    value = λ d. ap (λ o. cond (is_eq o) (Some e.1) (lookup (is_at (named name)) es)) h;
    without = ap (λ o. cond (is_eq o) es (e ∷ remove_entry (is_at (named name)) es)) h;
    written = λ d w. ap (λ o. cond (is_eq o) ((e.0, w) ∷ es) (e ∷ set_value (is_at (named name)) es w)) h;
  }

  further : (name : List ℕ) (e : Entry X) (es : List (Entry X)) (i : ℕ) → named name e.0 ≡ Greater → Found name es i → Found name (e ∷ es) (suc i)
  further name e es i h f = record {
    within = let w = f.within in omega (arith, w);
    same = f.same;
    value = λ d. ap (λ o. cond (is_eq o) (Some e.1) (lookup (is_at (named name)) es)) h ∙ f.value d;
    without = ap (λ o. cond (is_eq o) es (e ∷ remove_entry (is_at (named name)) es)) h ∙ ap (λ l. e ∷ l) f.without;
    written = λ d w. ap (λ o. cond (is_eq o) ((e.0, w) ∷ es) (e ∷ set_value (is_at (named name)) es w)) h ∙ ap (λ l. e ∷ l) (f.written d w);
  }

  found_by : (name : List ℕ) (e : Entry X) (es : List (Entry X)) (i : ℕ) (o : Ordering) → named name e.0 ≡ o → match_ordering o (Err 0) (Ok 0) (one_further (seek (named name) es)) ≡ Ok i
      → ((j : ℕ) → seek (named name) es ≡ Ok j → Found name es j) → Found name (e ∷ es) i
  found_by name e es i Less h s rest = absurd (cc)
  found_by name e es i Equal h s rest = let z : 0 ≡ i = cc in subst (Found name (e ∷ es)) z (here name e es h)
  found_by name e es i Greater h s rest = let b = one_before (seek (named name) es) i s in subst (Found name (e ∷ es)) b.2 (further name e es b.0 h (rest b.0 b.1))

  pub found : (name : List ℕ) (es : List (Entry X)) (i : ℕ) → seek (named name) es ≡ Ok i → Found name es i
  found name [] i h = absurd (cc)
  found name (e ∷ es) i h = found_by name e es i (named name e.0) refl h (λ j s. found name es j s)

  -- no entry has the name
  pub record Missing (name : List ℕ) (es : List (Entry X)) : Type 0 where
    pub value : lookup (is_at (named name)) es ≡ None
    pub without : remove_entry (is_at (named name)) es ≡ es
    pub written : (w : X) → set_value (is_at (named name)) es w ≡ es

  one_less : (name : List ℕ) (e : Entry X) (es : List (Entry X)) (o : Ordering) → named name e.0 ≡ o → is_eq o ≡ false → Missing name es → Missing name (e ∷ es)
  one_less name e es o h n m = let apart = ap is_eq h ∙ n in record {
    value = ap (λ b. cond b (Some e.1) (lookup (is_at (named name)) es)) apart ∙ m.value;
    without = ap (λ b. cond b es (e ∷ remove_entry (is_at (named name)) es)) apart ∙ ap (λ l. e ∷ l) m.without;
    written = λ w. ap (λ b. cond b ((e.0, w) ∷ es) (e ∷ set_value (is_at (named name)) es w)) apart ∙ ap (λ l. e ∷ l) (m.written w);
  }

  all_above : (name : List ℕ) (k : String Global) (es : List (Entry X)) → named name k ≡ Less → Below k es → Missing name es
  all_above name k [] h b = record { value = refl; without = refl; written = λ w. refl }
  all_above name k (e ∷ es) h b = one_less name e es Less (nat_list_cmp_total.trans name (string_bytes k) (string_bytes e.0) h b.0) refl (all_above name k es h b.1)

  missing_by : (name : List ℕ) (e : Entry X) (es : List (Entry X)) (i : ℕ) (o : Ordering) → named name e.0 ≡ o → match_ordering o (Err 0) (Ok 0) (one_further (seek (named name) es)) ≡ Err i
      → Below e.0 es → ((j : ℕ) → seek (named name) es ≡ Err j → Missing name es) → Missing name (e ∷ es)
  missing_by name e es i Less h s b rest = one_less name e es Less h refl (all_above name e.0 es h b)
  missing_by name e es i Equal h s b rest = absurd (cc)
  missing_by name e es i Greater h s b rest = let n = none_before (seek (named name) es) i s in one_less name e es Greater h refl (rest n.0 n.1)

  pub missing : (name : List ℕ) (es : List (Entry X)) (i : ℕ) → Rises es → seek (named name) es ≡ Err i → Missing name es
  unfolding IsStrictlySortedBy
  missing name [] i h s = record { value = refl; without = refl; written = λ w. refl }
  missing name (e ∷ es) i h s = missing_by name e es i (named name e.0) refl s h.0 (λ j n. missing name es j h.1 n)

  -- ---- what is put where the search ended

  put_old_by : (k : String Global) (e : Entry X) (es : List (Entry X)) (v : X) (i : ℕ) (d : Entry X) (o : Ordering) → match_ordering o (Err 0) (Ok 0) (one_further (seek (named (string_bytes k)) es)) ≡ Ok i
      → ((j : ℕ) → seek (named (string_bytes k)) es ≡ Ok j → insert_entry string_cmp es k v ≡ set es j ((get_or es j d).0, v))
      → match_ordering o ((k, v) ∷ e ∷ es) ((e.0, v) ∷ es) (e ∷ insert_entry string_cmp es k v) ≡ set (e ∷ es) i ((get_or (e ∷ es) i d).0, v)
  put_old_by k e es v i d Less s rest = absurd (cc)
  put_old_by k e es v i d Equal s rest = let z : 0 ≡ i = cc in subst (λ n. (e.0, v) ∷ es ≡ set (e ∷ es) n ((get_or (e ∷ es) n d).0, v)) z refl
  put_old_by k e es v i d Greater s rest =
      let b = one_before (seek (named (string_bytes k)) es) i s in
      subst (λ n. e ∷ insert_entry string_cmp es k v ≡ set (e ∷ es) n ((get_or (e ∷ es) n d).0, v)) b.2 (ap (λ l. e ∷ l) (rest b.0 b.1))

  pub put_old : (k : String Global) (es : List (Entry X)) (v : X) (i : ℕ) (d : Entry X) → seek (named (string_bytes k)) es ≡ Ok i → insert_entry string_cmp es k v ≡ set es i ((get_or es i d).0, v)
  put_old k [] v i d s = absurd (cc)
  put_old k (e ∷ es) v i d s = put_old_by k e es v i d (string_cmp k e.0) s (λ j n. put_old k es v j d n)

  put_new_by : (k : String Global) (e : Entry X) (es : List (Entry X)) (v : X) (i : ℕ) (o : Ordering) → match_ordering o (Err 0) (Ok 0) (one_further (seek (named (string_bytes k)) es)) ≡ Err i
      → ((j : ℕ) → seek (named (string_bytes k)) es ≡ Err j → insert_entry string_cmp es k v ≡ insert es j (k, v))
      → match_ordering o ((k, v) ∷ e ∷ es) ((e.0, v) ∷ es) (e ∷ insert_entry string_cmp es k v) ≡ insert (e ∷ es) i (k, v)
  put_new_by k e es v i Less s rest = let z : 0 ≡ i = cc in subst (λ n. ◌≡◌ {A = List (Entry X)} ((k, v) ∷ e ∷ es) (insert (e ∷ es) n (k, v))) z refl
  put_new_by k e es v i Equal s rest = absurd (cc)
  put_new_by k e es v i Greater s rest =
      let n = none_before (seek (named (string_bytes k)) es) i s in
      subst (λ m. e ∷ insert_entry string_cmp es k v ≡ insert (e ∷ es) m (k, v)) n.2 (ap (λ l. e ∷ l) (rest n.0 n.1))

  pub put_new : (k : String Global) (es : List (Entry X)) (v : X) (i : ℕ) → seek (named (string_bytes k)) es ≡ Err i → insert_entry string_cmp es k v ≡ insert es i (k, v)
  put_new k [] v i s = let z : 0 ≡ i = cc in subst (λ n. ◌≡◌ {A = List (Entry X)} ((k, v) ∷ []) (insert [] n (k, v))) z refl
  put_new k (e ∷ es) v i s = put_new_by k e es v i (string_cmp k e.0) s (λ j n. put_new k es v j n)

  -- ---- the order stays

  pub keys-set : (es : List (Entry X)) (i : ℕ) (d : Entry X) (w : X) → keys_of (set es i ((get_or es i d).0, w)) ≡ keys_of es
  keys-set [] i d w = refl
  keys-set (e ∷ es) zero d w = refl
  keys-set (e ∷ es) (suc i) d w = ap (λ ks. e.0 ∷ ks) (keys-set es i d w)

  pub rises-set : (es : List (Entry X)) (i : ℕ) (d : Entry X) (w : X) → Rises es → Rises (set es i ((get_or es i d).0, w))
  rises-set es i d w h = subst (IsStrictlySortedBy string_cmp) (sym (keys-set es i d w)) h

  below-remove : (k : String Global) (es : List (Entry X)) (i : ℕ) → Below k es → Below k (remove es i)
  below-remove k [] zero b = tt
  below-remove k [] (suc i) b = tt
  below-remove k (e ∷ es) zero b = b.1
  below-remove k (e ∷ es) (suc i) b = (b.0, below-remove k es i b.1)

  pub rises-remove : (es : List (Entry X)) (i : ℕ) → Rises es → Rises (remove es i)
  unfolding IsStrictlySortedBy
  rises-remove [] zero h = tt
  rises-remove [] (suc i) h = tt
  rises-remove (e ∷ es) zero h = h.1
  rises-remove (e ∷ es) (suc i) h = (below-remove e.0 es i h.0, rises-remove es i h.1)

  below_less : (k l : String Global) (es : List (Entry X)) → string_cmp k l ≡ Less → Below l es → Below k es
  below_less k l [] h b = tt
  below_less k l (e ∷ es) h b = (nat_list_cmp_total.trans (string_bytes k) (string_bytes l) (string_bytes e.0) h b.0, below_less k l es h b.1)

  below-insert : (first k : String Global) (es : List (Entry X)) (i : ℕ) (v : X) → string_cmp first k ≡ Less → Below first es → Below first (insert es i (k, v))
  below-insert first k [] zero v h b = (h, tt)
  below-insert first k [] (suc i) v h b = (h, tt)
  below-insert first k (e ∷ es) zero v h b = (h, b)
  below-insert first k (e ∷ es) (suc i) v h b = (b.0, below-insert first k es i v h b.1)

  rises_by : (k : String Global) (e : Entry X) (es : List (Entry X)) (v : X) (i : ℕ) (o : Ordering) → string_cmp k e.0 ≡ o → match_ordering o (Err 0) (Ok 0) (one_further (seek (named (string_bytes k)) es)) ≡ Err i
      → Rises (e ∷ es) → ((j : ℕ) → seek (named (string_bytes k)) es ≡ Err j → Rises (insert es j (k, v))) → Rises (insert (e ∷ es) i (k, v))
  unfolding IsStrictlySortedBy
  rises_by k e es v i Less h s up rest = let z : 0 ≡ i = cc in subst (λ n. Rises (insert (e ∷ es) n (k, v))) z ((h, below_less k e.0 es h up.0), up)
  rises_by k e es v i Equal h s up rest = absurd (cc)
  rises_by k e es v i Greater h s up rest =
      let n = none_before (seek (named (string_bytes k)) es) i s in
      let over : string_cmp e.0 k ≡ Less = nat_list_cmp_total.antisymm (string_bytes e.0) (string_bytes k) ∙ ap ordering_reverse h in
      subst (λ m. Rises (insert (e ∷ es) m (k, v))) n.2 (below-insert e.0 k es n.0 v over up.0, rest n.0 n.1)

  pub rises-insert : (k : String Global) (es : List (Entry X)) (v : X) (i : ℕ) → Rises es → seek (named (string_bytes k)) es ≡ Err i → Rises (insert es i (k, v))
  unfolding IsStrictlySortedBy
  rises-insert k [] v zero h s = (tt, tt)
  rises-insert k [] v (suc i) h s = (tt, tt)
  rises-insert k (e ∷ es) v i h s = rises_by k e es v i (string_cmp k e.0) refl s h (λ j n. rises-insert k es v j h.1 n)

  below-end : (first k : String Global) (e : Entry X) (es : List (Entry X)) (v : X) → Below first (e ∷ es) → IfSome (slice_get (e ∷ es) (length es)) (λ x. string_cmp x.0 k ≡ Less) → Below first ((e ∷ es) ++ (k, v) ∷ [])
  below-end first k e [] v b h = (b.0, (nat_list_cmp_total.trans (string_bytes first) (string_bytes e.0) (string_bytes k) b.0 h, tt))
  below-end first k e (f ∷ es) v b h = (b.0, below-end first k f es v b.1 h)

  rises-after : (k : String Global) (e : Entry X) (es : List (Entry X)) (v : X) → Rises (e ∷ es) → IfSome (slice_get (e ∷ es) (length es)) (λ x. string_cmp x.0 k ≡ Less) → Rises ((e ∷ es) ++ (k, v) ∷ [])
  unfolding IsStrictlySortedBy
  rises-after k e [] v up h = ((h, tt), (tt, tt))
  rises-after k e (f ∷ es) v up h = (below-end e.0 k f es v up.0 h, rises-after k f es v up.1 h)

  -- where the last name is below it, all are
  pub rises-end : (k : String Global) (es : List (Entry X)) (v : X) → Rises es → IfSome (slice_get es (length es - 1)) (λ x. string_cmp x.0 k ≡ Less) → Rises (es ++ (k, v) ∷ [])
  unfolding IsStrictlySortedBy
  rises-end k [] v up h = (tt, tt)
  rises-end k (e ∷ es) v up h = rises-after k e es v up (subst (λ n. IfSome (slice_get (e ∷ es) n) (λ x. string_cmp x.0 k ≡ Less)) (omega arith) h)

  pub rises-if : (b : Bool) (xs ys zs : List (Entry X)) → xs ≡ cond b ys zs → Rises ys → Rises zs → Rises xs
  rises-if true xs ys zs e y z = subst Rises (sym e) y
  rises-if false xs ys zs e y z = subst Rises (sym e) z

  some_value : (name : List ℕ) (es : List (Entry X)) (i : ℕ) → Found name es i → lookup (is_at (named name)) es ≡ None → ⊥
  some_value name [] i f h = let w = f.within in omega (arith, w)
  some_value name (e ∷ es) i f h = let v = f.value e in absurd (cc)

  pub not_absent : (name : List ℕ) (es : List (Entry X)) (i : ℕ) → seek (named name) es ≡ Ok i → lookup (is_at (named name)) es ≡ None → ⊥
  not_absent name es i s h = some_value name es i (found name es i s) h

  -- ---- what is taken out and put in again

  put_first : (e : Entry X) (es : List (Entry X)) → Below e.0 es → insert_entry string_cmp es e.0 e.1 ≡ e ∷ es
  put_first e [] b = refl
  put_first e (f ∷ es) b = ap (λ o. match_ordering o ((e.0, e.1) ∷ f ∷ es) ((f.0, e.1) ∷ es) (f ∷ insert_entry string_cmp es e.0 e.1)) b.0

  pub put_removed : (es : List (Entry X)) (i : ℕ) (d : Entry X) → Rises es → i < length es → insert_entry string_cmp (remove es i) (get_or es i d).0 (get_or es i d).1 ≡ es
  unfolding IsStrictlySortedBy
  put_removed [] i d h lt = absurd (omega arith)
  put_removed (e ∷ es) zero d h lt = put_first e es h.0
  put_removed (e ∷ es) (suc i) d h lt =
      let k = (get_or es i d).0 in
      let v = (get_or es i d).1 in
      let above : string_cmp k e.0 ≡ Greater = turned (string_bytes e.0) (string_bytes k) Less (below_at e.0 es i d h.0 (omega arith)) in
      ap (λ o. match_ordering o ((k, v) ∷ e ∷ remove es i) ((e.0, v) ∷ remove es i) (e ∷ insert_entry string_cmp (remove es i) k v)) above ∙ ap (λ l. e ∷ l) (put_removed es i d h.1 (omega arith))

  none_named : (k : String Global) (es : List (Entry X)) → Below k es → lookup (is_at (named (string_bytes k))) es ≡ None
  none_named k [] b = refl
  none_named k (e ∷ es) b = ap (λ o. cond (is_eq o) (Some e.1) (lookup (is_at (named (string_bytes k))) es)) b.0 ∙ none_named k es b.1

  pub gone : (es : List (Entry X)) (i : ℕ) (d : Entry X) → Rises es → i < length es → lookup (is_at (named (string_bytes (get_or es i d).0))) (remove es i) ≡ None
  unfolding IsStrictlySortedBy
  gone [] i d h lt = absurd (omega arith)
  gone (e ∷ es) zero d h lt = none_named e.0 es h.0
  gone (e ∷ es) (suc i) d h lt =
      let k = (get_or es i d).0 in
      let above : string_cmp k e.0 ≡ Greater = turned (string_bytes e.0) (string_bytes k) Less (below_at e.0 es i d h.0 (omega arith)) in
      ap (λ o. cond (is_eq o) (Some e.1) (lookup (is_at (named (string_bytes k))) (remove es i))) above ∙ gone es i d h.1 (omega arith)
