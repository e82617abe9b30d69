-- Entries that are added, and what stays.
use Rattle.std.proofs.Common.{◌≡◌, ℕ, zero, suc, List, [], ◌∷◌, ◌++◌, length, get_or, drop, drop-cons, arith, ◌<◌, ◌+◌, Option, Some, Vec, Global, refl, sym, ap, subst, ◌∙◌, append_assoc, append-nil, length-append, Bor}
use Rattle.std.specs.Prelude.{IfOk, Result, Ok, Err}
use Rattle.doc_tree.specs.Doc.{Doc, null, boolean, int, text, list, object, element, Members, no_members, member}
use Rattle.doc_tree.specs.TreeView.{view, elements_view}
use Rattle.doc_tree.specs.declared.tree.Tree.{Tree}
use Rattle.schema_graph.specs.Walks.{In, first, later}
use Rattle.schema_graph.proofs.Among.{In-left, In-right}
use Rattle.schema_rules.specs.Keywords.{keyword_of, shape_of}
use Rattle.schema_rules.specs.Parts.{members_in}
use Rattle.schema_rules.specs.declared.keyword.Shape.TheVariants.{One}
use Rattle.schema_rules.specs.Schemas.{schemas, schemas_in, schemas_below, held_in}
use Rattle.schema_nodes.specs.declared.entries.Entry.{Entry}
use Rattle.schema_nodes.specs.declared.entries.Grown.{Grown}
use Rattle.schema_nodes.specs.declared.entries.Rows.{Rows}
use Rattle.schema_nodes.specs.Entries.{doc_at, StandFor, AreRows, EachEntry, AreEntries, Grows, Among, Adds, AddsAll, Makes, entries_want}
use Rattle.schema_nodes.specs.Wants.{members_want, schemas_want}

module _ (at at' : ℕ → Option Doc) (grows : (n : ℕ) (d : Doc) → at n ≡ Some d → at' n ≡ Some d) where
  pub stand_grown : (row : List ℕ) (ds : List Doc) → StandFor at row ds → StandFor at' row ds
  stand_grown [] [] h = tt
  stand_grown (n ∷ row) (d ∷ ds) h = (grows n d h.0, stand_grown row ds h.1)
  stand_grown [] (d ∷ ds) h = h
  stand_grown (n ∷ row) [] h = h

  pub rows_grown : (ms : Members) (rows : List (Vec ℕ Global)) → AreRows at ms rows → AreRows at' ms rows
  rows_grown no_members [] h = tt
  rows_grown (member k v ms) (row ∷ rows) h = (stand_grown row.items (held_in (shape_of (keyword_of k)) v) h.0, rows_grown ms rows h.1)
  rows_grown no_members (row ∷ rows) h = h
  rows_grown (member k v ms) [] h = h

  pub each_grown : (root : Doc) (es : List Entry) → EachEntry root at es → EachEntry root at' es
  each_grown root [] h = tt
  each_grown root (e ∷ es) h = (h.0, rows_grown (members_in (view e.schema.now)) e.rows.items h.1, each_grown root es h.2)

pub stand_append : (at : ℕ → Option Doc) (row : List ℕ) (ds : List Doc) (row' : List ℕ) (ds' : List Doc) → StandFor at row ds → StandFor at row' ds' → StandFor at (row ++ row') (ds ++ ds')
stand_append at [] [] row' ds' h h' = h'
stand_append at (n ∷ row) (d ∷ ds) row' ds' h h' = (h.0, stand_append at row ds row' ds' h.1 h')
stand_append at [] (d ∷ ds) row' ds' h h' = absurd h
stand_append at (n ∷ row) [] row' ds' h h' = absurd h

pub at_last : (es : List Entry) (e : Entry) → doc_at (es ++ e ∷ []) (length es) ≡ Some (view e.schema.now)
at_last [] e = refl
at_last (x ∷ es) e = at_last es e

pub pushed_grows : (es : List Entry) (e : Entry) → Grows es (es ++ e ∷ [])
pushed_grows [] e n d h = absurd cc
pushed_grows (x ∷ es) e zero d h = h
pushed_grows (x ∷ es) e (suc n) d h = pushed_grows es e n d h

pub each_pushed : (root : Doc) (at : ℕ → Option Doc) (es : List Entry) (e : Entry) → EachEntry root at es → In (view e.schema.now) (schemas root) → AreRows at (members_in (view e.schema.now)) e.rows.items → EachEntry root at (es ++ e ∷ [])
each_pushed root at [] e h i r = (i, r, tt)
each_pushed root at (x ∷ es) e h i r = (h.0, h.1, each_pushed root at es e h.2 i r)

-- a schema is the first of those in it
pub itself : (d : Doc) → In d (schemas_in One d)
itself null = first
itself (boolean b) = first
itself (int z) = first
itself (text s) = first
itself (list ds) = first
itself (object ms) = first

pub adds_none : (root : Doc) (a : Grown) (below : List Doc) → Adds root a a below []
adds_none root a below = record {
  are = λ among h. h;
  grows = λ n d h. h;
  row = λ before h. subst (λ ds. StandFor (doc_at a.entries.items) a.row.items ds) (sym (append-nil before)) h;
}

pub adds_on : (root : Doc) (a b c : Grown) (below xs ys : List Doc) → Adds root a b below xs → Adds root b c below ys → Adds root a c below (xs ++ ys)
adds_on root a b c below xs ys f g = record {
  are = λ among h. g.are among (f.are among h);
  grows = λ n d h. g.grows n d (f.grows n d h);
  row = λ before h. subst (λ ds. StandFor (doc_at c.entries.items) c.row.items ds) (append_assoc before xs ys) (g.row (before ++ xs) (f.row before h));
}

pub adds_wider : (root : Doc) (a b : Grown) (below wider xs : List Doc) → Among below wider → Adds root a b below xs → Adds root a b wider xs
adds_wider root a b below wider xs h f = record {
  are = λ among i. f.are (λ d k. among d (h d k)) i;
  grows = f.grows;
  row = f.row;
}

-- the schema itself, once its rows are made
pub adds_entry : (root : Doc) (old new : Grown) (made : Rows) (s : Bor Tree) → Makes root old.entries.items (schemas_in One (view s.now)) (members_in (view s.now)) made
    → new.entries.items ≡ made.entries.items ++ record { schema = s; rows = made.rows } ∷ [] → new.row.items ≡ old.row.items ++ length made.entries.items ∷ []
    → Adds root old new (schemas_in One (view s.now)) (view s.now ∷ [])
adds_entry root old new made s make es row =
    let x : Entry = record { schema = s; rows = made.rows } in
    let all = made.entries.items ++ x ∷ [] in
    let on = pushed_grows made.entries.items x in
    let grows : Grows old.entries.items all = λ n d h. on n d (make.grows n d h) in
    record {
      are = λ among h. subst (AreEntries root) (sym es) (each_pushed root (doc_at all) made.entries.items x (each_grown (doc_at made.entries.items) (doc_at all) on root made.entries.items (make.are among h)) (among (view s.now) (itself (view s.now)))
          (rows_grown (doc_at made.entries.items) (doc_at all) on (members_in (view s.now)) made.rows.items make.rows));
      grows = subst (Grows old.entries.items) (sym es) grows;
      row = λ before h. subst (λ l. StandFor (doc_at l) new.row.items (before ++ view s.now ∷ [])) (sym es)
          (subst (λ r. StandFor (doc_at all) r (before ++ view s.now ∷ [])) (sym row)
          (stand_append (doc_at all) old.row.items before (length made.entries.items ∷ []) (view s.now ∷ []) (stand_grown (doc_at old.entries.items) (doc_at all) grows old.row.items before h) (at_last made.entries.items x, tt)));
    }

-- ---- the members that are left

-- the rows of the members that are left, behind those that are made, are the rows of all
pub record Making (root : Doc) (old now : List Entry) (rows : List (Vec ℕ Global)) (left all : Members) : Type 0 where
  pub are : Among (schemas_below all) (schemas root) → AreEntries root old → AreEntries root now
  pub grows : Grows old now
  pub among : Among (schemas_below left) (schemas_below all)
  pub rest : (es : List Entry) (more : List (Vec ℕ Global)) → Grows now es → AreRows (doc_at es) left more → AreRows (doc_at es) all (rows ++ more)

pub begins : (root : Doc) (old : List Entry) (all : Members) → Making root old old [] all all
begins root old all = record { are = λ a i. i; grows = λ n d i. i; among = λ d i. i; rest = λ es more g i. i }

pub goes_on : (root : Doc) (old now : List Entry) (rows : List (Vec ℕ Global)) (left rest all : Members) (k : List ℕ) (v : Doc) (empty grown : Grown)
    → Making root old now rows left all → left ≡ member k v rest → empty.entries.items ≡ now → empty.row.items ≡ []
    → Adds root empty grown (schemas_in (shape_of (keyword_of k)) v) (held_in (shape_of (keyword_of k)) v)
    → Making root old grown.entries.items (rows ++ grown.row ∷ []) rest all
goes_on root old now rows left rest all k v empty grown m e f none adds =
    let add_grows : Grows now grown.entries.items = subst (λ l. Grows l grown.entries.items) f adds.grows in
    let row : StandFor (doc_at grown.entries.items) grown.row.items (held_in (shape_of (keyword_of k)) v) = adds.row [] (subst (λ r. StandFor (doc_at empty.entries.items) r []) (sym none) tt) in
    record {
      are = λ among h. adds.are (λ d i. among d (m.among d (subst (λ l. In d (schemas_below l)) (sym e) (In-left d (schemas_in (shape_of (keyword_of k)) v) (schemas_below rest) i)))) (subst (AreEntries root) (sym f) (m.are among h));
      grows = λ n d h. add_grows n d (m.grows n d h);
      among = λ d i. m.among d (subst (λ l. In d (schemas_below l)) (sym e) (In-right d (schemas_in (shape_of (keyword_of k)) v) (schemas_below rest) i));
      rest = λ es more g h. subst (λ l. AreRows (doc_at es) all l) (sym (append_assoc rows (grown.row ∷ []) more))
          (m.rest es (grown.row ∷ more) (λ n d i. g n d (add_grows n d i)) (subst (λ l. AreRows (doc_at es) l (grown.row ∷ more)) (sym e) (stand_grown (doc_at grown.entries.items) (doc_at es) g grown.row.items (held_in (shape_of (keyword_of k)) v) row, h)));
    }

pub ends : (root : Doc) (old now : List Entry) (rows : List (Vec ℕ Global)) (left all : Members) (made : Rows) → Making root old now rows left all → left ≡ no_members → made.entries.items ≡ now → made.rows.items ≡ rows → Makes root old (schemas_below all) all made
ends root old now rows left all made m e f r = record {
  are = λ among h. subst (AreEntries root) (sym f) (m.are among h);
  grows = subst (Grows old) (sym f) m.grows;
  rows = subst (λ l. AreRows (doc_at l) all made.rows.items) (sym f) (subst (λ l. AreRows (doc_at now) all l) (append-nil rows ∙ sym r)
      (m.rest now [] (λ n d i. i) (subst (λ l. AreRows (doc_at now) l []) (sym e) tt)));
}

-- ---- the schemas that are left

pub record Adding (root : Doc) (old now : Grown) (left below all all_below : List Doc) : Type 0 where
  pub done : List Doc
  pub is_all : done ++ left ≡ all
  pub adds : Adds root old now all_below done
  pub among : Among below all_below

pub adding : (root : Doc) (old : Grown) (all below : List Doc) → Adding root old old all below all below
adding root old all below = record { done = []; is_all = refl; adds = adds_none root old below; among = λ d i. i }

pub adding_on : (root : Doc) (old now new : Grown) (left left' below below' all all_below : List Doc) (d : Doc) → Adding root old now left below all all_below → left ≡ d ∷ left' → below ≡ schemas_in One d ++ below'
    → Adds root now new (schemas_in One d) (d ∷ []) → Adding root old new left' below' all all_below
adding_on root old now new left left' below below' all all_below d a e f adds = record {
  done = a.done ++ d ∷ [];
  is_all = append_assoc a.done (d ∷ []) left' ∙ ap (λ l. a.done ++ l) (sym e) ∙ a.is_all;
  adds = adds_on root old now new all_below a.done (d ∷ []) a.adds (adds_wider root now new (schemas_in One d) all_below (d ∷ []) (λ x i. a.among x (subst (In x) (sym f) (In-left x _ below' i))) adds);
  among = λ x i. a.among x (subst (In x) (sym f) (In-right x (schemas_in One d) below' i));
}

pub added : (root : Doc) (old now : Grown) (left below all all_below : List Doc) → Adding root old now left below all all_below → left ≡ [] → Adds root old now all_below all
added root old now left below all all_below a e = subst (Adds root old now all_below) (sym (append-nil a.done) ∙ ap (λ l. a.done ++ l) (sym e) ∙ a.is_all) a.adds

pub makes_none : (root : Doc) (old : List Entry) (below : List Doc) (made : Rows) → made.entries.items ≡ old → made.rows.items ≡ [] → Makes root old below no_members made
makes_none root old below made e f = record {
  are = λ among h. subst (AreEntries root) (sym e) h;
  grows = subst (Grows old) (sym e) (λ n d i. i);
  rows = subst (λ r. AreRows (doc_at made.entries.items) no_members r) (sym f) tt;
}

pub each_next : (items : List Tree) (i : ℕ) (x : Tree) → i < length items → x ≡ get_or items i x → elements_view (drop i items) ≡ element (view x) (elements_view (drop (i + 1) items))
each_next items i x lt e =
    let one : suc i ≡ i + 1 = omega arith in
    ap elements_view (drop-cons items i x lt) ∙ ap (λ n. element (view (get_or items i x)) (elements_view (drop n items))) one ∙ ap (λ y. element (view y) (elements_view (drop (i + 1) items))) (sym e)

pub if_ok : {A E : Type 0} {P Q : A → Type 0} (r : Result A E) → ((a : A) → P a → Q a) → IfOk r P → IfOk r Q
if_ok (Ok a) f h = f a h
if_ok (Err e) f h = tt

pub makes_object : (root s : Doc) (old : List Entry) (ms : Members) (made : Rows) → s ≡ object ms → Makes root old (schemas_below ms) ms made → Makes root old (schemas_in One s) (members_in s) made
makes_object root s old ms made e m = subst (λ d. Makes root old (schemas_in One d) (members_in d) made) (sym e) (record {
  are = λ among h. m.are (λ d i. among d (later i)) h;
  grows = m.grows;
  rows = m.rows;
})

-- ---- how many there are, and how many counters they want

-- with those that are left there are as many as there will be
pub record Left (now old : List Entry) (left all : List Doc) : Type 0 where
  pub many : length now + length left ≡ length old + length all
  pub wants : entries_want now + schemas_want left ≡ entries_want old + schemas_want all

pub all_left : (old : List Entry) (all : List Doc) → Left old old all all
all_left old all = record { many = refl; wants = refl }

want_both : (xs ys : List Doc) → schemas_want (xs ++ ys) ≡ schemas_want xs + schemas_want ys
want_both [] ys = omega arith
want_both (d ∷ xs) ys = let rest = want_both xs ys in omega (arith, rest)

entries_both : (es gs : List Entry) → entries_want (es ++ gs) ≡ entries_want es + entries_want gs
entries_both [] gs = omega arith
entries_both (e ∷ es) gs = let rest = entries_both es gs in omega (arith, rest)

pub count_on : (now new old : List Entry) (left xs rest all : List Doc) → left ≡ xs ++ rest → Left now old left all → AddsAll now new xs → Left new old rest all
count_on now new old left xs rest all e m f =
    let both = length-append xs rest in
    let want = want_both xs rest in
    let long = ap (λ (ds : List Doc). length ds) e in
    let wide = ap schemas_want e in
    record { many = omega (arith, both, long, m.many, f.many); wants = omega (arith, want, wide, m.wants, f.wants) }

pub count_end : (now old : List Entry) (left all : List Doc) → Left now old left all → left ≡ [] → AddsAll old now all
count_end now old left all m e =
    let long = ap (λ (ds : List Doc). length ds) e in
    let wide = ap schemas_want e in
    record { many = omega (arith, m.many, long); wants = omega (arith, m.wants, wide) }

pub count_none : (old : List Entry) → AddsAll old old []
count_none old = record { many = omega arith; wants = omega arith }

-- a schema, and those below it
one_more : (d : Doc) → length (schemas_in One d) ≡ suc (length (schemas_below (members_in d)))
one_more null = refl
one_more (boolean b) = refl
one_more (int z) = refl
one_more (text s) = refl
one_more (list ds) = refl
one_more (object ms) = refl

one_wants : (d : Doc) → schemas_want (schemas_in One d) ≡ members_want (members_in d) + schemas_want (schemas_below (members_in d))
one_wants null = refl
one_wants (boolean b) = refl
one_wants (int z) = refl
one_wants (text s) = refl
one_wants (list ds) = refl
one_wants (object ms) = refl

pub count_entry : (old made new : List Entry) (x : Entry) → AddsAll old made (schemas_below (members_in (view x.schema.now))) → new ≡ made ++ x ∷ [] → AddsAll old new (schemas_in One (view x.schema.now))
count_entry old made new x m e =
    let d = view x.schema.now in
    let both = length-append made (x ∷ []) in
    let want = entries_both made (x ∷ []) in
    let long = ap (λ (es : List Entry). length es) e in
    let wide = ap entries_want e in
    record { many = omega (arith, both, long, m.many, one_more d); wants = omega (arith, want, wide, m.wants, one_wants d) }

pub count_object : (s : Doc) (ms : Members) (old new : List Entry) → s ≡ object ms → AddsAll old new (schemas_below ms) → AddsAll old new (schemas_below (members_in s))
count_object s ms old new e h = subst (λ d. AddsAll old new (schemas_below (members_in d))) (sym e) h
