-- Documents of which a child came, was replaced or went agree off its place, where each other child stays at its own.
use Rattle.std.proofs.Common.{Bor, ◌≡◌, ◌≢◌, ℕ, suc, ◌-◌, inr, length, List, [], ◌∷◌, ◌++◌, Option, Some, None, option_map, option_and_then, option_to_list, Ok, Bool, true, false, cond, if◌then◌else◌, nat_eq, refl, sym, ap, subst, ◌∙◌, arith}
use Rattle.std.proofs.lemmas.Bool.Decides.{nat_tests}
use Rattle.std.specs.Prelude.{IfSome, String}
use Rattle.std.specs.Str.{bytes_eq}
use Rattle.std.specs.declared.alloc.Global.{Global}
use Rattle.doc_tree.specs.Doc.{Doc, list, object, Elements, Members, name, index, get_element, get_member}
use Rattle.doc_pointer.specs.Place.{resolve}
use Rattle.doc_tree.specs.TreeView.{elements_view}
use Rattle.doc_tree.specs.declared.tree.Tree.{Tree}
use Rattle.doc_edits.specs.Change.{tokens_of}
use Rattle.doc_edits.specs.Edit as edit
use Rattle.doc_edits.specs.Edit.{Token, Tokens, add_here, add_item, append_element, at_last, cut, dash, elements_len, in_child, index_below, insert_element, put_or_set, remove_element, remove_here, remove_item, remove_member}
use Rattle.doc_edits.specs.Operation as pure
use Rattle.doc_edits.specs.Operation.{Operation, change, or_missing}
use Rattle.doc_edits.proofs.Heights.{Does, in_child_steps, known, mapped}
use Rattle.doc_edits.proofs.Indices.{elements_len-view}
use Rattle.doc_edits.proofs.Places.{inserted_at}
use Rattle.doc_patch.specs.Patch.{patch}
use Rattle.doc_patch.proofs.Untouched.{goes_on, was_there}
use Rattle.schema_changes.specs.Agree.{AgreeBeside, AgreeOff, AtChild}
use Rattle.patched_places.specs.Along.{end_index, end_place, end_places, index_added, index_behind, places_along}
use Rattle.patched_places.specs.declared.ends.End.{End}
use Rattle.patched_places.proofs.Agreeing.{agrees_on}
use Rattle.patched_places.proofs.Beside.{appended_len, get_added, get_before, get_cut, inserted_behind, removed_behind, removed_len}

-- where the location ends, a child may be any, or come or go
any_child : (a b : Option Doc) → AtChild [] (AgreeOff []) a b
any_child (Some c) (Some d) = tt
any_child (Some c) None = refl
any_child None (Some d) = refl
any_child None None = tt

-- ---- in an object

in_object : (t : Token) (ms ns : Members) → ((k : Token) → t ≢ k → get_member k ns ≡ get_member k ms) → AgreeOff (name t ∷ []) (object ms) (object ns)
in_object t ms ns others = inr (tt, beside, any_child (get_member t ms) (get_member t ns))
  where
    beside : AgreeBeside (name t) (object ms) (object ns)
    beside (name k) ne = sym (others k (λ e. ne (ap name (sym e))))
    beside (index n) ne = refl

-- ---- in a list

-- the longer list has one element more, behind the others
record IsBehind (j : ℕ) (ds es : Elements) : Type 0 where
  pub last : Doc
  pub longer : es ≡ append_element last ds
  pub at : j ≡ elements_len ds

stays : (j k : ℕ) (ds es : Elements) → IsBehind j ds es → k ≢ j → get_element k es ≡ get_element k ds
stays j k ds es b ne = ap (get_element k) b.longer ∙ get_before k b.last ds (λ e. ne (e ∙ sym b.at))

grown : (o : Option ℕ) (ds es : Elements) → ((j : ℕ) → o ≡ Some j → IsBehind j ds es) → AgreeOff (option_to_list (option_map index o)) (list ds) (list es)
grown None ds es h = tt
grown (Some j) ds es h = inr (tt, beside, any_child (get_element j ds) (get_element j es))
  where
    beside : AgreeBeside (index j) (list ds) (list es)
    beside (index k) ne = sym (stays j k ds es (h j refl) (λ e. ne (ap index e)))
    beside (name k) ne = refl

shrunk : (o : Option ℕ) (ds es : Elements) → ((j : ℕ) → o ≡ Some j → IsBehind j es ds) → AgreeOff (option_to_list (option_map index o)) (list ds) (list es)
shrunk None ds es h = tt
shrunk (Some j) ds es h = inr (tt, beside, any_child (get_element j ds) (get_element j es))
  where
    beside : AgreeBeside (index j) (list ds) (list es)
    beside (index k) ne = stays j k es ds (h j refl) (λ e. ne (ap index e))
    beside (name k) ne = refl

same_number : (i n : ℕ) → nat_eq i n ≡ true → i ≡ n
same_number i n e = grind (arith, nat_tests)

found_by : (b : Bool) (i n j : ℕ) → nat_eq i n ≡ b → (if b then Some i else None) ≡ Some j → (i ≡ j) × (i ≡ n)
found_by true i n j is h = (cc, same_number i n is)
found_by false i n j is h = absurd cc

found_in : (o : Option ℕ) (n j : ℕ) → option_and_then (λ i. if nat_eq i n then Some i else None) o ≡ Some j → (o ≡ Some j) × (j ≡ n)
found_in None n j h = absurd cc
found_in (Some i) n j h = let f = found_by (nat_eq i n) i n j refl h in (ap Some f.0, sym f.0 ∙ f.1)

-- the token names the index behind them
found : (n j : ℕ) (t : Token) → index_behind n t ≡ Some j → (index_below (suc n) t ≡ Some j) × (j ≡ n)
found n j t h = found_in (index_below (suc n) t) n j h

item_came : (o : Option ℕ) (t : Token) (v : Doc) (ds es : Elements) (j : ℕ) → index_below (suc (elements_len ds)) t ≡ o → option_and_then (λ i. insert_element i v ds) o ≡ Some es → index_behind (elements_len es - 1) t ≡ Some j → IsBehind j ds es
item_came None t v ds es j at h k = absurd cc
item_came (Some i) t v ds es j at h k =
    let len : elements_len es ≡ suc (elements_len ds) = (inserted_at i v ds es h).0 in
    let before : elements_len es - 1 ≡ elements_len ds = omega (arith, len) in
    let f = found (elements_len ds) j t (subst (λ n. index_behind n t ≡ Some j) before k) in
    let both : Some i ≡ Some j = sym at ∙ f.0 in
    let same : i ≡ j = cc in
    record { last = v; longer = inserted_behind i v ds es (same ∙ f.1) h; at = f.1 }

item_added : (b : Bool) (t : Token) (v : Doc) (ds es : Elements) (j : ℕ) → cond b (Some (append_element v ds)) (option_and_then (λ i. insert_element i v ds) (index_below (suc (elements_len ds)) t)) ≡ Some es
    → cond b (Some (elements_len es - 1)) (index_behind (elements_len es - 1) t) ≡ Some j → IsBehind j ds es
item_added true t v ds es j h k =
    let is : append_element v ds ≡ es = cc in
    let at : elements_len es - 1 ≡ j = cc in
    let len : elements_len es ≡ suc (elements_len ds) = ap elements_len (sym is) ∙ appended_len v ds in
    let before : elements_len es - 1 ≡ elements_len ds = omega (arith, len) in
    record { last = v; longer = sym is; at = sym at ∙ before }
item_added false t v ds es j h k = item_came (index_below (suc (elements_len ds)) t) t v ds es j refl h k

item_went : (o : Option ℕ) (t : Token) (ds es : Elements) (j : ℕ) → index_below (elements_len ds) t ≡ o → option_and_then (λ i. remove_element i ds) o ≡ Some es → index_behind (elements_len es) t ≡ Some j → IsBehind j es ds
item_went None t ds es j at h k = absurd cc
item_went (Some i) t ds es j at h k =
    let f = found (elements_len es) j t k in
    let both : Some i ≡ Some j = sym at ∙ ap (λ n. index_below n t) (removed_len i ds es h) ∙ f.0 in
    let same : i ≡ j = cc in
    let r = removed_behind i ds es (same ∙ f.1) h in
    record { last = r.0; longer = r.1; at = f.1 }

-- ---- at the last token

came : (v : Doc) (e : End) (d made : Doc) → e.is_there ≡ true → add_here v e.token.now d ≡ Some made → AgreeOff (end_places (Some e) made) d made
came v e (object ms) made there h =
    let t = e.token.now in
    let is : object (put_or_set (get_member t ms) v t ms) ≡ made = cc in
    subst (λ x. AgreeOff (end_places (Some e) x) (object ms) x) is (in_object t ms (put_or_set (get_member t ms) v t ms) (λ k other. get_added (get_member t ms) t k v ms other))
came v e (list ds) made there h =
    let t = e.token.now in
    let m = mapped list (add_item v t ds) made h in
    let added = λ (j : ℕ) (k : end_index e.is_there (elements_len m.0) t ≡ Some j). item_added (bytes_eq t dash) t v ds m.0 j m.1 (subst (λ b. end_index b (elements_len m.0) t ≡ Some j) there k) in
    subst (λ x. AgreeOff (end_places (Some e) x) (list ds) x) (sym m.2) (grown (end_index e.is_there (elements_len m.0) t) ds m.0 added)
came v e _ made there h = absurd cc

went : (e : End) (d made : Doc) → e.is_there ≡ false → remove_here e.token.now d ≡ Some made → AgreeOff (end_places (Some e) made) d made
went e (object ms) made there h =
    let t = e.token.now in
    let m = mapped object (remove_member t ms) made h in
    let k = known (get_member t ms) (cut t ms) m.0 m.1 in
    let is : object (cut t ms) ≡ made = ap object k.2 ∙ sym m.2 in
    subst (λ x. AgreeOff (end_places (Some e) x) (object ms) x) is (in_object t ms (cut t ms) (λ k other. get_cut t k ms other))
went e (list ds) made there h =
    let t = e.token.now in
    let m = mapped list (remove_item t ds) made h in
    let gone = λ (j : ℕ) (k : end_index e.is_there (elements_len m.0) t ≡ Some j). item_went (index_below (elements_len ds) t) t ds m.0 j refl m.1 (subst (λ b. end_index b (elements_len m.0) t ≡ Some j) there k) in
    subst (λ x. AgreeOff (end_places (Some e) x) (list ds) x) (sym m.2) (shrunk (end_index e.is_there (elements_len m.0) t) ds m.0 gone)
went e _ made there h = absurd cc

-- ---- along the tokens

-- what f makes at the last of the tokens
unfoldable pub at_tokens : Does → Tokens → Doc → Option Doc
at_tokens f [] d = None
at_tokens f (t ∷ ts) d = at_last f t ts d

abbrev Agrees : Does → Option End → Token → Type 0
Agrees f end t = (d made : Doc) → f t d ≡ Some made → AgreeOff (end_places end made) d made

one_more : (f : Doc → Option Doc) (end : Option End) (t : Token) (ts : Tokens) (d made : Doc) → in_child t f d ≡ Some made → ((c new : Doc) → f c ≡ Some new → AgreeOff (places_along (end_places end) ts new) c new)
    → AgreeOff (places_along (end_places end) (t ∷ ts) made) d made
one_more f end t ts d made h below =
    let s = in_child_steps t f d made h in
    agrees_on (end_places end) t ts d made s.child s.new s.found s.whole (below s.child s.new s.made)

along : (f : Does) (end : Option End) (t : Token) (ts : Tokens) (d made : Doc) → Agrees f end t → at_tokens f (ts ++ t ∷ []) d ≡ Some made → AgreeOff (places_along (end_places end) ts made) d made
unfolding at_tokens
along f end t [] d made leaf h = leaf d made h
along f end t (u ∷ []) d made leaf h = one_more (at_last f t []) end u [] d made h (λ c new k. leaf c new k)
along f end t (u ∷ w ∷ ws) d made leaf h = one_more (at_last f w (ws ++ t ∷ [])) end u (w ∷ ws) d made h (λ c new k. along f end t (w ∷ ws) c new leaf k)

pub added : (ts : Tokens) (t : Token) (v d : Doc) → edit.add (ts ++ t ∷ []) v d ≡ at_tokens (add_here v) (ts ++ t ∷ []) d
unfolding at_tokens
added [] t v d = refl
added (u ∷ us) t v d = refl

removed : (ts : Tokens) (t : Token) (d : Doc) → change (pure.remove (ts ++ t ∷ [])) d ≡ or_missing (at_tokens remove_here (ts ++ t ∷ []) d)
unfolding at_tokens
removed [] t d = refl
removed (u ∷ us) t d = refl

-- ---- an operation at its place

pub agrees_added : (path ts : Tokens) (e : End) (v before made : Doc) → path ≡ ts ++ e.token.now ∷ [] → e.is_there ≡ true → edit.add path v before ≡ Some made → AgreeOff (places_along (end_places (Some e)) ts made) before made
agrees_added path ts e v before made is there h =
    along (add_here v) (Some e) e.token.now ts before made (λ d new k. came v e d new there k) (sym (ap (λ p. edit.add p v before) is ∙ added ts e.token.now v before) ∙ h)

add_agrees : (path ts : Tokens) (e : End) (v before made : Doc) → path ≡ ts ++ e.token.now ∷ [] → e.is_there ≡ true → change (pure.add path v) before ≡ Ok made → AgreeOff (places_along (end_places (Some e)) ts made) before made
add_agrees path ts e v before made is there h = agrees_added path ts e v before made is there (was_there (edit.add path v before) made h)

copy_agrees : (from path ts : Tokens) (e : End) (before made : Doc) → path ≡ ts ++ e.token.now ∷ [] → e.is_there ≡ true → change (pure.copy from path) before ≡ Ok made → AgreeOff (places_along (end_places (Some e)) ts made) before made
copy_agrees from path ts e before made is there h =
    let g = goes_on (or_missing (resolve from before)) (λ v. or_missing (edit.add path v before)) made h in
    agrees_added path ts e g.0 before made is there (was_there (edit.add path g.0 before) made g.2)

remove_agrees : (path ts : Tokens) (e : End) (before made : Doc) → path ≡ ts ++ e.token.now ∷ [] → e.is_there ≡ false → change (pure.remove path) before ≡ Ok made → AgreeOff (places_along (end_places (Some e)) ts made) before made
remove_agrees path ts e before made is there h =
    let at : or_missing (at_tokens remove_here (ts ++ e.token.now ∷ []) before) ≡ Ok made = sym (ap (λ p. change (pure.remove p) before) is ∙ removed ts e.token.now before) ∙ h in
    along remove_here (Some e) e.token.now ts before made (λ d new k. went e d new there k) (was_there (at_tokens remove_here (ts ++ e.token.now ∷ []) before) made at)

pub taken : (ts : Tokens) (t : Token) (d : Doc) → edit.remove (ts ++ t ∷ []) d ≡ at_tokens remove_here (ts ++ t ∷ []) d
unfolding at_tokens
taken [] t d = refl
taken (u ∷ us) t d = refl

pub agrees_taken : (path ts : Tokens) (e : End) (before made : Doc) → path ≡ ts ++ e.token.now ∷ [] → e.is_there ≡ false → edit.remove path before ≡ Some made → AgreeOff (places_along (end_places (Some e)) ts made) before made
agrees_taken path ts e before made is there h =
    along remove_here (Some e) e.token.now ts before made (λ d new k. went e d new there k) (sym (ap (λ p. edit.remove p before) is ∙ taken ts e.token.now before) ∙ h)

-- ---- what the code finds

-- the tokens before the last, and the child that it names
abbrev pub Found : Type 0
Found = Option (Bor (List (String Global)) × End)

abbrev pub Ends : Tokens → Bool → Found → Type 0
Ends path there o = IfSome o (λ p. (path ≡ tokens_of p.0.now ++ p.1.token.now ∷ []) × (p.1.is_there ≡ there))

abbrev pub AgreesAt : Found → (Doc → Doc → Type 0) → Type 0
AgreesAt o Made = IfSome o (λ p. (before made : Doc) → Made before made → AgreeOff (places_along (end_places (Some p.1)) (tokens_of p.0.now) made) before made)

pub add_ends : (o : Found) (path : Tokens) (v : Doc) (op : Operation) → op ≡ pure.add path v → Ends path true o → AgreesAt o (λ before made. change op before ≡ Ok made)
add_ends None path v op is h = tt
add_ends (Some p) path v op is h = λ before made k. add_agrees path (tokens_of p.0.now) p.1 v before made h.0 h.1 (sym (ap (λ x. change x before) is) ∙ k)

pub copy_ends : (o : Found) (from path : Tokens) (op : Operation) → op ≡ pure.copy from path → Ends path true o → AgreesAt o (λ before made. change op before ≡ Ok made)
copy_ends None from path op is h = tt
copy_ends (Some p) from path op is h = λ before made k. copy_agrees from path (tokens_of p.0.now) p.1 before made h.0 h.1 (sym (ap (λ x. change x before) is) ∙ k)

pub remove_ends : (o : Found) (path : Tokens) (op : Operation) → op ≡ pure.remove path → Ends path false o → AgreesAt o (λ before made. change op before ≡ Ok made)
remove_ends None path op is h = tt
remove_ends (Some p) path op is h = λ before made k. remove_agrees path (tokens_of p.0.now) p.1 before made h.0 h.1 (sym (ap (λ x. change x before) is) ∙ k)

pub by_change : (o : Found) (os : List Operation) (op : Operation) → ((d e : Doc) → patch os d ≡ Ok e → change op d ≡ Ok e) → AgreesAt o (λ before made. change op before ≡ Ok made) → AgreesAt o (λ before made. patch os before ≡ Ok made)
by_change None os op only h = tt
by_change (Some p) os op only h = λ before made k. h before made (only before made k)

other_by : (b : Bool) (i n : ℕ) → nat_eq i n ≡ b → i ≢ n → None ≡ (if b then Some i else None)
other_by true i n is other = absurd (other (same_number i n is))
other_by false i n is other = refl

pub none_behind : (n m i : ℕ) (t : Token) (o : Option ℕ) → m ≡ suc n → o ≡ index_below m t → o ≡ Some i → i ≢ n → None ≡ index_behind n t
none_behind n m i t o s named is other =
    let at : index_below (suc n) t ≡ Some i = ap (λ k. index_below k t) (sym s) ∙ sym named ∙ is in
    other_by (nat_eq i n) i n refl other ∙ sym (ap (option_and_then (λ j. if nat_eq j n then Some j else None)) at)

pub none_named : (n m : ℕ) (t : Token) (o : Option ℕ) → m ≡ suc n → o ≡ index_below m t → o ≡ None → None ≡ index_behind n t
none_named n m t o s named is =
    let at : index_below (suc n) t ≡ None = ap (λ k. index_below k t) (sym s) ∙ sym named ∙ is in
    sym (ap (option_and_then (λ j. if nat_eq j n then Some j else None)) at)

pub added_dash : (n last : ℕ) (t : Token) → last ≡ n - 1 → bytes_eq t dash ≡ true → Some last ≡ index_added n t
added_dash n last t is at = ap Some is ∙ sym (ap (λ b. if b then Some (n - 1) else index_behind (n - 1) t) at)

pub added_index : (n last : ℕ) (t : Token) (o : Option ℕ) → last ≡ n - 1 → bytes_eq t dash ≡ false → o ≡ index_behind last t → o ≡ index_added n t
added_index n last t o is other found = found ∙ ap (λ m. index_behind m t) is ∙ sym (ap (λ b. if b then Some (n - 1) else index_behind (n - 1) t) other)

pub list_end : (e : End) (d : Doc) (ts : List Tree) (n : ℕ) (o : Option ℕ) → d ≡ list (elements_view ts) → n ≡ length ts → o ≡ end_index e.is_there n e.token.now → option_map index o ≡ end_place e d
list_end e d ts n o is len found = ap (option_map index) (found ∙ ap (λ m. end_index e.is_there m e.token.now) (len ∙ sym (elements_len-view ts))) ∙ sym (ap (end_place e) is)
