-- What no operation touches stays.
use Rattle.std.proofs.Common.{◌≡◌, ℕ, suc, List, [], ◌∷◌, Option, Some, None, option_and_then, Result, Ok, Err, Bool, true, false, true≢false, cond, ◌&&◌, length, nat_lt, refl, sym, ap, ◌∙◌}
use Rattle.std.proofs.lemmas.Slice.Eq.{bytes_eq-Decides}
use Rattle.std.specs.Cmp.Lexicographic.{pointwise}
use Rattle.std.specs.Str.{bytes_eq}
use Rattle.doc_tree.specs.Doc.{Doc, height}
use Rattle.doc_tree.specs.Same.{same}
use Rattle.doc_tree.specs.Text.{text_of}
use Rattle.doc_pointer.specs.Place.{child_named, resolve}
use Rattle.doc_edits.specs.Edit as edit
use Rattle.doc_edits.specs.Edit.{Token, Tokens, elements_len, index_below, insert_element, append_element, remove_element, set_element, cut, set_member, with_child, in_child, at_last, put_or_set, add_here, add_item, dash, replace_here, replace_member, replace_item, remove_here, remove_member, remove_item}
use Rattle.doc_edits.specs.Operation.{Operation, change, op, and_then, or_missing, moved}
use Rattle.doc_edits.specs.Limits.{within_limits}
use Rattle.doc_patch.specs.Patch.{patch_from, go_on}
use Rattle.doc_edits.specs.Operation as pure
use Rattle.doc_patch.specs.Touched.{leads_past, is_apart, leaves, leave}
use Rattle.doc_patch.specs.declared.fault.PatchFault.{PatchFault}
use Rattle.refusals.specs.declared.numbers.TheConstants.{DEPTH, PATCH_TEST, TOO_LARGE}
use Rattle.doc_edits.proofs.Places.{replaced_here}
use Rattle.doc_edits.proofs.Children.{child_beside, child_set, distinct}
use Rattle.doc_edits.proofs.Heights.{Does, in_child_steps}

past_by : (b : Bool) (f : Does) (t u k : Token) (us ks : Tokens) (d e child new : Doc) → bytes_eq t k ≡ b → cond b (leads_past (u ∷ us) ks) true ≡ true → child_named t d ≡ Some child → e ≡ with_child t new d
    → (leads_past (u ∷ us) ks ≡ true → resolve ks new ≡ resolve ks child) → resolve (k ∷ ks) e ≡ resolve (k ∷ ks) d
past_by true f t u k us ks d e child new is past found whole rest =
    let at : t ≡ k = (bytes_eq-Decides t k).0 is in
    let there : child_named t e ≡ Some new = ap (child_named t) whole ∙ child_set t new child d found in
    rw (sym at) (ap (option_and_then (resolve ks)) there ∙ rest past ∙ sym (ap (option_and_then (resolve ks)) found))
past_by false f t u k us ks d e child new is past found whole rest =
    ap (option_and_then (resolve ks)) (ap (child_named k) whole ∙ child_beside t k new d (distinct t k is))

past_stays : (f : Does) (t : Token) (ts ks : Tokens) (d e : Doc) → leads_past (t ∷ ts) ks ≡ true → at_last f t ts d ≡ Some e → resolve ks e ≡ resolve ks d
past_stays f t [] ks d e past h = absurd (true≢false (sym past))
past_stays f t (u ∷ us) [] d e past h = absurd (true≢false (sym past))
past_stays f t (u ∷ us) (k ∷ ks) d e past h =
    let s = in_child_steps t (at_last f u us) d e h in
    past_by (bytes_eq t k) f t u k us ks d e s.child s.new refl past s.found s.whole (λ more. past_stays f u us ks s.child s.new more s.made)

add_stays : (path ks : Tokens) (v d e : Doc) → leads_past path ks ≡ true → edit.add path v d ≡ Some e → resolve ks e ≡ resolve ks d
add_stays [] ks v d e past h = absurd (true≢false (sym past))
add_stays (t ∷ ts) ks v d e past h = past_stays (add_here v) t ts ks d e past h

remove_stays : (path ks : Tokens) (d e : Doc) → leads_past path ks ≡ true → edit.remove path d ≡ Some e → resolve ks e ≡ resolve ks d
remove_stays [] ks d e past h = absurd (true≢false (sym past))
remove_stays (t ∷ ts) ks d e past h = past_stays remove_here t ts ks d e past h

apart_by : (b : Bool) (t k : Token) (ts ks : Tokens) (d e child new : Doc) → bytes_eq t k ≡ b → cond b (is_apart ts ks) true ≡ true → child_named t d ≡ Some child → e ≡ with_child t new d
    → (is_apart ts ks ≡ true → resolve ks new ≡ resolve ks child) → resolve (k ∷ ks) e ≡ resolve (k ∷ ks) d
apart_by true t k ts ks d e child new is apart found whole rest =
    let at : t ≡ k = (bytes_eq-Decides t k).0 is in
    let there : child_named t e ≡ Some new = ap (child_named t) whole ∙ child_set t new child d found in
    rw (sym at) (ap (option_and_then (resolve ks)) there ∙ rest apart ∙ sym (ap (option_and_then (resolve ks)) found))
apart_by false t k ts ks d e child new is apart found whole rest =
    ap (option_and_then (resolve ks)) (ap (child_named k) whole ∙ child_beside t k new d (distinct t k is))

apart_stays : (v : Doc) (t : Token) (ts ks : Tokens) (d e : Doc) → is_apart (t ∷ ts) ks ≡ true → at_last (replace_here v) t ts d ≡ Some e → resolve ks e ≡ resolve ks d
apart_stays v t ts [] d e apart h = absurd (true≢false (sym apart))
apart_stays v t [] (k ∷ ks) d e apart h =
    let r = replaced_here v t d e h in
    apart_by (bytes_eq t k) t k [] ks d e r.0 v refl apart r.1 r.2 (λ none. absurd (true≢false (sym none)))
apart_stays v t (u ∷ us) (k ∷ ks) d e apart h =
    let s = in_child_steps t (at_last (replace_here v) u us) d e h in
    apart_by (bytes_eq t k) t k (u ∷ us) ks d e s.child s.new refl apart s.found s.whole (λ more. apart_stays v u us ks s.child s.new more s.made)

replace_stays : (path ks : Tokens) (v d e : Doc) → is_apart path ks ≡ true → edit.replace path v d ≡ Some e → resolve ks e ≡ resolve ks d
replace_stays [] ks v d e apart h = absurd (true≢false (sym apart))
replace_stays (t ∷ ts) ks v d e apart h = apart_stays v t ts ks d e apart h

pub was_there : (o : Option Doc) (e : Doc) → or_missing o ≡ Ok e → o ≡ Some e
was_there None e h = absurd (cc)
was_there (Some d) e h = cc

pub goes_on : (r : Result Doc ℕ) (f : Doc → Result Doc ℕ) (e : Doc) → and_then r f ≡ Ok e → (d : Doc) × (r ≡ Ok d) × (f d ≡ Ok e)
goes_on (Err n) f e h = absurd (cc)
goes_on (Ok d) f e h = (d, refl, h)

pub both : (a b : Bool) → (a && b) ≡ true → (a ≡ true) × (b ≡ true)
both true b h = (refl, h)
both false b h = absurd (true≢false (sym h))

moved_stays : (b : Bool) (from path ks : Tokens) (v d e : Doc) → leads_past from ks ≡ true → leads_past path ks ≡ true
    → cond b (Ok d) (and_then (or_missing (edit.remove from d)) (λ a. or_missing (edit.add path v a))) ≡ Ok e → resolve ks e ≡ resolve ks d
moved_stays true from path ks v d e p q h = let is : d ≡ e = cc in ap (resolve ks) (sym is)
moved_stays false from path ks v d e p q h =
    let g = goes_on (or_missing (edit.remove from d)) (λ a. or_missing (edit.add path v a)) e h in
    add_stays path ks v g.0 e q (was_there (edit.add path v g.0) e g.2) ∙ remove_stays from ks d g.0 p (was_there (edit.remove from d) g.0 g.1)

tested_stays : (b : Bool) (ks : Tokens) (n : ℕ) (d e : Doc) → cond b (Ok d) (Err n) ≡ Ok e → resolve ks e ≡ resolve ks d
tested_stays true ks n d e h = let is : d ≡ e = cc in ap (resolve ks) (sym is)
tested_stays false ks n d e h = absurd (cc)

change_stays : (o : Operation) (ks : Tokens) (d e : Doc) → leaves o ks ≡ true → change o d ≡ Ok e → resolve ks e ≡ resolve ks d
change_stays (pure.add path v) ks d e l h = add_stays path ks v d e l (was_there (edit.add path v d) e h)
change_stays (pure.remove []) ks d e l h = absurd (cc)
change_stays (pure.remove (t ∷ ts)) ks d e l h = remove_stays (t ∷ ts) ks d e l (was_there (edit.remove (t ∷ ts) d) e h)
change_stays (pure.replace path v) ks d e l h = replace_stays path ks v d e l (was_there (edit.replace path v d) e h)
change_stays (pure.move from path) ks d e l h =
    let g = goes_on (or_missing (resolve from d)) (moved from path d) e h in
    let two = both (leads_past from ks) (leads_past path ks) l in
    moved_stays (pointwise bytes_eq from path) from path ks g.0 d e two.0 two.1 g.2
change_stays (pure.copy from path) ks d e l h =
    let g = goes_on (or_missing (resolve from d)) (λ v. or_missing (edit.add path v d)) e h in
    add_stays path ks g.0 d e l (was_there (edit.add path g.0 d) e g.2)
change_stays (pure.test path v) ks d e l h =
    let g = goes_on (or_missing (resolve path d)) (λ x. cond (same x v) (Ok d) (Err PATCH_TEST)) e h in
    tested_stays (same g.0 v) ks PATCH_TEST d e g.2

pub within_same : (a b : Bool) (m n : ℕ) (d e : Doc) → cond a (Err m) (cond b (Err n) (Ok d)) ≡ Ok e → d ≡ e
within_same true b m n d e h = absurd (cc)
within_same false true m n d e h = absurd (cc)
within_same false false m n d e h = cc

op_stays : (o : Operation) (ks : Tokens) (d e : Doc) → leaves o ks ≡ true → op o d ≡ Ok e → resolve ks e ≡ resolve ks d
op_stays o ks d e l h =
    let g = goes_on (change o d) within_limits e h in
    ap (resolve ks) (sym (within_same (nat_lt 64 (height g.0)) (nat_lt 1_048_576 (length (text_of g.0))) DEPTH TOO_LARGE g.0 e g.2)) ∙ change_stays o ks d g.0 l g.1

pub gone_on : (i : ℕ) (r : Result Doc ℕ) (f : Doc → Result Doc PatchFault) (e : Doc) → go_on i r f ≡ Ok e → (d : Doc) × (r ≡ Ok d) × (f d ≡ Ok e)
gone_on i (Err n) f e h = absurd (cc)
gone_on i (Ok d) f e h = (d, refl, h)

pub patch_stays : (i : ℕ) (os : List Operation) (ks : Tokens) (d e : Doc) → leave os ks ≡ true → patch_from i os d ≡ Ok e → resolve ks e ≡ resolve ks d
patch_stays i [] ks d e l h = let is : d ≡ e = cc in ap (resolve ks) (sym is)
patch_stays i (o ∷ os) ks d e l h =
    let g = gone_on i (op o d) (patch_from (suc i) os) e h in
    let two = both (leaves o ks) (leave os ks) l in
    patch_stays (suc i) os ks g.0 e two.1 g.2 ∙ op_stays o ks d g.0 two.0 g.1
