-- A patch changes a document only below a place that holds all that its operations reach.
use Rattle.std.proofs.Common.{◌≡◌, ℕ, suc, inl, inr, List, [], ◌∷◌, Some, Ok, Err, Bool, true, false, cond, ◌&&◌, ◌≤◌, length, nat_lt, arith, refl, sym, ap, subst, ◌∙◌}
use Rattle.std.proofs.lemmas.Slice.Eq.{bytes_eq-Decides}
use Rattle.std.specs.Cmp.Lexicographic.{pointwise}
use Rattle.std.specs.Str.{bytes_eq}
use Rattle.doc_tree.specs.Doc.{Doc, height}
use Rattle.doc_tree.specs.Same.{same}
use Rattle.doc_tree.specs.Text.{text_of}
use Rattle.doc_pointer.specs.Place.{child_named, resolve}
use Rattle.doc_edits.specs.Edit as edit
use Rattle.doc_edits.specs.Edit.{Token, Tokens, at_last, add_here, remove_here, replace_here, with_child}
use Rattle.doc_edits.specs.Operation.{Operation, change, op, and_then, or_missing, moved}
use Rattle.doc_edits.specs.Limits.{within_limits}
use Rattle.doc_patch.specs.Patch.{patch_from}
use Rattle.doc_edits.specs.Operation as pure
use Rattle.doc_patch.specs.Within.{DiffersWithin, KeepsBut, Unchanging, holder, holds_all, leads_to, leads_to_each, reaches}
use Rattle.refusals.specs.declared.numbers.TheConstants.{DEPTH, PATCH_TEST, TOO_LARGE}
use Rattle.doc_edits.proofs.Children.{child_set, child_twice}
use Rattle.doc_edits.proofs.Heights.{Does, in_child_steps}
use Rattle.doc_edits.proofs.Places.{replaced_here}
use Rattle.doc_patch.proofs.Untouched.{both, gone_on, goes_on, was_there, within_same}

-- ---- one place

nearer_by : (b : Bool) (t u : Token) (ts us : Tokens) (d e : Doc) → bytes_eq t u ≡ b → (b && leads_to ts us) ≡ true → DiffersWithin (u ∷ us) d e → ((c new : Doc) → leads_to ts us ≡ true → DiffersWithin us c new → DiffersWithin ts c new) → DiffersWithin (t ∷ ts) d e
nearer_by true t u ts us d e is leads h rest = subst (λ k. DiffersWithin (k ∷ ts) d e) (sym ((bytes_eq-Decides t u).0 is)) (h.0, h.1, h.2, h.3, rest h.0 h.1 leads h.4)
nearer_by false t u ts us d e is leads h rest = absurd cc

-- what differs below a place differs below each that leads to it
nearer : (ts us : Tokens) (d e : Doc) → leads_to ts us ≡ true → DiffersWithin us d e → DiffersWithin ts d e
nearer [] us d e leads h = tt
nearer (t ∷ ts) [] d e leads h = absurd cc
nearer (t ∷ ts) (u ∷ us) d e leads h = nearer_by (bytes_eq t u) t u ts us d e refl leads h (λ c new more within. nearer ts us c new more within)

then_within : (ts : Tokens) (d e f : Doc) → DiffersWithin ts d e → DiffersWithin ts e f → DiffersWithin ts d f
then_within [] d e f h k = tt
then_within (t ∷ ts) d e f h k =
    let there : child_named t e ≡ Some h.1 = ap (child_named t) h.3 ∙ child_set t h.1 h.0 d h.2 in
    let both_there : Some h.1 ≡ Some k.0 = sym there ∙ k.2 in
    let same_child : h.1 ≡ k.0 = cc in
    let whole : f ≡ with_child t k.1 d = k.3 ∙ ap (with_child t k.1) h.3 ∙ child_twice t k.1 h.1 d in
    (h.0, k.1, h.2, whole, then_within ts h.0 h.1 k.1 h.4 (subst (λ c. DiffersWithin ts c k.1) (sym same_child) k.4))

then_keeps : (ts : Tokens) (d e f : Doc) → KeepsBut ts d e → KeepsBut ts e f → KeepsBut ts d f
then_keeps ts d e f (inl is) k = subst (λ x. KeepsBut ts x f) (sym is) k
then_keeps ts d e f (inr h) (inl is) = inr (subst (DiffersWithin ts d) is h)
then_keeps ts d e f (inr h) (inr k) = inr (then_within ts d e f h k)

-- ---- one operation

held : (f : Does) (t : Token) (ts : Tokens) (d e : Doc) → at_last f t ts d ≡ Some e → DiffersWithin (holder (t ∷ ts)) d e
held f t [] d e h = tt
held f t (u ∷ us) d e h = let s = in_child_steps t (at_last f u us) d e h in (s.child, s.new, s.found, s.whole, held f u us s.child s.new s.made)

replaced : (v : Doc) (t : Token) (ts : Tokens) (d e : Doc) → at_last (replace_here v) t ts d ≡ Some e → DiffersWithin (t ∷ ts) d e
replaced v t [] d e h = let r = replaced_here v t d e h in (r.0, v, r.1, r.2, tt)
replaced v t (u ∷ us) d e h = let s = in_child_steps t (at_last (replace_here v) u us) d e h in (s.child, s.new, s.found, s.whole, replaced v u us s.child s.new s.made)

added : (path : Tokens) (v d e : Doc) → edit.add path v d ≡ Some e → DiffersWithin (holder path) d e
added [] v d e h = tt
added (t ∷ ts) v d e h = held (add_here v) t ts d e h

removed : (path : Tokens) (d e : Doc) → edit.remove path d ≡ Some e → DiffersWithin (holder path) d e
removed [] d e h = tt
removed (t ∷ ts) d e h = held remove_here t ts d e h

replaced_at : (path : Tokens) (v d e : Doc) → edit.replace path v d ≡ Some e → DiffersWithin path d e
replaced_at [] v d e h = tt
replaced_at (t ∷ ts) v d e h = replaced v t ts d e h

moved_within : (b : Bool) (ts from path : Tokens) (v d e : Doc) → leads_to ts (holder from) ≡ true → leads_to ts (holder path) ≡ true
    → cond b (Ok d) (and_then (or_missing (edit.remove from d)) (λ a. or_missing (edit.add path v a))) ≡ Ok e → KeepsBut ts d e
moved_within true ts from path v d e p q h = inl cc
moved_within false ts from path v d e p q h =
    let g = goes_on (or_missing (edit.remove from d)) (λ a. or_missing (edit.add path v a)) e h in
    inr (then_within ts d g.0 e (nearer ts (holder from) d g.0 p (removed from d g.0 (was_there (edit.remove from d) g.0 g.1))) (nearer ts (holder path) g.0 e q (added path v g.0 e (was_there (edit.add path v g.0) e g.2))))

tested : (b : Bool) (ts : Tokens) (n : ℕ) (d e : Doc) → cond b (Ok d) (Err n) ≡ Ok e → KeepsBut ts d e
tested true ts n d e h = inl cc
tested false ts n d e h = absurd cc

pub changed : (o : Operation) (ts : Tokens) (d e : Doc) → leads_to_each ts (reaches o) ≡ true → change o d ≡ Ok e → KeepsBut ts d e
changed (pure.add path v) ts d e l h = inr (nearer ts (holder path) d e (both (leads_to ts (holder path)) true l).0 (added path v d e (was_there (edit.add path v d) e h)))
changed (pure.remove []) ts d e l h = absurd cc
changed (pure.remove (t ∷ rest)) ts d e l h = inr (nearer ts (holder (t ∷ rest)) d e (both (leads_to ts (holder (t ∷ rest))) true l).0 (removed (t ∷ rest) d e (was_there (edit.remove (t ∷ rest) d) e h)))
changed (pure.replace path v) ts d e l h = inr (nearer ts path d e (both (leads_to ts path) true l).0 (replaced_at path v d e (was_there (edit.replace path v d) e h)))
changed (pure.move from path) ts d e l h =
    let g = goes_on (or_missing (resolve from d)) (moved from path d) e h in
    let two = both (leads_to ts (holder from)) (leads_to ts (holder path) && true) l in
    moved_within (pointwise bytes_eq from path) ts from path g.0 d e two.0 (both (leads_to ts (holder path)) true two.1).0 g.2
changed (pure.copy from path) ts d e l h =
    let g = goes_on (or_missing (resolve from d)) (λ v. or_missing (edit.add path v d)) e h in
    inr (nearer ts (holder path) d e (both (leads_to ts (holder path)) true l).0 (added path g.0 d e (was_there (edit.add path g.0 d) e g.2)))
changed (pure.test path v) ts d e l h =
    let g = goes_on (or_missing (resolve path d)) (λ x. cond (same x v) (Ok d) (Err PATCH_TEST)) e h in
    tested (same g.0 v) ts PATCH_TEST d e g.2

operated : (o : Operation) (ts : Tokens) (d e : Doc) → leads_to_each ts (reaches o) ≡ true → op o d ≡ Ok e → KeepsBut ts d e
operated o ts d e l h =
    let g = goes_on (change o d) within_limits e h in
    let is = within_same (nat_lt 64 (height g.0)) (nat_lt 1_048_576 (length (text_of g.0))) DEPTH TOO_LARGE g.0 e g.2 in
    subst (KeepsBut ts d) is (changed o ts d g.0 l g.1)

-- ---- all operations

pub patched_within : (i : ℕ) (os : List Operation) (ts : Tokens) (d e : Doc) → holds_all ts os ≡ true → patch_from i os d ≡ Ok e → KeepsBut ts d e
patched_within i [] ts d e l h = inl cc
patched_within i (o ∷ os) ts d e l h =
    let g = gone_on i (op o d) (patch_from (suc i) os) e h in
    let two = both (leads_to_each ts (reaches o)) (holds_all ts os) l in
    then_keeps ts d g.0 e (operated o ts d g.0 two.0 g.1) (patched_within (suc i) os ts g.0 e two.1 g.2)

-- ---- operations that reach nothing

-- what leads to a place is at most as long
no_longer : (ts us : Tokens) → leads_to ts us ≡ true → length ts ≤ length us
no_longer [] us leads = omega arith
no_longer (t ∷ ts) [] leads = absurd cc
no_longer (t ∷ ts) (u ∷ us) leads = let rest = no_longer ts us (both (bytes_eq t u) (leads_to ts us) leads).1 in omega (arith, rest)

-- not every place leads to one
not_all : (us : Tokens) (more : List Tokens) → ((ts : Tokens) → leads_to_each ts (us ∷ more) ≡ true) → ⊥
not_all us more all = let longer = no_longer ([] ∷ us) us (both (leads_to ([] ∷ us) us) (leads_to_each ([] ∷ us) more) (all ([] ∷ us))).0 in omega (arith, longer)

compared : (b : Bool) (n : ℕ) (d e : Doc) → cond b (Ok d) (Err n) ≡ Ok e → d ≡ e
compared true n d e h = cc
compared false n d e h = absurd cc

pub unreached : (o : Operation) (d e : Doc) → ((ts : Tokens) → leads_to_each ts (reaches o) ≡ true) → change o d ≡ Ok e → d ≡ e
unreached (pure.add path v) d e all h = absurd (not_all (holder path) [] all)
unreached (pure.remove path) d e all h = absurd (not_all (holder path) [] all)
unreached (pure.replace path v) d e all h = absurd (not_all path [] all)
unreached (pure.move from path) d e all h = absurd (not_all (holder from) (holder path ∷ []) all)
unreached (pure.copy from path) d e all h = absurd (not_all (holder path) [] all)
unreached (pure.test path v) d e all h =
    let g = goes_on (or_missing (resolve path d)) (λ x. cond (same x v) (Ok d) (Err PATCH_TEST)) e h in
    compared (same g.0 v) PATCH_TEST d e g.2

unchanged_from : (i : ℕ) (os : List Operation) (d e : Doc) → ((ts : Tokens) → holds_all ts os ≡ true) → patch_from i os d ≡ Ok e → d ≡ e
unchanged_from i [] d e all h = cc
unchanged_from i (o ∷ os) d e all h =
    let g = gone_on i (op o d) (patch_from (suc i) os) e h in
    let made = goes_on (change o d) within_limits g.0 g.1 in
    let is = within_same (nat_lt 64 (height made.0)) (nat_lt 1_048_576 (length (text_of made.0))) DEPTH TOO_LARGE made.0 g.0 made.2 in
    let first : d ≡ made.0 = unreached o d made.0 (λ ts. (both (leads_to_each ts (reaches o)) (holds_all ts os) (all ts)).0) made.1 in
    let rest : g.0 ≡ e = unchanged_from (suc i) os g.0 e (λ ts. (both (leads_to_each ts (reaches o)) (holds_all ts os) (all ts)).1) g.2 in
    first ∙ is ∙ rest

pub unchanged : (os : List Operation) → ((ts : Tokens) → holds_all ts os ≡ true) → Unchanging os
unchanged os all = λ d e h. unchanged_from 0 os d e all h
