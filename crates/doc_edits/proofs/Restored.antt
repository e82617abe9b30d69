-- Operations taken back by what was made ready before them.
use Rattle.std.proofs.Common.{◌≡◌, [], ◌∷◌, Bool, true, false, Option, None, Some, Result, Ok, Err, IfOk, MatchOption, Vec, String, Global, option_and_then, if◌then◌else◌, string_bytes, refl, sym, ap, subst, ◌∙◌}
use Rattle.doc_tree.specs.Doc.{Doc}
use Rattle.doc_tree.specs.Same.{same}
use Rattle.doc_tree.specs.Sound.{IsSound}
use Rattle.doc_pointer.specs.Place.{resolve}
use Rattle.doc_edits.specs.Back.{exchanged, moved_back, return_to}
use Rattle.doc_edits.specs.Change.{tokens_of}
use Rattle.doc_edits.specs.Edit as edit
use Rattle.doc_edits.specs.Edit.{Token, Tokens}
use Rattle.doc_edits.specs.Keeping.{IsOriginOf, LeadsBack, Restores, last_of, step_with}
use Rattle.doc_edits.specs.Operation.{add, remove, replace, copy, test, change, gone, or_missing, and_then, replaced}
use Rattle.doc_edits.specs.Spare.{IsSpareAt}
use Rattle.doc_edits.specs.declared.back.Origin.{Origin}
use Rattle.doc_edits.specs.declared.kept.Ready.{Ready}
use Rattle.doc_edits.proofs.Growths.{removed_was_there, value_at-resolve}
use Rattle.doc_edits.proofs.Returned.{returned}
use Rattle.doc_edits.proofs.TakenBack.{replacement_back}
use Rattle.refusals.specs.declared.numbers.TheConstants.{PATCH_TEST}

made_some : (o : Option Doc) (e : Doc) → or_missing o ≡ Ok e → o ≡ Some e
made_some None e h = absurd (cc)
made_some (Some d) e h = cc

-- ---- additions, of a value or a copy

-- what takes any addition at the place back
abbrev pub AddsBack : Ready → Tokens → Doc → Type 0
AddsBack r path d = (v e : Doc) → edit.add path v d ≡ Some e → Restores (step_with r (replaced path d)) d e

pub add_ready : (r : Ready) (path : Tokens) (v d e : Doc) → AddsBack r path d → change (add path v) d ≡ Ok e → Restores (step_with r (gone (add path v) d)) d e
add_ready r path v d e back h = back v e (made_some (edit.add path v d) e h)

pub copy_ready : (r : Ready) (from path : Tokens) (d e : Doc) → AddsBack r path d → change (copy from path) d ≡ Ok e → Restores (step_with r (gone (copy from path) d)) d e
copy_ready r from path d e back h = go (resolve from d) h
  where
    go : (o : Option Doc) → and_then (or_missing o) (λ v. or_missing (edit.add path v d)) ≡ Ok e → Restores (step_with r (replaced path d)) d e
    go None k = absurd (cc)
    go (Some v) k = back v e (made_some (edit.add path v d) e k)

-- ---- replacements

pub replace_ready : (back path : Tokens) (v d e : Doc) → back ≡ path → change (replace path v) d ≡ Ok e → exchanged back (gone (replace path v) d) e ≡ Some d
replace_ready back path v d e same h = ap (λ ks. exchanged ks (resolve path d) e) same ∙ replacement_back path v d e (made_some (edit.replace path v d) e h)

-- ---- removals

removed_some : (path : Tokens) (d e : Doc) → change (remove path) d ≡ Ok e → edit.remove path d ≡ Some e
removed_some [] d e h = absurd (cc)
removed_some (t ∷ ts) d e h = made_some (edit.remove (t ∷ ts) d) e h

-- what goes was there
was_there : (path : Tokens) (d e : Doc) → edit.remove path d ≡ Some e → (v : Doc) × (resolve path d ≡ Some v)
was_there [] d e h = absurd (cc)
was_there (t ∷ ts) d e h = go (resolve (t ∷ ts) d) refl
  where
    go : (o : Option Doc) → resolve (t ∷ ts) d ≡ o → (v : Doc) × (resolve (t ∷ ts) d ≡ Some v)
    go None none = absurd (removed_was_there t ts d e h (value_at-resolve t ts d ∙ none))
    go (Some v) at = (v, at)

pub remove_ready : (r : Ready) (path : Tokens) (d e : Doc) → ((v e : Doc) → IsSound d → resolve path d ≡ Some v → edit.remove path d ≡ Some e → Restores (step_with r (Some v)) d e)
    → IsSound d → change (remove path) d ≡ Ok e → Restores (step_with r (gone (remove path) d)) d e
remove_ready r path d e back sound h =
    let made = removed_some path d e h in
    let there = was_there path d e made in
    subst (λ o. Restores (step_with r o) d e) (sym there.1) (back there.0 e sound there.1 made)

-- the value comes back to where it was
pub comes_back : (o : Origin) (t : Token) (ts : Tokens) (d : Doc) → tokens_of o.path.items ≡ t ∷ ts → string_bytes o.name ≡ last_of t ts → IsSpareAt o.spare t ts d → IsSound d → IsOriginOf o (t ∷ ts) d
comes_back o t ts d path name room sound = λ v e at made.
    ap (λ ks. return_to ks (string_bytes o.name) o.spare v e) path ∙ ap (λ n. return_to (t ∷ ts) n o.spare v e) name ∙ returned o.spare v t ts d e sound room made (value_at-resolve t ts d ∙ at)

-- ---- tests

pub test_ready : (path : Tokens) (v d e : Doc) → change (test path v) d ≡ Ok e → e ≡ d
test_ready path v d e h = go (resolve path d) h
  where
    by : (b : Bool) → (if b then Ok d else Err PATCH_TEST) ≡ Ok e → e ≡ d
    by true k = cc
    by false k = absurd (cc)

    go : (o : Option Doc) → and_then (or_missing o) (λ x. if same x v then Ok d else Err PATCH_TEST) ≡ Ok e → e ≡ d
    go None k = absurd (cc)
    go (Some x) k = by (same x v) k

-- ---- moves

pub move_ready : (back path : Tokens) (old : Option Doc) (o : Origin) (from : Tokens) (v d without e : Doc) → LeadsBack back path without → old ≡ replaced path without → IsOriginOf o from d
    → resolve from d ≡ Some v → edit.remove from d ≡ Some without → edit.add path v without ≡ Some e
    → moved_back back old (tokens_of o.path.items) (string_bytes o.name) o.spare e ≡ Some d
move_ready back path old o from v d without e leads is origin at gone made =
    let r = leads v e made in
    ap (option_and_then (λ x. option_and_then (return_to (tokens_of o.path.items) (string_bytes o.name) o.spare x) (exchanged back old e))) r.0
    ∙ ap (λ p. option_and_then (return_to (tokens_of o.path.items) (string_bytes o.name) o.spare v) (exchanged back p e)) is
    ∙ ap (option_and_then (return_to (tokens_of o.path.items) (string_bytes o.name) o.spare v)) r.1 ∙ origin v without at gone

-- ---- what a call answers

-- what holds of a path holds of the one that is answered
pub same_path : {E : Type 0} (r : Result (Vec (String Global) Global) E) (ks : Tokens) (P : Tokens → Type 0) → IfOk r (λ path. tokens_of path.items ≡ ks) → P ks → IfOk r (λ path. P (tokens_of path.items))
same_path (Ok path) ks P is h = subst P (sym is) h
same_path (Err e) ks P is h = tt

pub readied : {A E : Type 0} (r : Result A E) (P Q : A → Type 0) → IfOk r P → ((a : A) → P a → Q a) → IfOk r Q
readied (Ok a) P Q h by = by a h
readied (Err e) P Q h by = tt

-- what holds of what is there
pub chosen : {A : Type 0} (o : Option A) (a : A) (N : Type 0) (P : A → Type 0) → o ≡ Some a → MatchOption o N P → P a
chosen o a N P is h = subst (λ x. MatchOption x N P) is h

pub none_chosen : {A : Type 0} (o : Option A) (N : Type 0) (P : A → Type 0) → o ≡ None → MatchOption o N P → N
none_chosen o N P is h = subst (λ x. MatchOption x N P) is h
