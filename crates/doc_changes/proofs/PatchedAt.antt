-- A patch that is judged and made where its document stands.
use Rattle.std.proofs.Common.{◌≡◌, ℕ, ◌≤◌, List, [], ◌∷◌, Option, None, Some, Ok, refl, sym, ap, ◌∙◌, subst, map, inl, inr, is_some, not, true, String, Global, string_bytes, slice_get}
use Rattle.std.specs.List.{AllByRecursion}
use Rattle.std.specs.Map.{values_of}
use Rattle.std.specs.Result.{result_err}
use Rattle.indexmap.specs.Layout.{set_value_at}
use Rattle.doc_tree.specs.Doc.{Doc}
use Rattle.doc_schema.specs.Judge.{Judges}
use Rattle.doc_tree.specs.Sound.{IsSound}
use Rattle.doc_tree.specs.TreeView.{view}
use Rattle.doc_patch.specs.Measured.{Reverses, CanReverse, reversed}
use Rattle.doc_edits.specs.Operation.{Operation}
use Rattle.doc_patch.specs.Patch.{patch}
use Rattle.doc_patch.specs.Reading.{operations_of}
use Rattle.doc_patch.specs.declared.document.Reversal.{Reversal}
use Rattle.schema_rules.specs.declared.profile.Profile.{Profile}
use Rattle.record_text.specs.Change as commands
use Rattle.record_text.specs.Change.{Change}
use Rattle.refusals.specs.declared.numbers.TheConstants.{NO_DOCUMENT}
use Rattle.doc_changes.specs.Refusals.{first, plain, refused_if}
use Rattle.doc_changes.specs.declared.refusal.Refusal.{Refusal}
use Rattle.doc_changes.specs.Judged.{IsJudgedIn, IsPatched, RefusesIn}
use Rattle.doc_changes.specs.Marks.{Mark}
use Rattle.doc_changes.specs.Patched.{patched, made_by, made_or, on_made, or_refused}
use Rattle.doc_changes.specs.Held.{held_at}
use Rattle.doc_changes.specs.Patching.{MakesForGood, Patches, PatchesForGood, RefusesMade, RefusesPatch, StandsAt}
use Rattle.doc_changes.specs.State.{Document, Good, IsStorable, find, changed}
use Rattle.doc_changes.specs.Schema.{is_valid}
use Rattle.doc_changes.specs.Step.{refusal_at, name_refusal, absent_refusal, revision_refusal, patch_refusal, outcome_refusal, invalid_refusal}
use Rattle.doc_changes.specs.Undo.{IsMade, IsMadeForGood, reversed_doc}
use Rattle.doc_changes.specs.StateView.{document_of, kept_state, named}
use Rattle.doc_changes.specs.declared.stored.Stored.{Stored}
use Rattle.doc_changes.specs.declared.judged.Judged.{Judged}
use Rattle.doc_changes.specs.declared.undo.Undo.TheVariants as undo
use Rattle.doc_changes.proofs.Entries.{Entry, found_at, same_some, written}
use Rattle.doc_changes.proofs.Goodness.{all_found, good_changed}
use Rattle.doc_changes.proofs.Patches.{made_within}
use Rattle.doc_changes.proofs.Reasons.{named_if}
use Rattle.doc_changes.proofs.Schemas.{judges_yes}
use Rattle.doc_changes.proofs.Undoing.{changed-back, changed_found, changed_to_itself, reversed_is}

-- the reasons of a patch, of a document that is found
five_none : (a b c d e : Option Refusal) → a ≡ None → b ≡ None → c ≡ None → d ≡ None → e ≡ None → first (a ∷ b ∷ c ∷ d ∷ e ∷ []) ≡ None
five_none a b c d e p q r s t = rw (p, q, r, s, t) refl

first_of_five : (a b c d e x y z : Option Refusal) → a ≡ None → b ≡ None → c ≡ x → d ≡ y → e ≡ z → first (a ∷ b ∷ c ∷ d ∷ e ∷ []) ≡ first (x ∷ y ∷ z ∷ [])
first_of_five a b c d e x y z p q r s t = rw (p, q, r, s, t) refl

stands : (n : List ℕ) (ds : List Document) (d : Document) → find n ds ≡ Some d → absent_refusal ds n ≡ None
stands n ds d found = ap (λ (o : Option Document). refused_if (not (is_some o)) NO_DOCUMENT) found

-- what the patch makes of the document
abbrev made_of : Doc → ℕ → Document → Document
made_of ops rev d = record { name = d.name; schema = d.schema; doc = made_or d.doc (patched ops d.doc); revision = rev }

pub judged_there : (profile : Profile) (n : List ℕ) (ds : List Document) (old w : Stored) (ops : Doc) (if_rev : Option ℕ) (rev : ℕ) → name_refusal n ≡ None
    → find n ds ≡ Some (named n old) → PatchesForGood ops if_rev rev old w → (j : Judged) × IsJudgedIn profile ds (commands.patch n ops if_rev) j
judged_there profile n ds old w ops if_rev rev name found p =
    let there : IsPatched ds n ops (Some p.makes.tree) = record {
      document = named n old;
      made = p.makes.tree;
      found = found;
      is = refl;
      patched_is = p.makes.made ∙ ap Ok (sym p.makes.tree_is);
      sound = subst IsSound (sym p.makes.tree_is) p.makes.sound;
    } in (
      record { patched = Some p.makes.tree; rules = None },
      record {
        accepted = five_none (name_refusal n) (absent_refusal ds n) (refusal_at (λ d. revision_refusal if_rev d.revision) (find n ds)) (refusal_at (patch_refusal ops) (find n ds)) (refusal_at (outcome_refusal ops) (find n ds))
            name (stands n ds (named n old) found) (ap (refusal_at (λ d. revision_refusal if_rev d.revision)) found ∙ p.asked) (ap (refusal_at (patch_refusal ops)) found ∙ ap result_err p.makes.made)
            (ap (refusal_at (outcome_refusal ops)) found ∙ ap (on_made (invalid_refusal (view old.schema))) p.makes.made ∙ p.makes.valid);
        sound = p.sound_ops;
        made = there;
      },
    )

makes : (ops : Doc) (if_rev : Option ℕ) (rev : ℕ) (old w : Stored) (p : PatchesForGood ops if_rev rev old w) (m : List ℕ)
    → named m w ≡ made_of ops rev (named m old)
makes ops if_rev rev old w p m =
    let doc : w.doc ≡ made_or old.doc (patched ops old.doc) = sym (ap (made_or old.doc) p.makes.made) in
    λ i. record { name = m; schema = p.makes.schema i; doc = doc i; revision = p.makes.revision i }

back : (ops : Doc) (if_rev : Option ℕ) (rev : ℕ) (n : List ℕ) (old w : Stored) (r : Reversal) (p : Patches ops if_rev rev old w r) → reversed_doc r old.revision (made_of ops rev (named n old)) ≡ named n old
back ops if_rev rev n old w r p =
    let made = ap (λ o. reversed r (made_or old.doc o)) p.made.makes.made in
    let doc : reversed r (made_or old.doc (patched ops old.doc)) ≡ old.doc = made ∙ reversed_is r w.doc old.doc p.back in
    λ i. record { name = n; schema = view old.schema; doc = doc i; revision = old.revision }

-- the entry of the document is written over with what the patch made
pub made_at_for_good : (profile : Profile) (n : List ℕ) (es : List Entry) (i : ℕ) (old w : Stored) (ops : Doc) (if_rev : Option ℕ) (rev : ℕ)
    → StandsAt n es i → slice_get (values_of es) i ≡ Some old → PatchesForGood ops if_rev rev old w
    → IsMadeForGood profile (map document_of es) (commands.patch n ops if_rev) rev (map document_of (set_value_at es i w))
made_at_for_good profile n es i old w ops if_rev rev there value p =
    let j = judged_there profile n (map document_of es) old w ops if_rev rev there.named (found_at n es i old there.at value) p in
    record { judged = j.0; is_judged = j.1; after = written (made_of ops rev) n es i old w there.at value (makes ops if_rev rev old w p) }

-- and so that it can be taken back
pub made_at : (profile : Profile) (k : String Global) (es : List Entry) (i : ℕ) (old w : Stored) (ops : Doc) (if_rev : Option ℕ) (rev : ℕ) (r : Reversal)
    → StandsAt (string_bytes k) es i → slice_get (values_of es) i ≡ Some old → Patches ops if_rev rev old w r
    → IsMade profile (map document_of es) (commands.patch (string_bytes k) ops if_rev) rev (undo.Patched k r old.revision) (map document_of (set_value_at es i w))
made_at profile k es i old w ops if_rev rev r stands value p =
    let n = string_bytes k in
    let ds = map document_of es in
    let found = found_at n es i old stands.at value in
    let made = made_at_for_good profile n es i old w ops if_rev rev stands value p.made in
    let can : CanReverse r (made_or old.doc (patched ops old.doc)) =
    record { before = old.doc; reverses = subst (λ e. Reverses r e old.doc) (sym (ap (made_or old.doc) p.made.makes.made)) p.back } in
    let led_back = changed-back (made_of ops rev) (reversed_doc r old.revision) n ds (named n old) (λ d. refl) found (back ops if_rev rev n old w r p) in
    let there = ap (find n) made.after ∙ changed_found (made_of ops rev) n ds (named n old) (λ d. refl) found in
    record {
      judged = made.judged;
      is_judged = made.is_judged;
      after = made.after;
      undo = record {
        back = ap (changed (reversed_doc r old.revision) n) made.after ∙ led_back;
        there = record { document = made_of ops rev (named n old); found = there; can = can };
      };
      held = p.held ∙ ap (held_at ops) (sym found);
    }

-- its refusals are the patch's
pub refused_at : (profile : Profile) (n : List ℕ) (es : List Entry) (i : ℕ) (old : Stored) (ops : Doc) (if_rev : Option ℕ) (r : Refusal) → StandsAt n es i → slice_get (values_of es) i ≡ Some old
    → RefusesPatch ops if_rev old r → RefusesIn profile (map document_of es) (commands.patch n ops if_rev) r
refused_at profile n es i old ops if_rev r there value (inl memory) = inl memory
refused_at profile n es i old ops if_rev r there value (inr h) =
    let ds = map document_of es in
    let found = found_at n es i old there.at value in
    inr (first_of_five (name_refusal n) (absent_refusal ds n) (refusal_at (λ d. revision_refusal if_rev d.revision) (find n ds)) (refusal_at (patch_refusal ops) (find n ds)) (refusal_at (outcome_refusal ops) (find n ds))
    (revision_refusal if_rev old.revision) (result_err (patched ops old.doc)) (on_made (invalid_refusal (view old.schema)) (patched ops old.doc))
    there.named (stands n ds (named n old) found) (ap (refusal_at (λ d. revision_refusal if_rev d.revision)) found) (ap (refusal_at (patch_refusal ops)) found) (ap (refusal_at (outcome_refusal ops)) found) ∙ h)

-- what stands there is valid
pub valid_at : (n : List ℕ) (es : List Entry) (i : ℕ) (old : Stored) → AllByRecursion IsStorable (map document_of es) → StandsAt n es i → slice_get (values_of es) i ≡ Some old
    → Judges (view old.schema) old.doc true
valid_at n es i old storable there value = (all_found IsStorable n (map document_of es) (named n old) storable (found_at n es i old there.at value)).valid

-- ---- a patch that was read

-- what its operations make is what it makes as it is spelled
pub patches_read : (ops : Doc) (os : List Operation) (if_rev : Option ℕ) (rev : ℕ) (old w : Stored) → operations_of ops ≡ Ok os → IsSound ops → revision_refusal if_rev old.revision ≡ None
    → MakesForGood (or_refused (patch os old.doc)) rev old w → PatchesForGood ops if_rev rev old w
patches_read ops os if_rev rev old w read sound asked m =
    record { asked = asked; sound_ops = sound; makes = subst (λ o. MakesForGood o rev old w) (sym (ap (λ r. made_by r old.doc) read)) m }

-- and so are its refusals
pub refuses_read : (ops : Doc) (os : List Operation) (if_rev : Option ℕ) (old : Stored) (r : Refusal) → operations_of ops ≡ Ok os → revision_refusal if_rev old.revision ≡ None
    → RefusesMade (or_refused (patch os old.doc)) old r → RefusesPatch ops if_rev old r
refuses_read ops os if_rev old r read asked (inl memory) = inl memory
refuses_read ops os if_rev old r read asked (inr h) =
    let outcome = patched ops old.doc in
    let none = ap (λ a. first (a ∷ result_err outcome ∷ on_made (invalid_refusal (view old.schema)) outcome ∷ [])) asked in
    let same = ap (λ o. first (result_err o ∷ on_made (invalid_refusal (view old.schema)) o ∷ [])) (ap (λ r. made_by r old.doc) read) in
    inr (none ∙ same ∙ h)

-- a document that it makes may be stored, whatever spells it
storable_made : (os : List Operation) (rev : ℕ) (n : List ℕ) (old w : Stored) → MakesForGood (or_refused (patch os old.doc)) rev old w → IsStorable (named n old)
    → IsStorable (record { name = n; schema = view old.schema; doc = w.doc; revision = rev })
storable_made os rev n old w m was =
    let within = made_within (Ok os) old.doc w.doc (record { low = was.doc_height; short = was.doc_text }) m.made in
    record {
      named = was.named;
      doc_sound = m.sound;
      doc_height = within.low;
      doc_text = within.short;
      schema_sound = was.schema_sound;
      schema_small = was.schema_small;
      valid = judges_yes (view old.schema) w.doc (named_if (is_valid (view old.schema) w.doc) _ m.valid);
    }

-- the document with what was made, and that revision
abbrev written_over : Doc → ℕ → Document → Document
written_over doc rev d = record { name = d.name; schema = d.schema; doc = doc; revision = rev }

-- so the documents stay good, and the state
pub good_at : (n : List ℕ) (es : List Entry) (i : ℕ) (old w : Stored) (os : List Operation) (marks : List Mark) (rev seq : ℕ) (profile : Profile) → StandsAt n es i → slice_get (values_of es) i ≡ Some old
    → MakesForGood (or_refused (patch os old.doc)) rev old w → rev ≤ seq → Good (kept_state es marks seq profile) → Good (kept_state (set_value_at es i w) marks seq profile)
good_at n es i old w os marks rev seq profile there value m low g =
    let f = written_over w.doc rev in
    let ds = map document_of es in
    let found = found_at n es i old there.at value in
    let storable = storable_made os rev n old w m (all_found IsStorable n ds (named n old) g.storable found) in
    let over : (k : List ℕ) → named k w ≡ f (named k old) = λ k i. record { name = k; schema = m.schema i; doc = w.doc; revision = m.revision i } in
    subst (λ (l : List Document). Good (record { documents = l; marks = marks; seq = seq; profile = profile })) (sym (written f n es i old w there.at value over))
    (good_changed (kept_state es marks seq profile) f n (λ d. refl) (λ d. low) g
    (λ d at was. subst (λ (x : Document). IsStorable (f x)) (same_some (find n ds) (named n old) d found at) storable)
    (λ d at was. was))

-- no document has the name
pub absent_there : (profile : Profile) (n : List ℕ) (ds : List Document) (ops : Doc) (if_rev : Option ℕ) → name_refusal n ≡ None → find n ds ≡ None → RefusesIn profile ds (commands.patch n ops if_rev) (plain NO_DOCUMENT)
absent_there profile n ds ops if_rev name none =
    let absent : absent_refusal ds n ≡ Some (plain NO_DOCUMENT) = ap (λ (o : Option Document). refused_if (not (is_some o)) NO_DOCUMENT) none in
    inr (rw (name, absent) refl)

-- an entry that is written over with the same leaves the documents as they are
pub same_at : (n : List ℕ) (es : List Entry) (i : ℕ) (old w : Stored) → StandsAt n es i → slice_get (values_of es) i ≡ Some old → ((m : List ℕ) → named m w ≡ named m old) → map document_of (set_value_at es i w) ≡ map document_of es
same_at n es i old w there value same = written (λ d. d) n es i old w there.at value same ∙ changed_to_itself n (map document_of es)
