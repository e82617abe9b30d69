-- The documents after a change that isn't refused are good, and so is the state after it.
use Rattle.std.proofs.Common.{◌≡◌, ℕ, ◌+◌, ◌≤◌, arith, List, Option, None, refl, sym, ap, subst, inl}
use Rattle.std.specs.List.{AllByRecursion}
use Rattle.doc_tree.specs.Doc.{Doc}
use Rattle.doc_tree.specs.Sound.{IsSound}
use Rattle.doc_tree.specs.TreeView.{view}
use Rattle.doc_schema.specs.Faults.{IsFaultless}
use Rattle.schema_rules.specs.declared.profile.Profile.{Profile}
use Rattle.record_text.specs.Change.{Change, create, patch, set_schema, delete}
use Rattle.doc_changes.specs.Judged.{IsJudged, IsPatched, IsSoundChange, HoldsMade}
use Rattle.doc_changes.specs.Patched.{patched, made_or}
use Rattle.doc_changes.specs.Schema.{is_valid}
use Rattle.doc_changes.specs.State.{Document, State, Good, IsStorable, find, changed}
use Rattle.doc_changes.specs.Step.{refusals_in, after, documents_after, outcome_refusal, invalid_refusal}
use Rattle.doc_changes.specs.declared.judged.Judged.{Judged}
use Rattle.doc_changes.proofs.Entries.{same_some}
use Rattle.doc_changes.proofs.Goodness.{good_push, good_changed, good_without, good_counted}
use Rattle.doc_changes.proofs.Reasons.{accepts, can_create, at_found, of_made, named_if}
use Rattle.doc_changes.proofs.Patches.{patched_within}
use Rattle.doc_changes.proofs.Schemas.{judges_yes}

-- the document after its patch
pub storable_patched : (profile : Profile) (ds : List Document) (name : List ℕ) (ops : Doc) (if_rev : Option ℕ) (rev : ℕ) (judged : Judged) (p : IsPatched ds name ops judged.patched)
    → AllByRecursion (λ r. r ≡ None) (refusals_in profile ds (patch name ops if_rev)) → IsStorable p.document
    → IsStorable (record { name = p.document.name; schema = p.document.schema; doc = view p.made; revision = rev })
storable_patched profile ds name ops if_rev rev judged p none was =
    let within = patched_within ops p.document.doc (view p.made) (record { low = was.doc_height; short = was.doc_text }) p.patched_is in
    let outcome = at_found (outcome_refusal ops) (find name ds) p.document p.found none.1.1.1.1.0 in
    record {
      named = was.named;
      doc_sound = p.sound;
      doc_height = within.low;
      doc_text = within.short;
      schema_sound = was.schema_sound;
      schema_small = was.schema_small;
      valid = judges_yes p.document.schema (view p.made) (named_if (is_valid p.document.schema (view p.made)) _ (of_made (invalid_refusal p.document.schema) (patched ops p.document.doc) (view p.made) p.patched_is outcome));
    }

good_patched : (s : State) (name : List ℕ) (ops : Doc) (if_rev : Option ℕ) (rev : ℕ) (judged : Judged) → rev ≤ s.seq → Good s → AllByRecursion (λ r. r ≡ None) (refusals_in s.profile s.documents (patch name ops if_rev)) → IsPatched s.documents name ops judged.patched
    → Good (record s { documents = changed (λ d. record { name = d.name; schema = d.schema; doc = made_or d.doc (patched ops d.doc); revision = rev }) name s.documents })
good_patched s name ops if_rev rev judged low g none p =
    good_changed s (λ d. record { name = d.name; schema = d.schema; doc = made_or d.doc (patched ops d.doc); revision = rev }) name (λ d. refl) (λ d. low) g
    (λ d found was.
    let same : p.document ≡ d = same_some (find name s.documents) p.document d p.found found in
    let made : made_or p.document.doc (patched ops p.document.doc) ≡ view p.made = ap (made_or p.document.doc) p.patched_is in
    subst (λ (x : Document). IsStorable (record { name = x.name; schema = x.schema; doc = made_or x.doc (patched ops x.doc); revision = rev })) same
    (subst (λ (x : Doc). IsStorable (record { name = p.document.name; schema = p.document.schema; doc = x; revision = rev })) (sym made)
    (storable_patched s.profile s.documents name ops if_rev rev judged p none (subst IsStorable (sym same) was))))
    (λ d found was. was)

good_ruled : (s : State) (name : List ℕ) (schema : Doc) (rev : ℕ) → rev ≤ s.seq → Good s → AllByRecursion (λ r. r ≡ None) (refusals_in s.profile s.documents (set_schema name schema)) → IsSound schema → IsFaultless s.profile schema
    → Good (record s { documents = changed (λ d. record { name = d.name; schema = schema; doc = d.doc; revision = rev }) name s.documents })
good_ruled s name schema rev low g none sound faultless =
    good_changed s (λ d. record { name = d.name; schema = schema; doc = d.doc; revision = rev }) name (λ d. refl) (λ d. low) g
    (λ d found was. record {
      named = was.named;
      doc_sound = was.doc_sound;
      doc_height = was.doc_height;
      doc_text = was.doc_text;
      schema_sound = sound;
      schema_small = λ long. faultless.size (inl long);
      valid = judges_yes schema d.doc (named_if (is_valid schema d.doc) _ (at_found (λ x. invalid_refusal schema x.doc) (find name s.documents) d found none.1.1.1.0));
    })
    (λ d found was. faultless)

-- what a change makes, where what it changes gets a revision that isn't over seq
pub good_made : (s : State) (c : Change) (rev : ℕ) (judged : Judged) → rev ≤ s.seq → Good s → AllByRecursion (λ r. r ≡ None) (refusals_in s.profile s.documents c) → IsSoundChange c → HoldsMade s.profile s.documents c judged
    → Good (record s { documents = documents_after s.documents c rev })
good_made s (create name schema doc) rev judged low g none sound made =
    let d : Document = record { name = name; schema = schema; doc = doc; revision = rev } in
    let can = can_create s.profile s.documents d none sound.0 sound.1 made.faultless in
    good_push s d g can.new can.storable made.faultless can.few low
good_made s (patch name ops if_rev) rev judged low g none sound made = good_patched s name ops if_rev rev judged low g none made
good_made s (set_schema name schema) rev judged low g none sound made = good_ruled s name schema rev low g none sound made.faultless
good_made s (delete name) rev judged low g none sound made = good_without s name g

pub good_after : (s : State) (c : Change) (judged : Judged) → Good s → IsJudged s c judged → Good (after s c)
good_after s c judged g j =
    let ok = accepts s c g.counted j.accepted in
    good_made (record s { seq = s.seq + 1 }) c (s.seq + 1) judged (omega arith) (good_counted s g ok.rises) ok.alone j.sound j.made
