use Rattle.std.proofs.Common.{◌≡◌, sym, ◌∙◌, ap, subst, refl, Some, None, string_bytes, slice_get, map, List, ℕ}
use Rattle.std.specs.Map.{values_of}
use Rattle.std.specs.Option.{option_copied_mut}
use Rattle.doc_patch.specs.Meaning.{operations}
use Rattle.doc_changes.specs.Held.{held_by}
use Rattle.doc_changes.specs.Patching.{StandsAt}
use Rattle.record_text.specs.Change as commands
use Rattle.doc_changes.specs.Judged.{RefusesIn}
use Rattle.doc_changes.specs.StateView.{document_of}
use Rattle.doc_changes.specs.declared.refusal.Refusal.{Refusal}
use Rattle.doc_changes.proofs.Judgements.{err_same}
use Rattle.doc_changes.proofs.PatchedAt.{made_at, patches_read, refused_at, refuses_read, same_at, valid_at}
use Rattle.doc_changes.proofs.patching.patch_read.Goals as goal

pub perform-requires : goal.perform-requires
perform-requires c =
    let n = string_bytes c.args.name in
    let es = c.args.documents.now.entries in
    let i = c.in_ok-index.index in
    let was = c.unwrap-stored.result.now in
    let there : StandsAt n es i = subst (λ m. StandsAt m es i) c.as_str.ensures.value c.in_ok-index.ensures.found in
    valid_at n es i was c.requires there (sym c.get_index_mut.ensures.value ∙ ap option_copied_mut c.unwrap-stored.ensures)

pub returns-in-Ok-clause-made : goal.returns-in-Ok-clause-made
returns-in-Ok-clause-made c = λ profile ops read sound.
    let n = string_bytes c.args.name in
    let es = c.args.documents.now.entries in
    let i = c.in_ok-index.index in
    let was = c.unwrap-stored.result.now in
    let new = c.perform.new.stored in
    let os = operations c.args.changes.now in
    let there : StandsAt n es i = subst (λ m. StandsAt m es i) c.as_str.ensures.value c.in_ok-index.ensures.found in
    let value : slice_get (values_of es) i ≡ Some was = sym c.get_index_mut.ensures.value ∙ ap option_copied_mut c.unwrap-stored.ensures in
    made_at profile c.args.name es i was new ops None c.args.revision c.in-Ok.reversal there value
    (record {
      made = patches_read ops os None c.args.revision was new read sound refl c.in-Ok.ensures.made;
      back = c.in-Ok.ensures.back;
      held = c.in-Ok.ensures.held ∙ ap (λ r. held_by r was.doc) (sym read);
    })

pub returns-in-Err-clause-refused : goal.returns-in-Err-clause-refused
returns-in-Err-clause-refused c = λ profile ops read.
    let n = string_bytes c.args.name in
    let es = c.args.documents.now.entries in
    let i = c.in_ok-index.index in
    let was = c.unwrap-stored.result.now in
    let there : StandsAt n es i = subst (λ m. StandsAt m es i) c.as_str.ensures.value c.in_ok-index.ensures.found in
    let value : slice_get (values_of es) i ≡ Some was = sym c.get_index_mut.ensures.value ∙ ap option_copied_mut c.unwrap-stored.ensures in
    refused_at profile n es i was ops None c.in-Err.refusal there value
    (refuses_read ops (operations c.args.changes.now) None was c.in-Err.refusal read refl c.in-Err.ensures.refused)

pub returns-in-Err-clause-unchanged : goal.returns-in-Err-clause-unchanged
returns-in-Err-clause-unchanged c =
    let n = string_bytes c.args.name in
    let es = c.args.documents.now.entries in
    let i = c.in_ok-index.index in
    let was = c.unwrap-stored.result.now in
    let there : StandsAt n es i = subst (λ m. StandsAt m es i) c.as_str.ensures.value c.in_ok-index.ensures.found in
    let value : slice_get (values_of es) i ≡ Some was = sym c.get_index_mut.ensures.value ∙ ap option_copied_mut c.unwrap-stored.ensures in
    same_at n es i was c.perform.new.stored there value c.in-Err.ensures.unchanged

pub returns-in_err-index-clause-refused : goal.returns-in_err-index-clause-refused
returns-in_err-index-clause-refused c = λ p ops read.
    let ds = map document_of c.args.documents.now.entries in
    err_same c.from_residual.result c.in_err-index.field-0.0 (λ (r : Refusal). RefusesIn p ds (commands.patch (string_bytes c.args.name) ops None) r)
    (subst (λ (n : List ℕ). RefusesIn p ds (commands.patch n ops None) c.in_err-index.field-0.0) c.as_str.ensures.value (c.in_err-index.ensures.refused p ops None)) c.from_residual.ensures.1
