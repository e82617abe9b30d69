use Rattle.std.proofs.Common.{◌≡◌, sym, ◌∙◌, ap, refl, Some, None, slice_get, map}
use Rattle.std.specs.Map.{values_of}
use Rattle.std.specs.Option.{option_copied_mut}
use Rattle.std.proofs.lemmas.Result.{MatchResult-weaker}
use Rattle.doc_patch.specs.Meaning.{operations}
use Rattle.record_text.specs.Change as commands
use Rattle.doc_changes.specs.Judged.{RefusesIn}
use Rattle.doc_changes.specs.StateView.{document_of}
use Rattle.doc_changes.specs.declared.refusal.Refusal.{Refusal}
use Rattle.doc_changes.proofs.Judgements.{err_same}
use Rattle.doc_changes.proofs.PatchedAt.{good_at, made_at_for_good, patches_read, refused_at, refuses_read, valid_at}
use Rattle.doc_changes.proofs.patching.patch_read_for_good.Goals as goal

pub perform_for_good-requires : goal.perform_for_good-requires
perform_for_good-requires c =
    let es = c.args.documents.now.entries in
    let was = c.unwrap-stored.result.now in
    valid_at c.args.name.now es c.in_ok-index.index was c.requires c.in_ok-index.ensures.found
    (sym c.get_index_mut.ensures.value ∙ ap option_copied_mut c.unwrap-stored.ensures)

pub returns-clause-made : goal.returns-clause-made
returns-clause-made c = λ p ops read sound.
    let n = c.args.name.now in
    let es = c.args.documents.now.entries in
    let i = c.in_ok-index.index in
    let was = c.unwrap-stored.result.now in
    let new = c.perform_for_good.new.stored in
    let value : slice_get (values_of es) i ≡ Some was = sym c.get_index_mut.ensures.value ∙ ap option_copied_mut c.unwrap-stored.ensures in
    MatchResult-weaker c.perform_for_good.result c.perform_for_good.ensures.made
    (λ _ m. made_at_for_good p n es i was new ops None c.args.revision c.in_ok-index.ensures.found value
    (patches_read ops (operations c.args.changes.now) None c.args.revision was new read sound refl m)) (λ _ h. h)

pub returns-clause-refused : goal.returns-clause-refused
returns-clause-refused c = λ p ops read.
    let n = c.args.name.now in
    let es = c.args.documents.now.entries in
    let i = c.in_ok-index.index in
    let was = c.unwrap-stored.result.now in
    let value : slice_get (values_of es) i ≡ Some was = sym c.get_index_mut.ensures.value ∙ ap option_copied_mut c.unwrap-stored.ensures in
    MatchResult-weaker c.perform_for_good.result c.perform_for_good.ensures.refused (λ _ h. h)
    (λ r h. refused_at p n es i was ops None r c.in_ok-index.ensures.found value
    (refuses_read ops (operations c.args.changes.now) None was r read refl h))

pub returns-clause-good : goal.returns-clause-good
returns-clause-good c = λ marks p seq low good.
    let es = c.args.documents.now.entries in
    let i = c.in_ok-index.index in
    let was = c.unwrap-stored.result.now in
    let value : slice_get (values_of es) i ≡ Some was = sym c.get_index_mut.ensures.value ∙ ap option_copied_mut c.unwrap-stored.ensures in
    MatchResult-weaker c.perform_for_good.result c.perform_for_good.ensures.made
    (λ _ m. good_at c.args.name.now es i was c.perform_for_good.new.stored (operations c.args.changes.now) marks c.args.revision seq p c.in_ok-index.ensures.found value m low good) (λ _ h. h)

pub returns-in_err-index-clause-refused : goal.returns-in_err-index-clause-refused
returns-in_err-index-clause-refused c = λ p ops read.
    err_same c.from_residual.result c.in_err-index.field-0.0 (λ (r : Refusal). RefusesIn p (map document_of c.args.documents.now.entries) (commands.patch c.args.name.now ops None) r)
    (c.in_err-index.ensures.refused p ops None) c.from_residual.ensures.1
