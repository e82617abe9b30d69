-- A schema that is equal to a document's is accepted as that is.
use Rattle.std.proofs.Common.{◌≡◌, ℕ, List, Option, None, Some, Result, Ok, Err, IfOk, subst, slice_get}
use Rattle.std.specs.Option.{IfSome}
use Rattle.doc_tree.specs.Doc.{Doc}
use Rattle.doc_tree.specs.Sound.{IsSound}
use Rattle.doc_tree.specs.TreeView.{view}
use Rattle.doc_tree.specs.declared.tree.Tree.{Tree}
use Rattle.doc_schema.specs.Faults.{IsFaultless}
use Rattle.schema_rules.specs.declared.profile.Profile.{Profile}
use Rattle.doc_changes.specs.Schema.{IsAccepted}
use Rattle.doc_changes.specs.State.{Document, State, Good, IsStorable, find}
use Rattle.doc_changes.proofs.EachOffered.{all_at}
use Rattle.doc_changes.proofs.Goodness.{all_found}
use Rattle.doc_changes.proofs.Schemas.{NoneIsFound, unrefused}

module _ (none_is_found : (profile : Profile) → NoneIsFound profile) (s : State) (good : Good s) (d : Document) (schema : Doc) (same : d.schema ≡ schema) where
  accepted : IsStorable d → IsFaultless s.profile d.schema → IsAccepted s.profile schema
  accepted storable offered =
      let faultless = subst (IsFaultless s.profile) same offered in
      (unrefused s.profile (none_is_found s.profile) schema faultless, faultless, subst IsSound same storable.schema_sound)

  -- that of the one at a place
  pub accepted_at : (place : ℕ) → slice_get s.documents place ≡ Some d → IsAccepted s.profile schema
  accepted_at place at =
      accepted (all_at IsStorable s.documents place d at good.storable) (all_at (λ (x : Document). IsFaultless s.profile x.schema) s.documents place d at good.offered)

  -- that of the one of a name
  pub accepted_named : (name : List ℕ) → find name s.documents ≡ Some d → IsAccepted s.profile schema
  accepted_named name found =
      accepted (all_found IsStorable name s.documents d good.storable found) (all_found (λ (x : Document). IsFaultless s.profile x.schema) name s.documents d good.offered found)

-- what follows of a schema that is equal follows of the one that is shared
pub shared_so : {E T : Type 0} (r : Result (Option Tree) E) (source was : Doc) → (was ≡ source → T) → IfOk r (λ found. IfSome found (λ s. (view s ≡ source) × (was ≡ source)))
    → IfOk r (λ found. IfSome found (λ s. (view s ≡ source) × T))
shared_so (Err e) source was make h = tt
shared_so (Ok None) source was make h = tt
shared_so (Ok (Some s)) source was make h = (h.0, make h.1)
