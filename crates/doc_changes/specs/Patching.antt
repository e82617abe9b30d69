-- For the clauses within the crate: a patch of what is kept, judged and made in its place.
use Rattle.std.specs.Prelude.{◌≡◌, ◌⊎◌, ℕ, ◌<◌, List, Option, None, Some, Result, Ok, [], ◌∷◌, length, position, bytes_eq, String, string_bytes}
use Rattle.std.specs.Map.{keys_of}
use Rattle.std.specs.Result.{result_err}
use Rattle.std.specs.declared.alloc.Global.{Global}
use Rattle.doc_tree.specs.Doc.{Doc}
use Rattle.doc_tree.specs.Sound.{IsSound}
use Rattle.doc_tree.specs.TreeView.{view}
use Rattle.doc_tree.specs.declared.tree.Tree.{Tree}
use Rattle.doc_patch.specs.Measured.{Reverses}
use Rattle.doc_patch.specs.Reading.{operations_of}
use Rattle.doc_patch.specs.declared.document.Reversal.{Reversal}
use Rattle.refusals.specs.declared.numbers.TheConstants.{MEMORY}
use Rattle.doc_changes.specs.Refusals.{plain, first}
use Rattle.doc_changes.specs.declared.refusal.Refusal.{Refusal}
use Rattle.doc_changes.specs.Held.{held_by}
use Rattle.doc_changes.specs.Patched.{patched, on_made}
use Rattle.doc_changes.specs.Step.{invalid_refusal, name_refusal, revision_refusal}
use Rattle.doc_changes.specs.declared.stored.Stored.{Stored}

-- it is a name, and this is the index of its entry
pub record StandsAt (n : List ℕ) (es : List (String Global × Stored)) (i : ℕ) : Type 0 where
  pub named : name_refusal n ≡ None
  pub at : position (λ k. bytes_eq n (string_bytes k)) (keys_of es) ≡ Some i
  pub within : i < length es

-- what came out of the old document is valid, and is what the new is, with that revision
pub record MakesForGood (outcome : Result Doc Refusal) (rev : ℕ) (old new : Stored) : Type 0 where
  pub made : outcome ≡ Ok new.doc
  pub valid : invalid_refusal (view old.schema) new.doc ≡ None
  pub schema : view new.schema ≡ view old.schema
  pub revision : new.revision ≡ rev
  pub tree : Tree
  pub tree_is : view tree ≡ new.doc
  pub sound : IsSound new.doc

-- the patch isn't refused, and makes of the old what the new is
pub record PatchesForGood (ops : Doc) (if_rev : Option ℕ) (rev : ℕ) (old new : Stored) : Type 0 where
  pub asked : revision_refusal if_rev old.revision ≡ None
  pub sound_ops : IsSound ops
  pub makes : MakesForGood (patched ops old.doc) rev old new

-- the same, and the reversal leads back and says what was taken
pub record Patches (ops : Doc) (if_rev : Option ℕ) (rev : ℕ) (old new : Stored) (r : Reversal) : Type 0 where
  pub made : PatchesForGood ops if_rev rev old new
  pub back : Reverses r new.doc old.doc
  pub held : r.held ≡ held_by (operations_of ops) old.doc

-- the refusal is the first of what came out of the old document under the schema, or memory was refused
abbrev pub RefusesOutcome : Doc → Result Doc Refusal → Refusal → Type 0
RefusesOutcome schema outcome r = (r ≡ plain MEMORY) ⊎ (first (result_err outcome ∷ on_made (invalid_refusal schema) outcome ∷ []) ≡ Some r)

-- the same under the schema that is kept
abbrev pub RefusesMade : Result Doc Refusal → Stored → Refusal → Type 0
RefusesMade outcome old r = RefusesOutcome (view old.schema) outcome r

-- the refusal is the first that what is kept gives, or memory was refused
abbrev pub RefusesPatch : Doc → Option ℕ → Stored → Refusal → Type 0
RefusesPatch ops if_rev old r =
    (r ≡ plain MEMORY) ⊎ (first (revision_refusal if_rev old.revision ∷ result_err (patched ops old.doc) ∷ on_made (invalid_refusal (view old.schema)) (patched ops old.doc) ∷ []) ≡ Some r)
