-- What is known of a value at a place.
use Rattle.std.proofs.Common.{◌≡◌, ℕ, Option, Some, None, sym, subst, ◌∙◌}
use Rattle.doc_tree.specs.Doc.{Doc}
use Rattle.doc_edits.specs.Change.{tokens_of}
use Rattle.doc_edits.specs.Edit as edit
use Rattle.doc_edits.specs.SizeChange.{IsBytes, IsKnown, IsOf, IsWeightOf}
use Rattle.doc_edits.specs.declared.size_change.KnownPlace.{KnownPlace}
use Rattle.doc_edits.specs.declared.size_change.ValueSize.{ValueSize}
use Rattle.doc_edits.proofs.Places.{added_only}

-- what was known of a value is known of what stands where it was added
pub put_known : (k : KnownPlace) (v d e : Doc) → edit.add (tokens_of k.path.now) v d ≡ Some e → IsOf k.extent v → (x : KnownPlace) → Some k ≡ Some x → IsKnown x e
put_known k v d e made is x same =
    let at : k ≡ x = cc in
    subst (λ (y : KnownPlace). IsKnown y e) at (λ w there. subst (IsOf k.extent) (sym (added_only (tokens_of k.path.now) v w d e made there)) is)

len_of : (o : Option ℕ) (n x : ℕ) → IsBytes o n → o ≡ Some x → x ≡ n
len_of None n x h e = absurd (cc)
len_of (Some m) n x h e = let at : m ≡ x = cc in sym at ∙ h

-- a weight is known of its value
pub weighed : (w : ValueSize) (v : Doc) → IsWeightOf w v → IsOf (record { height = Some w.height; len = w.len }) v
weighed w v h = (λ x e. let at : w.height ≡ x = cc in sym at ∙ h.0, λ x e. len_of w.len _ x h.1 e)
