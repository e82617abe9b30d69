-- Documents that are made of a part.
use Rattle.std.proofs.Common.{◌≡◌, ◌<◌, ℕ, List, length, get_or, Option, Some, None, sym, subst, slice_get, refl}
use Rattle.std.proofs.lemmas.Option.{slice_get_read}
use Rattle.sector_device.specs.Disk.{Image}
use Rattle.store_parts.specs.declared.findings.Findings.{Findings}
use Rattle.store_parts.specs.declared.part.Part.{Part}
use Rattle.doc_changes.specs.State.{State}
use Rattle.store_salvage.specs.Gathering.{Gathers}
use Rattle.store_salvage.specs.declared.taking.Doubt.{Doubt}
use Rattle.store_salvage.specs.declared.taking.Source.{Source}
use Rattle.store_salvage.specs.Making.{IsMade, IsMadeOf, IsOfCommit}
use Rattle.store_salvage.specs.declared.making.Made.{Made}

no_commit : (seq : Option ℕ) (made : Made) → seq ≡ None → IsOfCommit seq made
no_commit seq made none = subst (λ (o : Option ℕ). IsOfCommit o made) (sym none) tt

of_first : (seq : Option ℕ) (made : Made) → made.part ≡ 0 → IsOfCommit seq made
of_first None made first = tt
of_first (Some n) made first = first

-- the element at a place
pub there : {T : Type 0} (xs items : List T) (i : ℕ) (x : T) → xs ≡ items → i < length xs → x ≡ get_or xs i x → slice_get items i ≡ Some x
there xs items i x same lt is = subst (λ l. slice_get l i ≡ Some x) same (slice_get_read xs (length xs) i x refl lt is)

-- of the one at that place, if no commit counts
pub made_without : (image : Image) (found : Findings) (place : ℕ) (part : Part) (made : Made) → found.seq ≡ None → slice_get found.parts.items place ≡ Some part → made.part ≡ place → IsMadeOf image found part made
    → IsMade image found made
made_without image found place part made none is at of = record { part = part; is = subst (λ (n : ℕ). slice_get found.parts.items n ≡ Some part) (sym at) is; of_commit = no_commit found.seq made none; made_of = of }

-- of the first
pub made_first : (image : Image) (found : Findings) (part : Part) (made : Made) → slice_get found.parts.items 0 ≡ Some part → made.part ≡ 0 → IsMadeOf image found part made → IsMade image found made
made_first image found part made is at of = record { part = part; is = subst (λ (n : ℕ). slice_get found.parts.items n ≡ Some part) (sym at) is; of_commit = of_first found.seq made at; made_of = of }

-- the same, in other words
pub gathers_by : (source want : Source) (bytes b : List ℕ) (parts ps : List Part) (old s : State) (doubts : List Doubt) (last : ℕ) (new : State) → source ≡ want → bytes ≡ b → parts ≡ ps → old ≡ s
    → Gathers source bytes parts old doubts last new → Gathers want b ps s doubts last new
gathers_by source want bytes b parts ps old s doubts last new source_is bytes_is parts_are old_is all =
    subst (λ (x : Source). Gathers x b ps s doubts last new) source_is
    (subst (λ (x : List ℕ). Gathers source x ps s doubts last new) bytes_is
    (subst (λ (x : List Part). Gathers source bytes x s doubts last new) parts_are (subst (λ (x : State). Gathers source bytes parts x doubts last new) old_is all)))
