-- What is gathered, call by call.
use Rattle.std.proofs.Common.{◌≡◌, ℕ, ◌+◌, ◌<◌, List, [], length, set, get_or, ap, subst, sym, ◌∙◌, arith, Bool, Option}
use Rattle.std.specs.declared.snapshot.Snapshot.{Snapshot}
use Rattle.std.proofs.lemmas.List.{get_or-set_same}
use Rattle.sector_device.specs.Disk.{Image}
use Rattle.sector_device.specs.History.{seen_after, OrWritten, left_by, KeepsTo}
use Rattle.sector_device.specs.declared.history.History.{History, Read, Written, Synced}
use Rattle.file_device.specs.Runs.{put_run, IsOverSome, IsGathered}
use Rattle.file_device.proofs.Runs.{over_self, over_nothing, over_again, gathered_left, put_run_more, put_run_set}

-- the system was told all, and the run is as the file has its first sectors
pub all_told : (sectors : ℕ) (told history : History) (first : ℕ) (run : Image) (fetched : ℕ) → seen_after history ≡ seen_after told → ((torn : Option (List ℕ → Bool)) (image : Image) → left_by torn told image → left_by torn history image) → (KeepsTo sectors told → KeepsTo sectors history)
    → (KeepsTo sectors told → (j : ℕ) → j < fetched → get_or run j [] ≡ get_or (seen_after history) (first + j) []) → IsGathered sectors told history first run 0 fetched
all_told sectors told history first run fetched seen left honest gives = record {
  seen = seen;
  left = λ torn image some. left torn image (subst (left_by torn told) (sym (over_nothing torn first run some.0 image some.2)) some.1);
  honest = honest;
  gives = gives;
}

none_fetched : (P : Type 0) (run : Image) (other : ℕ → List ℕ) → P → (j : ℕ) → j < 0 → get_or run j [] ≡ other j
none_fetched P run other is j lt = absurd (omega (arith, lt))

pub nothing_gathered : (sectors : ℕ) (told history : History) (first : ℕ) (run : Image) → told ≡ history → IsGathered sectors told history first run 0 0
nothing_gathered sectors told history first run is =
    all_told sectors told history first run 0 (ap seen_after (sym is)) (λ torn image. subst (λ (h : History). left_by torn h image) is) (subst (KeepsTo sectors) is) (none_fetched (KeepsTo sectors told) run (λ j. get_or (seen_after history) (first + j) []))

module _ (sectors : ℕ) (told history : History) (first : ℕ) (run : Image) (gathered fetched : ℕ) (kept : IsGathered sectors told history first run gathered fetched) where
  pub forgotten : IsGathered sectors told history first run gathered 0
  forgotten = record { seen = kept.seen; left = kept.left; honest = kept.honest; gives = none_fetched (KeepsTo sectors told) run (λ j. get_or (seen_after history) (first + j) []) }

  module _ (now : History) (left : (torn : Option (List ℕ → Bool)) (image : Image) → left_by torn now image → IsOverSome torn (left_by torn told) first run gathered image) (honest : KeepsTo sectors now → KeepsTo sectors told) where
    pub handed_over : seen_after now ≡ put_run (seen_after told) first run gathered → IsGathered sectors now history first run 0 fetched
    handed_over seen = all_told sectors now history first run fetched (kept.seen ∙ sym seen) (λ torn image is. kept.left torn image (left torn image is)) (λ keeps. kept.honest (honest keeps)) (λ keeps. kept.gives (honest keeps))

    pub not_handed_over : seen_after now ≡ seen_after told → IsGathered sectors now history first run gathered fetched
    not_handed_over seen = record {
      seen = kept.seen ∙ ap (λ (image : Image). put_run image first run gathered) (sym seen);
      left = λ torn image some. let was = left torn some.0 some.1 in kept.left torn image (was.0, was.1, over_again torn first run gathered was.0 some.0 image was.2 some.2);
      honest = λ keeps. kept.honest (honest keeps);
      gives = λ keeps. kept.gives (honest keeps);
    }

  -- one write more
  pub one_more : (of : Snapshot History) (at : ℕ) (content : Snapshot (List ℕ)) (sector : List ℕ) → of.value ≡ history → content.value ≡ sector → length sector ≡ 512 → first + gathered ≡ at → gathered < length run
      → IsGathered sectors told (Written of at content) first (set run gathered sector) (gathered + 1) 0
  one_more of at content sector is holds whole there inside = record {
    seen = ap (λ (h : History). set (seen_after h) at content.value) is ∙ ap (λ (s : List ℕ). set (seen_after history) at s) holds ∙ ap (λ (n : ℕ). set (seen_after history) n sector) (sym there) ∙ ap (λ (image : Image). set image (first + gathered) sector) kept.seen
        ∙ sym (put_run_more (seen_after told) first (set run gathered sector) gathered ∙ ap (λ (image : Image). set image (first + gathered) (get_or (set run gathered sector) gathered [])) (put_run_set (seen_after told) first run gathered sector gathered (omega arith))
        ∙ ap (λ (s : List ℕ). set (put_run (seen_after told) first run gathered) (first + gathered) s) (get_or-set_same run gathered sector [] inside));
    left = λ torn image some. subst (λ (h : History). OrWritten torn (left_by torn h) at content.value image) (sym is) (subst (λ (s : List ℕ). OrWritten torn (left_by torn history) at s image) (sym holds) (subst (λ (n : ℕ). OrWritten torn (left_by torn history) n sector image) there
        (gathered_left torn first run gathered sector inside some.0 image some.2 (left_by torn history) (λ i over. kept.left torn i (some.0, some.1, over)))));
    honest = λ keeps. (subst (KeepsTo sectors) (sym is) (kept.honest keeps), ap length holds ∙ whole);
    gives = none_fetched (KeepsTo sectors told) (set run gathered sector) (λ j. get_or (set (seen_after of.value) at content.value) (first + j) []);
  }

  -- a read of a sector that was fetched
  pub one_read : (of : Snapshot History) (at : ℕ) (content : Snapshot (List ℕ)) (place : ℕ) → of.value ≡ history → content.value ≡ get_or run place [] → place < fetched → first + place ≡ at
      → IsGathered sectors told (Read of at content) first run gathered fetched
  one_read of at content place is holds below there = record {
    seen = ap seen_after is ∙ kept.seen;
    left = λ torn image some. subst (λ (h : History). left_by torn h image) (sym is) (kept.left torn image some);
    honest = λ keeps. (subst (KeepsTo sectors) (sym is) (kept.honest keeps), holds ∙ kept.gives keeps place below ∙ ap (λ (n : ℕ). get_or (seen_after history) n []) there ∙ ap (λ (h : History). get_or (seen_after h) at []) (sym is));
    gives = λ keeps j lt. kept.gives keeps j lt ∙ ap (λ (h : History). get_or (seen_after h) (first + j) []) (sym is);
  }

-- once all is handed over
module _ (sectors : ℕ) (told history : History) (first : ℕ) (run : Image) (gathered fetched : ℕ) (none : gathered ≡ 0) (kept : IsGathered sectors told history first run gathered fetched) where
  same_seen : seen_after history ≡ seen_after told
  same_seen = kept.seen ∙ ap (put_run (seen_after told) first run) none

  same_left : (torn : Option (List ℕ → Bool)) (image : Image) → left_by torn told image → left_by torn history image
  same_left torn image is = kept.left torn image (image, is, over_self torn first run gathered image)

  as_many : (now later : History) (at : ℕ) (found : Image) (count : ℕ) → IsGathered sectors now later at found 0 count → IsGathered sectors now later at found gathered count
  as_many now later at found count = subst (λ (n : ℕ). IsGathered sectors now later at found n count) (sym none)

  pub elsewhere : (at : ℕ) → IsGathered sectors told history at run gathered 0
  elsewhere at = as_many told history at run 0 (all_told sectors told history at run 0 same_seen same_left kept.honest (none_fetched (KeepsTo sectors told) run (λ j. get_or (seen_after history) (at + j) [])))

  module _ (now : History) (seen : seen_after now ≡ seen_after told) (left : (torn : Option (List ℕ → Bool)) (image : Image) → left_by torn now image → left_by torn told image) (honest : KeepsTo sectors now → KeepsTo sectors told) where
    pub fetched_run : (at : ℕ) (found : Image) (count : ℕ) → (KeepsTo sectors now → (j : ℕ) → j < count → get_or found j [] ≡ get_or (seen_after told) (at + j) []) → IsGathered sectors now history at found gathered count
    fetched_run at found count gave =
        as_many now history at found count
        (all_told sectors now history at found count (same_seen ∙ sym seen) (λ torn image is. same_left torn image (left torn image is)) (λ keeps. kept.honest (honest keeps)) (λ keeps j lt. gave keeps j lt ∙ ap (λ (image : Image). get_or image (at + j) []) (sym same_seen)))

    pub settled_left : ((torn : Option (List ℕ → Bool)) (image : Image) → left_by torn now image → image ≡ seen_after told) → (torn : Option (List ℕ → Bool)) (image : Image) → left_by torn now image → image ≡ seen_after history
    settled_left settled torn image is = settled torn image is ∙ sym same_seen

    pub tried_to_sync : IsGathered sectors now history first run gathered 0
    tried_to_sync = fetched_run first run 0 (none_fetched (KeepsTo sectors now) run (λ j. get_or (seen_after told) (first + j) []))

  -- a sync that is noted
  pub one_synced : (of : Snapshot History) → of.value ≡ history → ((torn : Option (List ℕ → Bool)) (image : Image) → left_by torn told image → image ≡ seen_after history) → IsGathered sectors told (Synced of) first run gathered 0
  one_synced of is left =
      as_many told (Synced of) first run 0
      (all_told sectors told (Synced of) first run 0 (ap seen_after is ∙ same_seen) (λ torn image there. left torn image there ∙ ap seen_after (sym is)) (λ keeps. subst (KeepsTo sectors) (sym is) (kept.honest keeps)) (none_fetched (KeepsTo sectors told) run (λ j. get_or (seen_after of.value) (first + j) [])))
