-- What a crash of a disk in memory leaves, in the disk model of either format.
use Rattle.std.proofs.Common.{◌≡◌, ◌≢◌, ◌⊎◌, inl, inr, ⊎_elim, ℕ, ◌<◌, ◌≤◌, ◌/◌, List, [], ◌∷◌, ◌++◌, length, get_or, set, length-set, refl, sym, ◌∙◌, ap, subst, arith, Bool, true, false, All, Option, Some, None}
use Rattle.std.proofs.Math.Seq.{get_or-append_seam}
use Rattle.std.proofs.lemmas.Bool.{cases_eq}
use Rattle.std.proofs.lemmas.List.{ext_get_or, get_or-set_other, get_or-set_same, length-append}
use Rattle.sector_device.specs.Disk.{Image, IsDamage, IsTearing, IsTornFrom, OrReplaced, OrTorn, tearing}
use Rattle.sector_device.specs.Fuse.{fuse_disk}
use Rattle.sector_device.specs.History.{left_by}
use Rattle.sector_device.specs.Memory.{mem_coherent, mem_disk, mem_tearing}
use Rattle.sector_device.specs.declared.fuse.Fuse.{Fuse}
use Rattle.sector_device.specs.declared.history.History.{History, Opened, Created, Read', Written', WriteFailed', Synced'}
use Rattle.sector_device.specs.declared.memory.MemDisk.{MemDisk}
use Rattle.store_journal.specs.Models.{IsTold, model}
use Rattle.store_journal.proofs.Weak.{never}
use Rattle.doc_changes.specs.State.{State}
use Rattle.store_commits.specs.Account.{Account}
use Rattle.store_commits.specs.Images.{Stands, rides_for}
use Rattle.store_commits.specs.Events.{Event}
use Rattle.store_commits.proofs.Changes.{profile_each}
use Rattle.doc_store.specs.Ending.{TimedIf}
use Rattle.doc_store.specs.Lives.{CrashKeeps, CrashesKeep, IsLife, events_of}
use Rattle.doc_store.specs.Opening.{LacksRoom, MayLackRoom}
use Rattle.doc_store.specs.Timed.{HasOneImage, Left}
use Rattle.doc_store.specs.declared.life.Part.{Part}
use Rattle.doc_store.specs.declared.life.Life.{Life}
use Rattle.doc_store.proofs.Ending.{riding_has_room}
use Rattle.doc_store.proofs.Rides.{model_adds}

-- ---- a write that tears nothing

whole : (at : ℕ) (content : List ℕ) (before image : Image) → IsTornFrom never at content before image → (image ≡ before) ⊎ (image ≡ set before at content)
whole at content before image from = by (from.each at)
  where
    other : (k : ℕ) → k ≢ at → get_or image k [] ≡ get_or before k []
    other k ne = ⊎_elim (λ same. same) (⊎_elim (λ here. absurd (ne here.0)) (λ damage. absurd (cc damage.1.1))) (from.each k)

    same_all : get_or image at [] ≡ get_or before at [] → (k : ℕ) → k < length image → get_or image k [] ≡ get_or before k []
    same_all same k lt = ⊎_elim (λ is. subst (λ (j : ℕ). get_or image j [] ≡ get_or before j []) (sym is) same) (other k) (cases_eq k at)

    set_all : get_or image at [] ≡ content → (k : ℕ) → k < length image → get_or image k [] ≡ get_or (set before at content) k []
    set_all here k lt =
        ⊎_elim
        (λ is. let inside : at < length before = let size = from.size in omega (arith, lt, is, size) in ap (λ (j : ℕ). get_or image j []) is ∙ here ∙ sym (ap (λ (j : ℕ). get_or (set before at content) j []) is ∙ get_or-set_same before at content [] inside))
        (λ ne. other k ne ∙ sym (get_or-set_other before at k content [] ne)) (cases_eq k at)

    by : (get_or image at [] ≡ get_or before at []) ⊎ ((at ≡ at) × (get_or image at [] ≡ content)) ⊎ ((at / 8 ≡ at / 8) × IsDamage never (get_or image at [])) → (image ≡ before) ⊎ (image ≡ set before at content)
    by (inl same) = inl (ext_get_or [] image before from.size (same_all same))
    by (inr (inl here)) = inr (ext_get_or [] image (set before at content) (from.size ∙ sym (length-set before at content)) (set_all here.1))
    by (inr (inr damage)) = absurd (cc damage.1.1)

written : (left torn : Image → Type 0) (at : ℕ) (content : List ℕ) → ((image : Image) → torn image → left image) → (image : Image) → OrTorn never torn at content image → OrReplaced left at content image
written left torn at content each image is =
    ⊎_elim (λ same. inl (subst left (sym same) (each is.0 is.1))) (λ new. inr (is.0, each is.0 is.1, new)) (whole at content is.0 image is.2)

untorn : (history : History) (image : Image) → left_by (Some never) history image → left_by None history image
untorn (Opened held) image left = left
untorn (Created sectors) image left = left
untorn (Read' p earlier at content) image left = untorn earlier image left
untorn (Written' p earlier at content) image left = written (left_by None earlier) (left_by (Some never) earlier) at content.value (untorn earlier) image left
untorn (WriteFailed' p earlier at content) image left = written (left_by None earlier) (left_by (Some never) earlier) at content.value (untorn earlier) image left
untorn (Synced' p earlier) image left = left

-- ---- a crash

-- it leaves an image of the model, if it keeps to that
pub crash_leaves : (rides : Bool) (life : Life) (before after : MemDisk) → CrashKeeps rides life → ((torn : List ℕ → Bool) → All (λ d. IsDamage torn d.content) life.damage.items → (tearing torn (mem_disk before)).left (mem_disk after).seen)
    → (model rides (mem_disk before)).left (mem_disk after).seen
crash_leaves false life before after keeps one =
    untorn before.history (mem_disk after).seen (one never (λ k d lt. absurd (let none = ap length keeps in let no : ⊥ = omega (arith, lt, none) in no)))
crash_leaves true life before after keeps one = (keeps.0, keeps.1 (mem_disk before).sectors, one keeps.0 keeps.2)

-- and then there is no other
pub alone_in : (rides : Bool) (after : MemDisk) → ((torn : List ℕ → Bool) (image : Image) → (tearing torn (mem_disk after)).left image → image ≡ (mem_disk after).seen) → HasOneImage rides (mem_disk after)
alone_in false after alone image left = alone never image ((mem_tearing after tt never).adds image left)
alone_in true after alone image left = alone left.0 image left.2

-- a disk is one of the images that it may leave
pub mem_here : (rides : Bool) (disk : MemDisk) → (model rides (mem_disk disk)).left (mem_disk disk).seen
mem_here rides disk = model_adds rides (mem_disk disk) (mem_tearing disk tt) (mem_disk disk).seen (mem_coherent disk tt).seen

-- ---- through a fuse

pub fuse_out : (rides : Bool) (fuse : Fuse MemDisk) (image : Image) → (model rides (fuse_disk mem_disk fuse)).left image → (model rides (mem_disk fuse.device)).left image
fuse_out false fuse image left = left
fuse_out true fuse image left = left

pub fuse_in : (rides : Bool) (fuse : Fuse MemDisk) (image : Image) → (model rides (mem_disk fuse.device)).left image → (model rides (fuse_disk mem_disk fuse)).left image
fuse_in false fuse image left = left
fuse_in true fuse image left = left

-- ---- of lives

-- a life keeps the profile
life_profile : (accounts : Option (Account × Account)) (s : State) (events : List Event) (part : Part) (t : State) → IsLife accounts s events part t → t.profile ≡ s.profile
life_profile (Some a) s events part t is = ap (λ (x : State). x.profile) is.leaves ∙ profile_each s is.kept_ones
life_profile None s events part t is = ap (λ (x : State). x.profile) is.1

pub lived_profile : (so : Type 0) (l : Left) (life : Life) (part : Part) (t : Left) → TimedIf so l (life ∷ []) (part ∷ []) t → t.state.profile ≡ l.state.profile
lived_profile so l life part t lived = ap (λ (x : Left). x.state.profile) lived.4 ∙ life_profile lived.1 l.state (events_of life) part lived.0.state lived.2

-- a half that lacks room after a crash lacked it before
pub crash_rooms : (rides : Bool) (s t : State) (before after : MemDisk) → rides_for s.profile ≡ rides → t.profile ≡ s.profile → Stands t (mem_disk after).seen → HasOneImage false (mem_disk after) → (model rides (mem_disk before)).left (mem_disk after).seen
    → MayLackRoom (mem_disk after) → MayLackRoom (mem_disk before)
crash_rooms false s t before after is same stands alone left lacks = ((mem_disk after).seen, left, subst LacksRoom (alone lacks.0 lacks.1) lacks.2)
crash_rooms true s t before after is same stands alone left lacks = absurd (riding_has_room t (mem_disk after).seen (ap rides_for same ∙ is) stands (subst LacksRoom (alone lacks.0 lacks.1) lacks.2))

-- the crash of each keeps to it
pub keeps_at : (s : State) (before : List Life) (life : Life) (rest : List Life) → CrashesKeep s (before ++ life ∷ rest) → CrashKeeps (rides_for s.profile) life
keeps_at s before life rest all =
    let count = length-append before (life ∷ rest) in
    subst (CrashKeeps (rides_for s.profile)) (get_or-append_seam before life rest life) (all (length before) life (omega (arith, count)))
