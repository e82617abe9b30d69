-- A disk in memory that was formatted and opened is a store in which nothing was ever made.
use Rattle.std.proofs.Common.{◌≡◌, ◌∙◌, ℕ, List, Bool, true, false, [], None, arith, length, refl, ap, sym}
use Rattle.sector_device.specs.Disk.{Disk, Image}
use Rattle.sector_device.specs.Memory.{mem_coherent, mem_disk, mem_tearing}
use Rattle.sector_device.specs.declared.memory.MemDisk.{MemDisk}
use Rattle.half_journal.specs.States.{one_more}
use Rattle.store_journal.specs.Carries.{Carried, Carries, identity_in}
use Rattle.store_journal.specs.Models.{IsTold, model}
use Rattle.store_journal.specs.Opening.{nothing_in}
use Rattle.doc_changes.specs.State.{empty_in}
use Rattle.store_commits.specs.Account.{Account}
use Rattle.doc_store.specs.Opening.{Opened, carried_after}
use Rattle.store_commits.specs.Images.{AreSpelled, Holds, Stands, StandsForOne, profile_in, version_of_frames}
use Rattle.jpstore.specs.Memory.{new_account}

-- no sector tears
abbrev none_torn : List ℕ → Bool
none_torn sector = false

told_of_none : (sectors : ℕ) → IsTold sectors none_torn
told_of_none sectors = record {
  noticed = λ sector torn verifies. let bad : false ≡ true = torn in cc bad;
  other = λ sector torn commit is fits same. let bad : false ≡ true = torn in cc bad;
}

-- in either disk model a crash may leave what a disk in memory reads
pub seen_left : (rides : Bool) (disk : MemDisk) → (model rides (mem_disk disk)).left (mem_disk disk).seen
seen_left false disk = (mem_coherent disk tt).seen
seen_left true disk = (none_torn, told_of_none (mem_disk disk).sectors, (mem_tearing disk tt none_torn).adds (mem_disk disk).seen (mem_coherent disk tt).seen)

-- an account by its parts
by_parts : (a : Account) (rides : Bool) (sectors : ℕ) → a.state ≡ empty_in (profile_in rides) 0 → a.used ≡ 0 → a.half ≡ 0 → a.rides ≡ rides → a.opens ≡ 1 → a.identity ≡ 0 → a.sectors ≡ sectors → a.broken ≡ false → a.copy ≡ None
    → a ≡ new_account rides sectors
by_parts a rides sectors state used half rides_is opens identity size broken copy =
    λ i. record { state = state i; used = used i; half = half i; rides = rides_is i; opens = opens i; identity = identity i; sectors = size i; broken = broken i; copy = copy i }

-- no entries and no marks are spelled by no bytes
spelled_by_none : (rides : Bool) → AreSpelled (version_of_frames rides 2) [] [] []
spelled_by_none false = record { framed = λ _. (refl, refl); logged = λ three. absurd (omega (arith, three)) }
spelled_by_none true = record {
  framed = λ other. absurd (other refl);
  logged = λ _. record {
    log = record { snapshot = []; transactions = [] };
    is_log = record { in_parts = record { of_snapshot = tt; changed = tt }; framed = tt; noted = tt };
    entries_are = refl;
    notes_are = refl;
    bytes_are = refl;
  };
}

none_held : (rides : Bool) → Holds (profile_in rides) (version_of_frames rides 2) 0 [] [] []
none_held rides = record {
  entries = [];
  notes = [];
  framed = tt;
  dated = λ _. tt;
  spelled = spelled_by_none rides;
  taken = tt;
  documents_are = refl;
  noted = tt;
  marks_are = refl;
}

-- an image of a formatted device stands for no documents
stands_empty : (rides : Bool) (image : Image) → Carries (nothing_in rides 0) image → Stands (empty_in (profile_in rides) 0) image
stands_empty rides image carries = record { carried = nothing_in rides 0; carries = carries; seq_is = refl; profile_is = refl; holds = none_held rides }

no_identity : (rides : Bool) → identity_in rides 0 ≡ 0
no_identity false = refl
no_identity true = refl

pub opened_new : (rides : Bool) (old new : Disk) (account : Account) → ((image : Image) (one other : Carried) → Carries one image → Carries other image → one ≡ other) → StandsForOne
    → new.honest → Carries (nothing_in rides 0) old.seen → Opened old new account → account ≡ new_account rides old.sectors
opened_new rides old new account one_carried one_state honest carries opened =
    let found = opened.found honest in
    let was = sym (opened.found_is honest) ∙ one_carried old.seen found.stands.carried (nothing_in rides 0) found.stands.carries carries in
    let opened_as = opened.opened_as in
    let now = λ (of : Carried → ℕ). ap (λ (w : Carried). of (carried_after w account.state)) was in
    by_parts account rides old.sectors (one_state old.seen account.state (empty_in (profile_in rides) 0) found.stands (stands_empty rides old.seen carries)) (opened_as.used_is ∙ now (λ c. length c.bytes)) (opened_as.half_is ∙ now (λ c. c.half)) (opened_as.rides_is ∙ ap (λ (w : Carried). w.rides) was) (opened_as.opens_is ∙ ap (λ (w : Carried). one_more w.opens) was) (opened_as.identity_is ∙ ap (λ (w : Carried). w.identity) was ∙ no_identity rides) opened.sectors_is opened.works opened.no_copy
