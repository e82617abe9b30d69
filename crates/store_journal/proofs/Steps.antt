-- A journal after a call, said of what it is seen as.
use Rattle.std.proofs.Common.{◌≡◌, inl, ℕ, ◌+◌, ◌≤◌, List, Bool, true, false, refl, ap, subst, sym, ◌∙◌, arith, if◌then◌else◌}
use Rattle.sector_device.specs.Charges.{Failed, Made}
use Rattle.sector_device.specs.Disk.{Disk, IsCoherent, IsTearing, LeavesOnly}
use Rattle.sector_device.proofs.Moments.{started}
use Rattle.sector_device.specs.declared.device.SectorDevice.{Ghosts}
use Rattle.store_journal.specs.Calls.{Became, Broke, Stays}
use Rattle.store_journal.specs.Carries.{Carried, EitherCarried}
use Rattle.store_journal.specs.Fields.{IsSound, view_of}
use Rattle.store_journal.specs.Held.{HasRoom, IsFormed, IsOf, Numbers, bytes_in, numbers_after, numbers_of}
use Rattle.store_journal.specs.JournalView.{JournalView, carried_of}
use Rattle.store_journal.specs.Layout.{capacity_of}
use Rattle.store_journal.specs.Models.{model}
use Rattle.store_journal.specs.declared.held.Held.{Held}
use Rattle.store_journal.specs.declared.journal.Journal.TheInside.{Inside}
use Rattle.store_journal.proofs.Lifts.{form_of, formed_by, used_is}
use Rattle.store_journal.proofs.Seen.{carried_by, held_is}
use Rattle.store_journal.proofs.Weak.{model_coherent}

module _ {D : Type 0} {G : Ghosts D} where
  -- what is known of a state is known of what is seen
  pub sound_of : (fields : Inside D G) (c : Carried) → IsCoherent (G.disk fields.device) → ((torn : List ℕ → Bool) → IsTearing torn (G.disk fields.device)) → IsOf (G.disk fields.device) fields.held c → IsOf (G.disk fields.device) fields.held (carried_of (view_of fields))
  sound_of fields c coherent tears is = subst (IsOf (G.disk fields.device) fields.held) (sym (held_is (G.disk fields.device) coherent tears fields.held c (formed_by fields) is)) is

  -- a call that succeeded
  pub became : (j new : Inside D G) (next : Carried) (used size calls blocks : ℕ) → numbers_of new.held ≡ numbers_after (numbers_of j.held) next.version next.half used next.seq next.opens blocks → used ≡ size → (numbers_of j.held).rides ≡ next.rides → (numbers_of j.held).identity ≡ next.identity → new.broken ≡ false
      → ((G.disk j.device).honest → bytes_in (G.disk new.device).seen new.held ≡ next.bytes) → Made (G.disk j.device) (G.disk new.device) calls → Became (G.disk j.device) (G.disk new.device) (view_of j) (view_of new) next size calls
  became j new next used size calls blocks numbers size_is rides identity works bytes made = record {
    bytes = bytes;
    used = used_is new ∙ ap (λ (n : Numbers). n.used) numbers ∙ size_is;
    version = ap (λ (n : Numbers). n.version) numbers;
    rides = ap (λ (n : Numbers). n.rides) numbers ∙ rides;
    half = ap (λ (n : Numbers). n.half) numbers;
    seq = ap (λ (n : Numbers). n.seq) numbers;
    opens = ap (λ (n : Numbers). n.opens) numbers;
    identity = ap (λ (n : Numbers). n.identity) numbers ∙ identity;
    sectors = ap (λ (n : Numbers). n.sectors) numbers;
    works = works;
    settled = ap (λ (n : Numbers). n.settled) numbers;
    next = ap (λ (n : Numbers). n.next) numbers ∙ ap (λ (b : Bool). if b then (numbers_of j.held).next + 1 else 0) rides;
    made = made;
  }

  -- the bytes and the numbers stay, if that disk is honest
  pub stays_if : (disk : Disk) (j new : Inside D G) → numbers_of new.held ≡ numbers_of j.held → (disk.honest → bytes_in (G.disk new.device).seen new.held ≡ (view_of j).bytes) → Stays disk (view_of j) (view_of new)
  stays_if disk j new numbers bytes = record {
    bytes = bytes;
    used = used_is new ∙ ap (λ (n : Numbers). n.used) numbers ∙ sym (used_is j);
    seq = ap (λ (n : Numbers). n.seq) numbers;
    version = ap (λ (n : Numbers). n.version) numbers;
    rides = ap (λ (n : Numbers). n.rides) numbers;
    half = ap (λ (n : Numbers). n.half) numbers;
    opens = ap (λ (n : Numbers). n.opens) numbers;
    identity = ap (λ (n : Numbers). n.identity) numbers;
    sectors = ap (λ (n : Numbers). n.sectors) numbers;
    settled = ap (λ (n : Numbers). n.settled) numbers;
    next = ap (λ (n : Numbers). n.next) numbers;
    blocks = ap (λ (n : Numbers). n.blocks) numbers;
  }

  pub stays : (j new : Inside D G) → numbers_of new.held ≡ numbers_of j.held → ((G.disk j.device).honest → bytes_in (G.disk new.device).seen new.held ≡ (view_of j).bytes) → Stays (G.disk j.device) (view_of j) (view_of new)
  stays j new = stays_if (G.disk j.device) j new

  -- a call that the device failed
  pub broke : (j new : Inside D G) (calls : ℕ) → new.broken ≡ true → numbers_of new.held ≡ numbers_of j.held → ((G.disk j.device).honest → bytes_in (G.disk new.device).seen new.held ≡ (view_of j).bytes) → Failed (G.disk j.device) (G.disk new.device) calls
      → Broke (G.disk j.device) (G.disk new.device) calls (view_of j) (view_of new)
  broke j new calls broken numbers bytes failed = record { stays = stays j new numbers bytes; broken = broken; failed = failed }

  pub sound_after : (fields : Inside D G) (c : Carried) → ((device : D) → (G.disk device).honest → IsCoherent (G.disk device)) → ((device : D) → (G.disk device).honest → (torn : List ℕ → Bool) → IsTearing torn (G.disk device))
      → ((G.disk fields.device).honest → fields.broken ≡ false → IsOf (G.disk fields.device) fields.held c) → IsSound fields
  sound_after fields c coherent tears is honest works = sound_of fields c (coherent fields.device honest) (tears fields.device honest) (is honest works)

  -- no call was made
  pub unmoved : (fields : Inside D G) (view : JournalView D) (next : Carried) → view_of fields ≡ view → IsCoherent (G.disk fields.device) → ((torn : List ℕ → Bool) → IsTearing torn (G.disk fields.device)) → IsOf (G.disk fields.device) fields.held (carried_of (view_of fields))
      → LeavesOnly (model view.rides (G.disk view.device)) (model view.rides (G.disk view.device)) (EitherCarried (carried_of view) next)
  unmoved fields view next view_is coherent tears is =
      let disk = G.disk fields.device in
      subst (λ (v : JournalView D). LeavesOnly (model v.rides (G.disk v.device)) (model v.rides (G.disk v.device)) (EitherCarried (carried_of v) next)) view_is
      (started (model (view_of fields).rides disk) (EitherCarried (carried_of (view_of fields)) next) (model_coherent (view_of fields).rides disk coherent tears)
      (λ image left. inl (carried_by disk coherent tears fields.held (carried_of (view_of fields)) (formed_by fields) is image left)))

  -- the fields after a call
  abbrev pub after : (device : D) (held : Held) (broken : Bool) (copied : ℕ) → IsFormed (G.disk device).sectors held → HasRoom held copied → Inside D G
  after device held broken copied formed room = record { device = device; held = held; broken = broken; copied = copied; formed = form_of (G.disk device).sectors held formed; room = room }

-- what was copied still fits
pub room_same : (old new : Held) (copied : ℕ) → numbers_of new ≡ numbers_of old → HasRoom old copied → HasRoom new copied
room_same old new copied same room = record {
  fits = subst (λ (n : Numbers). copied ≤ capacity_of n.rides n.sectors) (sym same) room.fits;
  none = λ is. room.none (sym (ap (λ (n : Numbers). n.settled) same) ∙ is);
}

pub room_after : (old new : Held) (copied version half used seq opens blocks : ℕ) → numbers_of new ≡ numbers_after (numbers_of old) version half used seq opens blocks → copied ≤ capacity_of (numbers_of old).rides (numbers_of old).sectors → HasRoom new copied
room_after old new copied version half used seq opens blocks same fits = record {
  fits = subst (λ (n : Numbers). copied ≤ capacity_of n.rides n.sectors) (sym same) fits;
  none = λ is. absurd (cc (is, ap (λ (n : Numbers). n.settled) same));
}

-- nothing is copied
pub none_copied : (held : Held) → HasRoom held 0
none_copied held = record { fits = omega arith; none = λ is. refl }
