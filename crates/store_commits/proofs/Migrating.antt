-- What the images of a migration stand for.
use Rattle.std.proofs.Common.{◌≡◌, ◌∙◌, ℕ, Bool, [], map, inl, inr, sym, ap, subst, arith, false, true}
use Rattle.sector_device.specs.Disk.{Image}
use Rattle.store_journal.specs.Carries.{Carried, EitherCarried, migrated}
use Rattle.log_frames.specs.Log.{snapshot_log}
use Rattle.log_frames.proofs.Logs.{IsLog-snapshot, bytes-snapshot, entries-snapshot, notes-snapshot}
use Rattle.schema_rules.specs.declared.profile.Profile.{Profile}
use Rattle.schema_rules.specs.declared.profile.Profile.TheVariants.{Two}
use Rattle.doc_changes.specs.State.{State}
use Rattle.store_commits.specs.Snapshot.{snapshot_of, snapshot_bytes, RemakesAll}
use Rattle.store_commits.specs.Images.{Holds, Stands, profile_in, version_of_frames}
use Rattle.store_commits.specs.Notes.{AreNoted, noted_entry}
use Rattle.store_commits.proofs.Notes.{none_noted}
use Rattle.store_commits.proofs.Logs.{entries_3, spelled_2, spelled_3}
use Rattle.store_commits.proofs.Snapshots.{snapshot_2, snapshot_3}

-- the snapshot of a state holds its documents and its marks, in the format of its profile and under its seq
snapshot_makes : (rides : Bool) (state : State) → profile_in rides ≡ state.profile → RemakesAll state → Holds state.profile (version_of_frames rides 2) state.seq (snapshot_bytes rides state.documents state.marks) state.documents state.marks
snapshot_makes false state profile remakes =
    let none : state.marks ≡ [] = none_noted state.seq state.marks (subst (λ (p : Profile). AreNoted p state.seq state.marks) (sym profile) remakes.noted) in
    record {
      entries = snapshot_of state.documents;
      notes = [];
      framed = remakes.framed;
      dated = λ old. absurd (omega (arith, old));
      spelled = spelled_2 (snapshot_of state.documents) (snapshot_bytes false state.documents state.marks) (sym (snapshot_2 state.documents state.marks));
      taken = remakes.taken;
      documents_are = remakes.documents_are;
      noted = tt;
      marks_are = sym none;
    }
snapshot_makes true state profile remakes =
    let es = snapshot_of state.documents in
    let notes = map noted_entry state.marks in
    record {
      entries = es;
      notes = state.marks;
      framed = entries_3 es remakes.framed;
      dated = λ old. absurd (omega (arith, old));
      spelled = spelled_3 es state.marks (snapshot_bytes true state.documents state.marks) (snapshot_log notes es) (IsLog-snapshot notes es remakes.notes_framed remakes.framed) (entries-snapshot notes es) (notes-snapshot notes es)
          (bytes-snapshot notes es ∙ sym (snapshot_3 state.documents state.marks));
      taken = remakes.taken;
      documents_are = remakes.documents_are;
      noted = remakes.noted;
      marks_are = remakes.marks_are;
    }

pub snapshot_holds : (rides : Bool) (state : State) (seq : ℕ) → seq ≡ state.seq → profile_in rides ≡ state.profile → RemakesAll state
    → Holds state.profile (version_of_frames rides 2) seq (snapshot_bytes rides state.documents state.marks) state.documents state.marks
snapshot_holds rides state seq is profile remakes =
    subst (λ (n : ℕ). Holds state.profile (version_of_frames rides 2) n (snapshot_bytes rides state.documents state.marks) state.documents state.marks) (sym is) (snapshot_makes rides state profile remakes)

pub migration_stands : (state : State) (was : Carried) → was.seq ≡ state.seq → was.rides ≡ false → state.profile ≡ Two → Holds state.profile was.version was.seq was.bytes state.documents state.marks → RemakesAll state
    → (image : Image) → EitherCarried was (migrated was (snapshot_bytes false state.documents state.marks)) image → Stands state image
migration_stands state was is rides two holds remakes image (inl carries) = record {
  carried = was;
  carries = carries;
  seq_is = is;
  profile_is = ap profile_in rides ∙ sym two;
  holds = subst (λ (r : Bool). Holds state.profile (version_of_frames r was.version) was.seq was.bytes state.documents state.marks) (sym rides) holds;
}
migration_stands state was is rides two holds remakes image (inr carries) = record {
  carried = migrated was (snapshot_bytes false state.documents state.marks);
  carries = carries;
  seq_is = is;
  profile_is = sym two;
  holds = snapshot_holds false state was.seq is (sym two) remakes;
}
