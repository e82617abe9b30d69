-- Frames that are read from place to place, and to the end, are those of a log.
use Rattle.std.proofs.Common.{◌≡◌, ◌↔◌, IsTrue, true≢false, Option, None, Some, List, [], ◌∷◌, ◌++◌, map, refl, sym, ap, ◌∙◌, subst}
use Rattle.record_text.specs.Frame.{Entry}
use Rattle.log_frames.specs.Kinds.{Logged, logged}
use Rattle.log_frames.specs.Log.{AreOfSnapshot, HasChange, HaveChanges, IsInParts, IsOfSnapshot, Log, Transacted, logged_each, logged_of, logged_with, transacted}
use Rattle.log_frames.specs.Places.{Complete, Lead, OfLog, can_end, place_after}
use Rattle.log_frames.specs.declared.kind.Kind.{Kind}
use Rattle.log_frames.specs.declared.kind.Kind.TheVariants.{Last, More, Kept, Noted}
use Rattle.log_frames.specs.declared.place.Place.{Place}
use Rattle.log_frames.specs.declared.place.Place.TheVariants.{Snapshot, Between, Within}
use Rattle.log_frames.proofs.Logs.{HaveEnd, with-first}

one_place : (p q : Place) → Some p ≡ Some q → p ≡ q
one_place p q e = cc

-- ---- the frames of a log may be read

after_last : (p : Place) → place_after p Last ≡ Some Between
after_last Snapshot = refl
after_last Between = refl
after_last Within = refl

after_more : (p : Place) → place_after p More ≡ Some Within
after_more Snapshot = refl
after_more Between = refl
after_more Within = refl

-- the rest of a marked transaction
read_marked : (es : List Entry) (m : Entry) (ls : List Logged) → Complete Between ls → Complete Within (logged_with es (Some m) ++ ls)
read_marked [] m ls c = (Between, refl, c)
read_marked (e ∷ es) m ls c = (Within, refl, read_marked es m ls c)

read_with : (p : Place) (es : List Entry) (mark : Option Entry) (ls : List Logged) → HasChange es → Complete Between ls → Complete p (logged_with es mark ++ ls)
read_with p [] mark ls h c = absurd h
read_with p (e ∷ []) None ls h c = (Between, after_last p, c)
read_with p (e ∷ f ∷ es) None ls h c = (Within, after_more p, read_with Within (f ∷ es) None ls tt c)
read_with p (e ∷ es) (Some m) ls h c = (Within, after_more p, read_marked es m ls c)

read_each : (p : Place) → IsTrue (can_end p) → (ts : List Transacted) → HaveChanges ts → Complete p (logged_each ts)
read_each p ends [] h = ends
read_each p ends (t ∷ ts) h = read_with p t.changes t.mark (logged_each ts) h.0 (read_each Between refl ts h.1)

snapshot_by : (k : Kind) (e : Entry) (ls : List Logged) → IsOfSnapshot k → Complete Snapshot ls → Complete Snapshot (logged k e ∷ ls)
snapshot_by Last e ls h c = absurd h
snapshot_by More e ls h c = absurd h
snapshot_by Kept e ls h c = (Snapshot, refl, c)
snapshot_by Noted e ls h c = (Snapshot, refl, c)

read_snapshot : (ls ms : List Logged) → AreOfSnapshot ls → Complete Snapshot ms → Complete Snapshot (ls ++ ms)
read_snapshot [] ms a c = c
read_snapshot (l ∷ ls) ms a c = snapshot_by l.kind l.entry (ls ++ ms) a.0 (read_snapshot ls ms a.1 c)

pub log_completes : (log : Log) → IsInParts log → Complete Snapshot (logged_of log)
log_completes log is =
    read_snapshot log.snapshot (logged_each log.transactions) is.of_snapshot (read_each Snapshot refl log.transactions is.changed)

-- ---- and no others

-- transactions
pub record Whole (ls : List Logged) : Type 0 where
  pub transactions : List Transacted
  pub changed : HaveChanges transactions
  pub logged_is : logged_each transactions ≡ ls

-- the rest of a transaction, and others
pub record Begun (ls : List Logged) : Type 0 where
  pub changes : List Entry
  pub mark : Option Entry
  pub end : HaveEnd changes mark
  pub transactions : List Transacted
  pub changed : HaveChanges transactions
  pub logged_is : logged_with changes mark ++ logged_each transactions ≡ ls

-- what may come to the end at a place
abbrev pub IsRest : Place → List Logged → Type 0
IsRest Snapshot ls = OfLog ls
IsRest Between ls = Whole ls
IsRest Within ls = Begun ls

next_at : (p q : Place) (ls : List Logged) → Some p ≡ Some q → Complete q ls → Complete p ls
next_at p q ls e c = subst (λ (r : Place). Complete r ls) (sym (one_place p q e)) c

closed : (e : Entry) (ls : List Logged) → Whole ls → Whole (logged Last e ∷ ls)
closed e ls w = record {
  transactions = transacted (e ∷ []) None ∷ w.transactions;
  changed = (tt, w.changed);
  logged_is = ap (λ (rest : List Logged). logged Last e ∷ rest) w.logged_is;
}

-- a change before the rest of its transaction
one_more : (e : Entry) (ls : List Logged) (b : Begun ls) → logged_with (e ∷ b.changes) b.mark ++ logged_each b.transactions ≡ logged More e ∷ ls
one_more e ls b =
    ap (λ (frames : List Logged). frames ++ logged_each b.transactions) (with-first e b.changes b.mark b.end)
    ∙ ap (λ (rest : List Logged). logged More e ∷ rest) b.logged_is

opened : (e : Entry) (ls : List Logged) → Begun ls → Whole (logged More e ∷ ls)
opened e ls b = record {
  transactions = transacted (e ∷ b.changes) b.mark ∷ b.transactions;
  changed = (tt, b.changed);
  logged_is = one_more e ls b;
}

closed_within : (e : Entry) (ls : List Logged) → Whole ls → Begun (logged Last e ∷ ls)
closed_within e ls w = record {
  changes = e ∷ [];
  mark = None;
  end = tt;
  transactions = w.transactions;
  changed = w.changed;
  logged_is = ap (λ (rest : List Logged). logged Last e ∷ rest) w.logged_is;
}

noted_within : (e : Entry) (ls : List Logged) → Whole ls → Begun (logged Noted e ∷ ls)
noted_within e ls w = record {
  changes = [];
  mark = Some e;
  end = tt;
  transactions = w.transactions;
  changed = w.changed;
  logged_is = ap (λ (rest : List Logged). logged Noted e ∷ rest) w.logged_is;
}

longer_within : (e : Entry) (ls : List Logged) → Begun ls → Begun (logged More e ∷ ls)
longer_within e ls b = record {
  changes = e ∷ b.changes;
  mark = b.mark;
  end = tt;
  transactions = b.transactions;
  changed = b.changed;
  logged_is = one_more e ls b;
}

without_snapshot : (ls : List Logged) → Whole ls → OfLog ls
without_snapshot ls w = record {
  log = record { snapshot = []; transactions = w.transactions };
  in_parts = record { of_snapshot = tt; changed = w.changed };
  logged = w.logged_is;
}

one_more_of_snapshot : (k : Kind) (e : Entry) (ls : List Logged) → IsOfSnapshot k → OfLog ls → OfLog (logged k e ∷ ls)
one_more_of_snapshot k e ls h o = record {
  log = record { snapshot = logged k e ∷ o.log.snapshot; transactions = o.log.transactions };
  in_parts = record { of_snapshot = (h, o.in_parts.of_snapshot); changed = o.in_parts.changed };
  logged = ap (λ (rest : List Logged). logged k e ∷ rest) o.logged;
}

step : (p : Place) (k : Kind) (e : Entry) (ls : List Logged) → ((q : Place) → Complete q ls → IsRest q ls) → Complete p (logged k e ∷ ls) → IsRest p (logged k e ∷ ls)
step Snapshot Last e ls rest c = without_snapshot (logged Last e ∷ ls) (closed e ls (rest Between (next_at Between c.0 ls c.1 c.2)))
step Snapshot More e ls rest c = without_snapshot (logged More e ∷ ls) (opened e ls (rest Within (next_at Within c.0 ls c.1 c.2)))
step Snapshot Kept e ls rest c = one_more_of_snapshot Kept e ls tt (rest Snapshot (next_at Snapshot c.0 ls c.1 c.2))
step Snapshot Noted e ls rest c = one_more_of_snapshot Noted e ls tt (rest Snapshot (next_at Snapshot c.0 ls c.1 c.2))
step Between Last e ls rest c = closed e ls (rest Between (next_at Between c.0 ls c.1 c.2))
step Between More e ls rest c = opened e ls (rest Within (next_at Within c.0 ls c.1 c.2))
step Between Kept e ls rest c = let no = c.1 in absurd (cc)
step Between Noted e ls rest c = let no = c.1 in absurd (cc)
step Within Last e ls rest c = closed_within e ls (rest Between (next_at Between c.0 ls c.1 c.2))
step Within More e ls rest c = longer_within e ls (rest Within (next_at Within c.0 ls c.1 c.2))
step Within Kept e ls rest c = let no = c.1 in absurd (cc)
step Within Noted e ls rest c = noted_within e ls (rest Between (next_at Between c.0 ls c.1 c.2))

ended : (p : Place) → IsTrue (can_end p) → IsRest p []
ended Snapshot is = without_snapshot [] (record { transactions = []; changed = tt; logged_is = refl })
ended Between is = record { transactions = []; changed = tt; logged_is = refl }
ended Within is = absurd (true≢false (sym is))

rest_of : (ls : List Logged) (p : Place) → Complete p ls → IsRest p ls
rest_of [] p c = ended p c
rest_of (l ∷ ls) p c = step p l.kind l.entry ls (rest_of ls) c

pub OfLog-complete : (ls : List Logged) → Complete Snapshot ls → OfLog ls
OfLog-complete ls c = rest_of ls Snapshot c

-- exactly the frames of a log may be read from its beginning to the end
pub complete_frames : (ls : List Logged) → Complete Snapshot ls ↔ OfLog ls
complete_frames ls = (OfLog-complete ls, λ o. subst (λ (ms : List Logged). Complete Snapshot ms) o.logged (log_completes o.log o.in_parts))

-- ---- frames that lead to a place, and others that come there

pub Lead-append : (from mid to : Place) (ls ms : List Logged) → Lead from ls mid → Lead mid ms to → Lead from (ls ++ ms) to
Lead-append from mid to [] ms a b = subst (λ (p : Place). Lead p ms to) (sym a) b
Lead-append from mid to (l ∷ ls) ms a b = (a.0, a.1, Lead-append a.0 mid to ls ms a.2 b)

pub Complete-after : (from to : Place) (ls ms : List Logged) → Lead from ls to → Complete from (ls ++ ms) → Complete to ms
Complete-after from to [] ms a c = subst (λ (p : Place). Complete p ms) a c
Complete-after from to (l ∷ ls) ms a c =
    let same : c.0 ≡ a.0 = one_place c.0 a.0 (sym c.1 ∙ a.1) in
    Complete-after a.0 to ls ms a.2 (subst (λ (p : Place). Complete p (ls ++ ms)) same c.2)

pub Complete-before : (from to : Place) (ls ms : List Logged) → Lead from ls to → Complete to ms → Complete from (ls ++ ms)
Complete-before from to [] ms a c = subst (λ (p : Place). Complete p ms) (sym a) c
Complete-before from to (l ∷ ls) ms a c = (a.0, a.1, Complete-before a.0 to ls ms a.2 c)

pub Complete-split : (from : Place) (ls ms : List Logged) → Complete from (ls ++ ms) → (to : Place) × Lead from ls to
Complete-split from [] ms c = (from, refl)
Complete-split from (l ∷ ls) ms c = let rest = Complete-split c.0 ls ms c.2 in (rest.0, (c.0, c.1, rest.1))

-- frames that lead to a place at which a log may end are those of a log
pub Complete-end : (from to : Place) (ls : List Logged) → Lead from ls to → IsTrue (can_end to) → Complete from ls
Complete-end from to [] a is = subst (λ (p : Place). IsTrue (can_end p)) (sym a) is
Complete-end from to (l ∷ ls) a is = (a.0, a.1, Complete-end a.0 to ls a.2 is)

-- one more frame
pub Lead-one : (from mid to : Place) (ls : List Logged) (l : Logged) → Lead from ls mid → place_after mid l.kind ≡ Some to → Lead from (ls ++ l ∷ []) to
Lead-one from mid to [] l a is = (to, subst (λ (p : Place). place_after p l.kind ≡ Some to) (sym a) is, refl)
Lead-one from mid to (k ∷ ls) l a is = (a.0, a.1, Lead-one a.0 mid to ls l a.2 is)
