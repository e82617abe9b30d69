-- The frames of a log: its entries and marks, what more transactions add, and that one log alone has them.
use Rattle.std.proofs.Common.{◌≡◌, ℕ, Bool, false, if◌then◌else◌, Option, None, Some, List, [], ◌∷◌, ◌++◌, append_assoc, append-nil, map, refl, sym, ap, ap₂, ◌∙◌, subst}
use Rattle.std.specs.Prelude.{⊤}
use Rattle.record_text.specs.Frame.{AreEntries, Entry}
use Rattle.log_frames.specs.Kinds.{Logged, frames_as, is_noted, logged}
use Rattle.log_frames.specs.Log.{AreOfSnapshot, HasChange, HaveChanges, IsInParts, IsLog, IsOfSnapshot, Log, Transacted, entries_in, entries_in_frames, entries_of, log_bytes, logged_each, logged_of, logged_together, logged_transacted, logged_with, note_in, notes_in, notes_in_frames, notes_of, snapshot_log, transacted, with_transactions}
use Rattle.log_frames.specs.declared.kind.Kind.{Kind}
use Rattle.log_frames.specs.declared.kind.Kind.TheVariants.{Last, More, Kept, Noted}
use Rattle.log_frames.proofs.Frames.{frames_as-append, frames_as-injective}

-- ---- entries that can be read

pub AreEntries-append : (es fs : List Entry) → AreEntries 2 es → AreEntries 2 fs → AreEntries 2 (es ++ fs)
AreEntries-append [] fs a b = b
AreEntries-append (e ∷ es) fs a b = (a.0, AreEntries-append es fs a.1 b)

pub AreEntries-parts : (es fs : List Entry) → AreEntries 2 (es ++ fs) → AreEntries 2 es × AreEntries 2 fs
AreEntries-parts [] fs a = (tt, a)
AreEntries-parts (e ∷ es) fs a = let rest = AreEntries-parts es fs a.1 in ((a.0, rest.0), rest.1)

-- ---- the entries of frames

entries_by : (k : Kind) (e : Entry) (ls ms : List Logged) → entries_in_frames (ls ++ ms) ≡ entries_in_frames ls ++ entries_in_frames ms
    → entries_in_frames (logged k e ∷ ls ++ ms) ≡ entries_in_frames (logged k e ∷ ls) ++ entries_in_frames ms
entries_by Last e ls ms is = ap (λ (es : List Entry). e ∷ es) is
entries_by More e ls ms is = ap (λ (es : List Entry). e ∷ es) is
entries_by Kept e ls ms is = ap (λ (es : List Entry). e ∷ es) is
entries_by Noted e ls ms is = is

pub entries-append : (ls ms : List Logged) → entries_in_frames (ls ++ ms) ≡ entries_in_frames ls ++ entries_in_frames ms
entries-append [] ms = refl
entries-append (l ∷ ls) ms = entries_by l.kind l.entry ls ms (entries-append ls ms)

notes_by : (k : Kind) (e : Entry) (ls ms : List Logged) → notes_in_frames (ls ++ ms) ≡ notes_in_frames ls ++ notes_in_frames ms
    → notes_in_frames (logged k e ∷ ls ++ ms) ≡ notes_in_frames (logged k e ∷ ls) ++ notes_in_frames ms
notes_by Last e ls ms is = is
notes_by More e ls ms is = is
notes_by Kept e ls ms is = is
notes_by Noted e ls ms is = ap (λ (es : List Entry). e ∷ es) is

pub notes-append : (ls ms : List Logged) → notes_in_frames (ls ++ ms) ≡ notes_in_frames ls ++ notes_in_frames ms
notes-append [] ms = refl
notes-append (l ∷ ls) ms = notes_by l.kind l.entry ls ms (notes-append ls ms)

-- frames of one kind
entries-kind : (k : Kind) → is_noted k ≡ false → (es : List Entry) → entries_in_frames (map (logged k) es) ≡ es
entries-kind k is [] = refl
entries-kind k is (e ∷ es) =
    let rest = entries_in_frames (map (logged k) es) in
    ap (λ (b : Bool). if b then rest else e ∷ rest) is ∙ ap (λ (fs : List Entry). e ∷ fs) (entries-kind k is es)

notes-kind : (k : Kind) → is_noted k ≡ false → (es : List Entry) → notes_in_frames (map (logged k) es) ≡ []
notes-kind k is [] = refl
notes-kind k is (e ∷ es) =
    let rest = notes_in_frames (map (logged k) es) in
    ap (λ (b : Bool). if b then e ∷ rest else rest) is ∙ notes-kind k is es

entries-noted : (es : List Entry) → entries_in_frames (map (logged Noted) es) ≡ []
entries-noted [] = refl
entries-noted (e ∷ es) = entries-noted es

notes-noted : (es : List Entry) → notes_in_frames (map (logged Noted) es) ≡ es
notes-noted [] = refl
notes-noted (e ∷ es) = ap (λ (fs : List Entry). e ∷ fs) (notes-noted es)

-- ---- those of transactions

pub entries-together : (es : List Entry) → entries_in_frames (logged_together es) ≡ es
entries-together [] = refl
entries-together (e ∷ []) = refl
entries-together (e ∷ f ∷ es) = ap (λ (rest : List Entry). e ∷ rest) (entries-together (f ∷ es))

notes-together : (es : List Entry) → notes_in_frames (logged_together es) ≡ []
notes-together [] = refl
notes-together (e ∷ []) = refl
notes-together (e ∷ f ∷ es) = notes-together (f ∷ es)

entries-with : (es : List Entry) (mark : Option Entry) → entries_in_frames (logged_with es mark) ≡ es
entries-with es None = entries-together es
entries-with es (Some m) =
    entries-append (map (logged More) es) (logged Noted m ∷ []) ∙ append-nil (entries_in_frames (map (logged More) es)) ∙ entries-kind More refl es

notes-with : (es : List Entry) (mark : Option Entry) → notes_in_frames (logged_with es mark) ≡ note_in mark
notes-with es None = notes-together es
notes-with es (Some m) =
    notes-append (map (logged More) es) (logged Noted m ∷ []) ∙ ap (λ (fs : List Entry). fs ++ m ∷ []) (notes-kind More refl es)

pub entries-transacted : (t : Transacted) → entries_in_frames (logged_transacted t) ≡ t.changes
entries-transacted t = entries-with t.changes t.mark

pub notes-transacted : (t : Transacted) → notes_in_frames (logged_transacted t) ≡ note_in t.mark
notes-transacted t = notes-with t.changes t.mark

pub entries-each : (ts : List Transacted) → entries_in_frames (logged_each ts) ≡ entries_in ts
entries-each [] = refl
entries-each (t ∷ ts) = entries-append (logged_transacted t) (logged_each ts) ∙ ap₂ (λ (a b : List Entry). a ++ b) (entries-transacted t) (entries-each ts)

pub notes-each : (ts : List Transacted) → notes_in_frames (logged_each ts) ≡ notes_in ts
notes-each [] = refl
notes-each (t ∷ ts) = notes-append (logged_transacted t) (logged_each ts) ∙ ap₂ (λ (a b : List Entry). a ++ b) (notes-transacted t) (notes-each ts)

pub entries-log : (log : Log) → entries_in_frames (logged_of log) ≡ entries_of log
entries-log log =
    entries-append log.snapshot (logged_each log.transactions) ∙ ap (λ (es : List Entry). entries_in_frames log.snapshot ++ es) (entries-each log.transactions)

pub notes-log : (log : Log) → notes_in_frames (logged_of log) ≡ notes_of log
notes-log log =
    notes-append log.snapshot (logged_each log.transactions) ∙ ap (λ (es : List Entry). notes_in_frames log.snapshot ++ es) (notes-each log.transactions)

-- ---- more transactions

pub logged_each-append : (ts us : List Transacted) → logged_each (ts ++ us) ≡ logged_each ts ++ logged_each us
logged_each-append [] us = refl
logged_each-append (t ∷ ts) us =
    ap (λ rest. logged_transacted t ++ rest) (logged_each-append ts us) ∙ sym (append_assoc (logged_transacted t) (logged_each ts) (logged_each us))

pub entries_in-append : (ts us : List Transacted) → entries_in (ts ++ us) ≡ entries_in ts ++ entries_in us
entries_in-append [] us = refl
entries_in-append (t ∷ ts) us = ap (λ rest. t.changes ++ rest) (entries_in-append ts us) ∙ sym (append_assoc t.changes (entries_in ts) (entries_in us))

pub notes_in-append : (ts us : List Transacted) → notes_in (ts ++ us) ≡ notes_in ts ++ notes_in us
notes_in-append [] us = refl
notes_in-append (t ∷ ts) us = ap (λ rest. note_in t.mark ++ rest) (notes_in-append ts us) ∙ sym (append_assoc (note_in t.mark) (notes_in ts) (notes_in us))

pub HaveChanges-append : (ts us : List Transacted) → HaveChanges ts → HaveChanges us → HaveChanges (ts ++ us)
HaveChanges-append [] us a b = b
HaveChanges-append (t ∷ ts) us a b = (a.0, HaveChanges-append ts us a.1 b)

pub logged-more : (log : Log) (ts : List Transacted) → logged_of (with_transactions log ts) ≡ logged_of log ++ logged_each ts
logged-more log ts =
    ap (λ rest. log.snapshot ++ rest) (logged_each-append log.transactions ts) ∙ sym (append_assoc log.snapshot (logged_each log.transactions) (logged_each ts))

pub bytes-more : (log : Log) (ts : List Transacted) → log_bytes (with_transactions log ts) ≡ log_bytes log ++ frames_as (logged_each ts)
bytes-more log ts = ap frames_as (logged-more log ts) ∙ frames_as-append (logged_of log) (logged_each ts)

pub entries-more : (log : Log) (ts : List Transacted) → entries_of (with_transactions log ts) ≡ entries_of log ++ entries_in ts
entries-more log ts =
    let kept = entries_in_frames log.snapshot in
    ap (λ rest. kept ++ rest) (entries_in-append log.transactions ts) ∙ sym (append_assoc kept (entries_in log.transactions) (entries_in ts))

pub notes-more : (log : Log) (ts : List Transacted) → notes_of (with_transactions log ts) ≡ notes_of log ++ notes_in ts
notes-more log ts =
    let kept = notes_in_frames log.snapshot in
    ap (λ rest. kept ++ rest) (notes_in-append log.transactions ts) ∙ sym (append_assoc kept (notes_in log.transactions) (notes_in ts))

pub IsLog-more : (log : Log) (ts : List Transacted) → IsLog log → AreEntries 2 (entries_in ts) → AreEntries 2 (notes_in ts) → HaveChanges ts
    → IsLog (with_transactions log ts)
IsLog-more log ts is framed noted changed = record {
  in_parts = record { of_snapshot = is.in_parts.of_snapshot; changed = HaveChanges-append log.transactions ts is.in_parts.changed changed };
  framed = subst (λ es. AreEntries 2 es) (sym (entries-more log ts)) (AreEntries-append (entries_of log) (entries_in ts) is.framed framed);
  noted = subst (λ es. AreEntries 2 es) (sym (notes-more log ts)) (AreEntries-append (notes_of log) (notes_in ts) is.noted noted);
}

-- ---- a snapshot alone

pub bytes-snapshot : (notes es : List Entry) → log_bytes (snapshot_log notes es) ≡ frames_as (map (logged Noted) notes) ++ frames_as (map (logged Kept) es)
bytes-snapshot notes es =
    ap frames_as (append-nil (map (logged Noted) notes ++ map (logged Kept) es)) ∙ frames_as-append (map (logged Noted) notes) (map (logged Kept) es)

pub entries-snapshot : (notes es : List Entry) → entries_of (snapshot_log notes es) ≡ es
entries-snapshot notes es =
    append-nil (entries_in_frames (map (logged Noted) notes ++ map (logged Kept) es))
    ∙ entries-append (map (logged Noted) notes) (map (logged Kept) es)
    ∙ ap₂ (λ (a b : List Entry). a ++ b) (entries-noted notes) (entries-kind Kept refl es)

pub notes-snapshot : (notes es : List Entry) → notes_of (snapshot_log notes es) ≡ notes
notes-snapshot notes es =
    append-nil (notes_in_frames (map (logged Noted) notes ++ map (logged Kept) es))
    ∙ notes-append (map (logged Noted) notes) (map (logged Kept) es)
    ∙ ap₂ (λ (a b : List Entry). a ++ b) (notes-noted notes) (notes-kind Kept refl es) ∙ append-nil notes

documents_of_snapshot : (es : List Entry) → AreOfSnapshot (map (logged Kept) es)
documents_of_snapshot [] = tt
documents_of_snapshot (e ∷ es) = (tt, documents_of_snapshot es)

of_snapshot : (notes es : List Entry) → AreOfSnapshot (map (logged Noted) notes ++ map (logged Kept) es)
of_snapshot [] es = documents_of_snapshot es
of_snapshot (n ∷ notes) es = (tt, of_snapshot notes es)

pub IsLog-snapshot : (notes es : List Entry) → AreEntries 2 notes → AreEntries 2 es → IsLog (snapshot_log notes es)
IsLog-snapshot notes es noted framed = record {
  in_parts = record { of_snapshot = of_snapshot notes es; changed = tt };
  framed = subst (λ fs. AreEntries 2 fs) (sym (entries-snapshot notes es)) framed;
  noted = subst (λ fs. AreEntries 2 fs) (sym (notes-snapshot notes es)) noted;
}

-- ---- a transaction

pub together-last : (es : List Entry) (e : Entry) → logged_together (es ++ e ∷ []) ≡ map (logged More) es ++ logged Last e ∷ []
together-last [] e = refl
together-last (f ∷ []) e = refl
together-last (f ∷ g ∷ es) e = ap (λ (rest : List Logged). logged More f ∷ rest) (together-last (g ∷ es) e)

-- changes, if there are any, and a mark, if there is one, that are a transaction's last frames
abbrev pub HaveEnd : List Entry → Option Entry → Type 0
HaveEnd [] None = ⊥
HaveEnd [] (Some m) = ⊤
HaveEnd (e ∷ es) mark = ⊤

pub have_end : (es : List Entry) (mark : Option Entry) → HasChange es → HaveEnd es mark
have_end [] mark h = absurd h
have_end (e ∷ es) mark h = tt

pub with-first : (e : Entry) (es : List Entry) (mark : Option Entry) → HaveEnd es mark → logged_with (e ∷ es) mark ≡ logged More e ∷ logged_with es mark
with-first e [] None h = absurd h
with-first e [] (Some m) h = refl
with-first e (f ∷ es) None h = refl
with-first e (f ∷ es) (Some m) h = refl

-- ---- one log alone has the frames: it is read from them

-- the first of the transactions with a change before its own
abbrev with_first : Entry → List Transacted → List Transacted
with_first e [] = []
with_first e (t ∷ ts) = transacted (e ∷ t.changes) t.mark ∷ ts

abbrev each_by : Kind → Entry → List Transacted → List Transacted
each_by Last e ts = transacted (e ∷ []) None ∷ ts
each_by More e ts = with_first e ts
each_by Kept e ts = ts
each_by Noted e ts = transacted [] (Some e) ∷ ts

-- the transactions whose frames these are
abbrev each_from : List Logged → List Transacted
each_from [] = []
each_from (l ∷ ls) = each_by l.kind l.entry (each_from ls)

one_from : (es : List Entry) (mark : Option Entry) (ls : List Logged) → HaveEnd es mark → each_from (logged_with es mark ++ ls) ≡ transacted es mark ∷ each_from ls
one_from [] None ls h = absurd h
one_from [] (Some m) ls h = refl
one_from (e ∷ []) None ls h = refl
one_from (e ∷ f ∷ es) None ls h = ap (λ (ts : List Transacted). with_first e ts) (one_from (f ∷ es) None ls tt)
one_from (e ∷ []) (Some m) ls h = refl
one_from (e ∷ f ∷ es) (Some m) ls h = ap (λ (ts : List Transacted). with_first e ts) (one_from (f ∷ es) (Some m) ls tt)

all_from : (ts : List Transacted) → HaveChanges ts → each_from (logged_each ts) ≡ ts
all_from [] h = refl
all_from (t ∷ ts) h =
    one_from t.changes t.mark (logged_each ts) (have_end t.changes t.mark h.0) ∙ ap (λ (us : List Transacted). t ∷ us) (all_from ts h.1)

abbrev log_in : List Logged → List Transacted → Log
log_in snapshot transactions = record { snapshot = snapshot; transactions = transactions }

-- a frame, those after it, and the log that these are of
abbrev log_by : Kind → Entry → List Logged → Log → Log
log_by Last e ls log = log_in [] (each_from (logged Last e ∷ ls))
log_by More e ls log = log_in [] (each_from (logged More e ∷ ls))
log_by Kept e ls log = log_in (logged Kept e ∷ log.snapshot) log.transactions
log_by Noted e ls log = log_in (logged Noted e ∷ log.snapshot) log.transactions

-- the log whose frames these are
abbrev log_from : List Logged → Log
log_from [] = log_in [] []
log_from (l ∷ ls) = log_by l.kind l.entry ls (log_from ls)

no_snapshot : (es : List Entry) (mark : Option Entry) (ls : List Logged) → HasChange es
    → log_from (logged_with es mark ++ ls) ≡ log_in [] (each_from (logged_with es mark ++ ls))
no_snapshot [] mark ls h = absurd h
no_snapshot (e ∷ []) None ls h = refl
no_snapshot (e ∷ f ∷ es) None ls h = refl
no_snapshot (e ∷ es) (Some m) ls h = refl

transactions_from : (ts : List Transacted) → HaveChanges ts → log_from (logged_each ts) ≡ log_in [] ts
transactions_from [] h = refl
transactions_from (t ∷ ts) h = no_snapshot t.changes t.mark (logged_each ts) h.0 ∙ ap (λ (us : List Transacted). log_in [] us) (all_from (t ∷ ts) h)

snapshot_by : (k : Kind) (e : Entry) (ls : List Logged) (ts : List Transacted) → IsOfSnapshot k → log_from (ls ++ logged_each ts) ≡ log_in ls ts
    → log_from (logged k e ∷ ls ++ logged_each ts) ≡ log_in (logged k e ∷ ls) ts
snapshot_by Last e ls ts h is = absurd h
snapshot_by More e ls ts h is = absurd h
snapshot_by Kept e ls ts h is = ap (λ (log : Log). log_in (logged Kept e ∷ log.snapshot) log.transactions) is
snapshot_by Noted e ls ts h is = ap (λ (log : Log). log_in (logged Noted e ∷ log.snapshot) log.transactions) is

snapshot_from : (ls : List Logged) (ts : List Transacted) → AreOfSnapshot ls → HaveChanges ts → log_from (ls ++ logged_each ts) ≡ log_in ls ts
snapshot_from [] ts a h = transactions_from ts h
snapshot_from (l ∷ ls) ts a h = snapshot_by l.kind l.entry ls ts a.0 (snapshot_from ls ts a.1 h)

read_back : (log : Log) → IsInParts log → log_from (logged_of log) ≡ log
read_back log is = snapshot_from log.snapshot log.transactions is.of_snapshot is.changed

pub logged_of-injective : (log other : Log) → IsInParts log → IsInParts other → logged_of log ≡ logged_of other → log ≡ other
logged_of-injective log other a b is = sym (read_back log a) ∙ ap log_from is ∙ read_back other b

framed_frames : (log : Log) → IsLog log → AreEntries 2 (entries_in_frames (logged_of log))
framed_frames log is = subst (λ es. AreEntries 2 es) (sym (entries-log log)) is.framed

noted_frames : (log : Log) → IsLog log → AreEntries 2 (notes_in_frames (logged_of log))
noted_frames log is = subst (λ es. AreEntries 2 es) (sym (notes-log log)) is.noted

pub log_bytes-injective : (log other : Log) → IsLog log → IsLog other → log_bytes log ≡ log_bytes other → log ≡ other
log_bytes-injective log other a b is =
    logged_of-injective log other a.in_parts b.in_parts
    (frames_as-injective (logged_of log) (logged_of other) (framed_frames log a) (noted_frames log a) (framed_frames other b) (noted_frames other b) is)
