-- The frames of a transaction, and what they spell.
use Rattle.std.proofs.Common.{◌≡◌, ℕ, ◌+◌, ◌<◌, ◌^◌, suc, Bool, true, false, List, [], ◌∷◌, ◌++◌, length, map, Option, None, Some, String, Global, refl, ap, ap₂, sym, ◌∙◌, subst, arith}
use Rattle.std.specs.Prelude.{⊤}
use Rattle.doc_tree.specs.Doc.{Doc}
use Rattle.doc_tree.specs.declared.tree.Tree.{Tree}
use Rattle.record_text.specs.Change.{Change, change_of, create, object_of}
use Rattle.record_text.specs.Fault.{IsTextOf}
use Rattle.record_text.specs.declared.command.Command.{Command}
use Rattle.record_text.specs.declared.command.Command.TheVariants.{Create, Patch, Schema, Delete}
use Rattle.record_text.proofs.Frames.{IsTextOf-body_of, one_text}
use Rattle.record_text.proofs.Objects.{object_of-injective}
use Rattle.record_text.specs.Frame.{Entry, IsFramed, body_of, frames_in}
use Rattle.log_frames.specs.Kinds.{Logged, frames_as, logged, note}
use Rattle.log_frames.specs.Log.{logged_together}
use Rattle.log_frames.specs.declared.kind.Kind.{Kind}
use Rattle.log_frames.specs.declared.kind.Kind.TheVariants.{Last, More, Noted}
use Rattle.log_frames.proofs.Frames.{frame_as-last}
use Rattle.change_history.specs.History.{Rises, Told}
use Rattle.doc_changes.specs.Marks.{IsMark, Mark}
use Rattle.doc_machine.specs.Transaction.{AreFramed, IsNoted, Transaction, changes_of}
use Rattle.store_commits.specs.Folds.{entries_from, frames_of, frames_with, mark_after}
use Rattle.store_commits.specs.Notes.{noted_entry}
use Rattle.store_commits.proofs.Notes.{framed_mark}
use Rattle.doc_machine.specs.Transaction as transactions
use Rattle.told_transactions.specs.Told.{AreReadable, told_each}
use Rattle.protocol.specs.Changes.{AreToldFrom}
use Rattle.protocol.specs.Frames.{CanBeRead, changes_before, note_in, note_of}

-- ---- as a list

abbrev logged_in : Bool → List Entry → List Logged
logged_in false es = map (logged Last) es
logged_in true es = logged_together es

-- what the frames of changes are, with that of their mark, if there is one
abbrev logged_by : Bool → List Entry → Option Mark → List Logged
logged_by rides es None = logged_in rides es
logged_by rides es (Some m) = map (logged More) es ++ logged Noted (noted_entry m) ∷ []

last_frames : (es : List Entry) → frames_in 2 es ≡ frames_as (map (logged Last) es)
last_frames [] = refl
last_frames (e ∷ es) = ap₂ (λ (xs ys : List ℕ). xs ++ ys) (sym (frame_as-last e)) (last_frames es)

frames_are : (rides : Bool) (seq : ℕ) (cs : List Change) (m : Option Mark) → frames_with rides seq cs m ≡ frames_as (logged_by rides (entries_from seq cs) m)
frames_are false seq cs None = last_frames (entries_from seq cs)
frames_are true seq cs None = refl
frames_are rides seq cs (Some m) = refl

-- ---- each can be read

abbrev AreRead : List Entry → Type 0
AreRead [] = ⊤
AreRead (e ∷ es) = IsFramed e.change × (e.seq < 2 ^ 64) × AreRead es

entries_read : (seq : ℕ) (cs : List Change) → AreFramed cs → seq + length cs < 2 ^ 64 → AreRead (entries_from seq cs)
entries_read seq [] framed fits = tt
entries_read seq (c ∷ cs) framed fits = (framed.0, omega arith, entries_read (seq + 1) cs framed.1 (omega arith))

map_read : (k : Kind) (es : List Entry) → AreRead es → CanBeRead (map (logged k) es)
map_read k [] are = tt
map_read k (e ∷ es) are = (are.0, are.1, map_read k es are.2)

together_read : (es : List Entry) → AreRead es → CanBeRead (logged_together es)
together_read [] are = tt
together_read (e ∷ []) are = (are.0, are.1, tt)
together_read (e ∷ f ∷ es) are = (are.0, are.1, together_read (f ∷ es) are.2)

one_more_read : (ls : List Logged) (l : Logged) → CanBeRead ls → IsFramed l.entry.change → l.entry.seq < 2 ^ 64 → CanBeRead (ls ++ l ∷ [])
one_more_read [] l are framed fits = (framed, fits, tt)
one_more_read (k ∷ ls) l are framed fits = (are.0, are.1, one_more_read ls l are.2 framed fits)

changes_read : (rides : Bool) (es : List Entry) → AreRead es → CanBeRead (logged_in rides es)
changes_read false es are = map_read Last es are
changes_read true es are = together_read es are

all_read : (rides : Bool) (es : List Entry) (m : Option Mark) → AreRead es → IsNoted m → ((mark : Mark) → m ≡ Some mark → mark.seq < 2 ^ 64) → CanBeRead (logged_by rides es m)
all_read rides es None are noted fits = changes_read rides es are
all_read rides es (Some m) are noted fits = one_more_read (map (logged More) es) (logged Noted (noted_entry m)) (map_read More es are) (framed_mark m noted) (fits m refl)

abbrev seq_or : Option Mark → ℕ
seq_or None = 0
seq_or (Some m) = m.seq

-- a mark has the number of the last change of its transaction
mark_fits : (n : ℕ) (t : Transaction) → n < 2 ^ 64 → (mark : Mark) → transactions.mark_with n t ≡ Some mark → mark.seq < 2 ^ 64
mark_fits n (transactions.single c) fits mark is = absurd (cc is)
mark_fits n (transactions.several cs) fits mark is = absurd (cc is)
mark_fits n (transactions.marked m cs) fits mark is = let same : n ≡ mark.seq = ap seq_or is in omega (arith, same, fits)

-- ---- what they spell

abbrev changes_in : List Entry → List Change
changes_in es = map (λ e. e.change) es

last_changes : (es : List Entry) → changes_before (map (logged Last) es) ≡ changes_in es
last_changes [] = refl
last_changes (e ∷ es) = ap (λ (cs : List Change). e.change ∷ cs) (last_changes es)

together_changes : (es : List Entry) → changes_before (logged_together es) ≡ changes_in es
together_changes [] = refl
together_changes (e ∷ []) = refl
together_changes (e ∷ f ∷ es) = ap (λ (cs : List Change). e.change ∷ cs) (together_changes (f ∷ es))

more_changes : (es : List Entry) (n : Entry) → changes_before (map (logged More) es ++ logged Noted n ∷ []) ≡ changes_in es
more_changes [] n = refl
more_changes (e ∷ es) n = ap (λ (cs : List Change). e.change ∷ cs) (more_changes es n)

spelled_changes : (rides : Bool) (es : List Entry) (m : Option Mark) → changes_before (logged_by rides es m) ≡ changes_in es
spelled_changes false es None = last_changes es
spelled_changes true es None = together_changes es
spelled_changes rides es (Some m) = more_changes es (noted_entry m)

changes_from : (seq : ℕ) (cs : List Change) → changes_in (entries_from seq cs) ≡ cs
changes_from seq [] = refl
changes_from seq (c ∷ cs) = ap (λ (ds : List Change). c ∷ ds) (changes_from (seq + 1) cs)

last_note : (es : List Entry) → note_in (map (logged Last) es) ≡ None
last_note [] = refl
last_note (e ∷ es) = last_note es

together_note : (es : List Entry) → note_in (logged_together es) ≡ None
together_note [] = refl
together_note (e ∷ []) = refl
together_note (e ∷ f ∷ es) = together_note (f ∷ es)

more_note : (es : List Entry) (n : Entry) → note_in (map (logged More) es ++ logged Noted n ∷ []) ≡ Some (body_of n.change)
more_note [] n = refl
more_note (e ∷ es) n = more_note es n

spelled_note : (rides : Bool) (es : List Entry) (m : Option Mark) → note_in (logged_by rides es m) ≡ note_of m
spelled_note false es None = last_note es
spelled_note true es None = together_note es
spelled_note rides es (Some m) = more_note es (noted_entry m)

-- ---- those that are told

-- its bytes are the frames of that transaction, and can be read
pub record Spells (before : ℕ) (t : Transaction) (x : Told) : Type 0 where
  pub spelled : List Logged
  pub read : CanBeRead spelled
  pub are : x.frames ≡ frames_as spelled
  pub last_is : x.last ≡ before + length (changes_of t)
  pub changes : changes_before spelled ≡ changes_of t
  pub mark_is : note_in spelled ≡ note_of (mark_after before t)

pub spells : (before : ℕ) (x : Told) (t : Transaction) → AreToldFrom before (x ∷ []) (t ∷ []) → x.last < 2 ^ 64 → Spells before t x
spells before x t told fits =
    let cs = changes_of t in
    let es = entries_from before cs in
    let m = mark_after before t in
    let is : x ≡ record { last = before + length cs; frames = frames_of told.rides before t } = cc told.each in
    let last : x.last ≡ before + length cs = ap (λ (y : Told). y.last) is in
    let low : before + length cs < 2 ^ 64 = omega (arith, last, fits) in
    record {
      spelled = logged_by told.rides es m;
      read = all_read told.rides es m (entries_read before cs told.readable.0 low) told.readable.1 (mark_fits (before + length cs) t low);
      are = ap (λ (y : Told). y.frames) is ∙ frames_are told.rides before cs m;
      last_is = last;
      changes = spelled_changes told.rides es m ∙ changes_from before cs;
      mark_is = spelled_note told.rides es m;
    }

-- ---- the first of them

-- the first transaction, and those after it
pub record Next (before : ℕ) (x : Told) (more : List Told) (ts : List Transaction) : Type 0 where
  pub first : Transaction
  pub others : List Transaction
  pub parts : ts ≡ first ∷ others
  pub one : AreToldFrom before (x ∷ []) (first ∷ [])
  pub rest : AreToldFrom x.last more others
  pub last : x.last ≡ before + length (changes_of first)

pub next : (before : ℕ) (told : List Told) (x : Told) (more : List Told) (ts : List Transaction) → AreToldFrom before told ts → told ≡ x ∷ more → Next before x more ts
next before told x more [] are is = let none : x ∷ more ≡ [] = sym is ∙ are.each in absurd (cc none)
next before told x more (t ∷ ts) are is =
    let n = before + length (changes_of t) in
    let whole : x ∷ more ≡ record { last = n; frames = frames_of are.rides before t } ∷ told_each are.rides n ts = sym is ∙ are.each in
    let head : x ≡ record { last = n; frames = frames_of are.rides before t } = cc whole in
    let tail : more ≡ told_each are.rides n ts = cc whole in
    let last : x.last ≡ n = ap (λ (y : Told). y.last) head in
    let rise : (before < x.last) × Rises x.last more = subst (Rises before) is are.rises in
    record {
      first = t;
      others = ts;
      parts = refl;
      one = record { rides = are.rides; each = ap (λ (y : Told). y ∷ []) head; readable = (are.readable.0, are.readable.1, tt); rises = (rise.0, tt) };
      rest = record {
        rides = are.rides;
        each = tail ∙ ap (λ (k : ℕ). told_each are.rides k ts) (sym last);
        readable = subst (λ (k : ℕ). AreReadable k ts) (sym last) are.readable.2;
        rises = rise.1;
      };
      last = last;
    }

-- ---- marks

-- the mark whose frame this spells
pub some_mark : (m : Option Mark) (body : List ℕ) → IsNoted m → Some body ≡ note_of m → (mark : Mark) × IsMark mark × (body ≡ body_of (note mark.key mark.value)) × (m ≡ Some mark)
some_mark None body noted is = absurd (cc is)
some_mark (Some mark) body noted is = (mark, noted, cc is, refl)

-- there is none
pub no_mark : (m : Option Mark) → None ≡ note_of m → m ≡ None
no_mark None is = refl
no_mark (Some mark) is = absurd (cc is)

-- a command whose body is that of a mark is the one that spells it
pub spells_mark : (m : Mark) → IsMark m → (body : List ℕ) → body ≡ body_of (note m.key m.value) → (c : Command) → IsTextOf body (object_of (change_of c)) → change_of c ≡ note m.key m.value
spells_mark m is body same c text =
    let spelled = note m.key m.value in
    object_of-injective (change_of c) spelled
    (one_text body (object_of (change_of c)) (object_of spelled) text (subst (λ (bytes : List ℕ). IsTextOf bytes (object_of spelled)) (sym same) (IsTextOf-body_of spelled (framed_mark m is))))

-- it is no other command
pub is_creation : (c : Command) (key : List ℕ) (schema doc : Doc) → change_of c ≡ create key schema doc → ((name : String Global) (s d : Tree) → c ≡ Create name s d → ⊥) → ⊥
is_creation (Create name s d) key schema doc is none = none name s d refl
is_creation (Patch name ops if_rev) key schema doc is none = absurd (cc is)
is_creation (Schema name s) key schema doc is none = absurd (cc is)
is_creation (Delete name) key schema doc is none = absurd (cc is)
