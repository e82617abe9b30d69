-- A history that is filled with the transactions of a log.
use Rattle.std.proofs.Common.{◌≡◌, ◌≢◌, ◌⊎◌, ℕ, ◌+◌, ◌<◌, ◌≤◌, List, [], ◌∷◌, ◌++◌, length, length-append, append_assoc, append-nil, Some, None, refl, sym, ap, subst, ◌∙◌, arith, inl, inr}
use Rattle.change_history.specs.History.{History, Told, newest, with_each, with_told}
use Rattle.record_text.specs.Frame.{AreEntries, Entry, IsEntry}
use Rattle.log_frames.specs.Kinds.{Logged, frames_as, logged}
use Rattle.log_frames.specs.Log.{AreOfSnapshot, HasChange, IsLog, IsOfSnapshot, Log, Transacted, entries_in, entries_in_frames, log_bytes, logged_each, logged_transacted, notes_in, notes_in_frames}
use Rattle.log_frames.specs.declared.kind.Kind.{Kind}
use Rattle.log_frames.specs.declared.kind.Kind.TheVariants.{Last, More, Kept, Noted}
use Rattle.log_frames.proofs.Frames.{frames_as-append}
use Rattle.log_frames.proofs.Logs.{AreEntries-parts}
use Rattle.told_transactions.specs.Begun.{AreLogged, AreNumbered, AreTold, BeginsWithLog, IsFilled, IsNumbered}
use Rattle.told_transactions.specs.Told.{none_from}
use Rattle.told_transactions.proofs.Cutting.{IsCut, IsNotCut}
use Rattle.told_transactions.proofs.Records.{newest-with_each, with_each-push}
use Rattle.told_transactions.proofs.Transactions.{cut_first, frames_long, has_one, logged_rest, not_first, not_of_snapshot}

-- ---- transactions as they are told

-- one that came after the change of that number
abbrev pub told_from : ℕ → Transacted → Told
told_from seq t = record { last = seq + length t.changes; frames = frames_as (logged_transacted t) }

pub told-push : (floor : ℕ) (ts : List Transacted) (told : List Told) (n : ℕ) (t : Transacted) → AreTold floor ts told n → IsNumbered n t → AreTold floor (ts ++ t ∷ []) (told ++ told_from n t ∷ []) (n + length t.changes)
told-push floor [] [] n t are is = (subst (λ (k : ℕ). IsNumbered k t) (sym are) is, ap (λ (k : ℕ). told_from k t) (sym are), ap (λ (k : ℕ). k + length t.changes) are)
told-push floor [] (x ∷ xs) n t are is = absurd are
told-push floor (u ∷ ts) [] n t are is = absurd are
told-push floor (u ∷ ts) (x ∷ xs) n t are is = (are.0, are.1, told-push (floor + length u.changes) ts xs n t are.2 is)

-- a transaction after these is numbered after them
told_next : (floor : ℕ) (ts : List Transacted) (told : List Told) (n : ℕ) (t : Transacted) (more : List Transacted) (all : List Told) (last : ℕ) → AreTold floor ts told n → AreTold floor (ts ++ t ∷ more) all last → IsNumbered n t
told_next floor [] [] n t more [] last are others = absurd others
told_next floor [] [] n t more (y ∷ ys) last are others = subst (λ (k : ℕ). IsNumbered k t) are others.0
told_next floor [] (x ∷ xs) n t more all last are others = absurd are
told_next floor (u ∷ ts) [] n t more all last are others = absurd are
told_next floor (u ∷ ts) (x ∷ xs) n t more [] last are others = absurd others
told_next floor (u ∷ ts) (x ∷ xs) n t more (y ∷ ys) last are others = told_next (floor + length u.changes) ts xs n t more ys last are.2 others.2

-- they end with one number
pub told_ends : (floor : ℕ) (ts : List Transacted) (xs ys : List Told) (m n : ℕ) → AreTold floor ts xs m → AreTold floor ts ys n → m ≡ n
told_ends floor [] [] [] m n are others = sym are ∙ others
told_ends floor [] [] (y ∷ ys) m n are others = absurd others
told_ends floor [] (x ∷ xs) ys m n are others = absurd are
told_ends floor (t ∷ ts) [] ys m n are others = absurd are
told_ends floor (t ∷ ts) (x ∷ xs) [] m n are others = absurd others
told_ends floor (t ∷ ts) (x ∷ xs) (y ∷ ys) m n are others = told_ends (floor + length t.changes) ts xs ys m n are.2 others.2

-- what is told of some transactions begins with the first of them
pub first_numbered : (floor : ℕ) (t : Transacted) (ts : List Transacted) (told : List Told) (last : ℕ) → AreTold floor (t ∷ ts) told last → IsNumbered floor t
first_numbered floor t ts [] last are = absurd are
first_numbered floor t ts (x ∷ xs) last are = are.0

-- two numbers from over which a change is numbered
one_floor : (es : List Entry) → HasChange es → (m n : ℕ) (t : Transacted) → t.changes ≡ es → IsNumbered m t → IsNumbered n t → m ≡ n
one_floor [] some m n t is a b = absurd some
one_floor (e ∷ es) some m n t is a b =
    let x : e.seq ≡ m + 1 = (subst (AreNumbered m) is a.changes).0 in
    let y : e.seq ≡ n + 1 = (subst (AreNumbered n) is b.changes).0 in
    omega (arith, x, y)

pub same_floor : (t : Transacted) (ts : List Transacted) → AreLogged (t ∷ ts) → (m n : ℕ) → IsNumbered m t → IsNumbered n t → m ≡ n
same_floor t ts are m n a b = one_floor t.changes are.changed.0 m n t refl a b

-- ---- so far

-- The history has some of the transactions, from over its floor on, and the bytes are the frames of the others.
pub record IsFilledSo (limit floor : ℕ) (ts : List Transacted) (h : History) (bytes : List ℕ) : Type 0 where
  pub done : List Transacted
  pub left : List Transacted
  pub parts : done ++ left ≡ ts
  pub logged : AreLogged left
  pub bytes_are : bytes ≡ frames_as (logged_each left)
  pub told : List Told
  pub are : AreTold floor done told (newest h.floor h.told)
  pub is : h ≡ with_each (none_from limit floor) told

pub filled_none : (limit floor : ℕ) (ts : List Transacted) (h : History) (bytes : List ℕ) → AreLogged ts → frames_as (logged_each ts) ≡ bytes → h ≡ none_from limit floor → IsFilledSo limit floor ts h bytes
filled_none limit floor ts h bytes are is none =
    record { done = []; left = ts; parts = refl; logged = are; bytes_are = sym is; told = []; are = ap (λ (k : History). newest k.floor k.told) (sym none); is = none }

-- a transaction has a frame, so that no bytes have none
none_left : {A : Type 0} (t : Transacted) (more : List Transacted) (bytes : List ℕ) → AreLogged (t ∷ more) → bytes ≡ frames_as (logged_each (t ∷ more)) → length bytes ≡ 0 → A
none_left t more bytes are is none = has_one t more are bytes is (λ l rest framed fits same. let count = ap length same in omega (arith, count, none))

-- the next transaction
pub record HasNext (limit floor : ℕ) (ts : List Transacted) (h : History) (bytes : List ℕ) : Type 0 where
  pub done : List Transacted
  pub next : Transacted
  pub more : List Transacted
  pub parts : done ++ next ∷ more ≡ ts
  pub logged : AreLogged (next ∷ more)
  pub bytes_are : bytes ≡ frames_as (logged_transacted next) ++ frames_as (logged_each more)
  pub told : List Told
  pub are : AreTold floor done told (newest h.floor h.told)
  pub is : h ≡ with_each (none_from limit floor) told

module _ (limit floor : ℕ) (ts : List Transacted) (h : History) (bytes : List ℕ) where
  next_by : (done left : List Transacted) → done ++ left ≡ ts → AreLogged left → bytes ≡ frames_as (logged_each left) → (told : List Told) → AreTold floor done told (newest h.floor h.told)
      → h ≡ with_each (none_from limit floor) told → bytes ≢ [] → HasNext limit floor ts h bytes
  next_by done [] parts logged bytes_are told are is some = absurd (some bytes_are)
  next_by done (t ∷ more) parts logged bytes_are told are is some = record {
    done = done;
    next = t;
    more = more;
    parts = parts;
    logged = logged;
    bytes_are = bytes_are ∙ frames_as-append (logged_transacted t) (logged_each more);
    told = told;
    are = are;
    is = is;
  }

  pub has_next : bytes ≢ [] → IsFilledSo limit floor ts h bytes → HasNext limit floor ts h bytes
  has_next some so = next_by so.done so.left so.parts so.logged so.bytes_are so.told so.are so.is some

  -- it comes after the others
  pub filled_next : (next : HasNext limit floor ts h bytes) → (x : Told) (k : History) (behind : List ℕ) → IsNumbered (newest h.floor h.told) next.next → x ≡ told_from (newest h.floor h.told) next.next
      → k ≡ with_told h x → newest k.floor k.told ≡ x.last → behind ≡ frames_as (logged_each next.more) → IsFilledSo limit floor ts k behind
  filled_next n x k behind numbered x_is k_is ends behind_is = record {
    done = n.done ++ n.next ∷ [];
    left = n.more;
    parts = append_assoc n.done (n.next ∷ []) n.more ∙ n.parts;
    logged = logged_rest n.next n.more n.logged;
    bytes_are = behind_is;
    told = n.told ++ told_from (newest h.floor h.told) n.next ∷ [];
    are = subst (AreTold floor (n.done ++ n.next ∷ []) (n.told ++ told_from (newest h.floor h.told) n.next ∷ [])) (sym (ends ∙ ap (λ (t : Told). t.last) x_is)) (told-push floor n.done n.told (newest h.floor h.told) n.next n.are numbered);
    is = k_is ∙ (λ i. with_told (n.is i) (x_is i)) ∙ sym (with_each-push (none_from limit floor) n.told (told_from (newest h.floor h.told) n.next));
  }

  -- or it isn't numbered after them, and so they aren't numbered one after another
  fails_by : (all done : List Transacted) (next : Transacted) (more : List Transacted) → done ++ next ∷ more ≡ all → ((t : Transacted) (us : List Transacted) → all ≡ t ∷ us → (k : ℕ) → IsNumbered k t → floor ≡ k)
      → (told : List Told) (n : ℕ) → AreTold floor done told n → (IsNumbered n next → ⊥) → (k last : ℕ) (others : List Told) → AreTold k all others last → ⊥
  fails_by [] [] next more parts from told n are not k last others is = absurd (cc parts)
  fails_by [] (d ∷ done) next more parts from told n are not k last others is = absurd (cc parts)
  fails_by (t ∷ us) done next more parts from told n are not k last others is =
      let same = from t us refl k (first_numbered k t us others last is) in
      not (told_next floor done told n next more others last are (subst (λ (all : List Transacted). AreTold floor all others last) (sym parts) (subst (λ (m : ℕ). AreTold m (t ∷ us) others last) (sym same) is)))

  pub fails_next : ((t : Transacted) (us : List Transacted) → ts ≡ t ∷ us → (k : ℕ) → IsNumbered k t → floor ≡ k) → (next : HasNext limit floor ts h bytes) → (IsNumbered (newest h.floor h.told) next.next → ⊥) → IsFilled limit ts None
  fails_next from n not = inr (fails_by ts n.done n.next n.more n.parts from n.told (newest h.floor h.told) n.are not)

  -- all are filled
  all_by : (done left : List Transacted) → done ++ left ≡ ts → AreLogged left → bytes ≡ frames_as (logged_each left) → (told : List Told) → AreTold floor done told (newest h.floor h.told)
      → h ≡ with_each (none_from limit floor) told → bytes ≡ [] → ts ≢ [] → IsFilled limit ts (Some h)
  all_by done [] parts logged bytes_are told are is none some =
      (some, floor, newest h.floor h.told, told, subst (λ (all : List Transacted). AreTold floor all told (newest h.floor h.told)) (sym (append-nil done) ∙ parts) are, is)
  all_by done (t ∷ more) parts logged bytes_are told are is none some = none_left t more bytes logged bytes_are (ap length none)

  pub all_filled : IsFilledSo limit floor ts h bytes → bytes ≡ [] → ts ≢ [] → IsFilled limit ts (Some h)
  all_filled so none some = all_by so.done so.left so.parts so.logged so.bytes_are so.told so.are so.is none some

-- what the next transaction needs of the bytes
has_changes : (es : List Entry) → HasChange es → 1 ≤ length es
has_changes [] some = absurd some
has_changes (e ∷ es) some = omega arith

pub record NeedsOf (t : Transacted) (bytes : List ℕ) : Type 0 where
  pub fits : length (frames_as (logged_transacted t)) ≤ length bytes
  pub some : 1 ≤ length (frames_as (logged_transacted t))
  pub changes : 1 ≤ length t.changes

pub needs_of : (limit floor : ℕ) (ts : List Transacted) (h : History) (bytes : List ℕ) (n : HasNext limit floor ts h bytes) → NeedsOf n.next bytes
needs_of limit floor ts h bytes n =
    let long = frames_long n.next n.more n.logged (frames_as (logged_each (n.next ∷ n.more))) refl in
    let count = ap length n.bytes_are ∙ length-append (frames_as (logged_transacted n.next)) (frames_as (logged_each n.more)) in
    record { fits = omega (arith, count); some = omega (arith, long); changes = has_changes n.next.changes n.logged.changed.0 }

-- none is filled of transactions whose first one has no number
pub fails_first : (limit : ℕ) (ts : List Transacted) → ((t : Transacted) (us : List Transacted) → ts ≡ t ∷ us → (k : ℕ) → IsNumbered k t → ⊥) → IsFilled limit ts None
fails_first limit [] none = inl refl
fails_first limit (t ∷ ts) none = inr (λ floor last told are. none t ts refl floor (first_numbered floor t ts told last are))

-- ---- the history of a log

told_last : (floor : ℕ) (ts : List Transacted) (told : List Told) (last : ℕ) → AreTold floor ts told last → newest floor told ≡ last
told_last floor [] [] last are = are
told_last floor [] (x ∷ xs) last are = absurd are
told_last floor (t ∷ ts) [] last are = absurd are
told_last floor (t ∷ ts) (x ∷ xs) last are = ap (λ (y : Told). newest y.last xs) are.1 ∙ told_last (floor + length t.changes) ts xs last are.2

begins_none : (limit last : ℕ) (log : Log) (ts : List Transacted) → log.transactions ≡ ts → IsFilled limit ts None → BeginsWithLog limit last log (none_from limit last)
begins_none limit last log ts is (inl none) = inl (last, [], subst (λ (l : List Transacted). AreTold last l [] last) (sym (is ∙ none)) refl, refl)
begins_none limit last log ts is (inr not) = inr ((λ floor told are. not floor last told (subst (λ (l : List Transacted). AreTold floor l told last) is are)), refl)

pub begins_empty : (limit last : ℕ) (log : Log) → IsFilled limit log.transactions None → BeginsWithLog limit last log (none_from limit last)
begins_empty limit last log filled = begins_none limit last log log.transactions refl filled

pub ends_at : (limit : ℕ) (ts : List Transacted) (h : History) (floor last : ℕ) (told : List Told) → AreTold floor ts told last → h ≡ with_each (none_from limit floor) told → newest h.floor h.told ≡ last
ends_at limit ts h floor last told are is = ap (λ (k : History). newest k.floor k.told) is ∙ newest-with_each (none_from limit floor) told ∙ told_last floor ts told last are

pub begins_whole : (limit last : ℕ) (log : Log) (h : History) → IsFilled limit log.transactions (Some h) → newest h.floor h.told ≡ last → BeginsWithLog limit last log h
begins_whole limit last log h f ends =
    inl (f.1, f.3, subst (AreTold f.1 log.transactions f.3) (sym (ends_at limit log.transactions h f.1 f.2 f.3 f.4 f.5) ∙ ends) f.4, f.5)

other_end : (limit last : ℕ) (ts : List Transacted) (h : History) → AreLogged ts → ts ≢ [] → (floor end : ℕ) (told : List Told) → AreTold floor ts told end → (end ≡ last → ⊥) → (k : ℕ) (others : List Told) → AreTold k ts others last → ⊥
other_end limit last [] h logged some floor end told are not k others is = some refl
other_end limit last (t ∷ ts) h logged some floor end told are not k others is =
    let same = same_floor t ts logged floor k (first_numbered floor t ts told end are) (first_numbered k t ts others last is) in
    not (told_ends floor (t ∷ ts) told others end last are (subst (λ (m : ℕ). AreTold m (t ∷ ts) others last) (sym same) is))

pub begins_other : (limit last : ℕ) (log : Log) (h : History) → AreLogged log.transactions → IsFilled limit log.transactions (Some h) → (newest h.floor h.told ≡ last → ⊥) → BeginsWithLog limit last log (none_from limit last)
begins_other limit last log h logged f not =
    inr (other_end limit last log.transactions h logged f.0 f.1 f.2 f.3 f.4 (λ same. not (ends_at limit log.transactions h f.1 f.2 f.3 f.4 f.5 ∙ same)), refl)

-- ---- the snapshot before them

-- the kinds of its frames, and the others
pub of_snapshot : (k : Kind) → (k ≡ Kept) ⊎ (k ≡ Noted) → IsOfSnapshot k
of_snapshot k (inl is) = subst IsOfSnapshot (sym is) tt
of_snapshot k (inr is) = subst IsOfSnapshot (sym is) tt

pub of_none : (k : Kind) → (k ≡ Last) ⊎ (k ≡ More) → IsOfSnapshot k → ⊥
of_none k (inl is) kept = subst IsOfSnapshot is kept
of_none k (inr is) kept = subst IsOfSnapshot is kept

-- some frames of the snapshot are left, and the transactions come after them
pub record IsAmong (log : Log) (bytes : List ℕ) : Type 0 where
  pub left : List Logged
  pub of_snapshot : AreOfSnapshot left
  pub entries : AreEntries 2 (entries_in_frames left)
  pub notes : AreEntries 2 (notes_in_frames left)
  pub bytes_are : bytes ≡ frames_as left ++ frames_as (logged_each log.transactions)

pub logged_in : (log : Log) → IsLog log → AreLogged log.transactions
logged_in log is = record {
  changed = is.in_parts.changed;
  framed = (AreEntries-parts (entries_in_frames log.snapshot) (entries_in log.transactions) is.framed).1;
  noted = (AreEntries-parts (notes_in_frames log.snapshot) (notes_in log.transactions) is.noted).1;
}

pub among_all : (log : Log) (bytes : List ℕ) → IsLog log → log_bytes log ≡ bytes → IsAmong log bytes
among_all log bytes is same = record {
  left = log.snapshot;
  of_snapshot = is.in_parts.of_snapshot;
  entries = (AreEntries-parts (entries_in_frames log.snapshot) (entries_in log.transactions) is.framed).0;
  notes = (AreEntries-parts (notes_in_frames log.snapshot) (notes_in log.transactions) is.noted).0;
  bytes_are = sym same ∙ frames_as-append log.snapshot (logged_each log.transactions);
}

-- the first of them can be read, and so can the others
record AreFirstRead (e : Entry) (ls : List Logged) : Type 0 where
  entry : IsEntry 2 e
  entries : AreEntries 2 (entries_in_frames ls)
  notes : AreEntries 2 (notes_in_frames ls)

first_read : (k : Kind) (e : Entry) (ls : List Logged) → AreEntries 2 (entries_in_frames (logged k e ∷ ls)) → AreEntries 2 (notes_in_frames (logged k e ∷ ls)) → AreFirstRead e ls
first_read Last e ls es ns = record { entry = es.0; entries = es.1; notes = ns }
first_read More e ls es ns = record { entry = es.0; entries = es.1; notes = ns }
first_read Kept e ls es ns = record { entry = es.0; entries = es.1; notes = ns }
first_read Noted e ls es ns = record { entry = ns.0; entries = es; notes = ns.1 }

module _ (log : Log) (is_log : IsLog log) (bytes : List ℕ) where
  -- no frame is left
  none_by : (left : List Logged) → AreEntries 2 (entries_in_frames left) → AreEntries 2 (notes_in_frames left) → bytes ≡ frames_as left ++ frames_as (logged_each log.transactions) → IsNotCut bytes → bytes ≡ frames_as (logged_each log.transactions)
  none_by [] es ns is none = is
  none_by (l ∷ ls) es ns is none = not_first l ls (frames_as (logged_each log.transactions)) bytes is (first_read l.kind l.entry ls es ns).entry none

  pub none_after : IsAmong log bytes → IsNotCut bytes → bytes ≡ frames_as (logged_each log.transactions)
  none_after among none = none_by among.left among.entries among.notes among.bytes_are none

  module _ (kind : Kind) (seq : ℕ) (body behind : List ℕ) (cut : IsCut bytes kind seq body behind) where
    -- one of a transaction
    change_by : (left : List Logged) → AreOfSnapshot left → AreEntries 2 (entries_in_frames left) → AreEntries 2 (notes_in_frames left) → bytes ≡ frames_as left ++ frames_as (logged_each log.transactions)
        → (IsOfSnapshot kind → ⊥) → bytes ≡ frames_as (logged_each log.transactions)
    change_by [] of es ns is not = is
    change_by (l ∷ ls) of es ns is not =
        let first = cut_first l ls (frames_as (logged_each log.transactions)) bytes kind seq body behind is (first_read l.kind l.entry ls es ns).entry cut in
        absurd (not (subst IsOfSnapshot (sym first.0) of.0))

    pub change_after : IsAmong log bytes → (IsOfSnapshot kind → ⊥) → bytes ≡ frames_as (logged_each log.transactions)
    change_after among not = change_by among.left among.of_snapshot among.entries among.notes among.bytes_are not

    -- one of the snapshot
    no_transaction : (ts : List Transacted) → AreLogged ts → bytes ≡ frames_as (logged_each ts) → 0 < length bytes → IsOfSnapshot kind → ⊥
    no_transaction [] are is some kept = let none = ap length is in omega (arith, none, some)
    no_transaction (t ∷ ts) are is some kept = not_of_snapshot t ts are bytes is kind seq body behind cut kept

    kept_by : (left : List Logged) → AreOfSnapshot left → AreEntries 2 (entries_in_frames left) → AreEntries 2 (notes_in_frames left) → bytes ≡ frames_as left ++ frames_as (logged_each log.transactions)
        → 0 < length bytes → IsOfSnapshot kind → IsAmong log behind
    kept_by [] of es ns is some kept = absurd (no_transaction log.transactions (logged_in log is_log) is some kept)
    kept_by (l ∷ ls) of es ns is some kept =
        let read = first_read l.kind l.entry ls es ns in
        let first = cut_first l ls (frames_as (logged_each log.transactions)) bytes kind seq body behind is read.entry cut in
        record { left = ls; of_snapshot = of.1; entries = read.entries; notes = read.notes; bytes_are = first.2 }

    pub kept_after : IsAmong log bytes → 0 < length bytes → IsOfSnapshot kind → IsAmong log behind
    kept_after among some kept = kept_by among.left among.of_snapshot among.entries among.notes among.bytes_are some kept
