-- The frames of transactions in a log, cut one after another.
use Rattle.std.proofs.Common.{◌≡◌, ◌⊎◌, inl, inr, ℕ, ◌+◌, ◌-◌, ◌≤◌, Bool, true, false, if◌then◌else◌, List, [], ◌∷◌, ◌++◌, length, length-append, append_assoc, append-nil, Option, Some, None, refl, sym, ap, subst, ◌∙◌, arith}
use Rattle.std.specs.Prelude.{⊤, MatchOption}
use Rattle.std.specs.Option.{SomeIff}
use Rattle.record_text.specs.Frame.{AreEntries, Entry, IsEntry}
use Rattle.log_frames.specs.Kinds.{Logged, frame_as, frames_as, is_noted, logged}
use Rattle.log_frames.specs.Log.{HasChange, IsOfSnapshot, Transacted, entries_in, logged_each, logged_transacted, logged_with, note_in, notes_in}
use Rattle.log_frames.specs.declared.kind.Kind.{Kind}
use Rattle.log_frames.specs.declared.kind.Kind.TheVariants.{Last, More, Kept, Noted}
use Rattle.log_frames.proofs.Frames.{frames_as-append}
use Rattle.log_frames.proofs.Logs.{AreEntries-append, AreEntries-parts}
use Rattle.told_transactions.specs.Begun.{AreLogged, AreNumbered, IsNumbered}
use Rattle.told_transactions.proofs.Cutting.{IsCut, IsNotCut}

-- ---- parts of a log

pub logged_first : (t : Transacted) (ts : List Transacted) → AreLogged (t ∷ ts) → AreLogged (t ∷ [])
logged_first t ts are = record {
  changed = (are.changed.0, tt);
  framed = AreEntries-append t.changes [] (AreEntries-parts t.changes (entries_in ts) are.framed).0 tt;
  noted = AreEntries-append (note_in t.mark) [] (AreEntries-parts (note_in t.mark) (notes_in ts) are.noted).0 tt;
}

pub logged_rest : (t : Transacted) (ts : List Transacted) → AreLogged (t ∷ ts) → AreLogged ts
logged_rest t ts are = record {
  changed = are.changed.1;
  framed = (AreEntries-parts t.changes (entries_in ts) are.framed).1;
  noted = (AreEntries-parts (note_in t.mark) (notes_in ts) are.noted).1;
}

-- ---- numbers

pub numbered-append : (seq : ℕ) (es fs : List Entry) → AreNumbered seq (es ++ fs) → AreNumbered seq es × AreNumbered (seq + length es) fs
numbered-append seq [] fs are = let none : seq ≡ seq + 0 = omega arith in (tt, subst (λ (n : ℕ). AreNumbered n fs) none are)
numbered-append seq (e ∷ es) fs are =
    let rest = numbered-append (seq + 1) es fs are.1 in
    let sum : (seq + 1) + length es ≡ seq + length (e ∷ es) = omega arith in
    ((are.0, rest.0), subst (λ (n : ℕ). AreNumbered n fs) sum rest.1)

pub numbered-push : (seq : ℕ) (es : List Entry) (e : Entry) → AreNumbered seq es → e.seq ≡ (seq + length es) + 1 → AreNumbered seq (es ++ e ∷ [])
numbered-push seq [] e are next = (next ∙ omega arith, tt)
numbered-push seq (f ∷ es) e are next = (are.0, numbered-push (seq + 1) es e are.1 (next ∙ omega arith))

-- ---- the frames of one transaction

-- of a transaction these changes are left to be read, or its mark
abbrev pub AreLeft : Option Entry → List Entry → Type 0
AreLeft None [] = ⊥
AreLeft None (e ∷ es) = ⊤
AreLeft (Some m) es = ⊤

-- the first frame of those that are left, and the frames after it
pub data Head (mark : Option Entry) : List Entry → Logged → List Logged → Type 0 where
  last_one : (e : Entry) → mark ≡ None → Head mark (e ∷ []) (logged Last e) []
  one_more : (e : Entry) (es : List Entry) → AreLeft mark es → Head mark (e ∷ es) (logged More e) (logged_with es mark)
  the_mark : (m : Entry) → mark ≡ Some m → Head mark [] (logged Noted m) []

pub record HasHead (mark : Option Entry) (left : List Entry) : Type 0 where
  pub first : Logged
  pub rest : List Logged
  pub head : Head mark left first rest
  pub all : logged_with left mark ≡ first ∷ rest
  pub entry : IsEntry 2 first.entry

pub has_head : (mark : Option Entry) (left : List Entry) → AreLeft mark left → AreEntries 2 left → AreEntries 2 (note_in mark) → HasHead mark left
has_head None [] some are note = absurd some
has_head None (e ∷ []) some are note = record { first = logged Last e; rest = []; head = last_one e refl; all = refl; entry = are.0 }
has_head None (e ∷ f ∷ es) some are note = record { first = logged More e; rest = logged_with (f ∷ es) None; head = one_more e (f ∷ es) tt; all = refl; entry = are.0 }
has_head (Some m) [] some are note = record { first = logged Noted m; rest = []; head = the_mark m refl; all = refl; entry = note.0 }
has_head (Some m) (e ∷ es) some are note = record { first = logged More e; rest = logged_with es (Some m); head = one_more e es tt; all = refl; entry = are.0 }

-- the frame that was cut is the first one
pub cut_first : (l : Logged) (ls : List Logged) (more bytes : List ℕ) (kind : Kind) (seq : ℕ) (body behind : List ℕ) → bytes ≡ frames_as (l ∷ ls) ++ more → IsEntry 2 l.entry → IsCut bytes kind seq body behind
    → (kind ≡ l.kind) × (seq ≡ l.entry.seq) × (behind ≡ frames_as ls ++ more)
cut_first l ls more bytes kind seq body behind is entry cut =
    let one = cut l (frames_as ls ++ more) entry.framed entry.seq_fits (is ∙ append_assoc (frame_as l) (frames_as ls) more) in
    (one.0, one.1, one.3)

pub not_first : {A : Type 0} (l : Logged) (ls : List Logged) (more bytes : List ℕ) → bytes ≡ frames_as (l ∷ ls) ++ more → IsEntry 2 l.entry → IsNotCut bytes → A
not_first l ls more bytes is entry none = absurd (none l (frames_as ls ++ more) entry.framed entry.seq_fits (is ∙ append_assoc (frame_as l) (frames_as ls) more))

-- the number that the next frame has to have, after the change of number `last`
abbrev pub next_of : Kind → ℕ → ℕ
next_of kind last = if is_noted kind then last else last + 1

-- it has it, if the changes are numbered one after another
number_is : (mark : Option Entry) (left : List Entry) (l : Logged) (ls : List Logged) → Head mark left l ls → (before last : ℕ) (done : List Entry) → last ≡ before + length done
    → AreNumbered before (done ++ left) → ((m : Entry) → mark ≡ Some m → m.seq ≡ before + length (done ++ left)) → l.entry.seq ≡ next_of l.kind last
number_is mark _ _ _ (last_one e none) before last done is numbered noted = (numbered-append before done (e ∷ []) numbered).1.0 ∙ ap (λ (n : ℕ). n + 1) (sym is)
number_is mark _ _ _ (one_more e es left) before last done is numbered noted = (numbered-append before done (e ∷ es) numbered).1.0 ∙ ap (λ (n : ℕ). n + 1) (sym is)
number_is mark _ _ _ (the_mark m some) before last done is numbered noted = noted m some ∙ ap (λ (es : List Entry). before + length es) (append-nil done) ∙ sym is

-- whether a frame of that kind ends its transaction
abbrev pub ends_with : Kind → Bool
ends_with Last = true
ends_with More = false
ends_with Kept = false
ends_with Noted = true

pub ending : (k : Kind) → (k ≡ Last) ⊎ (k ≡ Noted) → ends_with k ≡ true
ending k (inl is) = ap ends_with is
ending k (inr is) = ap ends_with is

pub not_ending : (k : Kind) → (k ≡ More) ⊎ (k ≡ Kept) → ends_with k ≡ false
not_ending k (inl is) = ap ends_with is
not_ending k (inr is) = ap ends_with is

-- So far the first changes of a transaction were read, each with the number that comes next; the others are left, or its mark.
pub record HasRead (before : ℕ) (t : Transacted) (more : List ℕ) (last : ℕ) (bytes : List ℕ) : Type 0 where
  pub done : List Entry
  pub left : List Entry
  pub parts : done ++ left ≡ t.changes
  pub some : AreLeft t.mark left
  pub bytes_are : bytes ≡ frames_as (logged_with left t.mark) ++ more
  pub last_is : last ≡ before + length done
  pub numbered : AreNumbered before done

-- nothing is read yet
some_changes : (mark : Option Entry) (es : List Entry) → HasChange es → AreLeft mark es
some_changes None [] some = absurd some
some_changes None (e ∷ es) some = tt
some_changes (Some m) es some = tt

pub none_read : (before : ℕ) (t : Transacted) (more bytes : List ℕ) → AreLogged (t ∷ []) → bytes ≡ frames_as (logged_transacted t) ++ more → HasRead before t more before bytes
none_read before t more bytes are is = record { done = []; left = t.changes; parts = refl; some = some_changes t.mark t.changes are.changed.0; bytes_are = is; last_is = omega arith; numbered = tt }

-- what the last frame makes of it
pub record IsWhole (before : ℕ) (t : Transacted) (more : List ℕ) (last : ℕ) (behind : List ℕ) : Type 0 where
  pub numbered : IsNumbered before t
  pub last_is : last ≡ before + length t.changes
  pub behind_is : behind ≡ more

whole_by : (before : ℕ) (t : Transacted) (more : List ℕ) (last : ℕ) (behind : List ℕ) (left : List Entry) (l : Logged) (ls : List Logged) → Head t.mark left l ls → (done : List Entry) → done ++ left ≡ t.changes
    → last ≡ before + length done → AreNumbered before done → ends_with l.kind ≡ true → l.entry.seq ≡ next_of l.kind last → behind ≡ frames_as ls ++ more → IsWhole before t more (next_of l.kind last) behind
whole_by before t more last behind _ _ _ (last_one e none) done parts is numbered ends next behind_is =
    let all = length-append done (e ∷ []) in
    let count = ap length parts in record {
      numbered = record {
        changes = subst (AreNumbered before) parts (numbered-push before done e numbered (next ∙ ap (λ (n : ℕ). n + 1) is));
        mark = λ m some. (let both = sym none ∙ some in absurd (cc both));
      };
      last_is = omega (arith, all, count, is);
      behind_is = behind_is;
    }
whole_by before t more last behind _ _ _ (one_more e es left) done parts is numbered ends next behind_is = absurd (cc ends)
whole_by before t more last behind _ _ _ (the_mark m some) done parts is numbered ends next behind_is =
    let all : done ≡ t.changes = sym (append-nil done) ∙ parts in
    let sum : last ≡ before + length t.changes = is ∙ ap (λ (es : List Entry). before + length es) all in record {
      numbered = record {
        changes = subst (AreNumbered before) all numbered;
        mark = λ n other. (let same : m ≡ n = (let both = sym some ∙ other in cc both) in ap (λ (e : Entry). e.seq) (sym same) ∙ next ∙ sum);
      };
      last_is = sum;
      behind_is = behind_is;
    }

read_by : (before : ℕ) (t : Transacted) (more : List ℕ) (last : ℕ) (behind : List ℕ) (left : List Entry) (l : Logged) (ls : List Logged) → Head t.mark left l ls → (done : List Entry) → done ++ left ≡ t.changes
    → last ≡ before + length done → AreNumbered before done → ends_with l.kind ≡ false → l.entry.seq ≡ next_of l.kind last → behind ≡ frames_as ls ++ more → HasRead before t more (next_of l.kind last) behind
read_by before t more last behind _ _ _ (last_one e none) done parts is numbered ends next behind_is = absurd (cc ends)
read_by before t more last behind _ _ _ (one_more e es left) done parts is numbered ends next behind_is = record {
  done = done ++ e ∷ [];
  left = es;
  parts = append_assoc done (e ∷ []) es ∙ parts;
  some = left;
  bytes_are = behind_is;
  last_is = (let all = length-append done (e ∷ []) in omega (arith, all, is));
  numbered = numbered-push before done e numbered (next ∙ ap (λ (n : ℕ). n + 1) is);
}
read_by before t more last behind _ _ _ (the_mark m some) done parts is numbered ends next behind_is = absurd (cc ends)

module _ (before : ℕ) (t : Transacted) (more : List ℕ) (last : ℕ) (bytes : List ℕ) (are : AreLogged (t ∷ [])) (read : HasRead before t more last bytes) where
  entries_left : AreEntries 2 read.left
  entries_left =
      let own = (AreEntries-parts t.changes [] are.framed).0 in
      (AreEntries-parts read.done read.left (subst (AreEntries 2) (sym read.parts) own)).1

  next_one : HasHead t.mark read.left
  next_one = has_head t.mark read.left read.some entries_left (AreEntries-parts (note_in t.mark) [] are.noted).0

  bytes_so : bytes ≡ frames_as (next_one.first ∷ next_one.rest) ++ more
  bytes_so = read.bytes_are ∙ ap (λ (ls : List Logged). frames_as ls ++ more) next_one.all

  -- there is a frame
  pub has_frame : {A : Type 0} → IsNotCut bytes → A
  has_frame none = not_first next_one.first next_one.rest more bytes bytes_so next_one.entry none

  module _ (kind : Kind) (seq : ℕ) (body behind : List ℕ) (cut : IsCut bytes kind seq body behind) where
    cut_is : (kind ≡ next_one.first.kind) × (seq ≡ next_one.first.entry.seq) × (behind ≡ frames_as next_one.rest ++ more)
    cut_is = cut_first next_one.first next_one.rest more bytes kind seq body behind bytes_so next_one.entry cut

    -- with another number the changes aren't numbered one after another
    pub not_numbered : (seq ≡ next_of kind last → ⊥) → IsNumbered before t → ⊥
    not_numbered other is =
        let next = number_is t.mark read.left next_one.first next_one.rest next_one.head before last read.done read.last_is (subst (AreNumbered before) (sym read.parts) is.changes)
        (λ m some. is.mark m some ∙ ap (λ (es : List Entry). before + length es) (sym read.parts)) in
        other (cut_is.1 ∙ next ∙ ap (λ (k : Kind). next_of k last) (sym cut_is.0))

    module _ (next : seq ≡ next_of kind last) where
      next_is : next_one.first.entry.seq ≡ next_of next_one.first.kind last
      next_is = sym cut_is.1 ∙ next ∙ ap (λ (k : Kind). next_of k last) cut_is.0

      pub ends : ends_with kind ≡ true → IsWhole before t more (next_of kind last) behind
      ends is = subst (λ (k : Kind). IsWhole before t more (next_of k last) behind) (sym cut_is.0)
          (whole_by before t more last behind read.left next_one.first next_one.rest next_one.head read.done read.parts read.last_is read.numbered (ap ends_with (sym cut_is.0) ∙ is) next_is cut_is.2)

      pub goes_on : ends_with kind ≡ false → HasRead before t more (next_of kind last) behind
      goes_on is = subst (λ (k : Kind). HasRead before t more (next_of k last) behind) (sym cut_is.0)
          (read_by before t more last behind read.left next_one.first next_one.rest next_one.head read.done read.parts read.last_is read.numbered (ap ends_with (sym cut_is.0) ∙ is) next_is cut_is.2)

-- what is answered of it
pub answer_whole : (before : ℕ) (t : Transacted) (more : List ℕ) (last next : ℕ) (kind : Kind) (bytes behind : List ℕ) → bytes ≡ frames_as (logged_transacted t) ++ more → next ≡ next_of kind last → IsWhole before t more (next_of kind last) behind
    → IsNumbered before t × (next ≡ before + length t.changes) × (length bytes - length behind ≡ length (frames_as (logged_transacted t)))
answer_whole before t more last next kind bytes behind is next_is whole =
    let count = ap length is ∙ length-append (frames_as (logged_transacted t)) more in
    let left = ap length whole.behind_is in
    (whole.numbered, next_is ∙ whole.last_is, omega (arith, count, left))

-- ---- the first frame of transactions

-- that of a change
number_first : (mark : Option Entry) (left : List Entry) (l : Logged) (ls : List Logged) → Head mark left l ls → HasChange left → (floor : ℕ) → AreNumbered floor left → l.entry.seq ≡ floor + 1
number_first mark _ _ _ (last_one e none) some floor are = are.0
number_first mark _ _ _ (one_more e es left) some floor are = are.0
number_first mark _ _ _ (the_mark m is) some floor are = absurd some

change_first : (mark : Option Entry) (left : List Entry) (l : Logged) (ls : List Logged) → Head mark left l ls → HasChange left → IsOfSnapshot l.kind → ⊥
change_first mark _ _ _ (last_one e none) some kept = kept
change_first mark _ _ _ (one_more e es left) some kept = kept
change_first mark _ _ _ (the_mark m is) some kept = some

module _ (t : Transacted) (ts : List Transacted) (are : AreLogged (t ∷ ts)) (bytes : List ℕ) (is : bytes ≡ frames_as (logged_each (t ∷ ts))) where
  one : HasHead t.mark t.changes
  one = has_head t.mark t.changes (some_changes t.mark t.changes are.changed.0) (AreEntries-parts t.changes (entries_in ts) are.framed).0 (AreEntries-parts (note_in t.mark) (notes_in ts) are.noted).0

  bytes_one : bytes ≡ frames_as (one.first ∷ one.rest) ++ frames_as (logged_each ts)
  bytes_one = is ∙ frames_as-append (logged_transacted t) (logged_each ts) ∙ ap (λ (ls : List Logged). frames_as ls ++ frames_as (logged_each ts)) one.all

  pub has_one : {A : Type 0} → IsNotCut bytes → A
  has_one none = not_first one.first one.rest (frames_as (logged_each ts)) bytes bytes_one one.entry none

  -- it has 12 bytes at least
  pub frames_long : 12 ≤ length (frames_as (logged_transacted t))
  frames_long = let count = ap (λ (ls : List Logged). length (frames_as ls)) one.all in omega (arith, count)

  module _ (kind : Kind) (seq : ℕ) (body behind : List ℕ) (cut : IsCut bytes kind seq body behind) where
    one_is : (kind ≡ one.first.kind) × (seq ≡ one.first.entry.seq) × (behind ≡ frames_as one.rest ++ frames_as (logged_each ts))
    one_is = cut_first one.first one.rest (frames_as (logged_each ts)) bytes kind seq body behind bytes_one one.entry cut

    pub number_of_first : (floor : ℕ) → IsNumbered floor t → seq ≡ floor + 1
    number_of_first floor numbered = one_is.1 ∙ number_first t.mark t.changes one.first one.rest one.head are.changed.0 floor numbered.changes

    pub not_of_snapshot : IsOfSnapshot kind → ⊥
    not_of_snapshot kept = change_first t.mark t.changes one.first one.rest one.head are.changed.0 (subst IsOfSnapshot one_is.0 kept)

    pub before_first : (r : Option ℕ) → SomeIff r (1 ≤ seq) (seq - 1) → MatchOption r ((floor : ℕ) → IsNumbered floor t → ⊥) (λ before. (floor : ℕ) → IsNumbered floor t → before ≡ floor)
    before_first None none = λ floor numbered. none (let is = number_of_first floor numbered in omega (arith, is))
    before_first (Some n) some = λ floor numbered. (let is = number_of_first floor numbered in let less = some.1 in omega (arith, is, less))
