-- The transactions of a log, as those that were accepted.
use Rattle.std.proofs.Common.{◌≡◌, inl, inr, ℕ, ◌+◌, Bool, true, false, List, [], ◌∷◌, ◌++◌, length, map, Option, None, Some, refl, sym, ap, ap₂, subst, ◌∙◌}
use Rattle.std.proofs.lemmas.List.{length-map}
use Rattle.std.specs.Str.{IsUtf8}
use Rattle.change_history.specs.History.{History, Told, newest, with_each}
use Rattle.record_text.specs.Change.{Change}
use Rattle.record_text.specs.Frame.{AreEntries, Entry, IsFramed, entry}
use Rattle.log_frames.specs.Kinds.{frames_as, note}
use Rattle.log_frames.specs.Log.{IsLog, Log, Transacted, entries_in, log_bytes, logged_together, logged_transacted, logged_with, note_in, notes_in, notes_in_frames}
use Rattle.log_frames.proofs.Logs.{AreEntries-parts}
use Rattle.doc_changes.specs.Marks.{Mark, mark_refusal}
use Rattle.doc_changes.proofs.Marked.{is_mark}
use Rattle.doc_changes.specs.State.{State}
use Rattle.doc_machine.specs.Marking.{anything}
use Rattle.doc_machine.specs.Transaction.{AreFramed, IsNoted, Transaction, changes_of, marked, several, together}
use Rattle.store_commits.specs.Account.{Account}
use Rattle.store_commits.specs.Folds.{entries_from, frames_of, mark_after}
use Rattle.store_commits.specs.Images.{IsLogOf}
use Rattle.store_commits.specs.Notes.{AreNoted, noted_entry}
use Rattle.told_transactions.specs.Begun.{AreLogged, AreNumbered, AreTold, Begins, BeginsWithLog, HoldsLog, IsNumbered}
use Rattle.told_transactions.specs.Told.{AreFrom, AreReadable, none_from, told_each}
use Rattle.recorded_store.specs.Recorded.{IsRecord}
use Rattle.told_transactions.proofs.Filling.{ends_at, logged_in, told_from}
use Rattle.told_transactions.proofs.Records.{KeepsSome, keeps_each, keeps_none, told_one}
use Rattle.told_transactions.proofs.Transactions.{logged_rest}

-- ---- one transaction

-- the changes of entries
abbrev changes_in : List Entry → List Change
changes_in es = map (λ (e : Entry). e.change) es

entries_are : (seq : ℕ) (es : List Entry) → AreNumbered seq es → entries_from seq (changes_in es) ≡ es
entries_are seq [] are = refl
entries_are seq (e ∷ es) are = ap₂ (λ (f : Entry) (fs : List Entry). f ∷ fs) (λ i. entry (sym are.0 i) e.change) (entries_are (seq + 1) es are.1)

framed_changes : (es : List Entry) → AreEntries 2 es → AreFramed (changes_in es)
framed_changes [] are = tt
framed_changes (e ∷ es) are = (are.0.framed, framed_changes es are.1)

-- a transaction that was accepted after the change of that number has these frames, which can be read
pub record IsAccepted (seq : ℕ) (t : Transacted) : Type 0 where
  pub transaction : Transaction
  pub count : length (changes_of transaction) ≡ length t.changes
  pub frames : frames_of true seq transaction ≡ frames_as (logged_transacted t)
  pub framed : AreFramed (changes_of transaction)
  pub noted : IsNoted (mark_after seq transaction)

accepted_plain : (seq : ℕ) (es : List Entry) → AreNumbered seq es → AreEntries 2 es → IsAccepted seq (record { changes = es; mark = None })
accepted_plain seq es numbered are = record {
  transaction = several (changes_in es);
  count = length-map es (λ (e : Entry). e.change);
  frames = ap (λ (fs : List Entry). frames_as (logged_together fs)) (entries_are seq es numbered);
  framed = framed_changes es are;
  noted = tt;
}

-- the value of a mark that can be read is a text
value_is_text : (key value : List ℕ) → IsFramed (note key value) → IsUtf8 value
value_is_text key value framed = framed.sound.3.1

accepted_marked : (s : State) (seq : ℕ) (es : List Entry) (n : Mark) → AreNumbered seq es → n.seq ≡ seq + length es → AreEntries 2 es → AreEntries 2 (noted_entry n ∷ []) → mark_refusal s.profile n.key n.value ≡ None
    → IsAccepted seq (record { changes = es; mark = Some (noted_entry n) })
accepted_marked s seq es n numbered last are read accepted =
    let count : length (changes_in es) ≡ length es = length-map es (λ (e : Entry). e.change) in
    let same : seq + length (changes_in es) ≡ n.seq = ap (λ (k : ℕ). seq + k) count ∙ sym last in
    let mark : Mark = record { key = n.key; value = n.value; seq = seq + length (changes_in es) } in
    record {
      transaction = marked (record { key = n.key; value = n.value; asked = anything }) (together (changes_in es));
      count = count;
      frames = (λ i. frames_as (logged_with (entries_are seq es numbered i) (Some (entry (same i) (note n.key n.value)))));
      framed = framed_changes es are;
      noted = is_mark s.profile mark accepted (value_is_text n.key n.value read.0.framed);
    }

-- ---- one after another

module _ (s : State) (seq : ℕ) where
  -- its mark, if it sets one, is the first of these
  pub record TakesFirst (from : ℕ) (t : Transacted) (ts : List Transacted) : Type 0 where
    pub one : IsAccepted from t
    pub rest : List Mark
    pub notes : notes_in ts ≡ map noted_entry rest
    pub noted : AreNoted s.profile seq rest

  takes_by : (from : ℕ) (es : List Entry) (mark : Option Entry) (ts : List Transacted) (notes : List Mark) → note_in mark ++ notes_in ts ≡ map noted_entry notes → AreNoted s.profile seq notes
      → AreEntries 2 es → AreEntries 2 (note_in mark) → IsNumbered from (record { changes = es; mark = mark }) → TakesFirst from (record { changes = es; mark = mark }) ts
  takes_by from es None ts notes is noted are read numbered = record { one = accepted_plain from es numbered.changes are; rest = notes; notes = is; noted = noted }
  takes_by from es (Some m) ts [] is noted are read numbered = absurd (cc is)
  takes_by from es (Some m) ts (n ∷ notes) is noted are read numbered =
      let same : noted_entry n ≡ m = cc is in
      let rest : notes_in ts ≡ map noted_entry notes = cc is in
      record {
        one = subst (λ (e : Entry). IsAccepted from (record { changes = es; mark = Some e })) same
            (accepted_marked s from es n numbered.changes (ap (λ (e : Entry). e.seq) same ∙ numbered.mark m refl) are (subst (λ (e : Entry). AreEntries 2 (e ∷ [])) (sym same) read) noted.0.accepted);
        rest = notes;
        notes = rest;
        noted = noted.1;
      }

  takes_first : (from : ℕ) (t : Transacted) (ts : List Transacted) (notes : List Mark) → notes_in (t ∷ ts) ≡ map noted_entry notes → AreNoted s.profile seq notes → AreLogged (t ∷ ts) → IsNumbered from t → TakesFirst from t ts
  takes_first from t ts notes is noted are numbered =
      takes_by from t.changes t.mark ts notes is noted (AreEntries-parts t.changes (entries_in ts) are.framed).0 (AreEntries-parts (note_in t.mark) (notes_in ts) are.noted).0 numbered

  after_by : (from : ℕ) (t : Transacted) (ts : List Transacted) (x : Told) (xs : List Told) → x ≡ told_from from t → (one : IsAccepted from t) → AreFrom true (from + length t.changes) xs → AreFrom true from (x ∷ xs)
  after_by from t ts x xs x_is one rest =
      let last : from + length t.changes ≡ from + length (changes_of one.transaction) = ap (λ (n : ℕ). from + n) (sym one.count) in
      let same : x ≡ told_one true from one.transaction = x_is ∙ (λ i. record { last = last i; frames = sym one.frames i }) in (
        one.transaction ∷ rest.0,
        ap₂ (λ (y : Told) (ys : List Told). y ∷ ys) same (rest.1 ∙ ap (λ (n : ℕ). told_each true n rest.0) last),
        (one.framed, one.noted, subst (λ (n : ℕ). AreReadable n rest.0) last rest.2),
      )

  pub are_after : (from : ℕ) (ts : List Transacted) (told : List Told) (last : ℕ) (notes : List Mark) → notes_in ts ≡ map noted_entry notes → AreNoted s.profile seq notes → AreLogged ts → AreTold from ts told last → AreFrom true from told
  are_after from [] [] last notes is noted logged are = ([], refl, tt)
  are_after from [] (x ∷ xs) last notes is noted logged are = absurd are
  are_after from (t ∷ ts) [] last notes is noted logged are = absurd are
  are_after from (t ∷ ts) (x ∷ xs) last notes is noted logged are =
      let first = takes_first from t ts notes is noted logged are.0 in
      after_by from t ts x xs are.1 first.one (are_after (from + length t.changes) ts xs last first.rest first.notes first.noted (logged_rest t ts logged) are.2)

  -- marks behind others
  pub record TakesRest (notes : List Entry) : Type 0 where
    pub marks : List Mark
    pub notes_are : notes ≡ map noted_entry marks
    pub noted : AreNoted s.profile seq marks

  takes_rest : (first rest : List Entry) (notes : List Mark) → first ++ rest ≡ map noted_entry notes → AreNoted s.profile seq notes → TakesRest rest
  takes_rest [] rest notes is noted = record { marks = notes; notes_are = is; noted = noted }
  takes_rest (e ∷ es) rest [] is noted = absurd (cc is)
  takes_rest (e ∷ es) rest (n ∷ notes) is noted = takes_rest es rest notes (cc is) noted.1

-- ---- the history of a store that was opened

pub record IsBegun (rides : Bool) (last : ℕ) (h : History) : Type 0 where
  pub keeps : KeepsSome rides h
  pub ends : newest h.floor h.told ≡ last

pub begun_none : (rides : Bool) (limit last : ℕ) (h : History) → h ≡ none_from limit last → IsBegun rides last h
begun_none rides limit last h is = record { keeps = subst (KeepsSome rides) (sym is) (keeps_none rides limit last); ends = ap (λ (k : History). newest k.floor k.told) is }

begun_by : (s : State) (seq limit last : ℕ) (log : Log) (h : History) (notes : List Mark) → notes_in log.transactions ≡ map noted_entry notes → AreNoted s.profile seq notes → AreLogged log.transactions → BeginsWithLog limit last log h → IsBegun true last h
begun_by s seq limit last log h notes is noted logged (inl begins) =
    let floor = begins.0 in
    let told = begins.1 in
    let after = are_after s seq floor log.transactions told last notes is noted logged begins.2 in
    let same : h ≡ with_each (none_from limit floor) (told_each true floor after.0) = begins.3 ∙ ap (with_each (none_from limit floor)) after.1 in
    record {
      keeps = subst (KeepsSome true) (sym same) (keeps_each true (none_from limit floor) floor after.0 refl (keeps_none true limit floor) after.2);
      ends = ends_at limit log.transactions h floor last told begins.2 begins.3;
    }
begun_by s seq limit last log h notes is noted logged (inr other) = begun_none true limit last h other.1

begun_in_3 : (s : State) (seq limit : ℕ) (bytes : List ℕ) (h : History) (entries : List Entry) (notes : List Mark) → IsLogOf entries notes bytes → AreNoted s.profile seq notes → Begins true limit seq bytes h → IsBegun true seq h
begun_in_3 s seq limit bytes h entries notes is noted begins =
    let rest = takes_rest s seq (notes_in_frames is.log.snapshot) (notes_in is.log.transactions) notes is.notes_are noted in
    begun_by s seq limit seq is.log h rest.marks rest.notes_are rest.noted (logged_in is.log is.is_log) (begins is.log is.is_log is.bytes_are)

begun : (account : Account) (bytes : List ℕ) (limit : ℕ) (h : History) → HoldsLog account bytes → (rides : Bool) → account.rides ≡ rides → Begins rides limit account.state.seq bytes h → IsBegun rides account.state.seq h
begun account bytes limit h log true is begins =
    let holds = log is in
    begun_in_3 account.state account.state.seq limit bytes h holds.entries holds.notes (holds.spelled.logged refl) holds.noted begins
begun account bytes limit h log false is begins = begun_none false limit account.state.seq h begins

pub is_record : (account : Account) (h : History) → IsBegun account.rides account.state.seq h → IsRecord (record { account = account; history = h })
is_record account h is = record { ends = is.ends; transactions = is.keeps.transactions; told = is.keeps.told; readable = is.keeps.readable }

pub record_opened : (account : Account) (bytes : List ℕ) (limit : ℕ) (h : History) → HoldsLog account bytes → Begins account.rides limit account.state.seq bytes h → IsRecord (record { account = account; history = h })
record_opened account bytes limit h log begins = is_record account h (begun account bytes limit h log account.rides refl begins)

-- the log that a history is begun with
pub a_log : (account : Account) (bytes : List ℕ) → HoldsLog account bytes → account.rides ≡ true → (log : Log) × IsLog log × (log_bytes log ≡ bytes)
a_log account bytes holds three = let log = (holds three).spelled.logged refl in (log.log, log.is_log, log.bytes_are)
