-- Segments one after another, and the whole batch.
use Rattle.std.proofs.Common.{◌≡◌, ℕ, ◌+◌, List, [], ◌∷◌, ◌++◌, length, map, refl, sym, ◌∙◌, ap, subst, true, false, Option}
use Rattle.std.proofs.lemmas.List.{append_assoc, append-nil}
use Rattle.sector_device.specs.Disk.{Disk}
use Rattle.store_journal.specs.JournalView.{JournalView}
use Rattle.doc_machine.specs.Transaction.{Transaction, transaction_of}
use Rattle.doc_machine.specs.declared.transaction.Transaction.{Transaction as Held}
use Rattle.refusals.specs.declared.numbers.TheConstants.{BROKEN}
use Rattle.doc_changes.specs.Refusals.{plain}
use Rattle.doc_changes.specs.State.{State}
use Rattle.doc_machine.specs.Trial.{TrialView, state_at}
use Rattle.store_commits.specs.Account.{Account, StoreView, IsStanding, with_copy}
use Rattle.store_commits.specs.Batch.{Slot, asked, changes, waiting}
use Rattle.store_commits.specs.Copying.{Target, copy_of}
use Rattle.store_commits.specs.Folds.{AreFramedEach, after_each, all_changes, frames_each}
use Rattle.store_commits.specs.Inside.{IsStored, account_of, store_view, ArePlanned, HasCome, HasCommitted, IsPart, IsReady, AnswersPart, RanPrefix, none_planned, one_planned, tried_from}
use Rattle.store_commits.specs.Run.{Batched, Refused, Reply, dones_of}
use Rattle.store_commits.specs.declared.segment.Segment.{Segment}
use Rattle.store_commits.proofs.Batches.{all_broken, batched, went_both, went_nowhere}
use Rattle.store_commits.proofs.Changes.{HaveSome, after_append, seq_counts, some_behind, state_before}
use Rattle.store_commits.proofs.Given.{framed_both, given_both}
use Rattle.store_commits.proofs.Slots.{asked_append, both_committed, waiting_append}
use Rattle.store_commits.proofs.Standing.{standing}
use Rattle.store_commits.proofs.Modelled.{AreCoherent}

module _ {D : Type 0} (disk : D → Disk) (coherent : AreCoherent disk) where
  -- nothing is committed yet
  pub come_nowhere : (start : JournalView D) (s : State) (copy : Option Target) (slots : List Slot) (end : Account) (segments : List Segment) → IsStored (disk start.device) start s copy
      → ArePlanned (with_copy (account_of start s) (copy_of copy)) segments slots end → HasCome disk start s copy slots end start copy segments [] []
  come_nowhere start s copy slots end segments stored planned = record {
    first = [];
    left = slots;
    parts = refl;
    mid = with_copy (account_of start s) (copy_of copy);
    planned = planned;
    was = record {
      told = record { first = []; lost = []; parts = refl; none_lost = λ _. refl; none_first = λ _. refl };
      stored = stored;
      account = λ _. refl;
      went = went_nowhere disk coherent (store_view start s copy) (asked slots) (standing (disk start.device) start s stored.held);
    };
    given = refl;
    framed = tt;
  }

  -- these and those
  module _ (start now new : JournalView D) (s : State) (copy copied more_copied : Option Target) (slots more : List Slot) (front left : List Transaction) (front_is : front ≡ asked more ++ left) (mid b : Account) (rs qs : List Reply)
      (first : AnswersPart disk start s copy slots front mid now copied rs) where
    abbrev t : State
    t = after_each s (waiting first.told.first)

    module _ (second : AnswersPart disk now t copied more left b new more_copied qs) where
      state_both : after_each t (waiting second.told.first) ≡ after_each s (waiting (first.told.first ++ second.told.first))
      state_both = sym (ap (after_each s) (waiting_append first.told.first second.told.first) ∙ after_append s (waiting first.told.first) (waiting second.told.first))

      both_went : RanPrefix disk (store_view start s copy) (store_view new (after_each t (waiting second.told.first)) more_copied) (asked slots ++ asked more) (rs ++ qs) left
      both_went = went_both disk coherent (store_view start s copy) (store_view now t copied) (store_view new (after_each t (waiting second.told.first)) more_copied) (asked slots) (asked more) left rs qs
          (subst (RanPrefix disk (store_view start s copy) (store_view now t copied) (asked slots) rs) front_is first.went) second.went

      pub answered_both : AnswersPart disk start s copy (slots ++ more) left b new more_copied (rs ++ qs)
      answered_both = record {
        told = both_committed start.broken now.broken new.broken slots more first.told second.told
            (λ fails. ap (λ (v : StoreView D). v.account.broken) ((first.went.lasts.still fails).0) ∙ fails) (λ fails. ap (λ (v : StoreView D). v.account.broken) ((second.went.lasts.still fails).0) ∙ fails);
        stored = subst (λ (u : State). IsStored (disk new.device) new u more_copied) state_both second.stored;
        account = λ works. subst (λ (u : State). with_copy (account_of new u) (copy_of more_copied) ≡ b) state_both (second.account works);
        went = subst (λ (u : State). RanPrefix disk (store_view start s copy) (store_view new u more_copied) (asked (slots ++ more)) (rs ++ qs) left) state_both
            (subst (λ (ts : List Transaction). RanPrefix disk (store_view start s copy) (store_view new (after_each t (waiting second.told.first)) more_copied) ts (rs ++ qs) left) (sym (asked_append slots more)) both_went);
      }

  -- what a segment that is committed next makes of it
  abbrev pub Goes : JournalView D → Option Target → Segment → JournalView D → Option Target → List Reply → List Reply → List (List ℕ) → List (List ℕ) → Type 0
  Goes now copied segment new more_copied said more_said frames more_frames = (t : State) (a : Account) (left : List Transaction) (slots : List Slot) (b : Account) → IsStored (disk now.device) now t copied
      → (now.broken ≡ false → with_copy (account_of now t) (copy_of copied) ≡ a) → IsPart a left segment slots b
      → (more : List Reply) × (more_said ≡ said ++ more) × (more_frames ≡ frames ++ frames_each now.rides t.seq (dones_of (changes (asked slots)) more)) × AreFramedEach t.seq (dones_of (changes (asked slots)) more)
      × AnswersPart disk now t copied slots left b new more_copied more

  module _ (start now new : JournalView D) (s : State) (copy copied more_copied : Option Target) (slots : List Slot) (end : Account) (said more_said : List Reply) (frames more_frames : List (List ℕ)) (segment : Segment) (goes : Goes now copied segment new more_copied said more_said frames more_frames) where
    come_by : (first left : List Slot) (mid : Account) (rest : List Segment) → first ++ left ≡ slots → ArePlanned mid (segment ∷ rest) left end
        → AnswersPart disk start s copy first (asked left) mid now copied said → frames ≡ frames_each start.rides s.seq (dones_of (changes (asked first)) said) → AreFramedEach s.seq (dones_of (changes (asked first)) said)
        → HasCome disk start s copy slots end new more_copied rest more_said more_frames
    come_by first _ _ rest parts (one_planned mid b _ _ _ these others part planned) was given framed =
        let one = goes (after_each s (waiting was.told.first)) mid (asked others) these b was.stored was.account part in
        record {
          first = first ++ these;
          left = others;
          parts = append_assoc first these others ∙ parts;
          mid = b;
          planned = planned;
          was = subst (AnswersPart disk start s copy (first ++ these) (asked others) b new more_copied) (sym one.1)
              (answered_both start now new s copy copied more_copied first these (asked (these ++ others)) (asked others) (asked_append these others) mid b said one.0 was one.4);
          given = one.2 ∙ given_both disk start now s copy copied first these (asked (these ++ others)) mid said one.0 was frames given
              ∙ ap (λ (rs : List Reply). frames_each start.rides s.seq (dones_of (changes (asked (first ++ these))) rs)) (sym one.1);
          framed = subst (λ (rs : List Reply). AreFramedEach s.seq (dones_of (changes (asked (first ++ these))) rs)) (sym one.1)
              (framed_both disk start now s copy copied first these (asked (these ++ others)) mid said one.0 was framed one.3);
        }

    pub come_further : (rest : List Segment) → HasCome disk start s copy slots end now copied (segment ∷ rest) said frames → HasCome disk start s copy slots end new more_copied rest more_said more_frames
    come_further rest come = come_by come.first come.left come.mid rest come.parts come.planned come.was come.given come.framed

  module _ (start now : JournalView D) (s : State) (copy copied : Option Target) (slots : List Slot) (end : Account) (replies : List Reply) (frames : List (List ℕ)) where
    -- the next segment is ready
    ready_by : (t : State) (left : List Slot) (mid : Account) (segment : Segment) (rest : List Segment) → IsStored (disk now.device) now t copied → with_copy (account_of now t) (copy_of copied) ≡ mid → ArePlanned mid (segment ∷ rest) left end
        → IsReady disk now copied segment
    ready_by t _ _ segment rest stored same (one_planned mid b _ _ _ these others part planned) = (t, asked others, these, b, stored, subst (λ (x : Account). IsPart x (asked others) segment these b) (sym same) part)

    pub next_ready : (segment : Segment) (rest : List Segment) → HasCome disk start s copy slots end now copied (segment ∷ rest) replies frames → now.broken ≡ false → IsReady disk now copied segment
    next_ready segment rest come works = ready_by (after_each s (waiting come.was.told.first)) come.left come.mid segment rest come.was.stored (come.was.account works) come.planned

    -- all are committed
    all_by : (first left : List Slot) (mid : Account) → first ++ left ≡ slots → ArePlanned mid [] left end → AnswersPart disk start s copy first (asked left) mid now copied replies → AnswersPart disk start s copy slots [] end now copied replies
    all_by first _ _ parts (none_planned mid) was = subst (λ (l : List Slot). AnswersPart disk start s copy l [] mid now copied replies) (sym (append-nil first) ∙ parts) was

    first_all : (first left : List Slot) (mid : Account) → first ++ left ≡ slots → ArePlanned mid [] left end → first ≡ slots
    first_all first _ _ parts (none_planned mid) = sym (append-nil first) ∙ parts

    pub all_come : (rest : List Segment) → rest ≡ [] → HasCome disk start s copy slots end now copied rest replies frames → AnswersPart disk start s copy slots [] end now copied replies
    all_come rest none come = all_by come.first come.left come.mid come.parts (subst (λ (l : List Segment). ArePlanned come.mid l come.left end) none come.planned) come.was

    -- and their frames given back
    module _ (rest : List Segment) (none : rest ≡ []) (come : HasCome disk start s copy slots end now copied rest replies frames) where
      those : come.first ≡ slots
      those = first_all come.first come.left come.mid come.parts (subst (λ (l : List Segment). ArePlanned come.mid l come.left end) none come.planned)

      pub all_given : frames ≡ frames_each start.rides s.seq (dones_of (changes (asked slots)) replies)
      all_given = come.given ∙ ap (λ (l : List Slot). frames_each start.rides s.seq (dones_of (changes (asked l)) replies)) those

      pub all_framed : AreFramedEach s.seq (dones_of (changes (asked slots)) replies)
      all_framed = subst (λ (l : List Slot). AreFramedEach s.seq (dones_of (changes (asked l)) replies)) those come.framed

  -- ---- the whole batch

  module _ (start now : JournalView D) (s : State) (copy copied : Option Target) (slots : List Slot) (end : Account) (replies : List Reply) (was : AnswersPart disk start s copy slots [] end now copied replies) where
    -- how many changes stand
    pub how_many : start.seq ≡ s.seq → now.seq ≡ start.seq + length (all_changes (waiting was.told.first))
    how_many is = was.stored.held.seq ∙ seq_counts s (waiting was.told.first) ∙ ap (λ (n : ℕ). n + length (all_changes (waiting was.told.first))) (sym is)

    -- what was tried and isn't committed is taken back
    module _ (some : HaveSome (waiting slots)) (t : TrialView) (tried : t ≡ tried_from s (waiting slots)) (oldest : ℕ) (number : oldest ≡ length (all_changes (waiting was.told.first))) (machine : State) (is : machine ≡ state_at oldest t) where
      lost_some : HaveSome (waiting was.told.lost)
      lost_some = some_behind (waiting was.told.first) (waiting was.told.lost) (subst HaveSome (ap waiting (sym was.told.parts) ∙ waiting_append was.told.first was.told.lost) some)

      machine_is : machine ≡ after_each s (waiting was.told.first)
      machine_is =
          is ∙ (λ i. state_at (number i) (tried i))
          ∙ ap (λ (ts : List Transaction). state_at (length (all_changes (waiting was.told.first))) (tried_from s ts)) (ap waiting (sym was.told.parts) ∙ waiting_append was.told.first was.told.lost)
          ∙ state_before s (waiting was.told.first) (waiting was.told.lost) lost_some

      made : Batched disk (store_view start s copy) (store_view now machine copied) (asked slots) replies
      made = subst (λ (u : State). Batched disk (store_view start s copy) (store_view now u copied) (asked slots) replies) (sym machine_is)
          (batched disk (store_view start s copy) (store_view now (after_each s (waiting was.told.first)) copied) (asked slots) replies was.went)

      pub committed : (cs : List Transaction) → asked slots ≡ cs → HasCommitted disk (store_view start s copy) cs replies now machine copied
      committed cs all = record {
        stored = subst (λ (u : State). IsStored (disk now.device) now u copied) (sym machine_is) was.stored;
        batched = subst (λ (ts : List Transaction). Batched disk (store_view start s copy) (store_view now machine copied) ts replies) all made;
      }

  -- ---- a store that is broken

  module _ (x : StoreView D) (stands : IsStanding (disk x.device) x.account) (broken : x.account.broken ≡ true) (xs : List Held) (said : List Reply) (is : said ≡ map (λ _. Refused (plain BROKEN)) xs) where
    abbrev cs : List Transaction
    cs = map transaction_of xs

    each_said : (xs : List Held) → map (λ _. Refused (plain BROKEN)) xs ≡ map (λ _. Refused (plain BROKEN)) (map transaction_of xs)
    each_said [] = refl
    each_said (x ∷ xs) = ap (λ (l : List Reply). Refused (plain BROKEN) ∷ l) (each_said xs)

    told : said ≡ map (λ _. Refused (plain BROKEN)) cs
    told = is ∙ each_said xs

    pub broken_whole : Batched disk x x cs said
    broken_whole = subst (Batched disk x x cs) (sym told) (batched disk x x cs (map (λ _. Refused (plain BROKEN)) cs) (all_broken disk coherent x [] stands broken cs))
