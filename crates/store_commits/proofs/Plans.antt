-- Batches that are planned: one transaction more.
use Rattle.std.proofs.Common.{◌≡◌, ℕ, Bool, ◌+◌, ◌≤◌, ◌<◌, List, [], ◌∷◌, ◌++◌, length, length-append, take, drop, refl, sym, ◌∙◌, ap, subst, arith, true, None, Some, Vec, Global}
use Rattle.std.proofs.lemmas.List.{append_assoc, append-nil}
use Rattle.std.proofs.Math.Seq.{take-append_seam, drop-append_seam}
use Rattle.store_journal.specs.Layout.{capacity_of}
use Rattle.record_text.specs.Change.{Change}
use Rattle.doc_machine.specs.Transaction.{AreGood, IsMadeWhole, IsNoted, IsTransacted, RefusesTransaction, Transaction, after_in, befores, changes_of, refusal_in}
use Rattle.refusals.specs.declared.numbers.TheConstants.{FULL}
use Rattle.doc_changes.specs.Refusals.{plain}
use Rattle.doc_changes.specs.State.{State, Good}
use Rattle.doc_machine.specs.Trial.{TrialView, first_or, state_at}
use Rattle.doc_changes.specs.declared.refusal.Refusal.{Refusal}
use Rattle.store_commits.specs.Account.{Account}
use Rattle.store_commits.specs.Batch.{IsForced, Slot, waits, said, asked, waiting, account_committed, replies_done, size_of, sizes_of}
use Rattle.store_commits.specs.Folds.{after_each, all_changes, frames_each, frames_for, frames_of, mark_after}
use Rattle.store_commits.specs.Given.{bytes_each}
use Rattle.store_commits.specs.Replacing.{IsOverAfter, account_after}
use Rattle.store_commits.specs.Snapshot.{FitNowhere, IsOver, snapshot_bytes, account_with_snapshot}
use Rattle.store_commits.specs.Run.{Done, Refused}
use Rattle.store_commits.specs.Inside.{ArePlanned, PlansOneMore, HasFrames, IsClosed, IsEmpty, IsPart, IsPlanning, IsSegment, behind, full, instead, none_planned, one_planned, together, tried_from}
use Rattle.store_commits.specs.declared.event.Reply.{Reply}
use Rattle.store_commits.specs.declared.plan.Planning.{Planning}
use Rattle.store_commits.specs.declared.segment.Base.{Base}
use Rattle.store_commits.specs.declared.segment.Base.TheVariants.{After, Before, Used}
use Rattle.store_commits.specs.declared.segment.Segment.{Segment}
use Rattle.store_commits.proofs.Changes.{after_push, all_push, befores_push, each_append, framed_push, frames_append, frames_one, good_first, good_push, seq_after, seq_counts, sizes_append, some_accepted}
use Rattle.store_commits.proofs.Slots.{judged_append, replies_append, waiting_append}
use Rattle.store_commits.proofs.Waiting.{committed_is}

-- the first of the states before changes
first_before : (end s : State) (past : List State) (cs : List Change) → 1 ≤ length cs → first_or end (past ++ befores s cs) ≡ first_or s past
first_before end s [] [] some = absurd (omega (arith, some))
first_before end s [] (c ∷ cs) some = refl
first_before end s (p ∷ past) cs some = refl

-- states that are put behind those before them leave the first one
pub first_stays : (old new : TrialView) (t : Transaction) (seq : ℕ) → IsTransacted old t seq new → state_at 0 new ≡ state_at 0 old
first_stays old new t seq is = (λ i. first_or new.state (is.made.past i)) ∙ first_before new.state old.state old.past (changes_of t) (some_accepted old.state t is.accepted)

-- all of a transaction is taken back
pub whole_back : (old made new : TrialView) (t : Transaction) (n : ℕ) → IsMadeWhole old t made → 1 ≤ length (changes_of t) → n ≡ length old.past → new.state ≡ state_at n made → new.past ≡ take n made.past → new ≡ old
whole_back old made new t n are some count state past =
    let before : first_or made.state (drop (length old.past) (old.past ++ befores old.state (changes_of t))) ≡ old.state =
    ap (first_or made.state) (drop-append_seam old.past (befores old.state (changes_of t))) ∙ first_before made.state old.state [] (changes_of t) some in
    let state_is : new.state ≡ old.state = state ∙ (λ i. first_or made.state (drop (count i) (are.past i))) ∙ before in
    let past_is : new.past ≡ old.past = past ∙ (λ i. take (count i) (are.past i)) ∙ take-append_seam old.past (befores old.state (changes_of t)) in
    λ i. record { state = state_is i; past = past_is i }

-- ---- one transaction more

module _ (a : Account) (slots : List Slot) (p : Planning) (t : TrialView) (is : IsPlanning a slots p t) where
  abbrev mid : Account
  mid = is.mid

  abbrev since : List Slot
  since = is.since

  abbrev b : Account
  b = account_committed mid since

  state_then : b.state ≡ t.state
  state_then = ap (λ (x : Account). x.state) (committed_is mid since) ∙ sym is.state

  used_then : b.used ≡ mid.used + sizes_of (waiting since)
  used_then = ap (λ (x : Account). x.used) (committed_is mid since)

  sectors_then : b.sectors ≡ mid.sectors
  sectors_then = ap (λ (x : Account). x.sectors) (committed_is mid since)

  capacity_then : capacity_of b.rides b.sectors ≡ capacity_of mid.rides mid.sectors
  capacity_then = ap (λ (x : Account). capacity_of x.rides x.sectors) (committed_is mid since)

  -- the open segment has what waits since the last commit
  last_part : (left : List Transaction) → IsForced b left → IsPart mid left p.last since b
  last_part left forced = record { is = subst (λ (o : Base). IsSegment mid left o since b) (sym is.base) (together since is.judged forced); has = is.has; replies = is.replies }

  rides_then : b.rides ≡ mid.rides
  rides_then = ap (λ (x : Account). x.rides) (committed_is mid since)

  rides_here : p.rides ≡ b.rides
  rides_here = is.rides ∙ sym rides_then

  -- a snapshot of documents in the format of the plan, and of the account
  documents_here : snapshot_bytes p.rides t.state.documents t.state.marks ≡ snapshot_bytes b.rides b.state.documents b.state.marks
  documents_here = ap (λ (r : Bool). snapshot_bytes r t.state.documents t.state.marks) rides_here ∙ ap (λ (s : State). snapshot_bytes b.rides s.documents s.marks) (sym state_then)

  parts_more : (slot : Slot) → is.closed ++ (since ++ slot ∷ []) ≡ slots ++ slot ∷ []
  parts_more slot = sym (append_assoc is.closed since (slot ∷ [])) ∙ ap (λ (l : List Slot). l ++ slot ∷ []) is.parts

  -- all is planned
  pub planned_ends : (segments : List Segment) → segments ≡ p.segments.items ++ p.last ∷ [] → ArePlanned a segments slots b
  planned_ends segments segments_are =
      subst (λ (l : List Segment). ArePlanned a l slots b) (sym segments_are)
      (subst (λ (l : List Slot). ArePlanned a (p.segments.items ++ p.last ∷ []) l b) (ap (λ (l : List Slot). is.closed ++ l) (append-nil since) ∙ is.parts)
      (is.goes (p.last ∷ []) (since ++ []) b (one_planned mid b b p.last [] since [] (last_part [] tt) (none_planned b))))

  module _ (c : Transaction) where
    waiting_said : (ss : List Slot) (r : Refusal) → waiting (ss ++ said c r ∷ []) ≡ waiting ss
    waiting_said ss r = waiting_append ss (said c r ∷ []) ∙ append-nil (waiting ss)

    waiting_waits : (ss : List Slot) → waiting (ss ++ waits c ∷ []) ≡ waiting ss ++ c ∷ []
    waiting_waits ss = waiting_append ss (waits c ∷ [])

    -- it is refused
    pub further_said : (r : Refusal) → RefusesTransaction t.state c r → (replies : Vec Reply Global) → replies.items ≡ p.last.replies.items ++ Refused r ∷ []
        → PlansOneMore a slots c (record p { last = record p.last { replies = replies } }) t
    further_said r refuses replies replies_are = (
      said c r,
      refl,
      record {
        mid = mid;
        closed = is.closed;
        since = since ++ said c r ∷ [];
        parts = parts_more (said c r);
        goes = is.goes;
        judged = judged_append mid since (said c r ∷ []) is.judged (subst (λ (s : State). RefusesTransaction s c r) (sym state_then) refuses, tt);
        has = subst (λ (ts : List Transaction). HasFrames mid.rides mid.state ts (record p.last { replies = replies })) (sym (waiting_said since r))
            (record { framed = is.has.framed; good = is.has.good; frames = is.has.frames; each = is.has.each; adds = is.has.adds });
        base = is.base;
        replies = replies_are ∙ ap (λ (l : List Reply). l ++ Refused r ∷ []) is.replies ∙ sym (replies_append mid.state.seq since (said c r ∷ []));
        room = ap (λ (ts : List Transaction). mid.used + sizes_of ts + p.left) (waiting_said since r) ∙ is.room;
        capacity = is.capacity;
        rides = is.rides;
        state = is.state ∙ ap (after_each mid.state) (sym (waiting_said since r));
        tried = is.tried ∙ ap (tried_from a.state) (sym (waiting_said slots r));
        bytes = is.bytes ∙ ap sizes_of (sym (waiting_said slots r));
      },
    )

    module _ (accepted : refusal_in t.state c ≡ None) where
      accepted_then : refusal_in b.state c ≡ None
      accepted_then = subst (λ (s : State). refusal_in s c ≡ None) (sym state_then) accepted

      abbrev its_frames : List ℕ
      its_frames = frames_of p.rides t.state.seq c

      -- it was made on the trial

      module _ (u : TrialView) (made : IsMadeWhole t c u) where
        tried_made : u ≡ tried_from a.state (waiting (slots ++ waits c ∷ []))
        tried_made = (λ i. record {
          state = (made.state ∙ ap (λ (v : TrialView). after_in v.state c) is.tried ∙ sym (after_push a.state (waiting slots) c)) i;
          past = (made.past ∙ ap (λ (v : TrialView). v.past ++ befores v.state (changes_of c)) is.tried ∙ sym (befores_push a.state (waiting slots) c)) i;
        }) ∙ ap (tried_from a.state) (sym (waiting_waits slots))

        bytes_made : (bytes : ℕ) → bytes ≡ p.bytes + size_of c → bytes ≡ sizes_of (waiting (slots ++ waits c ∷ []))
        bytes_made bytes bytes_are = let was = is.bytes in let sum = ap sizes_of (waiting_waits slots) ∙ sizes_append (waiting slots) (c ∷ []) in omega (arith, bytes_are, was, sum)

        -- and it waits
        pub further_waits : Good u.state → (frames : Vec ℕ Global) → frames.items ≡ p.last.frames.items ++ its_frames
            → (each : Vec (Vec ℕ Global) Global) → bytes_each each.items ≡ bytes_each p.last.each.items ++ its_frames ∷ [] → (replies : Vec Reply Global) → replies.items ≡ p.last.replies.items ++ Done u.state.seq ∷ []
            → (left bytes adds : ℕ) → left + size_of c ≡ p.left → bytes ≡ p.bytes + size_of c → adds ≡ p.last.adds + length (changes_of c)
            → PlansOneMore a slots c (record p { left = left; bytes = bytes; last = record p.last { frames = frames; each = each; adds = adds; replies = replies } }) u
        further_waits good_made frames frames_are each each_are replies replies_are left bytes adds left_is bytes_are adds_are =
            let ts = waiting since in
            let good_after : Good (after_in t.state c) = subst Good made.state good_made in
            let before : t.state.seq ≡ mid.state.seq + length (all_changes ts) = ap (λ (s : State). s.seq) is.state ∙ seq_counts mid.state ts in
            let front = frames_for mid.rides mid.state.seq ts in
            let push : front ++ its_frames ≡ frames_for mid.rides mid.state.seq (ts ++ c ∷ []) =
            (λ i. front ++ frames_of (is.rides i) (before i) c)
            ∙ sym (frames_append mid.rides mid.state.seq ts (c ∷ []) ∙ ap (λ (l : List ℕ). front ++ l) (frames_one mid.rides (mid.state.seq + length (all_changes ts)) c)) in
            let push_each : frames_each mid.rides mid.state.seq ts ++ its_frames ∷ [] ≡ frames_each mid.rides mid.state.seq (ts ++ c ∷ []) =
            (λ i. frames_each mid.rides mid.state.seq ts ++ frames_of (is.rides i) (before i) c ∷ []) ∙ sym (each_append mid.rides mid.state.seq ts (c ∷ [])) in
            let number : u.state.seq ≡ mid.state.seq + length (all_changes ts) + length (changes_of c) = ap (λ (s : State). s.seq) made.state ∙ seq_after t.state c ∙ ap (λ (n : ℕ). n + length (changes_of c)) before in
            let count = ap length (all_push ts c) ∙ length-append (all_changes ts) (changes_of c) in
            let sum = ap sizes_of (waiting_waits since) ∙ sizes_append ts (c ∷ []) in
            let room = is.room in
            let used = used_then in
            let sectors = capacity_then in
            let was = is.has.adds in (
              waits c,
              refl,
              record {
                mid = mid;
                closed = is.closed;
                since = since ++ waits c ∷ [];
                parts = parts_more (waits c);
                goes = is.goes;
                judged = judged_append mid since (waits c ∷ []) is.judged (accepted_then, omega (arith, left_is, room, used, sectors), tt);
                has = subst (λ (l : List Transaction). HasFrames mid.rides mid.state l (record p.last { frames = frames; each = each; adds = adds; replies = replies })) (sym (waiting_waits since))
                    (record {
                      framed = framed_push mid.state.seq ts c is.has.framed made.framed (subst (λ (n : ℕ). IsNoted (mark_after n c)) before made.noted);
                      good = good_push mid.state ts c is.has.good (subst (λ (s : State). AreGood s (changes_of c)) is.state made.good) (subst (λ (s : State). Good (after_in s c)) is.state good_after);
                      frames = frames_are ∙ ap (λ (l : List ℕ). l ++ its_frames) is.has.frames ∙ push;
                      each = each_are ∙ ap (λ (ls : List (List ℕ)). ls ++ its_frames ∷ []) is.has.each ∙ push_each;
                      adds = omega (arith, adds_are, was, count);
                    });
                base = is.base;
                replies = replies_are ∙ (λ i. is.replies i ++ Done (number i) ∷ []) ∙ sym (replies_append mid.state.seq since (waits c ∷ []));
                room = omega (arith, left_is, room, sum);
                capacity = is.capacity;
                rides = is.rides;
                state = made.state ∙ ap (λ (s : State). after_in s c) is.state ∙ sym (after_push mid.state ts c) ∙ ap (after_each mid.state) (sym (waiting_waits since));
                tried = tried_made;
                bytes = bytes_made bytes bytes_are;
              },
            )

      -- ---- it doesn't fit beside those that wait

      module _ (over : p.left < size_of c) (good_all : AreGood t.state (changes_of c)) (good_after : Good (after_in t.state c)) (q : Planning) (other : Segment) (closed : IsClosed p other q) where
        is_over : IsOver b (size_of c)
        is_over = let used = used_then in let sectors = capacity_then in let room = is.room in omega (arith, over, used, sectors, room)

        good_here : AreGood b.state (changes_of c)
        good_here = subst (λ (s : State). AreGood s (changes_of c)) (sym state_then) good_all

        good_then : Good (after_in b.state c)
        good_then = subst (λ (s : State). Good (after_in s c)) (sym state_then) good_after

        -- those that wait, then this one, and then whatever comes
        forced : (slot : Slot) (e : Account) → ((xs : List Slot) → IsForced b (asked (slot ∷ xs))) → ((xs : List Slot) → IsPart b (asked xs) other (slot ∷ []) e) → Good e.state
            → (u : TrialView) → u.state ≡ e.state → u ≡ tried_from a.state (waiting (slots ++ slot ∷ [])) → e.used + q.left ≡ capacity_of e.rides e.sectors → q.bytes ≡ sizes_of (waiting (slots ++ slot ∷ [])) → capacity_of e.rides e.sectors ≡ capacity_of b.rides b.sectors
            → e.rides ≡ b.rides → IsPlanning a (slots ++ slot ∷ []) q u
        forced slot e comes part good u state tried room bytes_are sectors rides = record {
          mid = e;
          closed = is.closed ++ (since ++ slot ∷ []);
          since = [];
          parts = append-nil (is.closed ++ (since ++ slot ∷ [])) ∙ parts_more slot;
          goes = λ more xs end rest.
              subst (λ (l : List Segment). ArePlanned a l ((is.closed ++ (since ++ slot ∷ [])) ++ xs) end)
              (sym (ap (λ (l : List Segment). l ++ more) closed.segments ∙ append_assoc (p.segments.items ++ p.last ∷ []) (other ∷ []) more ∙ append_assoc p.segments.items (p.last ∷ []) (other ∷ more)))
              (subst (λ (l : List Slot). ArePlanned a (p.segments.items ++ (p.last ∷ other ∷ more)) l end) (sym (append_assoc is.closed (since ++ slot ∷ []) xs ∙ ap (λ (l : List Slot). is.closed ++ l) (append_assoc since (slot ∷ []) xs)))
              (is.goes (p.last ∷ other ∷ more) (since ++ (slot ∷ xs)) end
              (one_planned mid b end p.last (other ∷ more) since (slot ∷ xs) (last_part (asked (slot ∷ xs)) (comes xs)) (one_planned b e end other more (slot ∷ []) xs (part xs) rest))));
          judged = tt;
          has = record { framed = tt; good = good; frames = closed.last.frames; each = ap bytes_each closed.last.each; adds = closed.last.adds };
          base = closed.last.base;
          replies = closed.last.replies;
          room = omega (arith, room);
          capacity = closed.capacity ∙ is.capacity ∙ sym (sectors ∙ capacity_then);
          rides = closed.rides ∙ is.rides ∙ sym (rides ∙ rides_then);
          state = state;
          tried = tried;
          bytes = bytes_are;
        }

        -- the snapshot of the documents before it leaves no room for it
        pub nowhere : (snapshot : List ℕ) → snapshot ≡ snapshot_bytes p.rides t.state.documents t.state.marks → p.capacity < length snapshot + size_of c → FitNowhere b (size_of c)
        nowhere snapshot snapshot_is wide =
            let size : length snapshot ≡ length (snapshot_bytes b.rides b.state.documents b.state.marks) = ap length snapshot_is ∙ ap length documents_here in
            let half = is.capacity in
            let sectors = capacity_then in
            (is_over, omega (arith, wide, size, half, sectors))

        -- nor does that of those after it fit
        pub further_full : (snapshot : List ℕ) → snapshot ≡ snapshot_bytes p.rides t.state.documents t.state.marks → p.capacity < length snapshot + size_of c → (p.rides ≡ true → p.capacity < length (snapshot_bytes p.rides (after_in t.state c).documents (after_in t.state c).marks))
            → other.base ≡ Used → other.frames.items ≡ [] → other.each.items ≡ [] → other.adds ≡ 0 → other.replies.items ≡ Refused (plain FULL) ∷ [] → q.left ≡ p.left → q.bytes ≡ p.bytes
            → (u : TrialView) → u ≡ t → PlansOneMore a slots c q u
        further_full snapshot snapshot_is wide over_after base no_frames none_each no_adds says left_is bytes_are u same =
            let used = used_then in
            let sectors = capacity_then in
            let room = is.room in
            let slot = said c (plain FULL) in
            let then : IsOverAfter b c = λ here.
            (let far = over_after (is.rides ∙ sym rides_then ∙ here) in
            let half = is.capacity in
            let size = ap (λ (s : State). length (snapshot_bytes b.rides (after_in s c).documents (after_in s c).marks)) state_then ∙ ap (λ (r : Bool). length (snapshot_bytes r (after_in t.state c).documents (after_in t.state c).marks)) (sym rides_here) in
            omega (arith, far, size, half, sectors)) in (
              slot,
              refl,
              forced slot b (λ xs. (accepted_then, is_over))
                  (λ xs. record {
                    is = subst (λ (o : Base). IsSegment b (asked xs) o (slot ∷ []) b) (sym base) (full c accepted_then (nowhere snapshot snapshot_is wide, then));
                    has = record { framed = tt; good = good_first b.state (changes_of c) good_here; frames = no_frames; each = ap bytes_each none_each; adds = no_adds };
                    replies = says;
                  })
                  (good_first b.state (changes_of c) good_here) u (ap (λ (v : TrialView). v.state) same ∙ sym state_then) (same ∙ is.tried ∙ ap (tried_from a.state) (sym (waiting_said slots (plain FULL))))
                  (omega (arith, left_is, room, used, sectors)) (bytes_are ∙ is.bytes ∙ ap sizes_of (sym (waiting_said slots (plain FULL)))) refl refl,
            )

        -- it goes on by itself

        module _ (u : TrialView) (made : IsMadeWhole t c u) (frames : other.frames.items ≡ its_frames) (each : bytes_each other.each.items ≡ its_frames ∷ []) (adds : other.adds ≡ length (changes_of c)) (says : other.replies.items ≡ Done u.state.seq ∷ []) (bytes_are : q.bytes ≡ p.bytes + size_of c) where
          then : u.state ≡ after_in b.state c
          then = made.state ∙ ap (λ (s : State). after_in s c) (sym state_then)

          -- those frames, by the account
          frames_here : its_frames ≡ frames_of b.rides b.state.seq c
          frames_here = ap (λ (r : Bool). frames_of r t.state.seq c) rides_here ∙ ap (λ (s : State). frames_of b.rides s.seq c) (sym state_then)

          has_frames : HasFrames b.rides b.state (c ∷ []) other
          has_frames =
              let one = append-nil (changes_of c) in
              record {
                framed = (made.framed, subst (λ (s : State). IsNoted (mark_after s.seq c)) (sym state_then) made.noted, tt);
                good = (good_here, good_then);
                frames = frames ∙ frames_here ∙ sym (frames_one b.rides b.state.seq c);
                each = each ∙ ap (λ (l : List ℕ). l ∷ []) frames_here;
                adds = adds ∙ ap length (sym one);
              }

          told : other.replies.items ≡ replies_done b.state.seq (waits c ∷ [])
          told = says ∙ ap (λ (n : ℕ). Done n ∷ []) (ap (λ (s : State). s.seq) then ∙ seq_after b.state c)

          -- after a snapshot
          pub further_behind : (snapshot : Vec ℕ Global) → snapshot.items ≡ snapshot_bytes p.rides t.state.documents t.state.marks → length snapshot.items + size_of c ≤ p.capacity → other.base ≡ Before snapshot → q.left + (length snapshot.items + size_of c) ≡ p.capacity
              → PlansOneMore a slots c q u
          further_behind snapshot snapshot_is fits base left_is =
              let documents = documents_here in
              let size = ap length snapshot_is ∙ ap length documents in
              let half = is.capacity in
              let sectors = capacity_then in
              let end = account_committed (account_with_snapshot b) (waits c ∷ []) in (
                waits c,
                refl,
                forced (waits c) end (λ xs. (accepted_then, is_over))
                    (λ xs. record {
                      is = subst (λ (o : Base). IsSegment b (asked xs) o (waits c ∷ []) end) (sym base) (behind c snapshot (snapshot_is ∙ documents) accepted_then (is_over, omega (arith, fits, size, half, sectors)));
                      has = has_frames;
                      replies = told;
                    })
                    good_then u then (tried_made u made) (omega (arith, left_is, size, half, sectors)) (bytes_made u made q.bytes bytes_are) refl refl,
              )

          -- or as one
          pub further_instead : (snapshot : Vec ℕ Global) → snapshot.items ≡ snapshot_bytes p.rides u.state.documents u.state.marks → p.rides ≡ true → length snapshot.items ≤ p.capacity → other.base ≡ After snapshot → q.left + length snapshot.items ≡ p.capacity
              → FitNowhere b (size_of c) → PlansOneMore a slots c q u
          further_instead snapshot snapshot_is rides fits base left_is none =
              let documents = ap (λ (r : Bool). snapshot_bytes r u.state.documents u.state.marks) rides_here ∙ ap (λ (s : State). snapshot_bytes b.rides s.documents s.marks) then in
              let size = ap length snapshot_is ∙ ap length documents in
              let half = is.capacity in
              let sectors = capacity_then in
              let end = account_with_snapshot (account_after b c) in (
                waits c,
                refl,
                forced (waits c) end (λ xs. (accepted_then, is_over))
                    (λ xs. record {
                      is = subst (λ (o : Base). IsSegment b (asked xs) o (waits c ∷ []) end) (sym base)
                          (instead c snapshot (snapshot_is ∙ documents) accepted_then none (rides_then ∙ sym is.rides ∙ rides, omega (arith, fits, size, half, sectors)));
                      has = has_frames;
                      replies = told;
                    })
                    good_then u then (tried_made u made) (omega (arith, left_is, size, half, sectors)) (bytes_made u made q.bytes bytes_are) refl refl,
              )

-- ---- nothing is planned yet

pub planning_begins : (a : Account) (t : TrialView) (p : Planning) → Good t.state → t.state ≡ a.state → t.past ≡ [] → p.segments.items ≡ [] → a.used + p.left ≡ capacity_of a.rides a.sectors → p.capacity ≡ capacity_of a.rides a.sectors → p.rides ≡ a.rides → p.bytes ≡ 0
    → IsEmpty p.last → IsPlanning a [] p t
planning_begins a t p good state past none room capacity rides bytes empty = record {
  mid = a;
  closed = [];
  since = [];
  parts = refl;
  goes = λ more xs end rest. subst (λ (l : List Segment). ArePlanned a (l ++ more) xs end) (sym none) rest;
  judged = tt;
  has = record { framed = tt; good = subst Good state good; frames = empty.frames; each = ap bytes_each empty.each; adds = empty.adds };
  base = empty.base;
  replies = empty.replies;
  room = omega (arith, room);
  capacity = capacity;
  rides = rides;
  state = state;
  tried = λ i. record { state = state i; past = past i };
  bytes = bytes;
}
