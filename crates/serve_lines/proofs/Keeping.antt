-- What the lines of a session were answered, and that it is kept.
use Rattle.std.proofs.Common.{◌≡◌, ◌⊎◌, inl, inr, ⊎_elim, ℕ, ◌+◌, Bool, true, false, List, [], ◌∷◌, ◌++◌, flat_map, length, length-append, map, nat_eq, if◌then◌else◌, refl, sym, ◌∙◌, ap, subst, Option, Result, Ok, Err}
use Rattle.std.proofs.lemmas.List.{append_assoc, append-nil}
use Rattle.std.proofs.lemmas.Grind.{flat_map-append}
use Rattle.std.specs.Io.KnownBytes.{Consumes}
use Rattle.sector_device.specs.Disk.{Disk}
use Rattle.doc_tree.specs.Doc.{Doc}
use Rattle.doc_changes.specs.Refusals.{plain}
use Rattle.doc_changes.specs.State.{State}
use Rattle.doc_machine.specs.Transaction.{Transaction, after_in, changes_of}
use Rattle.refusals.specs.declared.numbers.TheConstants.{MEMORY}
use Rattle.recorded_store.specs.Recorded.{Recorded, RecordedView, Records, recorded_of, told_of}
use Rattle.told_transactions.specs.Told.{told_each}
use Rattle.change_history.specs.History.{with_each, with_told}
use Rattle.store_commits.specs.Account.{Account}
use Rattle.store_commits.specs.Batch.{changes}
use Rattle.store_commits.specs.Events.{dones_of, hits_of}
use Rattle.store_commits.specs.Folds.{after_each, frames_of}
use Rattle.store_commits.specs.Copying.{IsPumped, PumpAnswers}
use Rattle.store_commits.specs.Sealing.{SealAnswers}
use Rattle.store_commits.specs.Snapshot.{SnapshotAnswers}
use Rattle.doc_store.specs.Promise.{KeepsPromise}
use Rattle.store_commits.specs.Run as store
use Rattle.store_commits.specs.Run.{Event, Ran}
use Rattle.store_commits.specs.declared.event.Reply.{Reply}
use Rattle.store_commits.specs.declared.pump.Pump.{Pump}
use Rattle.store_commits.proofs.Changes.{after_append}
use Rattle.store_commits.proofs.Running.{changes_length, dones_append, hits_append, pumped_state, pumped_works}
use Rattle.protocol.specs.Lines.{answered, cut, ended, line_feed, lines_of, onto, onto_ended}
use Rattle.protocol.specs.Request as asked
use Rattle.protocol.specs.Reply.{refusal_reply}
use Rattle.serve_lines.specs.Kept.{IsKept, Known, Replied, known_after, known_of, no_line, was_done, was_hit, was_told}
use Rattle.serve_lines.specs.Serve.{BreaksOff, IsSession, Pauses}
use Rattle.serve_lines.specs.Session.{AnswersGroup, AnswersOther, AreGroups, Does, Follows, Group, Replies, Session, alone, begun, no_groups, one_alone, one_full, one_more, one_short, together}
use Rattle.serve_lines.specs.declared.options.Options.{Options}
use Rattle.serve_lines.proofs.Answering.{other_tells}
use Rattle.serve_lines.proofs.Batching.{one_reply_each}
use Rattle.serve_lines.proofs.Ending.{answered-append}
use Rattle.recorded_store.proofs.Counting.{batch_counts, batch_rides, seq_all}
use Rattle.serve_lines.proofs.Numbering.{batch_replied, batch_unmade}

-- what is known after transactions, each of them accepted
abbrev known_each : Known → List Transaction → Known
known_each k [] = k
known_each k (t ∷ ts) = known_each (known_after k t) ts

known_append : (k : Known) (ts us : List Transaction) → known_each k (ts ++ us) ≡ known_each (known_each k ts) us
known_append k [] us = refl
known_append k (t ∷ ts) us = known_append (known_after k t) ts us

-- it is the state after them, and they are in the history
known_by : (k : Known) (ts : List Transaction) → known_each k ts ≡ record { state = after_each k.state ts; rides = k.rides; history = with_each k.history (told_each k.rides k.state.seq ts) }
known_by k [] = refl
known_by k (t ∷ ts) =
    known_by (known_after k t) ts
    ∙ ap (λ (n : ℕ). record { state = after_each (after_in k.state t) ts; rides = k.rides; history = with_each (with_told k.history (record { last = n; frames = frames_of k.rides k.state.seq t })) (told_each k.rides n ts) })
    (sym (seq_all k.state (changes_of t)))

-- lines behind lines: after one that was hit none is done
replied_behind : (s : Known) (lines more : List (List ℕ)) (replies told : List Doc) (done also hit struck : List Transaction) → Replied s lines replies done hit → Replied (known_each s done) more told also struck
    → (hit ≡ []) ⊎ (also ≡ []) → Replied s (lines ++ more) (replies ++ told) (done ++ also) (hit ++ struck)
replied_behind _ _ more _ told _ also _ struck (no_line s) second apart = second
replied_behind _ _ more _ told _ also _ struck (was_done s line t lines replies done hit asks rest) second apart =
    was_done s line t (lines ++ more) (replies ++ told) (done ++ also) (hit ++ struck) asks (replied_behind (known_after s t) lines more replies told done also hit struck rest second apart)
replied_behind _ _ more _ told _ also _ struck (was_hit s line t reply lines replies hit asks refuses rest) second (inl none) = absurd (cc none)
replied_behind _ _ more _ told _ also _ struck (was_hit s line t reply lines replies hit asks refuses rest) second (inr none) =
    subst (λ (ds : List Transaction). Replied s (line ∷ lines ++ more) (reply ∷ replies ++ told) ds (t ∷ hit ++ struck)) (sym none)
    (was_hit s line t reply (lines ++ more) (replies ++ told) (hit ++ struck) asks refuses
    (replied_behind s lines more replies told [] [] hit struck rest (subst (λ (ds : List Transaction). Replied s more told ds struck) none second) (inr refl)))
replied_behind _ _ more _ told _ also _ struck (was_told s line reply lines replies done hit is rest) second apart =
    was_told s line reply (lines ++ more) (replies ++ told) (done ++ also) (hit ++ struck) is (replied_behind s lines more replies told done also hit struck rest second apart)

-- ---- events that are no transaction

-- no transaction of these was done or hit, no document has changed, and a broken store stays so; the format and the history stay
record Quiet (old new : Recorded) (events : List Event) (said : List Reply) : Type 0 where
  each : length events ≡ length said
  none_done : dones_of events said ≡ []
  none_hit : hits_of events said ≡ []
  same : known_of new ≡ known_of old
  still : old.broken ≡ true → new.broken ≡ true

quiet_none : (old new : Recorded) (events : List Event) (said : List Reply) → events ≡ [] → said ≡ [] → new ≡ old → Quiet old new events said
quiet_none old new events said es rs same = subst (λ (l : List Event). Quiet old new l said) (sym es)
    (subst (λ (l : List Reply). Quiet old new [] l) (sym rs) (record { each = refl; none_done = refl; none_hit = refl; same = ap known_of same; still = λ broken. ap (λ (a : Recorded). a.broken) same ∙ broken }))

quiet_snapshot : (old new : Recorded) (events : List Event) (said : List Reply) (r : Reply) → events ≡ store.snapshot ∷ [] → said ≡ r ∷ [] → known_of new ≡ known_of old → (old.broken ≡ true → new.broken ≡ true) → Quiet old new events said
quiet_snapshot old new events said r es rs same still = subst (λ (l : List Event). Quiet old new l said) (sym es)
    (subst (λ (l : List Reply). Quiet old new (store.snapshot ∷ []) l) (sym rs) (record { each = refl; none_done = refl; none_hit = refl; same = same; still = still }))

quiet_pump : (old new : Recorded) (events : List Event) (said : List Reply) (most : ℕ) (r : Reply) → events ≡ store.pump most ∷ [] → said ≡ r ∷ [] → known_of new ≡ known_of old → (old.broken ≡ true → new.broken ≡ true) → Quiet old new events said
quiet_pump old new events said most r es rs same still = subst (λ (l : List Event). Quiet old new l said) (sym es)
    (subst (λ (l : List Reply). Quiet old new (store.pump most ∷ []) l) (sym rs) (record { each = refl; none_done = refl; none_hit = refl; same = same; still = still }))

snapshot_state : (old new : Account) (outcome : Result ℕ _) → SnapshotAnswers old outcome new → new.state ≡ old.state
snapshot_state old new (Ok used) is = ap (λ (a : Account). a.state) is.new_is
snapshot_state old new (Err r) (inl is) = ap (λ (a : Account). a.state) is.1.new_is
snapshot_state old new (Err r) (inr (inl is)) = ap (λ (a : Account). a.state) is.1
snapshot_state old new (Err r) (inr (inr is)) = ap (λ (a : Account). a.state) is.1.new_is

works_not : {A : Type 0} (a : Account) → a.broken ≡ false → a.broken ≡ true → A
works_not a works broken = let both = sym works ∙ broken in absurd (cc both)

snapshot_still : (old new : Account) (outcome : Result ℕ _) → SnapshotAnswers old outcome new → old.broken ≡ true → new.broken ≡ true
snapshot_still old new (Ok used) is broken = works_not old is.can.works broken
snapshot_still old new (Err r) (inl is) broken = works_not old is.1.can.works broken
snapshot_still old new (Err r) (inr (inl is)) broken = ap (λ (a : Account). a.broken) is.1 ∙ broken
snapshot_still old new (Err r) (inr (inr is)) broken = works_not old is.1.works broken

pump_still : (old new : Account) (most : ℕ) (outcome : Result Pump _) → PumpAnswers old most outcome new → old.broken ≡ true → new.broken ≡ true
pump_still old new most (Ok p) is broken = works_not old (pumped_works old new most p is) broken
pump_still old new most (Err r) (inl is) broken = works_not old is.1.can.works broken
pump_still old new most (Err r) (inr is) broken = ap (λ (a : Account). a.broken) is.1 ∙ broken

pump_state : (old new : Account) (most : ℕ) (outcome : Result Pump _) → PumpAnswers old most outcome new → new.state ≡ old.state
pump_state old new most (Ok p) is = pumped_state old new most p is
pump_state old new most (Err r) (inl is) = ap (λ (a : Account). a.state) is.1.new_is
pump_state old new most (Err r) (inr is) = ap (λ (a : Account). a.state) is.1

quiet_seal : (old new : Recorded) (events : List Event) (said : List Reply) (r : Reply) → events ≡ store.seal ∷ [] → said ≡ r ∷ [] → known_of new ≡ known_of old → (old.broken ≡ true → new.broken ≡ true) → Quiet old new events said
quiet_seal old new events said r es rs same still = subst (λ (l : List Event). Quiet old new l said) (sym es)
    (subst (λ (l : List Reply). Quiet old new (store.seal ∷ []) l) (sym rs) (record { each = refl; none_done = refl; none_hit = refl; same = same; still = still }))

seal_still : (old new : Account) (outcome : Result (Unit {0}) _) → SealAnswers old outcome new → old.broken ≡ true → new.broken ≡ true
seal_still old new (Ok done) is broken = works_not old is.works broken
seal_still old new (Err r) (inl is) broken = works_not old is.1.works broken
seal_still old new (Err r) (inr is) broken = ap (λ (a : Account). a.broken) is.1 ∙ broken

seal_state : (old new : Account) (outcome : Result (Unit {0}) _) → SealAnswers old outcome new → new.state ≡ old.state
seal_state old new (Ok done) is = ap (λ (a : Account). a.state) is.new_is
seal_state old new (Err r) (inl is) = ap (λ (a : Account). a.state) is.1.new_is
seal_state old new (Err r) (inr is) = ap (λ (a : Account). a.state) is.1

-- the same state, format and history
known_same : (old new : Recorded) → new.state ≡ old.state → new.rides ≡ old.rides → new.history ≡ old.history → known_of new ≡ known_of old
known_same old new state rides history = (λ i. record { state = state i; rides = rides i; history = history i })

snapshot_rides : (old new : Account) (outcome : Result ℕ _) → SnapshotAnswers old outcome new → new.rides ≡ old.rides
snapshot_rides old new (Ok used) is = ap (λ (a : Account). a.rides) is.new_is
snapshot_rides old new (Err r) (inl is) = ap (λ (a : Account). a.rides) is.1.new_is
snapshot_rides old new (Err r) (inr (inl is)) = ap (λ (a : Account). a.rides) is.1
snapshot_rides old new (Err r) (inr (inr is)) = ap (λ (a : Account). a.rides) is.1.new_is

pumped_rides : (old new : Account) (most : ℕ) (p : Pump) → IsPumped old most p new → new.rides ≡ old.rides
pumped_rides old new most p (inl is) = ap (λ (a : Account). a.rides) is.1.new_is
pumped_rides old new most p (inr (inl is)) = ap (λ (a : Account). a.rides) is.new_is
pumped_rides old new most p (inr (inr is)) = ap (λ (a : Account). a.rides) is.new_is

pump_rides : (old new : Account) (most : ℕ) (outcome : Result Pump _) → PumpAnswers old most outcome new → new.rides ≡ old.rides
pump_rides old new most (Ok p) is = pumped_rides old new most p is
pump_rides old new most (Err r) (inl is) = ap (λ (a : Account). a.rides) is.1.new_is
pump_rides old new most (Err r) (inr is) = ap (λ (a : Account). a.rides) is.1

seal_rides : (old new : Account) (outcome : Result (Unit {0}) _) → SealAnswers old outcome new → new.rides ≡ old.rides
seal_rides old new (Ok done) is = ap (λ (a : Account). a.rides) is.new_is
seal_rides old new (Err r) (inl is) = ap (λ (a : Account). a.rides) is.1.new_is
seal_rides old new (Err r) (inr is) = ap (λ (a : Account). a.rides) is.1

quiet_request : (old new : Recorded) (request : asked.Request) (events : List Event) (said : List Reply) (reply : Doc) → Replies old request events said reply new → Quiet old new events said
quiet_request old new (asked.change t) events said reply h = absurd h
quiet_request old new asked.snapshot events said reply h = quiet_snapshot old new events said _ h.4 h.5 (known_same old new (snapshot_state old.account new.account h.0 h.1) (snapshot_rides old.account new.account h.0 h.1) h.2) (snapshot_still old.account new.account h.0 h.1)
quiet_request old new (asked.pump most) events said reply h = quiet_pump old new events said most _ h.4 h.5 (known_same old new (pump_state old.account new.account most h.0 h.1) (pump_rides old.account new.account most h.0 h.1) h.2) (pump_still old.account new.account most h.0 h.1)
quiet_request old new asked.seal events said reply h = quiet_seal old new events said _ h.4 h.5 (known_same old new (seal_state old.account new.account h.0 h.1) (seal_rides old.account new.account h.0 h.1) h.2) (seal_still old.account new.account h.0 h.1)
quiet_request old new (asked.get name path) events said reply h = quiet_none old new events said h.3.0 h.3.1 h.3.2
quiet_request old new (asked.get_schema name) events said reply h = quiet_none old new events said h.1.0 h.1.1 h.1.2
quiet_request old new (asked.rev name) events said reply h = quiet_none old new events said h.1.0 h.1.1 h.1.2
quiet_request old new (asked.mark key) events said reply h = quiet_none old new events said h.1.0 h.1.1 h.1.2
quiet_request old new (asked.query name path) events said reply h = quiet_none old new events said h.3.0 h.3.1 h.3.2
quiet_request old new (asked.changes from most) events said reply h = quiet_none old new events said h.1.0 h.1.1 h.1.2
quiet_request old new asked.list events said reply h = quiet_none old new events said h.1.0 h.1.1 h.1.2
quiet_request old new asked.status events said reply h = quiet_none old new events said h.1.0 h.1.1 h.1.2

quiet_line : (old new : Recorded) (line : List ℕ) (events : List Event) (said : List Reply) (reply : Doc) → AnswersOther old line events said reply new → Quiet old new events said
quiet_line old new line events said reply (inl memory) = quiet_none old new events said memory.2.0 memory.2.1 memory.2.2
quiet_line old new line events said reply (inr (Ok request, asks, is)) = quiet_request old new request events said reply is
quiet_line old new line events said reply (inr (Err number, asks, is)) = quiet_none old new events said is.1.0 is.1.1 is.1.2

quiet_behind : (options : Options) (before : List Reply) (old new : Recorded) (events : List Event) (said : List Reply) → Follows options before old events said new → Quiet old new events said
quiet_behind options before old new events said (inl step) = quiet_pump old new events said options.pump _ step.1.3 step.1.4 (known_same old new (pump_state old.account new.account options.pump step.1.0 step.1.1) (pump_rides old.account new.account options.pump step.1.0 step.1.1) step.1.2) (pump_still old.account new.account options.pump step.1.0 step.1.1)
quiet_behind options before old new events said (inr none) = quiet_none old new events said none.1.0 none.1.1 none.1.2

-- ---- groups of lines

-- from an account to an account, lines were answered in this way, by these events: a hit breaks the store, and a broken one does nothing
record LinesReplied (old new : Recorded) (lines : List (List ℕ)) (events : List Event) (said : List Reply) (replies : List Doc) : Type 0 where
  each : length events ≡ length said
  replied : Replied (known_of old) lines replies (dones_of events said) (hits_of events said)
  known : known_of new ≡ known_each (known_of old) (dones_of events said)
  hit : (hits_of events said ≡ []) ⊎ (new.broken ≡ true)
  broke : old.broken ≡ true → (dones_of events said ≡ []) × (new.broken ≡ true)

both : (a b d : Recorded) (lines more : List (List ℕ)) (es fs : List Event) (rs qs : List Reply) (replies told : List Doc) → LinesReplied a b lines es rs replies → LinesReplied b d more fs qs told
    → LinesReplied a d (lines ++ more) (es ++ fs) (rs ++ qs) (replies ++ told)
both a b d lines more es fs rs qs replies told first second =
    let dones = dones_append es fs rs qs first.each in
    let struck = hits_append es fs rs qs first.each in
    record {
      each = length-append es fs ∙ (λ i. first.each i + second.each i) ∙ sym (length-append rs qs);
      replied = subst (λ (ds : List Transaction). Replied (known_of a) (lines ++ more) (replies ++ told) ds (hits_of (es ++ fs) (rs ++ qs))) (sym dones)
          (subst (λ (hs : List Transaction). Replied (known_of a) (lines ++ more) (replies ++ told) (dones_of es rs ++ dones_of fs qs) hs) (sym struck)
          (replied_behind (known_of a) lines more replies told (dones_of es rs) (dones_of fs qs) (hits_of es rs) (hits_of fs qs) first.replied
          (subst (λ (s : Known). Replied s more told (dones_of fs qs) (hits_of fs qs)) first.known second.replied) (⊎_elim inl (λ broken. inr (second.broke broken).0) first.hit)));
      known = second.known ∙ ap (λ (k : Known). known_each k (dones_of fs qs)) first.known ∙ sym (known_append (known_of a) (dones_of es rs) (dones_of fs qs)) ∙ ap (known_each (known_of a)) (sym dones);
      hit = ⊎_elim (λ none. ⊎_elim (λ no_more. inl (struck ∙ (λ i. none i ++ no_more i))) inr second.hit) (λ broken. inr (second.broke broken).1) first.hit;
      broke = λ broken. (let one = first.broke broken in let two = second.broke one.1 in (dones ∙ (λ i. one.0 i ++ two.0 i), two.1));
    }

-- lines that made nothing
quiet_replied : (old new : Recorded) (lines : List (List ℕ)) (events : List Event) (said : List Reply) (replies : List Doc) → Quiet old new events said → Replied (known_of old) lines replies [] []
    → LinesReplied old new lines events said replies
quiet_replied old new lines events said replies quiet replied = record {
  each = quiet.each;
  replied = subst (λ (ds : List Transaction). Replied (known_of old) lines replies ds (hits_of events said)) (sym quiet.none_done) (subst (λ (hs : List Transaction). Replied (known_of old) lines replies [] hs) (sym quiet.none_hit) replied);
  known = quiet.same ∙ ap (known_each (known_of old)) (sym quiet.none_done);
  hit = inl quiet.none_hit;
  broke = λ broken. (quiet.none_done, quiet.still broken);
}

-- the lines of a group
abbrev lines_in : Group → List (List ℕ)
lines_in (alone line) = line ∷ []
lines_in (together lines) = lines

-- what a batch that was recorded leaves known
known_same_of : (old new : Recorded) (ts : List Transaction) → new.state ≡ after_each old.state ts → new.rides ≡ old.rides → new.history ≡ with_each old.history (told_each old.rides old.state.seq ts) → known_of new ≡ known_each (known_of old) ts
known_same_of old new ts state rides history =
    (λ i. record { state = state i; rides = rides i; history = history i }) ∙ sym (known_by (known_of old) ts)

own_replied : (old mid : Recorded) (group : Group) (events : List Event) (said : List Reply) (replies : List Doc) → AnswersGroup old group events said replies mid
    → LinesReplied old mid (lines_in group) events said replies
own_replied old mid (alone line) events said replies (reply, is, answers) = subst (λ (l : List Doc). LinesReplied old mid (line ∷ []) events said l) (sym is)
    (quiet_replied old mid (line ∷ []) events said (reply ∷ []) (quiet_line old mid line events said reply answers)
    (was_told (known_of old) line reply [] [] [] [] (other_tells old mid line events said reply answers) (no_line (known_of old))))
own_replied old mid (together lines) events said replies (cs, asks, inl memory) = subst (λ (l : List Doc). LinesReplied old mid lines events said l) (sym memory.0)
    (quiet_replied old mid lines events said (map (λ _. refusal_reply (plain MEMORY)) cs) (quiet_none old mid events said memory.1.0 memory.1.1 memory.1.2) (batch_unmade (known_of old) lines cs asks))
own_replied old mid (together lines) events said replies (cs, asks, inr batch) =
    let counted = batch_counts old.account mid.account cs said batch.0 batch.1 in
    let own : LinesReplied old mid lines (changes cs) said replies = record {
      each = changes_length cs ∙ sym (one_reply_each old.account mid.account cs said batch.0 batch.1);
      replied = batch_replied (known_of old) mid.state lines cs said replies asks counted.counts batch.4;
      known = known_same_of old mid (dones_of (changes cs) said) counted.state (batch_rides old.account mid.account cs said batch.0 batch.1) batch.3;
      hit = counted.hit;
      broke = counted.broke;
    } in
    subst (λ (es : List Event). LinesReplied old mid lines es said replies) (sym batch.2) own

group_replied : (options : Options) (old new : Recorded) (group : Group) (events : List Event) (said : List Reply) (replies : List Doc) → Does options old group events said replies new
    → LinesReplied old new (lines_in group) events said replies
group_replied options old new group events said replies d =
    let more = quiet_replied d.mid new [] d.more d.more_said [] (quiet_behind options d.own_said d.mid new d.more d.more_said d.follows) (no_line (known_of d.mid)) in
    let all = both old d.mid new (lines_in group) [] d.own d.more d.own_said d.more_said replies [] (own_replied old d.mid group d.own d.own_said replies d.answers) more in
    subst (λ (es : List Event). LinesReplied old new (lines_in group) es said replies) (sym d.events_are)
    (subst (λ (rs : List Reply). LinesReplied old new (lines_in group) (d.own ++ d.more) rs replies) (sym d.said_are)
    (subst (λ (ls : List (List ℕ)). LinesReplied old new ls (d.own ++ d.more) (d.own_said ++ d.more_said) replies) (append-nil (lines_in group))
    (subst (λ (l : List Doc). LinesReplied old new (lines_in group ++ []) (d.own ++ d.more) (d.own_said ++ d.more_said) l) (append-nil replies) all)))

-- ---- sessions

abbrev lines_in_all : List Group → List (List ℕ)
lines_in_all groups = flat_map lines_in groups

one_behind : (groups : List Group) (group : Group) → lines_in_all (groups ++ group ∷ []) ≡ lines_in_all groups ++ lines_in group
one_behind groups group = flat_map-append lines_in groups (group ∷ []) ∙ ap (λ (l : List (List ℕ)). lines_in_all groups ++ l) (append-nil (lines_in group))

grouped_lines : (options : Options) (lines : List (List ℕ)) (groups : List Group) (whole : Bool) → AreGroups options lines groups whole → lines_in_all groups ≡ lines
grouped_lines options _ _ _ no_groups = refl
grouped_lines options _ _ _ (one_alone lines groups whole line before) = one_behind groups (alone line) ∙ ap (λ (l : List (List ℕ)). l ++ line ∷ []) (grouped_lines options lines groups whole before)
grouped_lines options _ _ _ (one_full lines groups batch before full) = one_behind groups (together batch) ∙ ap (λ (l : List (List ℕ)). l ++ batch) (grouped_lines options lines groups true before)
grouped_lines options _ _ _ (one_short lines groups batch before some few) = one_behind groups (together batch) ∙ ap (λ (l : List (List ℕ)). l ++ batch) (grouped_lines options lines groups true before)

session_replied : (options : Options) (a b : Recorded) (groups : List Group) (events : List Event) (said : List Reply) (replies : List Doc) → Session options a groups events said replies b
    → LinesReplied a b (lines_in_all groups) events said replies
session_replied options _ _ _ _ _ _ (begun a) = record { each = refl; replied = no_line (known_of a); known = refl; hit = inl refl; broke = λ broken. (refl, broken) }
session_replied options _ _ _ _ _ _ (one_more a b d groups group events more said more_said replies more_replies before group_does) =
    subst (λ (ls : List (List ℕ)). LinesReplied a d ls (events ++ more) (said ++ more_said) (replies ++ more_replies)) (sym (one_behind groups group))
    (both a b d (lines_in_all groups) (lines_in group) events more said more_said replies more_replies (session_replied options a b groups events said replies before)
    (group_replied options b d group more more_said more_replies group_does))

pub session_told : {D : Type 0} (disk : D → Disk) (options : Options) (old new : RecordedView D) (lines : List (List ℕ)) (replies : List Doc) (was : IsSession disk options old lines replies new)
    → Replied (known_of (recorded_of old)) lines replies (dones_of was.events was.said) (hits_of was.events was.said)
session_told disk options old new lines replies was =
    subst (λ (ls : List (List ℕ)). Replied (known_of (recorded_of old)) ls replies (dones_of was.events was.said) (hits_of was.events was.said)) (grouped_lines options lines was.groups was.whole was.grouped)
    (session_replied options (recorded_of old) (recorded_of new) was.groups was.events was.said replies was.session).replied

-- ---- lines that a line feed ended are the first

first_ended : (b : ℕ) (all ends rest : List (List ℕ)) → all ≡ ends ++ rest → (more : List (List ℕ)) × (onto b all ≡ onto_ended b ends ++ more)
first_ended b all [] rest is = (onto b all, refl)
first_ended b all (line ∷ lines) rest is = (rest, ap (onto b) is)

by_feed : (b : ℕ) (bytes : List ℕ) (x : Bool) (below : (rest : List (List ℕ)) × (cut bytes ≡ ended bytes ++ rest))
    → (rest : List (List ℕ)) × ((if x then [] ∷ cut bytes else onto b (cut bytes)) ≡ (if x then [] ∷ ended bytes else onto_ended b (ended bytes)) ++ rest)
by_feed b bytes true below = (below.0, ap (λ (l : List (List ℕ)). [] ∷ l) below.1)
by_feed b bytes false below = first_ended b (cut bytes) (ended bytes) below.0 below.1

cut_first : (bytes : List ℕ) → (rest : List (List ℕ)) × (cut bytes ≡ ended bytes ++ rest)
cut_first [] = ([], refl)
cut_first (b ∷ bytes) = by_feed b bytes (nat_eq b line_feed) (cut_first bytes)

pub ended_first : (bytes : List ℕ) → (rest : List (List ℕ)) × (lines_of bytes ≡ answered (ended bytes) ++ rest)
ended_first bytes = let cuts = cut_first bytes in (answered cuts.0, ap answered cuts.1 ∙ answered-append (ended bytes) cuts.0)

-- ---- what is kept of a session that ended

module _ {D : Type 0} (disk : D → Disk) (options : Options) (old new : RecordedView D) (left left_new : Option (List ℕ)) (read : List ℕ) (consumed : Consumes left left_new read)
    (keeps : (events : List Event) (said : List Reply) → Ran disk old.store new.store events said → KeepsPromise disk old.store new.store (dones_of events said) (hits_of events said)) where
  -- one over the first of the lines that were read
  abbrev pub kept_so : (lines later : List (List ℕ)) (replies : List Doc) → IsSession disk options old lines replies new → lines_of read ≡ lines ++ later → IsKept disk old new left left_new
  kept_so lines later replies was parts = record {
    read = read;
    consumed = consumed;
    lines = lines;
    later = later;
    parts = parts;
    replies = replies;
    done = dones_of was.events was.said;
    hit = hits_of was.events was.said;
    replied = session_told disk options old new lines replies was;
    promise = keeps was.events was.said was.ran;
  }

  -- one that paused
  abbrev pub kept_paused : (before after : Option (List ℕ)) → Pauses disk options old (answered (ended read)) before new after → IsKept disk old new left left_new
  kept_paused before after p =
      let first = ended_first read in
      kept_so p.done (p.waiting ++ first.0) p.writes.replies p.writes.session (first.1 ∙ ap (λ (l : List (List ℕ)). l ++ first.0) p.parts ∙ append_assoc p.done p.waiting first.0)

  -- one that was broken off
  pub kept_broken_off : BreaksOff disk options old read left_new new → IsKept disk old new left left_new
  kept_broken_off b = elim b.first [
    | inl ended ↦
        let first = ended_first read in
        kept_so b.lines (b.later ++ first.0) b.replies b.session (first.1 ∙ ap (λ (l : List (List ℕ)). l ++ first.0) ended.0 ∙ append_assoc b.lines b.later first.0)
    | inr all ↦ kept_so b.lines b.later b.replies b.session all.1
  ]
