-- A line ends, and the session goes on by it.
use Rattle.std.proofs.Common.{◌≡◌, ◌<◌, ◌+◌, suc, ℕ, Bool, true, false, not, cond, List, [], ◌∷◌, ◌++◌, length, length-append, arith, refl, sym, ap, ◌∙◌, subst, inl, inr, append_assoc, Option, Ok}
use Rattle.std.specs.List.{AllByRecursion}
use Rattle.std.proofs.lemmas.List.{append-nil}
use Rattle.std.proofs.lemmas.List.Elements.{filter-append}
use Rattle.std.proofs.lemmas.Grind.{flat_map-append}
use Rattle.std.proofs.lemmas.Bool.{ne_eqb}
use Rattle.std.specs.Io.KnownBytes.{IsAtEnd}
use Rattle.sector_device.specs.Disk.{Disk}
use Rattle.doc_tree.specs.Doc.{Doc}
use Rattle.recorded_store.specs.Recorded.{RecordedView, recorded_of}
use Rattle.store_commits.specs.Account.{IsStanding}
use Rattle.store_commits.specs.Run.{Event, Ran}
use Rattle.store_commits.specs.declared.event.Reply.{Reply}
use Rattle.store_commits.proofs.Modelled.{AreCoherent}
use Rattle.store_commits.proofs.Running.{ran_joined, ran_nothing}
use Rattle.doc_machine.specs.Transaction.{Transaction}
use Rattle.protocol.specs.Request.{Asks, change}
use Rattle.protocol.specs.Lines.{line_feed, onto, onto_ended, cut, ended, answered, is_blank, lines_of, HasNoBreak}
use Rattle.serve_lines.specs.Session.{AreGroups, no_groups, one_alone, one_full, one_short, AskFor, Does, begun, one_more, alone, together, most_of}
use Rattle.serve_lines.specs.LineReplies.{BatchIsAnswered, EndsBatch, IsRunFrom, LineIsAnswered}
use Rattle.serve_lines.specs.Progress.{with_feeds, EndsLine, LineIsWaitingOrDone, Fills, LineByItself, HasCut, HasAnswered, Waits}
use Rattle.serve_lines.specs.Serve.{BreaksOff, IsSession}
use Rattle.serve_lines.specs.declared.options.Options.{Options}

-- a line feed ends a line
cut_feed : (line more : List ℕ) → HasNoBreak line → cut (line ++ line_feed ∷ more) ≡ line ∷ cut more
cut_feed [] more h = refl
cut_feed (b ∷ line) more h =
    ap (λ t. cond t ([] ∷ cut (line ++ line_feed ∷ more)) (onto b (cut (line ++ line_feed ∷ more)))) (ne_eqb b line_feed h.0) ∙ ap (onto b) (cut_feed line more h.1)

ended_feed : (line more : List ℕ) → HasNoBreak line → ended (line ++ line_feed ∷ more) ≡ line ∷ ended more
ended_feed [] more h = refl
ended_feed (b ∷ line) more h =
    ap (λ t. cond t ([] ∷ ended (line ++ line_feed ∷ more)) (onto_ended b (ended (line ++ line_feed ∷ more)))) (ne_eqb b line_feed h.0) ∙ ap (onto_ended b) (ended_feed line more h.1)

-- the lines of lines with their line feeds, and of what follows
pub cut-with_feeds : (lines : List (List ℕ)) (more : List ℕ) → AllByRecursion HasNoBreak lines → cut (with_feeds lines ++ more) ≡ lines ++ cut more
cut-with_feeds [] more h = refl
cut-with_feeds (line ∷ lines) more h =
    ap cut (append_assoc (line ++ line_feed ∷ []) (with_feeds lines) more ∙ append_assoc line (line_feed ∷ []) (with_feeds lines ++ more))
    ∙ cut_feed line (with_feeds lines ++ more) h.0 ∙ ap (λ t. line ∷ t) (cut-with_feeds lines more h.1)

-- a rest without a line feed ends no line
ended_rest : (rest : List ℕ) → HasNoBreak rest → ended rest ≡ []
ended_rest [] h = refl
ended_rest (b ∷ rest) h =
    ap (λ t. cond t ([] ∷ ended rest) (onto_ended b (ended rest))) (ne_eqb b line_feed h.0) ∙ ap (onto_ended b) (ended_rest rest h.1)

-- the lines that end in lines with their line feeds, and in what follows
ended-feeds_more : (lines : List (List ℕ)) (more : List ℕ) → AllByRecursion HasNoBreak lines → ended (with_feeds lines ++ more) ≡ lines ++ ended more
ended-feeds_more [] more h = refl
ended-feeds_more (line ∷ lines) more h =
    ap ended (append_assoc (line ++ line_feed ∷ []) (with_feeds lines) more ∙ append_assoc line (line_feed ∷ []) (with_feeds lines ++ more))
    ∙ ended_feed line (with_feeds lines ++ more) h.0 ∙ ap (λ t. line ∷ t) (ended-feeds_more lines more h.1)

pub ended-with_feeds : (lines : List (List ℕ)) (rest : List ℕ) → AllByRecursion HasNoBreak lines → HasNoBreak rest → ended (with_feeds lines ++ rest) ≡ lines
ended-with_feeds lines rest h k = ended-feeds_more lines rest h ∙ ap (λ t. lines ++ t) (ended_rest rest k) ∙ append-nil lines

-- a rest without a line feed is a line if it isn't empty
cut_rest : (b : ℕ) (rest : List ℕ) → HasNoBreak (b ∷ rest) → cut (b ∷ rest) ≡ (b ∷ rest) ∷ []
cut_rest b [] h = ap (λ t. cond t ([] ∷ cut []) (onto b (cut []))) (ne_eqb b line_feed h.0)
cut_rest b (c ∷ rest) h = ap (λ t. cond t ([] ∷ cut (c ∷ rest)) (onto b (cut (c ∷ rest)))) (ne_eqb b line_feed h.0) ∙ ap (onto b) (cut_rest c rest h.1)

-- the lines to answer that a last one adds
abbrev pub last : List ℕ → List (List ℕ)
last line = cond (not (is_blank line)) (line ∷ []) []

pub answered_rest : (rest : List ℕ) → HasNoBreak rest → answered (cut rest) ≡ last rest
answered_rest [] h = refl
answered_rest (b ∷ rest) h = ap answered (cut_rest b rest h)

pub answered-append : (a b : List (List ℕ)) → answered (a ++ b) ≡ answered a ++ answered b
answered-append a b = filter-append (λ line. not (is_blank line)) a b

module _ {D : Type 0} (disk : D → Disk) (options : Options) where
  -- some bytes came, and no line feed
  pub reaches_more : (start : RecordedView D) (bytes : List ℕ) (now : RecordedView D) (replies : List Doc) (cs : List Transaction) (rest more : List ℕ) → HasCut disk options start bytes now replies cs rest
      → HasCut disk options start (bytes ++ more) now replies cs (rest ++ more)
  reaches_more start bytes now replies cs rest more r = record {
    lines = r.lines;
    unbroken = r.unbroken;
    split = ap (λ x. x ++ more) r.split ∙ append_assoc (with_feeds r.lines) rest more;
    settles = r.settles;
  }

  -- the lines to answer of all that was read, where the rest is a line
  pub lines_of-reached : (start : RecordedView D) (bytes : List ℕ) (now : RecordedView D) (replies : List Doc) (cs : List Transaction) (rest : List ℕ) (r : HasCut disk options start bytes now replies cs rest) (more : List ℕ)
      → lines_of (bytes ++ more) ≡ answered r.lines ++ lines_of (rest ++ more)
  lines_of-reached start bytes now replies cs rest r more =
      ap lines_of (ap (λ x. x ++ more) r.split ∙ append_assoc (with_feeds r.lines) rest more) ∙ ap answered (cut-with_feeds r.lines (rest ++ more) r.unbroken) ∙ answered-append r.lines (cut (rest ++ more))

  -- the lines that a line feed has ended are answered, or their changes wait
  pub settles_ended : (start : RecordedView D) (bytes : List ℕ) (now : RecordedView D) (replies : List Doc) (cs : List Transaction) (rest : List ℕ) → HasNoBreak rest → HasCut disk options start bytes now replies cs rest
      → HasAnswered disk options start (answered (ended bytes)) now replies cs
  settles_ended start bytes now replies cs rest whole r =
      subst (λ (ls : List (List ℕ)). HasAnswered disk options start (answered ls) now replies cs) (sym (ap ended r.split ∙ ended-with_feeds r.lines rest r.unbroken whole)) r.settles

  -- whatever came behind it
  pub breaks_off : (start : RecordedView D) (bytes more : List ℕ) (left : Option (List ℕ)) (now : RecordedView D) (replies : List Doc) (cs : List Transaction) (rest : List ℕ) → HasCut disk options start bytes now replies cs rest
      → BreaksOff disk options start (bytes ++ more) left now
  breaks_off start bytes more left now replies cs rest r =
      let later = answered (ended (rest ++ more)) in
      let all : answered (ended (bytes ++ more)) ≡ answered r.lines ++ later =
      ap (λ x. answered (ended x)) (ap (λ x. x ++ more) r.split ∙ append_assoc (with_feeds r.lines) rest more) ∙ ap answered (ended-feeds_more r.lines (rest ++ more) r.unbroken)
      ∙ answered-append r.lines (ended (rest ++ more)) in
      record {
        lines = r.settles.done;
        later = r.settles.waiting ++ later;
        replies = replies;
        session = r.settles.session;
        first = inl (all ∙ ap (λ x. x ++ later) r.settles.parts ∙ append_assoc r.settles.done r.settles.waiting later, r.settles.whole);
      }

  -- all of the input was read, and all its lines are answered
  pub breaks_off_end : (start : RecordedView D) (bytes : List ℕ) (left : Option (List ℕ)) (now : RecordedView D) (replies : List Doc) → IsAtEnd left → IsSession disk options start (lines_of bytes) replies now
      → BreaksOff disk options start bytes left now
  breaks_off_end start bytes left now replies end session = record {
    lines = lines_of bytes;
    later = [];
    replies = replies;
    session = session;
    first = inr (end, sym (append-nil (lines_of bytes)));
  }

unbroken_more : (lines : List (List ℕ)) (line : List ℕ) → AllByRecursion HasNoBreak lines → HasNoBreak line → AllByRecursion HasNoBreak (lines ++ line ∷ [])
unbroken_more [] line h k = (k, tt)
unbroken_more (l ∷ lines) line h k = (h.0, unbroken_more lines line h.1 k)

-- one change more is asked for
asked_more : (lines : List (List ℕ)) (cs : List Transaction) (line : List ℕ) (c : Transaction) → AskFor lines cs → Asks line (Ok (change c)) → AskFor (lines ++ line ∷ []) (cs ++ c ∷ [])
asked_more [] [] line c h k = (k, tt)
asked_more [] (d ∷ cs) line c h k = absurd h
asked_more (l ∷ lines) [] line c h k = absurd h
asked_more (l ∷ lines) (d ∷ cs) line c h k = (h.0, asked_more lines cs line c h.1 k)

-- as many changes as lines
pub asked_length : (lines : List (List ℕ)) (cs : List Transaction) → AskFor lines cs → length lines ≡ length cs
asked_length [] [] h = refl
asked_length [] (c ∷ cs) h = absurd h
asked_length (l ∷ lines) [] h = absurd h
asked_length (l ∷ lines) (c ∷ cs) h = ap suc (asked_length lines cs h.1)

-- no change is asked for by no line
pub asked_none : (lines : List (List ℕ)) → AskFor lines [] → lines ≡ []
asked_none [] h = refl
asked_none (l ∷ lines) h = absurd h

some_most : (options : Options) → 0 < most_of options
some_most options = omega arith

-- a session over the lines, and whether no batch is the last that may take more lines
pub record Sat {D : Type 0} (disk : D → Disk) (options : Options) (start : RecordedView D) (lines : List (List ℕ)) (replies : List Doc) (new : RecordedView D) (whole : Bool) : Type 0 where
  pub session : IsSession disk options start lines replies new
  pub whole_is : session.whole ≡ whole

module _ {D : Type 0} (disk : D → Disk) (options : Options) (coherent : AreCoherent disk) where
  -- a run goes on by what lines led to
  ran_led : (start old new : RecordedView D) (events more : List Event) (said answers : List Reply) → Ran disk start.store old.store events said → IsRunFrom disk old more answers new → Ran disk start.store new.store (events ++ more) (said ++ answers)
  ran_led start old new events more said answers first led = elim led [
    | inl quiet ↦
        subst (λ (v : RecordedView D). Ran disk start.store v.store (events ++ more) (said ++ answers)) (sym quiet.0)
        (subst (λ (es : List Event). Ran disk start.store old.store es (said ++ answers)) (sym (ap (λ es. events ++ es) quiet.1 ∙ append-nil events))
        (subst (λ (rs : List Reply). Ran disk start.store old.store events rs) (sym (ap (λ rs. said ++ rs) quiet.2 ∙ append-nil said)) first))
    | inr second ↦ ran_joined disk coherent start.store old.store new.store events more said answers first second
  ]

  -- one line more, by itself
  session_alone : (start old new : RecordedView D) (lines : List (List ℕ)) (line : List ℕ) (replies : List Doc) (reply : Doc) → IsSession disk options start lines replies old → LineIsAnswered disk options old line reply new
      → Sat disk options start (lines ++ line ∷ []) (replies ++ reply ∷ []) new true
  session_alone start old new lines line replies reply s answer = record {
    session = record {
      groups = s.groups ++ alone line ∷ [];
      whole = true;
      grouped = one_alone lines s.groups s.whole line s.grouped;
      events = s.events ++ answer.events;
      said = s.said ++ answer.said;
      session = one_more (recorded_of start) (recorded_of old) (recorded_of new) s.groups (alone line) s.events answer.events s.said answer.said replies (reply ∷ []) s.session answer.does;
      ran = ran_led start old new s.events answer.events s.said answer.said s.ran answer.led;
    };
    whole_is = refl;
  }

  -- one batch more
  session_batch : (start old new : RecordedView D) (lines batch : List (List ℕ)) (cs : List Transaction) (replies docs : List Doc) (s : IsSession disk options start lines replies old)
      → AskFor batch cs → BatchIsAnswered disk options old cs docs new → (whole : Bool) → AreGroups options (lines ++ batch) (s.groups ++ together batch ∷ []) whole
      → Sat disk options start (lines ++ batch) (replies ++ docs) new whole
  session_batch start old new lines batch cs replies docs s asked b whole grouped =
      let does : Does options (recorded_of old) (together batch) (b.own ++ b.more) (b.own_said ++ b.more_said) docs (recorded_of new) = record {
        mid = b.mid;
        own = b.own;
        own_said = b.own_said;
        answers = (cs, asked, b.answers);
        more = b.more;
        more_said = b.more_said;
        follows = b.follows;
        events_are = refl;
        said_are = refl;
      } in
      record {
        session = record {
          groups = s.groups ++ together batch ∷ [];
          whole = whole;
          grouped = grouped;
          events = s.events ++ (b.own ++ b.more);
          said = s.said ++ (b.own_said ++ b.more_said);
          session = one_more (recorded_of start) (recorded_of old) (recorded_of new) s.groups (together batch) s.events (b.own ++ b.more) s.said (b.own_said ++ b.more_said) replies docs s.session does;
          ran = ran_led start old new s.events (b.own ++ b.more) s.said (b.own_said ++ b.more_said) s.ran b.led;
        };
        whole_is = refl;
      }

  -- the batch that waits, short of being full, if any change waits
  session_ended_batch : (start old new : RecordedView D) (lines : List (List ℕ)) (cs : List Transaction) (replies docs : List Doc) → HasAnswered disk options start lines old replies cs
      → EndsBatch disk options old cs docs new → IsSession disk options start lines (replies ++ docs) new
  session_ended_batch start old new lines cs replies docs s e = elim e [
    | inl none ↦
        let waiting : s.waiting ≡ [] = asked_none s.waiting (subst (λ (l : List Transaction). AskFor s.waiting l) none.0 s.asked) in
        let all : lines ≡ s.done = s.parts ∙ ap (λ (l : List (List ℕ)). s.done ++ l) waiting ∙ append-nil s.done in
        subst (λ (v : RecordedView D). IsSession disk options start lines (replies ++ docs) v) (sym none.2)
        (subst (λ (ls : List (List ℕ)). IsSession disk options start ls (replies ++ docs) old) (sym all)
        (subst (λ (rs : List Doc). IsSession disk options start s.done rs old) (sym (ap (λ (l : List Doc). replies ++ l) none.1 ∙ append-nil replies)) s.session))
    | inr some ↦
        let same = asked_length s.waiting cs s.asked in
        let grouped = one_short s.done s.session.groups s.waiting (subst (λ (w : Bool). AreGroups options s.done s.session.groups w) s.whole s.session.grouped)
        (subst (λ (n : ℕ). 0 < n) (sym same) some.0) (subst (λ (n : ℕ). n < most_of options) (sym same) s.fewer) in
        subst (λ (ls : List (List ℕ)). IsSession disk options start ls (replies ++ docs) new) (sym s.parts)
        (session_batch start old new s.done s.waiting cs replies docs s.session s.asked some.1 false grouped).session
  ]

  module _ (start old new : RecordedView D) (lines : List (List ℕ)) (cs left : List Transaction) (line : List ℕ) (replies more : List Doc) (s : HasAnswered disk options start lines old replies cs) where
    -- its change waits
    settles_waiting : Waits options old cs line more new left → HasAnswered disk options start (lines ++ line ∷ []) new (replies ++ more) left
    settles_waiting w =
        subst (λ (l : List Transaction). HasAnswered disk options start (lines ++ line ∷ []) new (replies ++ more) l) (sym w.left_are)
        (subst (λ (v : RecordedView D). HasAnswered disk options start (lines ++ line ∷ []) v (replies ++ more) (cs ++ w.c ∷ [])) (sym w.same)
        (subst (λ (rs : List Doc). HasAnswered disk options start (lines ++ line ∷ []) old rs (cs ++ w.c ∷ [])) (sym (ap (λ (l : List Doc). replies ++ l) w.none ∙ append-nil replies))
        (record {
          done = s.done;
          waiting = s.waiting ++ line ∷ [];
          parts = ap (λ (l : List (List ℕ)). l ++ line ∷ []) s.parts ∙ append_assoc s.done s.waiting (line ∷ []);
          session = s.session;
          whole = s.whole;
          asked = asked_more s.waiting cs line w.c s.asked w.asks;
          fewer = subst (λ (n : ℕ). n < most_of options) (sym (length-append cs (w.c ∷ []))) w.fewer;
        })))

    -- all that there was is done
    settles_done : Sat disk options start (lines ++ line ∷ []) (replies ++ more) new true → left ≡ [] → HasAnswered disk options start (lines ++ line ∷ []) new (replies ++ more) left
    settles_done t none = subst (λ (l : List Transaction). HasAnswered disk options start (lines ++ line ∷ []) new (replies ++ more) l) (sym none) (record {
      done = lines ++ line ∷ [];
      waiting = [];
      parts = sym (append-nil (lines ++ line ∷ []));
      session = t.session;
      whole = t.whole_is;
      asked = tt;
      fewer = some_most options;
    })

    -- it makes the batch full
    settles_full : Fills disk options old cs line more new left → HasAnswered disk options start (lines ++ line ∷ []) new (replies ++ more) left
    settles_full f =
        let batch = s.waiting ++ line ∷ [] in
        let full : length batch ≡ most_of options = length-append s.waiting (line ∷ []) ∙ ap (λ (n : ℕ). n + 1) (asked_length s.waiting cs s.asked) ∙ f.full in
        let grouped = one_full s.done s.session.groups batch (subst (λ (w : Bool). AreGroups options s.done s.session.groups w) s.whole s.session.grouped) full in
        let t = session_batch start old new s.done batch (cs ++ f.c ∷ []) replies more s.session (asked_more s.waiting cs line f.c s.asked f.asks) f.batch true grouped in
        let all : s.done ++ batch ≡ lines ++ line ∷ [] = sym (append_assoc s.done s.waiting (line ∷ [])) ∙ ap (λ (l : List (List ℕ)). l ++ line ∷ []) (sym s.parts) in
        settles_done (subst (λ (ls : List (List ℕ)). Sat disk options start ls (replies ++ more) new true) all t) f.left_are

    -- those that wait are done, and then it is by itself
    settles_alone : LineByItself disk options old cs line more new left → HasAnswered disk options start (lines ++ line ∷ []) new (replies ++ more) left
    settles_alone a =
        let before = session_ended_batch start old a.mid lines cs replies a.before s a.batch in
        let all : (replies ++ a.before) ++ a.reply ∷ [] ≡ replies ++ more = append_assoc replies a.before (a.reply ∷ []) ∙ ap (λ (l : List Doc). replies ++ l) (sym a.replies_are) in
        settles_done
        (subst (λ (rs : List Doc). Sat disk options start (lines ++ line ∷ []) rs new true) all (session_alone start a.mid new lines line (replies ++ a.before) a.reply before a.answered)) a.left_are

    settles_busy : LineIsWaitingOrDone disk options old cs line more new left → HasAnswered disk options start (lines ++ line ∷ []) new (replies ++ more) left
    settles_busy (inl w) = settles_waiting w
    settles_busy (inr (inl f)) = settles_full f
    settles_busy (inr (inr a)) = settles_alone a

    -- one line more
    settles_line : EndsLine disk options old cs line more new left → HasAnswered disk options start (lines ++ last line) new (replies ++ more) left
    settles_line e = elim e [
      | inl w ↦
          let no_more : replies ++ more ≡ replies = ap (λ x. replies ++ x) w.1 ∙ append-nil replies in
          let no_line : lines ++ last line ≡ lines = ap (λ b. lines ++ cond (not b) (line ∷ []) []) w.0 ∙ append-nil lines in
          subst (λ (l : List Transaction). HasAnswered disk options start (lines ++ last line) new (replies ++ more) l) (sym w.3)
          (subst (λ (now : RecordedView D). HasAnswered disk options start (lines ++ last line) now (replies ++ more) cs) (sym w.2)
          (subst (λ (ls : List (List ℕ)). HasAnswered disk options start ls old (replies ++ more) cs) (sym no_line)
          (subst (λ (rs : List Doc). HasAnswered disk options start lines old rs cs) (sym no_more) s)))
      | inr w ↦
          let one_line : lines ++ last line ≡ lines ++ line ∷ [] = ap (λ b. lines ++ cond (not b) (line ∷ []) []) w.0 in
          subst (λ (ls : List (List ℕ)). HasAnswered disk options start ls new (replies ++ more) left) (sym one_line) (settles_busy w.1)
    ]

  -- before the first byte
  pub reaches_start : (start : RecordedView D) → IsStanding (disk start.device) start.account → HasCut disk options start [] start [] [] []
  reaches_start start standing = record {
    lines = [];
    unbroken = tt;
    split = refl;
    settles = record {
      done = [];
      waiting = [];
      parts = refl;
      session = record {
        groups = [];
        whole = true;
        grouped = no_groups;
        events = [];
        said = [];
        session = begun (recorded_of start);
        ran = ran_nothing disk coherent start.store standing;
      };
      whole = refl;
      asked = tt;
      fewer = some_most options;
    };
  }

  -- a line feed came
  pub reaches_line : (start : RecordedView D) (bytes : List ℕ) (old new : RecordedView D) (replies more : List Doc) (cs left : List Transaction) (line : List ℕ) → HasNoBreak line → HasCut disk options start bytes old replies cs line
      → EndsLine disk options old cs line more new left → HasCut disk options start (bytes ++ line_feed ∷ []) new (replies ++ more) left []
  reaches_line start bytes old new replies more cs left line whole r e = record {
    lines = r.lines ++ line ∷ [];
    unbroken = unbroken_more r.lines line r.unbroken whole;
    split =
        ap (λ x. x ++ line_feed ∷ []) r.split ∙ append_assoc (with_feeds r.lines) line (line_feed ∷ [])
        ∙ ap (λ x. with_feeds r.lines ++ x) (sym (append-nil (line ++ line_feed ∷ [])))
        ∙ sym (flat_map-append (λ l. l ++ line_feed ∷ []) r.lines (line ∷ []))
        ∙ sym (append-nil (with_feeds (r.lines ++ line ∷ [])));
    settles = subst (λ (ls : List (List ℕ)). HasAnswered disk options start ls new (replies ++ more) left) (sym (answered-append r.lines (line ∷ [])))
        (settles_line start old new (answered r.lines) cs left line replies more r.settles e);
  }

  -- the input has ended: the last line is, and then the batch that waits
  pub session_end : (start : RecordedView D) (bytes : List ℕ) (old mid new : RecordedView D) (replies more docs : List Doc) (cs left : List Transaction) (rest : List ℕ) → HasNoBreak rest
      → HasCut disk options start bytes old replies cs rest → EndsLine disk options old cs rest more mid left → EndsBatch disk options mid left docs new
      → IsSession disk options start (lines_of bytes) (replies ++ (more ++ docs)) new
  session_end start bytes old mid new replies more docs cs left rest whole r e b =
      let all = ap lines_of (sym (append-nil bytes)) ∙ lines_of-reached disk options start bytes old replies cs rest r [] ∙ ap (λ x. answered r.lines ++ x) (ap lines_of (append-nil rest) ∙ answered_rest rest whole) in
      subst (λ (ls : List (List ℕ)). IsSession disk options start ls (replies ++ (more ++ docs)) new) (sym all)
      (subst (λ (rs : List Doc). IsSession disk options start (answered r.lines ++ last rest) rs new) (append_assoc replies more docs)
      (session_ended_batch start mid new (answered r.lines ++ last rest) left (replies ++ more) docs (settles_line start old mid (answered r.lines) cs left rest replies more r.settles e) b))

-- bytes that are cut at a line feed, behind others
pub parted : (before end behind rest : List ℕ) → rest ≡ end ++ line_feed ∷ behind → (before ++ (end ++ line_feed ∷ [])) ++ behind ≡ before ++ rest
parted before end behind rest e =
    append_assoc before (end ++ line_feed ∷ []) behind ∙ ap (λ t. before ++ t) (append_assoc end (line_feed ∷ []) behind ∙ sym e)
