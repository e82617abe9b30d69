-- What a judgement says of the change that is made by it.
use Rattle.std.proofs.Common.{◌≡◌, ◌<◌, ◌+◌, IfOk, IfErr, List, [], ◌∷◌, ◌++◌, Option, None, Some, inl, inr, nat_eq, false, arith, Result, Ok, Err, MatchResult, is_ok, true, refl, sym, ap, ◌∙◌}
use Rattle.std.proofs.lemmas.Bool.{ne_eqb}
use Rattle.doc_patch.specs.Measured.{IsWithin}
use Rattle.record_text.specs.Frame.{IsFramed}
use Rattle.refusals.specs.declared.numbers.TheConstants.{SEQ_END}
use Rattle.doc_changes.specs.Refusals.{first, refused_if}
use Rattle.doc_changes.specs.declared.refusal.Refusal.{Refusal}
use Rattle.doc_changes.proofs.Judgements.{judged_whole}
use Rattle.doc_tree.specs.Doc.{Doc}
use Rattle.doc_tree.specs.TreeView.{view}
use Rattle.doc_tree.specs.declared.tree.Tree.{Tree}
use Rattle.schema_rules.specs.declared.profile.Profile.{Profile}
use Rattle.record_text.specs.Change.{Change, create, patch, set_schema, delete}
use Rattle.doc_changes.specs.Judged.{IsJudged, IsJudgedIn, IsRead, IsReady, IsSoundChange, RefusesIn}
use Rattle.doc_changes.specs.State.{Document, State, Good}
use Rattle.doc_changes.specs.Step.{IsOwn, Refuses, after, refusal_of, refusals_in, seq_refusal}
use Rattle.doc_changes.specs.declared.limits.TheConstants.{LAST_SEQ}
use Rattle.doc_changes.specs.declared.judged.Judged.{Judged}
use Rattle.doc_changes.proofs.Entries.{same_some}
use Rattle.doc_changes.proofs.Reasons.{CanCreate, can_create, accepts, first-left, first-none, none_first}
use Rattle.doc_changes.proofs.After.{good_made}
use Rattle.doc_changes.proofs.Goodness.{good_counted}
use Rattle.doc_changes.proofs.Known.{own_alone}

-- a judgement that looked at seq too
pub judged_in : (s : State) (c : Change) (judged : Judged) → IsJudged s c judged → IsJudgedIn s.profile s.documents c judged
judged_in s c judged j = record { accepted = first-left (refusals_in s.profile s.documents c) _ j.accepted; sound = j.sound; made = j.made }

pub may_count : (s : State) (c : Change) (judged : Judged) → Good s → IsJudged s c judged → s.seq < LAST_SEQ
may_count s c judged g j = (accepts s c g.counted j.accepted).rises

-- a document within the limits is measured
pub measured : (r : Result Doc Tree) (v : Doc) → MatchResult r (λ d. d ≡ v) (λ back. (view back ≡ v) × (IsWithin v → ⊥)) → IsWithin v → is_ok r ≡ true
measured (Ok d) v h within = refl
measured (Err t) v h within = absurd (h.1 within)

pub new_is : (r : Result Doc Tree) (d v : Doc) → MatchResult r (λ x. x ≡ v) (λ back. (view back ≡ v) × (IsWithin v → ⊥)) → r ≡ Ok d → d ≡ v
new_is (Ok x) d v h is = let same : x ≡ d = cc in sym same ∙ h
new_is (Err t) d v h is = absurd (cc)

-- the schema that was read is the one that came
pub read_is : (profile : Profile) (schema : Doc) (rules : Option Tree) (t : Tree) → IsRead profile schema rules → rules ≡ Some t → view t ≡ schema
read_is profile schema rules t r is = ap view (same_some rules t r.read is r.is) ∙ r.same

-- the document of a judged creation
pub can_add : (profile : Profile) (ds : List Document) (d : Document) (judged : Judged) → IsJudgedIn profile ds (create d.name d.schema d.doc) judged → CanCreate profile ds d
can_add profile ds d judged j = can_create profile ds d (none_first (refusals_in profile ds (create d.name d.schema d.doc)) j.accepted) j.sound.0 j.sound.1 j.made.faultless

first-kept : (rs : List (Option Refusal)) (o : Option Refusal) (r : Refusal) → first rs ≡ Some r → first (rs ++ o ∷ []) ≡ Some r
first-kept [] o r h = absurd (cc)
first-kept (None ∷ rs) o r h = first-kept rs o r h
first-kept (Some x ∷ rs) o r h = h

-- what the documents refuse the state does
pub refuses_in : (s : State) (c : Change) (r : Refusal) → RefusesIn s.profile s.documents c r → Refuses s c r
refuses_in s c r (inl memory) = inl memory
refuses_in s c r (inr h) = inr (first-kept (refusals_in s.profile s.documents c) (seq_refusal s.seq) r h)

-- a judgement before seq was looked at, where it may rise
pub judged_below : (s : State) (c : Change) (j : Judged) → (refusal_of s c ≡ None → IsSoundChange c → IsFramed c) → IsJudgedIn s.profile s.documents c j → s.seq < LAST_SEQ → IsJudged s c j
judged_below s c j framed so_far low =
    let other : nat_eq s.seq LAST_SEQ ≡ false = ne_eqb s.seq LAST_SEQ (λ e. omega (arith, e, low)) in
    judged_whole s c j framed so_far (ap (λ b. refused_if b SEQ_END) other)

pub if_ready : (profile : Profile) (ds : List Document) (c : Change) (r : Result Judged Refusal) → MatchResult r (IsJudgedIn profile ds c) (RefusesIn profile ds c) → IfOk r (IsReady profile ds c)
if_ready profile ds c (Err e) h = tt
if_ready profile ds (create name schema doc) (Ok j) h = h
if_ready profile ds (patch name ops if_rev) (Ok j) h = tt
if_ready profile ds (set_schema name schema) (Ok j) h = h
if_ready profile ds (delete name) (Ok j) h = h

pub if_refuses : (s : State) (c : Change) (r : Result Judged Refusal) → MatchResult r (IsJudgedIn s.profile s.documents c) (RefusesIn s.profile s.documents c) → IfErr r (Refuses s c)
if_refuses s c (Ok j) h = tt
if_refuses s c (Err e) h = refuses_in s c e h

pub if_own : (profile : Profile) (ds : List Document) (c : Change) (r : Result Judged Refusal) → MatchResult r (IsJudgedIn profile ds c) (RefusesIn profile ds c) → IfErr r IsOwn
if_own profile ds c (Ok j) h = tt
if_own profile ds c (Err e) h = own_alone profile ds c e h

pub accepted_below : (s : State) (c : Change) (j : Judged) → IsJudgedIn s.profile s.documents c j → s.seq < LAST_SEQ → refusal_of s c ≡ None
accepted_below s c j so_far low =
    let other : nat_eq s.seq LAST_SEQ ≡ false = ne_eqb s.seq LAST_SEQ (λ e. omega (arith, e, low)) in
    first-none (refusals_in s.profile s.documents c) (seq_refusal s.seq) so_far.accepted ∙ ap (λ b. refused_if b SEQ_END) other

-- the state after a change that was judged is good
pub good_below : (s : State) (c : Change) (j : Judged) → Good s → s.seq < LAST_SEQ → IsJudgedIn s.profile s.documents c j → Good (after s c)
good_below s c j g low so_far =
    good_made (record s { seq = s.seq + 1 }) c (s.seq + 1) j (omega arith) (good_counted s g low) (none_first (refusals_in s.profile s.documents c) so_far.accepted) so_far.sound so_far.made
