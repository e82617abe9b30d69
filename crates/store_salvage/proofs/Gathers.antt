-- Frames that are gathered, spare ones among them.
use Rattle.std.proofs.Common.{◌≡◌, ◌<◌, ◌≤◌, ◌+◌, ◌-◌, ◌⊎◌, inl, inr, Bool, true, false, if◌then◌else◌, nat_eq, ℕ, List, [], ◌∷◌, ◌++◌, Option, Some, None, Result, Ok, Err, IfOk, IfSome, length, drop, take, refl, sym, ◌∙◌, ap, subst, arith, max, le-ltb}
use Rattle.std.proofs.lemmas.List.{append_assoc, length-drop, length-take}
use Rattle.record_text.specs.Frame.{frame_1_of, frame_of}
use Rattle.log_frames.specs.Kinds.{Logged, frame_as, is_noted, logged}
use Rattle.frame_search.specs.Places.{IsFirstFrom, StandsAt}
use Rattle.doc_machine.specs.Entries.{Takes, with_entry}
use Rattle.doc_changes.specs.State.{State}
use Rattle.store_parts.specs.declared.part.Part.{Part}
use Rattle.store_salvage.specs.Gathering.{AddsAll, Gathers, GathersFrom, Goes, GoesOn, IsAnswered, IsSpare, IsTakenWith, Placed, Step, doubts_of, last_on, last_with, lost_of}
use Rattle.store_salvage.specs.declared.taking.Doubt.{Doubt}
use Rattle.store_salvage.specs.declared.taking.Doubt.TheVariants.{Lost, Refused}
use Rattle.store_salvage.specs.declared.taking.Gathered.{Gathered}
use Rattle.store_salvage.specs.declared.taking.Source.{Source}
use Rattle.refusals.specs.declared.numbers.TheConstants.{DAMAGED}

-- spare ones, and others behind them
pub adds_append : (parts : List Part) (last : ℕ) (s : State) (ps : List Placed) (mid : ℕ) (t : State) (qs : List Placed) (last' : ℕ) (new : State) → AddsAll parts last s ps mid t → AddsAll parts mid t qs last' new
    → AddsAll parts last s (ps ++ qs) last' new
adds_append parts last s [] mid t qs last' new one other = subst (λ (n : ℕ). AddsAll parts n s qs last' new) one.0 (subst (λ (u : State). AddsAll parts mid u qs last' new) one.1 other)
adds_append parts last s (p ∷ ps) mid t qs last' new one other = (one.0, one.1, adds_append parts (max last p.entry.seq) (with_entry s p.entry) ps mid t qs last' new one.2 other)

-- a spare one, which was taken or not
pub adds_one : {E : Type 0} (parts : List Part) (p : Placed) (old : Gathered) (result : Result Gathered E) → IsSpare parts p
    → IfOk result (λ g. ((g.machine ≡ old.machine) × (g.last ≡ old.last)) ⊎ (IsTakenWith old.machine p.entry g.machine × (g.last ≡ max old.last p.entry.seq)))
    → IfOk result (λ g. (added : List Placed) × AddsAll parts old.last old.machine added g.last g.machine)
adds_one parts p old (Ok g) spare (inl same) = ([], (same.1, same.0))
adds_one parts p old (Ok g) spare (inr taken) = (p ∷ [], (spare, taken.0.0, (taken.1, taken.0.1)))
adds_one parts p old (Err fault) spare added = added

-- a frame that the documents aren't asked to take
pub unasked : {E : Type 0} (source : Source) (p : Placed) (old : Gathered) (result : Result Gathered E) → is_noted p.kind ≡ false → (source.counted ≡ true → source.sure ≡ 0 → source.limit < p.entry.seq)
    → IfOk result (λ g. (g.machine ≡ old.machine) × (g.last ≡ old.last)) → IfOk result (λ g. g.doubts.items ≡ old.doubts.items ++ Refused p.at p.len p.entry.seq DAMAGED ∷ [])
    → IfOk result (λ g. (x : Option ℕ) × Goes source old.machine p x g.machine × (g.doubts.items ≡ old.doubts.items ++ doubts_of p x) × (g.last ≡ last_with old.last p x))
unasked source p old (Ok g) change why same doubts = (
  Some DAMAGED,
  subst (λ (b : Bool). GoesOn b source old.machine p (Some DAMAGED) g.machine) (sym change) (inr (DAMAGED, refl, (refl, why), same.0)),
  doubts,
  subst (λ (b : Bool). g.last ≡ last_on b old.last p.entry.seq (Some DAMAGED)) (sym change) same.1,
)
unasked source p old (Err fault) change why same doubts = same

-- and one that they are
pub asked : {E : Type 0} (source : Source) (p : Placed) (old : Gathered) (result : Result Gathered E) → is_noted p.kind ≡ false
    → IfOk result (λ g. (x : Option ℕ) × IsAnswered old.machine p.entry x g.machine × (g.doubts.items ≡ old.doubts.items ++ doubts_of p x) × (g.last ≡ last_on false old.last p.entry.seq x))
    → IfOk result (λ g. (x : Option ℕ) × Goes source old.machine p x g.machine × (g.doubts.items ≡ old.doubts.items ++ doubts_of p x) × (g.last ≡ last_with old.last p x))
asked source p old (Ok g) change went = (
  went.0,
  subst (λ (b : Bool). GoesOn b source old.machine p went.0 g.machine) (sym change) (inl went.1),
  went.2,
  subst (λ (b : Bool). g.last ≡ last_on b old.last p.entry.seq went.0) (sym change) went.3,
)
asked source p old (Err fault) change went = went

-- spare ones before steps
abbrev pub spares_of : List Placed → List Step
spares_of [] = []
spares_of (p ∷ ps) = record { placed = p; refusal = None } ∷ spares_of ps

pub spared : (source : Source) (bytes : List ℕ) (parts : List Part) (from last : ℕ) (s : State) (ps : List Placed) (mid : ℕ) (t : State) (steps : List Step) (doubts : List Doubt) (last' : ℕ) (new : State)
    → AddsAll parts last s ps mid t → GathersFrom source bytes parts from mid t steps doubts last' new → GathersFrom source bytes parts from last s (spares_of ps ++ steps) doubts last' new
spared source bytes parts from last s [] mid t steps doubts last' new adds all = subst (λ (n : ℕ). GathersFrom source bytes parts from n s steps doubts last' new) adds.0 (subst (λ (u : State). GathersFrom source bytes parts from mid u steps doubts last' new) adds.1 all)
spared source bytes parts from last s (p ∷ ps) mid t steps doubts last' new adds all = inl (adds.0, adds.1, spared source bytes parts from (max last p.entry.seq) (with_entry s p.entry) ps mid t steps doubts last' new adds.2 all)

-- a frame more of the bytes, after spare ones
pub gathers_step : (source : Source) (bytes : List ℕ) (parts : List Part) (from last : ℕ) (s : State) (added : List Placed) (mid : ℕ) (t : State) (p : Placed) (refusal : Option ℕ) (u : State) (steps : List Step)
    (rest : List Doubt) (last' : ℕ) (new : State) → AddsAll parts last s added mid t → from ≤ p.at → StandsAt source.version bytes p.at (logged p.kind p.entry) p.len → IsFirstFrom source.version bytes from p.at
    → Goes source t p refusal u → GathersFrom source bytes parts (p.at + p.len) (last_with mid p refusal) u steps rest last' new
    → GathersFrom source bytes parts from last s (spares_of added ++ (record { placed = p; refusal = refusal }) ∷ steps) (lost_of from p.at ++ (doubts_of p refusal ++ rest)) last' new
gathers_step source bytes parts from last s added mid t p refusal u steps rest last' new adds after stands first goes all =
    spared source bytes parts from last s added mid t ((record { placed = p; refusal = refusal }) ∷ steps) (lost_of from p.at ++ (doubts_of p refusal ++ rest)) last' new adds
    (inr (after, stands, first, (u, rest, goes, refl, all)))

-- no frame more, but spare ones
pub gathers_end : (source : Source) (bytes : List ℕ) (parts : List Part) (from last : ℕ) (s : State) (added : List Placed) (mid : ℕ) (t : State) → AddsAll parts last s added mid t
    → IsFirstFrom source.version bytes from (length bytes) → GathersFrom source bytes parts from last s (spares_of added ++ []) (lost_of from (length bytes)) mid t
gathers_end source bytes parts from last s added mid t adds first = spared source bytes parts from last s added mid t [] (lost_of from (length bytes)) mid t adds (first, refl, refl, refl)

-- at the end of the bytes there is no frame, and nothing is lost
pub none_past : (version : ℕ) (bytes : List ℕ) (from : ℕ) → length bytes ≤ from → IsFirstFrom version bytes from (length bytes)
none_past version bytes from past = λ at behind before. absurd (omega (arith, past, behind, before))

-- whatever frames are left from a place on, with those that were gathered before it they are all
abbrev pub Carries : Source → List ℕ → List Part → State → ℕ → Gathered → Type 0
Carries source bytes parts old from g =
    (steps : List Step) (rest : List Doubt) (last : ℕ) (new : State) → GathersFrom source bytes parts from g.last g.machine steps rest last new → Gathers source bytes parts old (g.doubts.items ++ rest) last new

adds_from : (parts : List Part) (before lost : Gathered) (added : List Placed) (last : ℕ) (s : State) → lost.machine ≡ before.machine → lost.last ≡ before.last → AddsAll parts lost.last lost.machine added last s
    → AddsAll parts before.last before.machine added last s
adds_from parts before lost added last s machine seq adds = subst (λ (n : ℕ). AddsAll parts n before.machine added last s) seq (subst (λ (u : State). AddsAll parts lost.last u added last s) machine adds)

pub carries_none : (source : Source) (bytes : List ℕ) (parts : List Part) (old : State) (none : List Doubt) → none ≡ [] → (steps : List Step) (rest : List Doubt) (last : ℕ) (new : State)
    → GathersFrom source bytes parts 0 0 old steps rest last new → Gathers source bytes parts old (none ++ rest) last new
carries_none source bytes parts old none is steps rest last new all =
    subst (λ (l : List Doubt). Gathers source bytes parts old (l ++ rest) last new) (sym is) (record { steps = steps; all = all })

pub carries_more : (source : Source) (bytes : List ℕ) (parts : List Part) (old : State) (from : ℕ) (before lost filled new : Gathered) (p : Placed) (refusal : Option ℕ) (added : List Placed)
    → Carries source bytes parts old from before → lost.machine ≡ before.machine → lost.last ≡ before.last → lost.doubts.items ≡ before.doubts.items ++ lost_of from p.at
    → AddsAll parts lost.last lost.machine added filled.last filled.machine → filled.doubts.items ≡ lost.doubts.items
    → Goes source filled.machine p refusal new.machine → new.doubts.items ≡ filled.doubts.items ++ doubts_of p refusal → new.last ≡ last_with filled.last p refusal
    → from ≤ p.at → StandsAt source.version bytes p.at (logged p.kind p.entry) p.len → IsFirstFrom source.version bytes from p.at → Carries source bytes parts old (p.at + p.len) new
carries_more source bytes parts old from before lost filled new p refusal added carries machine seq gone adds kept goes told last_is after stands first = λ steps rest last state all.
    let b = before.doubts.items in
    let l = lost_of from p.at in
    let d = doubts_of p refusal in
    let doubts : new.doubts.items ++ rest ≡ b ++ (l ++ (d ++ rest)) = ap (λ (x : List Doubt). x ++ rest) (told ∙ ap (λ (x : List Doubt). x ++ d) (kept ∙ gone)) ∙ append_assoc (b ++ l) d rest ∙ append_assoc b l (d ++ rest) in
    let later = subst (λ (n : ℕ). GathersFrom source bytes parts (p.at + p.len) n new.machine steps rest last state) last_is all in
    subst (λ (x : List Doubt). Gathers source bytes parts old x last state) (sym doubts)
    (carries (spares_of added ++ (record { placed = p; refusal = refusal }) ∷ steps) (l ++ (d ++ rest)) last state
    (gathers_step source bytes parts from before.last before.machine added filled.last filled.machine p refusal new.machine steps rest last state (adds_from parts before lost added filled.last filled.machine machine seq adds) after stands first goes later))

pub lost_none : (from end : ℕ) → end ≤ from → lost_of from end ≡ []
lost_none from end past = ap (λ (b : Bool). if b then Lost from (end - from) ∷ [] else []) (le-ltb from end past)

-- no frame more, but spare ones
pub carried : {E : Type 0} (source : Source) (bytes : List ℕ) (parts : List Part) (old : State) (from : ℕ) (before rest : Gathered) (result : Result Gathered E) → Carries source bytes parts old from before
    → IsFirstFrom source.version bytes from (length bytes) → rest.machine ≡ before.machine → rest.last ≡ before.last → rest.doubts.items ≡ before.doubts.items ++ lost_of from (length bytes)
    → IfOk result (λ g. (added : List Placed) × AddsAll parts rest.last rest.machine added g.last g.machine) → IfOk result (λ g. g.doubts.items ≡ rest.doubts.items)
    → IfOk result (λ g. Gathers source bytes parts old g.doubts.items g.last g.machine)
carried source bytes parts old from before rest (Ok g) carries first machine seq gone adds kept =
    subst (λ (x : List Doubt). Gathers source bytes parts old x g.last g.machine) (sym (kept ∙ gone))
    (carries (spares_of adds.0 ++ []) (lost_of from (length bytes)) g.last g.machine
    (gathers_end source bytes parts from before.last before.machine adds.0 g.last g.machine (adds_from parts before rest adds.0 g.last g.machine machine seq adds.1) first))
carried source bytes parts old from before rest (Err fault) carries first machine seq gone adds kept = adds

-- a frame that stands in bytes ends within them, and takes some
pub stands_within : (version : ℕ) (bytes : List ℕ) (at n : ℕ) (l : Logged) → StandsAt version bytes at l n → at + n ≤ length bytes
stands_within version bytes at n l stands =
    let whole : n ≡ length (take n (drop at bytes)) = stands.begins.len ∙ ap length (sym stands.begins.frame) in
    let taken = length-take n (drop at bytes) in
    let left = length-drop at bytes in
    let inside = stands.inside in
    omega (arith, whole, taken, left, inside)

headed : (three one : Bool) (l : Logged) → 0 < length (if three then frame_as l else if one then frame_1_of l.entry.change else frame_of l.entry)
headed true one l = omega arith
headed false true l = omega arith
headed false false l = omega arith

pub takes_some : (version : ℕ) (bytes : List ℕ) (at n : ℕ) (l : Logged) → StandsAt version bytes at l n → 0 < n
takes_some version bytes at n l stands = let len = stands.begins.len in let some = headed (nat_eq version 3) (nat_eq version 1) l in omega (arith, len, some)

-- what holds if there is a value holds of it
pub of_found : {T : Type 0} (P : T → Type 0) (option : Option T) (value : T) → option ≡ Some value → IfSome option P → P value
of_found P option value is holds = subst (λ o. IfSome o P) is holds
