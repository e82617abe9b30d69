-- What takes changes back, one after another.
use Rattle.std.proofs.Common.{◌≡◌, ℕ, zero, suc, ◌≤◌, List, [], ◌∷◌, ◌++◌, Option, Some, option_to_list, refl, sym, ap, ◌∙◌, subst, length, drop, arith, ◌-◌, ◌+◌, ◌<◌, get_or, set, length-set, take, Result, Ok, Err, OnErr}
use Rattle.std.proofs.lemmas.List.{take_all, take_more, take_more_set}
use Rattle.doc_changes.specs.Undo.{IsThere, documents_before}
use Rattle.doc_changes.specs.MarkView.{AreSet, IsSet, all_before, marks_before}
use Rattle.doc_changes.specs.Marks.{Mark}
use Rattle.doc_changes.specs.State.{Good, State}
use Rattle.doc_changes.specs.declared.marks.Unset.{Unset}
use Rattle.doc_changes.specs.declared.undo.Undo.{Undo}
use Rattle.doc_changes.proofs.Marked.{before_push, set_push}
use Rattle.doc_machine.specs.declared.machine.trial.Tried.{Tried}
use Rattle.doc_machine.specs.Trial.{first_or}
use Rattle.doc_machine.specs.Tried.{before, past_of, CanGoBack, CanGoBackAll}

-- the first of them stays where the newest is taken back, or one more is tried
pub first_or-push : (s t : State) (past : List State) → first_or s (past ++ t ∷ []) ≡ first_or t past
first_or-push s t [] = refl
first_or-push s t (p ∷ ps) = refl

pub past_of-push : (us : List Tried) (u : Tried) (s : State) → past_of (us ++ u ∷ []) s ≡ past_of us (before u s) ++ before u s ∷ []
past_of-push [] u s = refl
past_of-push (v ∷ us) u s =
    let first = ap (first_or s) (past_of-push us u s) ∙ first_or-push s (before u s) (past_of us (before u s)) in
    λ i. before v (first i) ∷ past_of-push us u s i

-- the state before all of them
first-push : (us : List Tried) (u : Tried) (s : State) → first_or s (past_of (us ++ u ∷ []) s) ≡ first_or (before u s) (past_of us (before u s))
first-push us u s = ap (first_or s) (past_of-push us u s) ∙ first_or-push s (before u s) (past_of us (before u s))

pub back_push : (us : List Tried) (u : Tried) (s : State) → CanGoBackAll us (before u s) → CanGoBack u s → CanGoBackAll (us ++ u ∷ []) s
back_push [] u s all can = (can, tt)
back_push (v ∷ us) u s all can = (subst (CanGoBack v) (sym (first-push us u s)) all.0, back_push us u s all.1 can)

pub back_pop : (us : List Tried) (u : Tried) (s : State) → CanGoBackAll (us ++ u ∷ []) s → CanGoBackAll us (before u s) × CanGoBack u s
back_pop [] u s all = (tt, all.0)
back_pop (v ∷ us) u s all =
    let rest = back_pop us u s all.1 in
    ((subst (CanGoBack v) (first-push us u s) all.0, rest.0), rest.1)

-- the newest of them, and the others
pub popped : (log rest : List Tried) (o : Option Tried) (u : Tried) → log ≡ rest ++ option_to_list o → o ≡ Some u → log ≡ rest ++ u ∷ []
popped log rest o u items is = items ∙ ap (λ (x : Option Tried). rest ++ option_to_list x) is

pub newest : (log rest : List Tried) (o : Option Tried) (u : Tried) (s : State) → log ≡ rest ++ option_to_list o → o ≡ Some u → CanGoBackAll log s → CanGoBackAll rest (before u s) × CanGoBack u s
newest log rest o u s items is all = back_pop rest u s (subst (λ (l : List Tried). CanGoBackAll l s) (popped log rest o u items is) all)

pub length-past_of : (us : List Tried) (s : State) → length (past_of us s) ≡ length us
length-past_of [] s = refl
length-past_of (u ∷ us) s = ap suc (length-past_of us s)

-- the state after the oldest n stays where the newest of more is taken back
pub state_kept : (n : ℕ) (s t : State) (past : List State) → n ≤ length past → first_or s (drop n (past ++ t ∷ [])) ≡ first_or t (drop n past)
state_kept zero s t past le = first_or-push s t past
state_kept (suc n) s t [] le = absurd (omega (arith, le))
state_kept (suc n) s t (p ∷ ps) le = state_kept n s t ps (omega (arith, le))

-- where there are no more than n
pub state_all : (n : ℕ) (s : State) (past : List State) → length past ≤ n → first_or s (drop n past) ≡ s
state_all zero s [] le = refl
state_all zero s (p ∷ ps) le = absurd (omega (arith, le))
state_all (suc n) s [] le = refl
state_all (suc n) s (p ∷ ps) le = state_all n s ps (omega (arith, le))

-- ---- a mark that is set after the newest change

module _ (rest : List Tried) (u v : Tried) (unset : Unset) (s : State) (ms : List Mark) (change : v.change ≡ u.change) (items : v.marks.items ≡ u.marks.items ++ unset ∷ [])
    (back : marks_before unset ms ≡ s.marks) where
  abbrev marked : State
  marked = record s { marks = ms }

  -- the state before is the same
  before_set : before v marked ≡ before u s
  before_set =
      let marks : all_before v.marks.items ms ≡ all_before u.marks.items s.marks = ap (λ (l : List Unset). all_before l ms) items ∙ before_push u.marks.items unset ms ∙ ap (all_before u.marks.items) back in
      λ i. record { documents = documents_before (change i) s.documents; marks = marks i; seq = s.seq - 1; profile = s.profile }

  pub past_set : past_of (rest ++ v ∷ []) marked ≡ past_of (rest ++ u ∷ []) s
  past_set = past_of-push rest v marked ∙ ap (λ (t : State). past_of rest t ++ t ∷ []) before_set ∙ sym (past_of-push rest u s)

  pub back_set : IsSet unset ms → CanGoBackAll (rest ++ u ∷ []) s → CanGoBackAll (rest ++ v ∷ []) marked
  back_set is all =
      let both = back_pop rest u s all in
      back_push rest v marked (subst (CanGoBackAll rest) (sym before_set) both.0)
      (record {
        there = subst (λ (c : Undo). IsThere c s.documents) (sym change) both.1.there;
        set = subst (λ (l : List Unset). AreSet l ms) (sym items) (set_push u.marks.items unset ms (subst (AreSet u.marks.items) (sym back) both.1.set) is);
        counted = both.1.counted;
        good = subst Good (sym before_set) both.1.good;
      })

-- ---- the newest is written in its place

module _ (log : List Tried) (n : ℕ) (u : Tried) (size : n + 1 ≡ length log) (at : u ≡ get_or log n u) where
  pub last_is : log ≡ take n log ++ u ∷ []
  last_is = sym (take_all (n + 1) log (omega (arith, size))) ∙ take_more log n u (omega (arith, size)) ∙ ap (λ (t : Tried). take n log ++ t ∷ []) (sym at)

  pub last_set : (v : Tried) → set log n v ≡ take n log ++ v ∷ []
  last_set v = sym (take_all (n + 1) (set log n v) (omega (arith, size, length-set log n v))) ∙ take_more_set log n v (omega (arith, size))

  -- with no mark more
  module _ (v : Tried) (s : State) (change : v.change ≡ u.change) (items : v.marks.items ≡ u.marks.items) where
    before_same : before v s ≡ before u s
    before_same = λ i. record { documents = documents_before (change i) s.documents; marks = all_before (items i) s.marks; seq = s.seq - 1; profile = s.profile }

    pub past_same : past_of (set log n v) s ≡ past_of log s
    past_same = ap (λ (l : List Tried). past_of l s) (last_set v) ∙ past_of-push (take n log) v s ∙ ap (λ (t : State). past_of (take n log) t ++ t ∷ []) before_same
        ∙ sym (past_of-push (take n log) u s) ∙ ap (λ (l : List Tried). past_of l s) (sym last_is)

    pub back_same : CanGoBackAll log s → CanGoBackAll (set log n v) s
    back_same all =
        let both = back_pop (take n log) u s (subst (λ (l : List Tried). CanGoBackAll l s) last_is all) in
        subst (λ (l : List Tried). CanGoBackAll l s) (sym (last_set v)) (back_push (take n log) v s (subst (CanGoBackAll (take n log)) (sym before_same) both.0)
        (record {
          there = subst (λ (c : Undo). IsThere c s.documents) (sym change) both.1.there;
          set = subst (λ (l : List Unset). AreSet l s.marks) (sym items) both.1.set;
          counted = both.1.counted;
          good = subst Good (sym before_same) both.1.good;
        }))

  -- with one mark more
  module _ (v : Tried) (unset : Unset) (s : State) (ms : List Mark) (change : v.change ≡ u.change) (items : v.marks.items ≡ u.marks.items ++ unset ∷ []) (back : marks_before unset ms ≡ s.marks) where
    pub past_more : past_of (set log n v) (record s { marks = ms }) ≡ past_of log s
    past_more = ap (λ (l : List Tried). past_of l (record s { marks = ms })) (last_set v) ∙ past_set (take n log) u v unset s ms change items back ∙ ap (λ (l : List Tried). past_of l s) (sym last_is)

    pub back_more : IsSet unset ms → CanGoBackAll log s → CanGoBackAll (set log n v) (record s { marks = ms })
    back_more is all =
        subst (λ (l : List Tried). CanGoBackAll l (record s { marks = ms })) (sym (last_set v))
        (back_set (take n log) u v unset s ms change items back is (subst (λ (l : List Tried). CanGoBackAll l s) last_is all))

pub on_err_all : {A E P : Type 0} (r : Result A E) → P → OnErr r P
on_err_all (Ok a) p = tt
on_err_all (Err e) p = p
