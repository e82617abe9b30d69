-- What marks say of the walks in a numbered graph.
use Rattle.std.proofs.Common.{◌≡◌, ◌≢◌, ℕ, zero, suc, ◌+◌, ◌<◌, ◌≤◌, ◌⊎◌, inl, inr, List, length, get_or, set, refl, sym, ap, subst, ◌∙◌, ⊎_elim, arith, get_or-set_same, get_or-set_other, cond, eqb, length-set}
use Rattle.std.proofs.lemmas.List.Sums.{sum_by-set}
use Rattle.schema_graph.specs.Walks.{In, Walk, IsLooped}
use Rattle.schema_graph.specs.Numbered.{Graph, row_at, numbers_of, IsClosed, IsCyclic}
use Rattle.schema_graph.specs.Marks.{mark, is_unseen, unseen, IsSettled, LeadTo, Goes}
use Rattle.schema_graph.specs.declared.walk.Mark.{Mark}
use Rattle.schema_graph.specs.declared.walk.Mark.TheVariants.{Unseen, Open, Done}
use Rattle.schema_graph.proofs.Numbers.{same_or_not, leads_within, in_numbers, closed_numbers, at_index, index_of, same_number}
use Rattle.schema_graph.proofs.Rounds.{walked, same_loops}

not_both : (m : Mark) → m ≡ Open → m ≡ Done → ⊥
not_both m e f = absurd cc

-- a walk with one more edge at its end
pub Walk-snoc : (g : Graph) (a b c n : ℕ) → Walk (row_at g) a b n → In c (row_at g b) → Walk (row_at g) a c (suc n)
Walk-snoc g a b c zero w e = (c, subst (λ x. In c (row_at g x)) (sym w) e, refl)
Walk-snoc g a b c (suc n) w e = (w.0, w.1, Walk-snoc g w.0 b c n w.2 e)

-- from a done place walks lead to done places
pub stays_done : (g : Graph) (m : List Mark) (a b n : ℕ) → IsSettled g m → mark m a ≡ Done → Walk (row_at g) a b n → mark m b ≡ Done
stays_done g m a b zero s d w = subst (λ x. mark m x ≡ Done) w d
stays_done g m a b (suc n) s d w = stays_done g m w.0 b n s (s.closed a w.0 d w.1) w.2

-- an open place that leads to done places alone is done
module _ (g : Graph) (m : List Mark) (v : ℕ) (lt : v < length m) (s : IsSettled g m) (is_open : mark m v ≡ Open) (ends : (b : ℕ) → In b (row_at g v) → mark m b ≡ Done) where
  pub now_done : mark (set m v Done) v ≡ Done
  now_done = rw get_or-set_same refl

  other : (a : ℕ) → a ≢ v → mark (set m v Done) a ≡ mark m a
  other a ne = rw get_or-set_other refl

  pub was_done : (a : ℕ) → mark m a ≡ Done → mark (set m v Done) a ≡ Done
  was_done a d = let ne : a ≢ v = λ e. not_both (mark m v) is_open (sym (ap (mark m) e) ∙ d) in other a ne ∙ d

  done_before : (a : ℕ) → mark (set m v Done) a ≡ Done → (a ≡ v) ⊎ (mark m a ≡ Done)
  done_before a d = ⊎_elim (λ e. inl e) (λ ne. inr (sym (other a ne) ∙ d)) (same_or_not a v)

  edge_done : (a b : ℕ) → mark (set m v Done) a ≡ Done → In b (row_at g a) → mark m b ≡ Done
  edge_done a b d e = ⊎_elim (λ (same : a ≡ v). ends b (subst (λ x. In b (row_at g x)) same e)) (λ h. s.closed a b h e) (done_before a d)

  pub settled_more : IsSettled g (set m v Done)
  settled_more = record {
    closed = λ a b d e. was_done b (edge_done a b d e);
    no_loop = λ a n d w.
        let first = edge_done a w.0 d w.1 in
        let last = stays_done g m w.0 a n s first w.2 in
        s.no_loop a n last w;
  }

-- the marks while a place is open and its edges are followed
pub record Begun (g : Graph) (old new : List Mark) (v : ℕ) : Type 0 where
  pub settled : IsSettled g new
  pub here : mark new v ≡ Open
  pub done : (a : ℕ) → mark old a ≡ Done → mark new a ≡ Done
  pub opened : (a : ℕ) → mark new a ≡ Open → (a ≡ v) ⊎ (mark old a ≡ Open)
  pub stays : (a : ℕ) → mark old a ≡ Open → mark new a ≡ Open
  pub len : length new ≡ length old
  pub fewer : unseen new < unseen old

-- marking an unseen place leaves fewer unseen
fewer_unseen : (m : List Mark) (v : ℕ) → v < length m → mark m v ≡ Unseen → unseen (set m v Open) < unseen m
fewer_unseen m v lt is =
    let e = sum_by-set (λ (x : Mark). cond (is_unseen x) 1 0) m v Open Unseen lt in
    let e' = rw is at e in
    omega (arith, e')

same_unseen : (m : List Mark) (v : ℕ) → v < length m → mark m v ≡ Open → unseen (set m v Done) ≡ unseen m
same_unseen m v lt is =
    let e = sum_by-set (λ (x : Mark). cond (is_unseen x) 1 0) m v Done Unseen lt in
    let e' = rw is at e in
    omega (arith, e')

module _ (g : Graph) (m : List Mark) (v : ℕ) (lt : v < length m) (is : mark m v ≡ Unseen) (s : IsSettled g m) where
  elsewhere : (a : ℕ) → a ≢ v → mark (set m v Open) a ≡ mark m a
  elsewhere a ne = rw get_or-set_other refl

  here : mark (set m v Open) v ≡ Open
  here = rw get_or-set_same refl

  pub before_open : (a : ℕ) → mark (set m v Open) a ≡ Done → mark m a ≡ Done
  before_open a d = ⊎_elim (λ (e : a ≡ v). absurd (not_both (mark (set m v Open) v) here (sym (ap (mark (set m v Open)) e) ∙ d))) (λ ne. sym (elsewhere a ne) ∙ d) (same_or_not a v)

  pub after_open : (a : ℕ) (x : Mark) → mark m a ≡ x → (x ≡ Unseen → ⊥) → mark (set m v Open) a ≡ x
  after_open a x d not_so = let ne : a ≢ v = λ e. absurd (not_so (sym d ∙ ap (mark m) e ∙ is)) in elsewhere a ne ∙ d

  pub begins : Begun g m (set m v Open) v
  begins = record {
    settled = record { closed = λ a b d e. after_open b Done (s.closed a b (before_open a d) e) (λ x. absurd cc); no_loop = λ a n d w. s.no_loop a n (before_open a d) w };
    here = here;
    done = λ a d. after_open a Done d (λ x. absurd cc);
    opened = λ a d. ⊎_elim (λ e. inl e) (λ ne. inr (sym (elsewhere a ne) ∙ d)) (same_or_not a v);
    stays = λ a d. after_open a Open d (λ x. absurd cc);
    len = length-set m v Open;
    fewer = fewer_unseen m v lt is;
  }

-- after a visit of a place at the end of an edge
pub goes_on : (g : Graph) (old m new : List Mark) (v : ℕ) → Begun g old m v → Goes m new → IsSettled g new → Begun g old new v
goes_on g old m new v b s settled = record {
  settled = settled;
  here = s.stays v b.here;
  done = λ a d. s.done a (b.done a d);
  opened = λ a d. b.opened a (s.opened a d);
  stays = λ a d. s.stays a (b.stays a d);
  len = s.len ∙ b.len;
  fewer = omega (arith, s.fewer, b.fewer);
}

-- the open places lead on along an edge
pub leads_on : (g : Graph) (old m : List Mark) (v w : ℕ) → Begun g old m v → LeadTo g old v → In w (row_at g v) → LeadTo g m w
leads_on g old m v w b lead e = record {
  walk = λ a d. ⊎_elim (λ (is : a ≡ v). (1, (w, subst (λ x. In w (row_at g x)) (sym is) e, refl))) (λ was. let l = lead.walk a was in (suc l.0, Walk-snoc g a v w l.0 l.1 e)) (b.opened a d);
}

-- the place is done
pub ends : (g : Graph) (old m : List Mark) (v : ℕ) → v < length old → Begun g old m v → mark old v ≡ Unseen → ((k : ℕ) → k < length (row_at g v) → mark m (get_or (row_at g v) k 0) ≡ Done)
    → IsSettled g (set m v Done) × Goes old (set m v Done)
ends g old m v lt b was all =
    let long : v < length m = omega (arith, b.len) in
    let out : (x : ℕ) → In x (row_at g v) → mark m x ≡ Done = λ x e. (let r = index_of (row_at g v) x e in subst (λ y. mark m y ≡ Done) r.2 (all r.0 r.1)) in (
      settled_more g m v long b.settled b.here out,
      record {
        done = λ a d. was_done g m v long b.settled b.here out a (b.done a d);
        opened = λ a d. ⊎_elim (λ (e : a ≡ v). absurd (not_both (mark (set m v Done) a) d (ap (mark (set m v Done)) e ∙ now_done g m v long b.settled b.here out)))
            (λ ne. ⊎_elim (λ e. absurd (ne e)) (λ h. h) (b.opened a (sym (other g m v long b.settled b.here out a ne) ∙ d))) (same_or_not a v);
        stays = λ a d. let ne : a ≢ v = λ e. absurd (unseen_not_open (mark old v) was (sym (ap (mark old) e) ∙ d)) in other g m v long b.settled b.here out a ne ∙ b.stays a d;
        len = length-set m v Done ∙ b.len;
        fewer = omega (arith, b.fewer, same_unseen m v long b.here);
      },
    )
  where
    unseen_not_open : (x : Mark) → x ≡ Unseen → x ≡ Open → ⊥
    unseen_not_open x e f = absurd cc

pub edge_at : (g : Graph) (v i : ℕ) (row : List ℕ) → row ≡ row_at g v → i < length row → In (get_or row i 0) (row_at g v)
edge_at g v i row e lt = subst (λ (r : List ℕ). In (get_or row i 0) r) e (at_index row i lt)

-- an edge that leads back to an open place
pub loops : (g : Graph) (old m : List Mark) (v w : ℕ) → IsClosed g → Begun g old m v → LeadTo g old v → In w (row_at g v) → mark m w ≡ Open → IsCyclic g
loops g old m v w closed b lead e d =
    (same_loops (row_at g) eqb same_number (numbers_of g) (closed_numbers g closed)).1
    (⊎_elim (λ (is : w ≡ v). (w, in_numbers g w (closed v w e), 0, (w, subst (λ x. In w (row_at g x)) (sym is) e, refl)))
    (λ was. let k = lead.walk w was in (w, in_numbers g w (closed v w e), k.0, Walk-snoc g w v w k.0 k.1 e)) (b.opened w d))

-- where every place is done there is no loop
pub none_left : (g : Graph) (m : List Mark) → IsSettled g m → ((a : ℕ) → a < length g → mark m a ≡ Done) → IsCyclic g → ⊥
none_left g m s all c =
    let l : IsLooped (row_at g) (numbers_of g) = walked (row_at g) (numbers_of g) c in
    s.no_loop l.0 l.2 (all l.0 (leads_within g l.0 l.3.0 l.3.1)) l.3

pub more_done : (i : ℕ) (row : List ℕ) (m : List Mark) → ((k : ℕ) → k < i → mark m (get_or row k 0) ≡ Done) → mark m (get_or row i 0) ≡ Done → (k : ℕ) → k < i + 1 → mark m (get_or row k 0) ≡ Done
more_done i row m below here k lt = ⊎_elim (λ (e : k ≡ i). subst (λ n. mark m (get_or row n 0) ≡ Done) (sym e) here) (λ ne. below k (omega arith)) (same_or_not k i)

pub all_done : (i : ℕ) (g : Graph) (v : ℕ) (m : List Mark) (row : List ℕ) → row ≡ row_at g v → length row ≤ i → ((k : ℕ) → k < i → mark m (get_or (row_at g v) k 0) ≡ Done) → (k : ℕ) → k < length (row_at g v) → mark m (get_or (row_at g v) k 0) ≡ Done
all_done i g v m row e le below k lt = below k (omega (arith, ap length e))

-- at each index there is a done place, so each edge leads to one
pub each_done : (g : Graph) (v : ℕ) (m : List Mark) → ((k : ℕ) → k < length (row_at g v) → mark m (get_or (row_at g v) k 0) ≡ Done) → (b : ℕ) → In b (row_at g v) → mark m b ≡ Done
each_done g v m h b i = let r = index_of (row_at g v) b i in subst (λ y. mark m y ≡ Done) r.2 (h r.0 r.1)

pub in_row : (g : Graph) (v i : ℕ) (row : List ℕ) (m : List Mark) → row ≡ row_at g v → mark m (get_or row i 0) ≡ Done → mark m (get_or (row_at g v) i 0) ≡ Done
in_row g v i row m e d = subst (λ (r : List ℕ). mark m (get_or r i 0) ≡ Done) e d
