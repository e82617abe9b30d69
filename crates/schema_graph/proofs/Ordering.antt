-- What the order of the done places keeps to.
use Rattle.std.proofs.Common.{Vec, Global, ◌≡◌, ◌≢◌, ℕ, zero, suc, ◌+◌, ◌<◌, ◌⊎◌, inl, inr, List, [], ◌∷◌, length, get_or, set, refl, sym, ap, ap₂, subst, ◌∙◌, ⊎_elim, arith, get_or-set_same, get_or-set_other, cond, length-set, false}
use Rattle.std.proofs.lemmas.List.Sums.{sum_by-set, sum_by-cons, count_by-le-length}
use Rattle.std.specs.Prelude.{count_by}
use Rattle.schema_graph.specs.Walks.{In}
use Rattle.schema_graph.specs.Numbered.{Graph, row_at}
use Rattle.schema_graph.specs.Marks.{mark, IsSettled}
use Rattle.schema_graph.specs.Orders.{at, is_done, IsOrder, ArePlaced, IsWalk}
use Rattle.schema_graph.specs.declared.walk.Walk.{Walk}
use Rattle.schema_graph.specs.declared.walk.Mark.{Mark}
use Rattle.schema_graph.specs.declared.walk.Mark.TheVariants.{Unseen, Open, Done}
use Rattle.schema_graph.proofs.Numbers.{same_or_not, leads_within}
use Rattle.schema_graph.proofs.Settling.{Begun, none_left, begins, before_open, after_open, settled_more}

not_done_open : (m : Mark) → m ≡ Open → m ≡ Done → ⊥
not_done_open m e f = absurd cc

not_done : (x : Mark) → x ≡ Open → is_done x ≡ false
not_done x e = ap is_done e

-- a mark that isn't done changes to another such
pub same_many : (m : List Mark) (v : ℕ) (x y : Mark) → v < length m → mark m v ≡ x → is_done x ≡ false → is_done y ≡ false → count_by is_done (set m v y) ≡ count_by is_done m
same_many m v x y lt is not_x not_y =
    let e = sum_by-set (λ (z : Mark). cond (is_done z) 1 0) m v y Unseen lt in
    let e' = rw (is, not_x, not_y) at e in
    omega (arith, e')

one_more : (m : List Mark) (v : ℕ) → v < length m → mark m v ≡ Open → count_by is_done (set m v Done) ≡ suc (count_by is_done m)
one_more m v lt is =
    let e = sum_by-set (λ (z : Mark). cond (is_done z) 1 0) m v Done Unseen lt in
    let e' = rw is at e in
    omega (arith, e')

-- there is a place for one more
pub room : (m : List Mark) (v : ℕ) → v < length m → mark m v ≡ Open → count_by is_done m < length m
room m v lt is = omega (arith, one_more m v lt is, count_by-le-length is_done (set m v Done), length-set m v Done)

within_marks : (m : List Mark) (a : ℕ) → mark m a ≡ Done → a < length m
within_marks [] a e = absurd cc
within_marks (x ∷ m) zero e = omega arith
within_marks (x ∷ m) (suc a) e = omega (arith, within_marks m a e)

all_counted : (m : List Mark) → ((a : ℕ) → a < length m → mark m a ≡ Done) → count_by is_done m ≡ length m
all_counted [] h = refl
all_counted (x ∷ m) h =
    let here : x ≡ Done = h 0 (omega arith) in
    let rest = all_counted m (λ a lt. h (suc a) (omega (arith, lt))) in
    let first : cond (is_done x) 1 0 ≡ 1 = ap (λ (z : Mark). cond (is_done z) 1 0) here in
    let one : 1 + length m ≡ suc (length m) = omega arith in
    sum_by-cons (λ (z : Mark). cond (is_done z) 1 0) x m ∙ ap₂ (λ (a b : ℕ). a + b) first rest ∙ one

-- no place is done
pub none_placed : (g : Graph) (m : List Mark) (places ranks : List ℕ) → ((a : ℕ) → mark m a ≢ Done) → count_by is_done m ≡ 0 → ArePlaced g m places ranks 0
none_placed g m places ranks none e = record {
  many = sym e;
  placed = λ a d. absurd (none a d);
  ranked = λ q lt. absurd (omega arith);
  falls = λ a b d i. absurd (none a d);
}

-- marks that differ where none is done leave the order as it is
pub same_placed : (g : Graph) (m m' : List Mark) (places ranks : List ℕ) (count : ℕ) → ((a : ℕ) → mark m a ≡ Done → mark m' a ≡ Done) → ((a : ℕ) → mark m' a ≡ Done → mark m a ≡ Done)
    → count_by is_done m' ≡ count_by is_done m → ArePlaced g m places ranks count → ArePlaced g m' places ranks count
same_placed g m m' places ranks count to from e p = record {
  many = p.many ∙ sym e;
  placed = λ a d. p.placed a (from a d);
  ranked = λ q lt. (let r = p.ranked q lt in (to (at places q) r.0, r.1));
  falls = λ a b d i. p.falls a b (from a d) i;
}

-- an open place that leads to done places alone
module _ (g : Graph) (m : List Mark) (places ranks : List ℕ) (count v : ℕ) (lt : v < length m) (is : mark m v ≡ Open) (s : IsSettled g m) (p : ArePlaced g m places ranks count)
    (many_places : length places ≡ length m) (many_ranks : length ranks ≡ length m) (ends : (b : ℕ) → In b (row_at g v) → mark m b ≡ Done) where
  fits : count < length places
  fits = omega (arith, many_places, p.many, room m v lt is)

  mark_here : mark (set m v Done) v ≡ Done
  mark_here = rw get_or-set_same refl

  mark_other : (a : ℕ) → a ≢ v → mark (set m v Done) a ≡ mark m a
  mark_other a ne = rw get_or-set_other refl

  rank_here : at (set ranks v count) v ≡ count
  rank_here = let l : v < length ranks = omega (arith, many_ranks, lt) in rw get_or-set_same refl

  rank_other : (a : ℕ) → a ≢ v → at (set ranks v count) a ≡ at ranks a
  rank_other a ne = rw get_or-set_other refl

  place_here : at (set places count v) count ≡ v
  place_here = let l = fits in rw get_or-set_same refl

  place_other : (q : ℕ) → q ≢ count → at (set places count v) q ≡ at places q
  place_other q ne = rw get_or-set_other refl

  another : (a : ℕ) → mark m a ≡ Done → a ≢ v
  another a d e = not_done_open (mark m v) is (sym (ap (mark m) e) ∙ d)

  before : (a : ℕ) → mark (set m v Done) a ≡ Done → (a ≡ v) ⊎ (mark m a ≡ Done)
  before a d = ⊎_elim (λ e. inl e) (λ ne. inr (sym (mark_other a ne) ∙ d)) (same_or_not a v)

  rank_done : (b : ℕ) → mark m b ≡ Done → at (set ranks v count) b ≡ at ranks b
  rank_done b d = rank_other b (another b d)

  placed_more : (a : ℕ) → mark m a ≡ Done → (at (set ranks v count) a < suc count) × (at (set places count v) (at (set ranks v count) a) ≡ a)
  placed_more a d =
      let r = p.placed a d in
      let e = rank_done a d in
      let ne : at ranks a ≢ count = λ h. absurd (omega (arith, h, r.0)) in
      (omega (arith, e, r.0), ap (at (set places count v)) e ∙ place_other (at ranks a) ne ∙ r.1)

  placed_here : (a : ℕ) → a ≡ v → (at (set ranks v count) a < suc count) × (at (set places count v) (at (set ranks v count) a) ≡ a)
  placed_here a e =
      let r : at (set ranks v count) a ≡ count = ap (at (set ranks v count)) e ∙ rank_here in
      (omega (arith, r), ap (at (set places count v)) r ∙ place_here ∙ sym e)

  ranked_more : (q : ℕ) → q < count → (mark (set m v Done) (at (set places count v) q) ≡ Done) × (at (set ranks v count) (at (set places count v) q) ≡ q)
  ranked_more q less =
      let r = p.ranked q less in
      let ne : q ≢ count = λ h. absurd (omega (arith, h, less)) in
      let e = place_other q ne in
      (ap (mark (set m v Done)) e ∙ mark_other (at places q) (another (at places q) r.0) ∙ r.0, ap (at (set ranks v count)) e ∙ rank_done (at places q) r.0 ∙ r.1)

  ranked_here : (q : ℕ) → q ≡ count → (mark (set m v Done) (at (set places count v) q) ≡ Done) × (at (set ranks v count) (at (set places count v) q) ≡ q)
  ranked_here q e =
      let r : at (set places count v) q ≡ v = ap (at (set places count v)) e ∙ place_here in
      (ap (mark (set m v Done)) r ∙ mark_here, ap (at (set ranks v count)) r ∙ rank_here ∙ sym e)

  falls_more : (a b : ℕ) → mark m a ≡ Done → In b (row_at g a) → at (set ranks v count) b < at (set ranks v count) a
  falls_more a b d i = omega (arith, rank_done a d, rank_done b (s.closed a b d i), p.falls a b d i)

  falls_here : (a b : ℕ) → a ≡ v → In b (row_at g a) → at (set ranks v count) b < at (set ranks v count) a
  falls_here a b e i =
      let d = ends b (subst (λ x. In b (row_at g x)) e i) in
      let r : at (set ranks v count) a ≡ count = ap (at (set ranks v count)) e ∙ rank_here in
      omega (arith, r, rank_done b d, (p.placed b d).0)

  pub one_placed : ArePlaced g (set m v Done) (set places count v) (set ranks v count) (suc count)
  one_placed = record {
    many = ap suc p.many ∙ sym (one_more m v lt is);
    placed = λ a d. ⊎_elim (λ e. placed_here a e) (λ h. placed_more a h) (before a d);
    ranked = λ q less. ⊎_elim (λ e. ranked_here q e) (λ ne. ranked_more q (omega (arith, ne, less))) (same_or_not q count);
    falls = λ a b d i. ⊎_elim (λ e. falls_here a b e i) (λ h. falls_more a b h i) (before a d);
  }

-- every place is done
pub ordered : (g : Graph) (m : List Mark) (places ranks : List ℕ) (count : ℕ) → IsSettled g m → ArePlaced g m places ranks count → length m ≡ length g → length places ≡ length g → length ranks ≡ length g
    → ((a : ℕ) → a < length g → mark m a ≡ Done) → IsOrder g places ranks
ordered g m places ranks count s p many_m many_p many_r all =
    let full : count ≡ length g = p.many ∙ all_counted m (λ a lt. all a (omega (arith, lt, many_m))) ∙ many_m in
    record {
      many_places = many_p;
      many_ranks = many_r;
      placed = λ a lt. (let r = p.placed a (all a lt) in (omega (arith, full, r.0), r.1));
      ranked = λ q lt. (let r = p.ranked q (omega (arith, full, lt)) in (omega (arith, many_m, within_marks m (at places q) r.0), r.1));
      falls = λ a b i. p.falls a b (all a (leads_within g a b i)) i;
      no_loop = none_left g m s all;
    }

-- ---- the walk as the code keeps it

same : (g : Graph) (m m' : List Mark) (places places' ranks ranks' : List ℕ) (count count' : ℕ) → m' ≡ m → places' ≡ places → ranks' ≡ ranks → count' ≡ count
    → ArePlaced g m places ranks count → ArePlaced g m' places' ranks' count'
same g m m' places places' ranks ranks' count count' e f h i p =
    subst (λ x. ArePlaced g x places' ranks' count') (sym e) (subst (λ x. ArePlaced g m x ranks' count') (sym f) (subst (λ x. ArePlaced g m places x count') (sym h) (subst (λ x. ArePlaced g m places ranks x) (sym i) p)))

-- what a walk from a place keeps, that far along its row
abbrev pub Kept : Graph → List Mark → ℕ → ℕ → Walk → Type 0
Kept g old v i w = IsWalk g w × Begun g old w.marks.items v × ((k : ℕ) → k < i → mark w.marks.items (get_or (row_at g v) k 0) ≡ Done)

-- a place was opened
pub opened : (g : Graph) (old new : Walk) (v : ℕ) → v < length g → mark old.marks.items v ≡ Unseen → IsWalk g old → new.marks.items ≡ set old.marks.items v Open → new.places ≡ old.places → new.ranks ≡ old.ranks → new.count ≡ old.count
    → IsWalk g new × Begun g old.marks.items new.marks.items v
opened g old new v lt is w e f h i =
    let m = old.marks.items in
    let long : v < length m = omega (arith, lt, w.many_marks) in
    let b = begins g m v long is w.settled in (
      record {
        settled = subst (IsSettled g) (sym e) b.settled;
        placed = same g (set m v Open) new.marks.items old.places.items new.places.items old.ranks.items new.ranks.items old.count new.count e (ap (λ (x : Vec ℕ Global). x.items) f) (ap (λ (x : Vec ℕ Global). x.items) h) i
            (same_placed g m (set m v Open) old.places.items old.ranks.items old.count (λ a d. after_open g m v long is w.settled a Done d (λ x. absurd cc)) (before_open g m v long is w.settled) (same_many m v Unseen Open long is refl refl) w.placed);
        many_marks = ap length e ∙ length-set m v Open ∙ w.many_marks;
        many_places = ap (λ (x : Vec ℕ Global). length x.items) f ∙ w.many_places;
        many_ranks = ap (λ (x : Vec ℕ Global). length x.items) h ∙ w.many_ranks;
      },
      subst (λ x. Begun g m x v) (sym e) b,
    )

-- a place was finished
pub finished : (g : Graph) (old new : Walk) (v : ℕ) → v < length g → mark old.marks.items v ≡ Open → IsWalk g old → ((b : ℕ) → In b (row_at g v) → mark old.marks.items b ≡ Done)
    → new.marks.items ≡ set old.marks.items v Done → new.places.items ≡ set old.places.items old.count v → new.ranks.items ≡ set old.ranks.items v old.count → new.count ≡ old.count + 1 → IsWalk g new
finished g old new v lt is w ends e f h i =
    let m = old.marks.items in
    let long : v < length m = omega (arith, lt, w.many_marks) in
    let one : new.count ≡ suc old.count = omega (arith, i) in
    record {
      settled = subst (IsSettled g) (sym e) (settled_more g m v long w.settled is ends);
      placed = same g (set m v Done) new.marks.items (set old.places.items old.count v) new.places.items (set old.ranks.items v old.count) new.ranks.items (suc old.count) new.count e f h one
          (one_placed g m old.places.items old.ranks.items old.count v long is w.settled w.placed (w.many_places ∙ sym w.many_marks) (w.many_ranks ∙ sym w.many_marks) ends);
      many_marks = ap length e ∙ length-set m v Done ∙ w.many_marks;
      many_places = ap length f ∙ length-set old.places.items old.count v ∙ w.many_places;
      many_ranks = ap length h ∙ length-set old.ranks.items v old.count ∙ w.many_ranks;
    }

-- no place was seen yet
pub unseen_walk : (g : Graph) (w : Walk) → IsSettled g w.marks.items → ((a : ℕ) → mark w.marks.items a ≢ Done) → count_by is_done w.marks.items ≡ 0 → w.count ≡ 0 → length w.marks.items ≡ length g → length w.places.items ≡ length g → length w.ranks.items ≡ length g → IsWalk g w
unseen_walk g w s none zero_many e many_m many_p many_r = record {
  settled = s;
  placed = subst (ArePlaced g w.marks.items w.places.items w.ranks.items) (sym e) (none_placed g w.marks.items w.places.items w.ranks.items none zero_many);
  many_marks = many_m;
  many_places = many_p;
  many_ranks = many_r;
}
