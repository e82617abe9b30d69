-- With steps enough each judgement is decided, and more steps change nothing.
use Rattle.std.proofs.Common.{◌≡◌, ℕ, zero, suc, ◌+◌, ◌*◌, ◌<◌, ◌≤◌, ◌-◌, ⊎_elim, Bool, ◌&&◌, List, [], ◌∷◌, ◌++◌, length, Option, Some, None, option_map, refl, sym, ap, subst, ◌∙◌, arith, zero-add}
use Rattle.std.specs.Option.{option_and_then}
use Rattle.std.proofs.Math.Nat.{mul-le-mul_right}
use Rattle.doc_tree.specs.Doc.{Doc, null, boolean, int, text, list, object, Members, no_members, member, height}
use Rattle.doc_tree.specs.Same.{same}
use Rattle.doc_tree.proofs.Sameness.{same-Decides}
use Rattle.schema_rules.specs.Keywords.{keyword_of}
use Rattle.schema_rules.specs.Rules.{Ask, asks, joins}
use Rattle.doc_schema.specs.Judge.{answers, says, all_say, step, judge, enough}
use Rattle.doc_schema.specs.Steps.{told, all_hold, passes, steps, verdict, settled, rank, IsDecided}
use Rattle.doc_schema.specs.Positions.{positions}
use Rattle.doc_schema.specs.Schemas.{schemas, held_by, applied_by_members, applied, IsLoopedSchema}
use Rattle.schema_graph.specs.Walks.{In, first, later}
use Rattle.schema_graph.proofs.Among.{In-left, In-right, In-parts, none_in}
use Rattle.doc_schema.proofs.Asked.{Asked, Here, MemberIn, the_first, a_later, asked_in_object}
use Rattle.doc_schema.proofs.Closed.{closed_held, closed_applied, own, as_many}
use Rattle.schema_graph.proofs.Ranks.{short, rank_falls}

-- ---- all that a position asks

abbrev pub asked_by : Doc → Members → Members → Doc → List Ask
asked_by root beside no_members t = []
asked_by root beside (member k v ms) t = asks root beside (keyword_of k) v t ++ asked_by root beside ms t

abbrev pub asked_of : Doc → Doc → Doc → List Ask
asked_of root (object ms) t = asked_by root ms ms t
asked_of root _ t = []

abbrev pub held_of : Doc → List Doc
held_of (object ms) = held_by ms
held_of _ = []

all_asked : (root : Doc) (beside ms : Members) (t : Doc) (a : Ask) → ((k : List ℕ) (v : Doc) → MemberIn k v ms → MemberIn k v beside) → In a (asked_by root beside ms t) → Asked (applied_by_members root beside) (held_by beside) t a
all_asked root beside no_members t a among i = none_in a i
all_asked root beside (member k v ms) t a among i = ⊎_elim
    (λ h. asked_in_object root beside k v t a (among k v the_first) h)
    (λ h. all_asked root beside ms t a (λ l w x. among l w (a_later x)) h)
    (In-parts a (asks root beside (keyword_of k) v t) _ i)

-- ---- what is known of each part is known of the whole

abbrev pub Known : (Doc → Doc → Option Bool) → (Doc → Doc → Bool) → List Ask → Type 0
Known judged known xs = (a : Ask) → In a xs → judged a.schema a.instance ≡ Some (known a.schema a.instance)

module _ (judged : Doc → Doc → Option Bool) (known : Doc → Doc → Bool) where
  answers_known : (xs : List Ask) → Known judged known xs → answers judged xs ≡ Some (told known xs)
  answers_known [] h = refl
  answers_known (a ∷ xs) h = rw (h a first, answers_known xs (λ b i. h b (later i))) refl

  all_known : (root : Doc) (beside ms : Members) (t : Doc) → Known judged known (asked_by root beside ms t) → all_say judged root beside ms t ≡ Some (all_hold known root beside ms t)
  all_known root beside no_members t h = refl
  all_known root beside (member k v ms) t h =
      let one = answers_known (asks root beside (keyword_of k) v t) (λ a i. h a (In-left a _ _ i)) in
      let rest = all_known root beside ms t (λ a i. h a (In-right a (asks root beside (keyword_of k) v t) _ i)) in
      rw (one, rest) refl

  step_known : (root s t : Doc) → Known judged known (asked_of root s t) → step judged root s t ≡ Some (passes known root s t)
  step_known root (boolean b) t h = refl
  step_known root (object ms) t h = all_known root ms ms t h
  step_known root null t h = refl
  step_known root (int z) t h = refl
  step_known root (text s) t h = refl
  step_known root (list ds) t h = refl

-- ---- more steps

abbrev pub Grows : (Doc → Doc → Option Bool) → (Doc → Doc → Option Bool) → Type 0
Grows f g = (s t : Doc) (b : Bool) → f s t ≡ Some b → g s t ≡ Some b

pair_same : {A B C : Type 0} (x x' : Option A) (y y' : Option B) (j : A → B → C) (c : C) → ((a : A) → x ≡ Some a → x' ≡ Some a) → ((b : B) → y ≡ Some b → y' ≡ Some b)
    → option_and_then (λ a. option_map (j a) y) x ≡ Some c → option_and_then (λ a. option_map (j a) y') x' ≡ Some c
pair_same None x' y y' j c f g e = absurd cc
pair_same (Some a) x' None y' j c f g e = absurd cc
pair_same (Some a) x' (Some b) y' j c f g e = rw (f a refl, g b refl) e

map_same : {A B : Type 0} (x x' : Option A) (j : A → B) (c : B) → ((a : A) → x ≡ Some a → x' ≡ Some a) → option_map j x ≡ Some c → option_map j x' ≡ Some c
map_same None x' j c f e = absurd cc
map_same (Some a) x' j c f e = rw (f a refl) e

module _ (f g : Doc → Doc → Option Bool) (grows : Grows f g) where
  answers_same : (xs : List Ask) (bs : List Bool) → answers f xs ≡ Some bs → answers g xs ≡ Some bs
  answers_same [] bs e = e
  answers_same (a ∷ xs) bs e = pair_same (f a.schema a.instance) (g a.schema a.instance) (answers f xs) (answers g xs) (λ b rest. b ∷ rest) bs (grows a.schema a.instance) (answers_same xs) e

  all_same : (root : Doc) (beside ms : Members) (t : Doc) (b : Bool) → all_say f root beside ms t ≡ Some b → all_say g root beside ms t ≡ Some b
  all_same root beside no_members t b e = e
  all_same root beside (member k v ms) t b e =
      let list = asks root beside (keyword_of k) v t in
      pair_same (says f root beside (keyword_of k) v t) (says g root beside (keyword_of k) v t) (all_say f root beside ms t) (all_say g root beside ms t) (λ x y. x && y) b
      (λ c. map_same (answers f list) (answers g list) (joins beside (keyword_of k) v t) c (answers_same list)) (all_same root beside ms t) e

  step_same : (root s t : Doc) (b : Bool) → step f root s t ≡ Some b → step g root s t ≡ Some b
  step_same root (boolean x) t b e = e
  step_same root (object ms) t b e = all_same root ms ms t b e
  step_same root null t b e = e
  step_same root (int z) t b e = e
  step_same root (text s) t b e = e
  step_same root (list ds) t b e = e

pub one_more : (root : Doc) (n : ℕ) → Grows (judge root n) (judge root (suc n))
one_more root zero s t b e = absurd cc
one_more root (suc n) s t b e = step_same (judge root n) (judge root (suc n)) (one_more root n) root s t b e

-- every larger number agrees
pub agrees : (root : Doc) (n k : ℕ) (s t : Doc) (b : Bool) → judge root n s t ≡ Some b → judge root (k + n) s t ≡ Some b
agrees root n zero s t b e = rw zero-add e
agrees root n (suc k) s t b e = let l : suc k + n ≡ suc (k + n) = omega arith in rw l (one_more root (k + n) s t b (agrees root n k s t b e))

pub agrees_above : (root : Doc) (n m : ℕ) (s t : Doc) (b : Bool) → n ≤ m → judge root n s t ≡ Some b → judge root m s t ≡ Some b
agrees_above root n m s t b le e = let l : (m - n) + n ≡ m = omega arith in subst (λ x. judge root x s t ≡ Some b) l (agrees root n (m - n) s t b e)

-- ---- enough steps

settled_is : (o : Option Bool) → IsDecided o → o ≡ Some (settled o)
settled_is None d = absurd (let e = d.1 in cc)
settled_is (Some b) d = refl

module _ (root : Doc) (no_loop : IsLoopedSchema root → ⊥) where
  rank_below : (s : Doc) → In s (schemas root) → rank root s < length (schemas root)
  rank_below s h = short (applied root) same same-Decides (schemas root) (closed_applied root) (length (schemas root)) s no_loop h

  held_closed : (s q : Doc) → In s (schemas root) → In q (held_of s) → In q (schemas root)
  held_closed (object ms) q h i = closed_held root ms q h i
  held_closed _ q h i = none_in q i

  of_asked : (s t : Doc) (a : Ask) → In a (asked_of root s t) → Asked (applied root s) (held_of s) t a
  of_asked (object ms) t a i = all_asked root ms ms t a (λ k v x. x) i
  of_asked _ t a i = none_in a i

  -- each part is a position, and takes fewer steps
  pub part_in : (s t : Doc) (a : Ask) → In s (schemas root) → In a (asked_of root s t) → In a.schema (schemas root)
  part_in s t a h i = ⊎_elim (λ (x : Here (applied root s) t a). closed_applied root s a.schema h x.along) (λ x. held_closed s a.schema h x.among) (of_asked s t a i)

  pub part_less : (s t : Doc) (a : Ask) → In s (schemas root) → In a (asked_of root s t) → steps root a.schema a.instance < steps root s t
  part_less s t a h i = ⊎_elim
      (λ (x : Here (applied root s) t a).
      let falls = rank_falls (applied root) same same-Decides (schemas root) (closed_applied root) s a.schema no_loop h x.along in
      subst (λ u. height u * (length (schemas root) + 1) + rank root a.schema < steps root s t) (sym x.same) (omega (arith, falls)))
      (λ x.
      let below = rank_below a.schema (held_closed s a.schema h x.among) in
      let m = mul-le-mul_right (length (schemas root) + 1) x.less in
      omega (arith, m, below))
      (of_asked s t a i)

  pub decided : (n : ℕ) (s t : Doc) → In s (schemas root) → steps root s t < n → IsDecided (judge root n s t)
  decided zero s t h lt = absurd (omega arith)
  decided (suc n) s t h lt =
      let known : Known (judge root n) (λ p u. settled (judge root n p u)) (asked_of root s t) = λ a i.
      settled_is (judge root n a.schema a.instance) (decided n a.schema a.instance (part_in s t a h i) (omega (arith, part_less s t a h i))) in
      (passes (λ p u. settled (judge root n p u)) root s t, step_known (judge root n) (λ p u. settled (judge root n p u)) root s t known)

  -- at every larger number the answer is the verdict
  pub judged : (n : ℕ) (s t : Doc) → In s (schemas root) → steps root s t < n → judge root n s t ≡ Some (verdict root s t)
  judged n s t h lt =
      agrees_above root (suc (steps root s t)) n s t (verdict root s t) (omega arith)
      (settled_is (judge root (suc (steps root s t)) s t) (decided (suc (steps root s t)) s t h (omega arith)))

  some_is : (a b : Bool) → Some a ≡ Some b → a ≡ b
  some_is a b e = cc

  -- the verdict is the table, with verdicts as its parts
  pub verdict_is : (s t : Doc) → In s (schemas root) → verdict root s t ≡ passes (verdict root) root s t
  verdict_is s t h =
      let n = steps root s t in
      some_is (verdict root s t) (passes (verdict root) root s t) (sym (judged (suc n) s t h (omega arith)) ∙ step_known (judge root n) (verdict root) root s t (λ a i. judged n a.schema a.instance (part_in s t a h i) (part_less s t a h i)))

  -- at any number of steps that is enough
  pub enough_is : (t : Doc) (n : ℕ) → enough root t ≤ n → judge root n root t ≡ Some (verdict root root t)
  enough_is t n le =
      judged n root t (own root) (within (height t) (length (schemas root) + 1) (length (positions root) + 1) (rank root root) n (ap (λ m. m + 1) (as_many root)) (omega (arith, rank_below root (own root))) le)
    where
      within : (h b c r n : ℕ) → b ≡ c → r < b → (h + 1) * c ≤ n → h * b + r < n
      within h b c r n e lt le =
          let le' : (h + 1) * b ≤ n = subst (λ x. (h + 1) * x ≤ n) (sym e) le in
          omega (arith, lt, le')
