-- Marks: the place of one, what setting one leaves, what takes it back, and that they stay as a state may have them.
use Rattle.std.proofs.Common.{◌≡◌, ℕ, zero, suc, ◌+◌, ◌-◌, ◌<◌, ◌≤◌, arith, add-one, Bool, true, false, not, cond, List, [], ◌∷◌, ◌++◌, Option, None, Some, refl, sym, ap, ◌∙◌, subst, map, length, length-append, take, drop, insert, remove, get_or, slice_get, bytes_eq, nat_lt, string_bytes}
use Rattle.std.proofs.lemmas.List.{drop_all, length-drop, take-append-le, take-map, take_all}
use Rattle.std.proofs.lemmas.List.Edits.{length-remove}
use Rattle.std.proofs.lemmas.Slice.Eq.{bytes_eq-Decides}
use Rattle.std.specs.Cmp.Lexicographic.{nat_list_eq_equiv}
use Rattle.std.specs.List.{AllByRecursion}
use Rattle.std.specs.Str.{IsUtf8}
use Rattle.refusals.specs.declared.numbers.TheConstants.{COMMAND, NAME}
use Rattle.schema_rules.specs.declared.profile.Profile.{Profile}
use Rattle.schema_rules.specs.declared.profile.Profile.TheVariants.{Three, Two}
use Rattle.indexmap.proofs.SetLemmas.{map-remove}
use Rattle.doc_changes.specs.MarkPlaces.{GoesAt, IsMore, SetsBy, place_from}
use Rattle.doc_changes.specs.MarkView.{AreSet, IsSet, all_before, mark_in, marks_before}
use Rattle.doc_changes.specs.Marks.{AreApart, AreMarks, AreNumbered, IsMark, Mark, holds_marks, mark_of, mark_refusal, marks_in, most_marks, newest, others, with_mark}
use Rattle.doc_changes.specs.Names.{is_name}
use Rattle.doc_changes.specs.Refusals.{first, plain, refused_if}
use Rattle.doc_changes.specs.declared.refusal.Refusal.{Refusal}
use Rattle.doc_changes.specs.Step.{IsOwn}
use Rattle.doc_changes.specs.State.{Good, State, in_profile, noted}
use Rattle.doc_changes.specs.Within.{AreWithin}
use Rattle.doc_changes.specs.declared.mark.Mark.{Mark as Held}
use Rattle.doc_changes.specs.declared.marks.Unset.{Unset}
use Rattle.doc_changes.specs.declared.marks.Unset.TheVariants.{Added, Replaced}
use Rattle.doc_changes.proofs.Entries.{none_at, same_some}
use Rattle.doc_changes.proofs.Reasons.{named_if, none_first, within_if}
use Rattle.doc_changes.proofs.Undoing.{insert-remove}

-- ---- the place of a key

-- one place further
further : (key : List ℕ) (xs : List Held) (i n : ℕ) (x : Held) (b : Bool) → i < length xs → x ≡ get_or xs i x → bytes_eq key (string_bytes x.key) ≡ b
    → place_from n key (drop i (map mark_in xs)) ≡ cond b (Some n) (place_from (n + 1) key (drop (suc i) (map mark_in xs)))
further key [] i n x b low at is = absurd (omega (arith, low))
further key (y ∷ ys) zero n x b low at is =
    let same : x ≡ y = at in
    ap (λ c. cond c (Some n) (place_from (n + 1) key (map mark_in ys))) (ap (λ (z : Held). bytes_eq key (string_bytes z.key)) (sym same) ∙ is)
further key (y ∷ ys) (suc i) n x b low at is = further key ys i n x b (omega (arith, low)) at is

pub place_here : (key : List ℕ) (xs : List Held) (i n : ℕ) (x : Held) → i < length xs → x ≡ get_or xs i x → bytes_eq key (string_bytes x.key) ≡ true → place_from n key (drop i (map mark_in xs)) ≡ Some n
place_here key xs i n x low at is = further key xs i n x true low at is

pub place_later : (key : List ℕ) (xs : List Held) (i n : ℕ) (x : Held) → i < length xs → x ≡ get_or xs i x → bytes_eq key (string_bytes x.key) ≡ false
    → place_from n key (drop i (map mark_in xs)) ≡ place_from (n + 1) key (drop (i + 1) (map mark_in xs))
place_later key xs i n x low at is = further key xs i n x false low at is ∙ ap (λ k. place_from (n + 1) key (drop k (map mark_in xs))) (sym (add-one i))

pub length-seen : (xs : List Held) → length (map mark_in xs) ≡ length xs
length-seen [] = refl
length-seen (x ∷ xs) = ap suc (length-seen xs)

pub place_nowhere : (key : List ℕ) (xs : List Held) (i n : ℕ) → length xs ≤ i → place_from n key (drop i (map mark_in xs)) ≡ None
place_nowhere key xs i n past = ap (place_from n key) (drop_all i (map mark_in xs) (omega (arith, past, length-seen xs)))

-- no mark has the key
pub absent : (n : ℕ) (key : List ℕ) (ms : List Mark) → place_from n key ms ≡ None → (mark_of key ms ≡ None) × (others key ms ≡ ms)
absent n key [] h = (refl, refl)
absent n key (m ∷ ms) h = by (bytes_eq key m.key) h (absent (n + 1) key ms)
  where
    by : (b : Bool) → cond b (Some n) (place_from (n + 1) key ms) ≡ None → (place_from (n + 1) key ms ≡ None → (mark_of key ms ≡ None) × (others key ms ≡ ms))
        → (cond b (Some m) (mark_of key ms) ≡ None) × (cond b ms (m ∷ others key ms) ≡ m ∷ ms)
    by true h rest = absurd (cc h)
    by false h rest = let both = rest h in (both.0, ap (λ (l : List Mark). m ∷ l) both.1)

-- the mark of the key is there
pub record StandsAt (n : ℕ) (key : List ℕ) (ms : List Mark) (i : ℕ) : Type 0 where
  pub place : ℕ
  pub mark : Mark
  pub sum : n + place ≡ i
  pub within : place < length ms
  pub there : slice_get ms place ≡ Some mark
  pub value : mark_of key ms ≡ Some mark
  pub rest : others key ms ≡ remove ms place

pub stands : (n : ℕ) (key : List ℕ) (ms : List Mark) (i : ℕ) → place_from n key ms ≡ Some i → StandsAt n key ms i
stands n key [] i h = absurd (cc h)
stands n key (m ∷ ms) i h = by (bytes_eq key m.key) refl h (stands (n + 1) key ms i)
  where
    by : (b : Bool) → bytes_eq key m.key ≡ b → cond b (Some n) (place_from (n + 1) key ms) ≡ Some i → (place_from (n + 1) key ms ≡ Some i → StandsAt (n + 1) key ms i) → StandsAt n key (m ∷ ms) i
    by true is h rest =
        let same : n ≡ i = cc h in
        record {
          place = zero;
          mark = m;
          sum = omega (arith, same);
          within = omega arith;
          there = refl;
          value = ap (λ b. cond b (Some m) (mark_of key ms)) is;
          rest = ap (λ b. cond b ms (m ∷ others key ms)) is;
        }
    by false is h rest =
        let r = rest h in
        let sum = r.sum in
        let within = r.within in
        record {
          place = suc r.place;
          mark = r.mark;
          sum = omega (arith, sum);
          within = omega (arith, within);
          there = r.there;
          value = ap (λ b. cond b (Some m) (mark_of key ms)) is ∙ r.value;
          rest = ap (λ b. cond b ms (m ∷ others key ms)) is ∙ ap (λ (l : List Mark). m ∷ l) r.rest;
        }

-- ---- the mark that goes

newest_few : (ms : List Mark) → length ms ≤ 1_024 → newest ms ≡ ms
newest_few ms few = let none : length ms - 1_024 ≡ 0 = omega (arith, few) in ap (λ n. drop n ms) none

-- the one of the key
pub goes_found : (key : List ℕ) (ms : List Mark) (i : ℕ) → length ms ≤ 1_024 → place_from 0 key ms ≡ Some i → GoesAt key ms i
goes_found key ms i few h =
    let s = stands 0 key ms i h in
    let same : s.place ≡ i = (let sum = s.sum in omega (arith, sum)) in
    let within : i < length ms = (let low = s.within in omega (arith, low, same)) in
    let rest : others key ms ≡ remove ms i = s.rest ∙ ap (remove ms) same in
    record {
      within = within;
      rest = λ m. ap (λ (l : List Mark). newest (l ++ m ∷ [])) rest
          ∙ newest_few (remove ms i ++ m ∷ []) (omega (arith, few, length-append (remove ms i) (m ∷ []), length-remove ms i within));
    }

first_gone : (ms : List Mark) (m : Mark) → length ms ≡ 1_024 → newest (ms ++ m ∷ []) ≡ remove ms 0 ++ m ∷ []
first_gone [] m full = absurd (omega (arith, full))
first_gone (x ∷ xs) m full =
    let one : length ((x ∷ xs) ++ m ∷ []) - 1_024 ≡ 1 = omega (arith, full, length-append (x ∷ xs) (m ∷ [])) in
    ap (λ n. drop n ((x ∷ xs) ++ m ∷ [])) one

-- or the first
pub goes_first : (key : List ℕ) (ms : List Mark) → length ms ≡ 1_024 → place_from 0 key ms ≡ None → GoesAt key ms 0
goes_first key ms full h = record { within = omega (arith, full); rest = λ m. ap (λ (l : List Mark). newest (l ++ m ∷ [])) (absent 0 key ms h).1 ∙ first_gone ms m full }

-- or none
pub goes_none : (key : List ℕ) (ms : List Mark) → length ms ≤ 1_024 → (length ms ≡ 1_024 → ⊥) → place_from 0 key ms ≡ None → IsMore key ms
goes_none key ms few other h = record { all = (absent 0 key ms h).1; few = omega (arith, few, other) }

-- ---- what takes a mark back

last_taken : (ms : List Mark) (m : Mark) → take (length (ms ++ m ∷ []) - 1) (ms ++ m ∷ []) ≡ ms
last_taken ms m =
    let size : length (ms ++ m ∷ []) - 1 ≡ length ms = omega (arith, length-append ms (m ∷ [])) in
    ap (λ n. take n (ms ++ m ∷ [])) size ∙ take-append-le (length ms) ms (m ∷ []) (omega arith) ∙ take_all (length ms) ms (omega arith)

pub sets_more : (m : Mark) (ms : List Mark) → IsMore m.key ms → SetsBy Added m ms ms
sets_more m ms more =
    let few = more.few in
    record {
      is = sym (ap (λ (l : List Mark). newest (l ++ m ∷ [])) more.all ∙ newest_few (ms ++ m ∷ []) (omega (arith, few, length-append ms (m ∷ []))));
      back = record { back = last_taken ms m; there = omega (arith, length-append ms (m ∷ [])) };
    }

-- what was at a place, as it is seen
seen_at : (xs : List Held) (i : ℕ) (x : Held) → i < length xs → x ≡ get_or xs i x → slice_get (map mark_in xs) i ≡ Some (mark_in x)
seen_at [] i x low at = absurd (omega (arith, low))
seen_at (y ∷ ys) zero x low at = let same : x ≡ y = at in ap (λ (z : Held). Some (mark_in z)) (sym same)
seen_at (y ∷ ys) (suc i) x low at = seen_at ys i x (omega (arith, low)) at

sets_at : (m : Mark) (ms : List Mark) (i : ℕ) (gone : Held) → GoesAt m.key ms i → slice_get ms i ≡ Some (mark_in gone) → SetsBy (Replaced i gone) m ms (remove ms i)
sets_at m ms i gone goes there =
    let low = goes.within in
    record {
      is = sym (goes.rest m);
      back = record {
        back = ap (λ (l : List Mark). insert l i (mark_in gone)) (last_taken (remove ms i) m) ∙ insert-remove ms i (mark_in gone) there;
        there = omega (arith, low, length-append (remove ms i) (m ∷ []), length-remove ms i low);
      };
    }

pub sets_over : (m : Mark) (xs ys : List Held) (i : ℕ) (gone : Held) → GoesAt m.key (map mark_in xs) i → gone ≡ get_or xs i gone → ys ≡ remove xs i → SetsBy (Replaced i gone) m (map mark_in xs) (map mark_in ys)
sets_over m xs ys i gone goes at left =
    let low = goes.within in
    let there = seen_at xs i gone (omega (arith, low, length-seen xs)) at in
    subst (SetsBy (Replaced i gone) m (map mark_in xs)) (sym (ap (map mark_in) left ∙ map-remove mark_in xs i)) (sets_at m (map mark_in xs) i gone goes there)

-- what is found
pub place_within : (key : List ℕ) (xs : List Held) (i : ℕ) → place_from 0 key (map mark_in xs) ≡ Some i → i < length xs
place_within key xs i h =
    let s = stands 0 key (map mark_in xs) i h in
    let sum = s.sum in
    let low = s.within in
    omega (arith, sum, low, length-seen xs)

pub mark_there : (key : List ℕ) (xs : List Held) (i : ℕ) (x : Held) → place_from 0 key (map mark_in xs) ≡ Some i → x ≡ get_or xs i x → mark_of key (map mark_in xs) ≡ Some (mark_in x)
mark_there key xs i x h at =
    let ms = map mark_in xs in
    let s = stands 0 key ms i h in
    let place_is : s.place ≡ i = (let sum = s.sum in omega (arith, sum)) in
    let there = seen_at xs i x (place_within key xs i h) at in
    let same : mark_in x ≡ s.mark = same_some (slice_get ms i) (mark_in x) s.mark there (subst (λ p. slice_get ms p ≡ Some s.mark) place_is s.there) in
    s.value ∙ ap (λ (m : Mark). Some m) (sym same)

-- what is left where the last goes
pub popped_seen : (es new : List Held) (n : ℕ) → n ≡ length es → new ≡ take (n - 1) es → map mark_in new ≡ take (length (map mark_in es) - 1) (map mark_in es)
popped_seen es new n size is =
    ap (map mark_in) is ∙ sym (take-map mark_in (n - 1) es) ∙ ap (λ k. take (k - 1) (map mark_in es)) (size ∙ sym (length-seen es))

-- the newest of several
pub before_push : (us : List Unset) (u : Unset) (ms : List Mark) → all_before (us ++ u ∷ []) ms ≡ all_before us (marks_before u ms)
before_push [] u ms = refl
before_push (v ∷ us) u ms = ap (marks_before v) (before_push us u ms)

pub set_pop : (us : List Unset) (u : Unset) (ms : List Mark) → AreSet (us ++ u ∷ []) ms → AreSet us (marks_before u ms) × IsSet u ms
set_pop [] u ms are = (tt, are.0)
set_pop (v ∷ us) u ms are = let rest = set_pop us u ms are.1 in ((subst (IsSet v) (before_push us u ms) are.0, rest.0), rest.1)

pub set_push : (us : List Unset) (u : Unset) (ms : List Mark) → AreSet us (marks_before u ms) → IsSet u ms → AreSet (us ++ u ∷ []) ms
set_push [] u ms are is = (is, tt)
set_push (v ∷ us) u ms are is = (subst (IsSet v) (sym (before_push us u ms)) are.0, set_push us u ms are.1 is)

-- ---- marks stay as a state may have them

all_others : (P : Mark → Type 0) (key : List ℕ) (ms : List Mark) → AllByRecursion P ms → AllByRecursion P (others key ms)
all_others P key [] h = tt
all_others P key (m ∷ ms) h =
    elim (bytes_eq key m.key) as (λ b. AllByRecursion P (cond b ms (m ∷ others key ms))) [
      | true ↦ h.1
      | false ↦ (h.0, all_others P key ms h.1)
    ]

all_push : (P : Mark → Type 0) (ms : List Mark) (m : Mark) → AllByRecursion P ms → P m → AllByRecursion P (ms ++ m ∷ [])
all_push P [] m h is = (is, tt)
all_push P (x ∷ xs) m h is = (h.0, all_push P xs m h.1 is)

all_drop : (P : Mark → Type 0) (n : ℕ) (ms : List Mark) → AllByRecursion P ms → AllByRecursion P (drop n ms)
all_drop P zero ms h = h
all_drop P (suc n) [] h = tt
all_drop P (suc n) (m ∷ ms) h = all_drop P n ms h.1

-- what holds of each, and of one more
all_with : (P : Mark → Type 0) (m : Mark) (ms : List Mark) → AllByRecursion P ms → P m → AllByRecursion P (with_mark m ms)
all_with P m ms h is =
    let all = others m.key ms ++ m ∷ [] in
    all_drop P (length all - 1_024) all (all_push P (others m.key ms) m (all_others P m.key ms h) is)

-- a key that is nowhere stays so
absent_others : (k key : List ℕ) (ms : List Mark) → mark_of k ms ≡ None → mark_of k (others key ms) ≡ None
absent_others k key [] h = refl
absent_others k key (m ∷ ms) h =
    let both = none_at (bytes_eq k m.key) m (mark_of k ms) h in
    elim (bytes_eq key m.key) as (λ b. mark_of k (cond b ms (m ∷ others key ms)) ≡ None) [
      | true ↦ both.1
      | false ↦ ap (λ b. cond b (Some m) (mark_of k (others key ms))) both.0 ∙ absent_others k key ms both.1
    ]

apart_others : (key : List ℕ) (ms : List Mark) → AreApart ms → AreApart (others key ms)
apart_others key [] h = tt
apart_others key (m ∷ ms) h =
    elim (bytes_eq key m.key) as (λ b. AreApart (cond b ms (m ∷ others key ms))) [
      | true ↦ h.1
      | false ↦ (absent_others m.key key ms h.0, apart_others key ms h.1)
    ]

-- and the key itself is gone
gone : (key : List ℕ) (ms : List Mark) → AreApart ms → mark_of key (others key ms) ≡ None
gone key [] h = refl
gone key (m ∷ ms) h = by (bytes_eq key m.key) refl (gone key ms h.1)
  where
    by : (b : Bool) → bytes_eq key m.key ≡ b → mark_of key (others key ms) ≡ None → mark_of key (cond b ms (m ∷ others key ms)) ≡ None
    by true is rest =
        let same : key ≡ m.key = (bytes_eq-Decides key m.key).0 is in
        ap (λ (k : List ℕ). mark_of k ms) same ∙ h.0
    by false is rest = ap (λ b. cond b (Some m) (mark_of key (others key ms))) is ∙ rest

mark-append : (k : List ℕ) (xs ys : List Mark) → mark_of k xs ≡ None → mark_of k (xs ++ ys) ≡ mark_of k ys
mark-append k [] ys h = refl
mark-append k (x ∷ xs) ys h =
    let both = none_at (bytes_eq k x.key) x (mark_of k xs) h in
    ap (λ b. cond b (Some x) (mark_of k (xs ++ ys))) both.0 ∙ mark-append k xs ys both.1

apart_push : (ms : List Mark) (m : Mark) → AreApart ms → mark_of m.key ms ≡ None → AreApart (ms ++ m ∷ [])
apart_push [] m h new = (refl, tt)
apart_push (x ∷ xs) m h new =
    let both = none_at (bytes_eq m.key x.key) x (mark_of m.key xs) new in
    let away : bytes_eq x.key m.key ≡ false = nat_list_eq_equiv.symm x.key m.key ∙ both.0 in
    (mark-append x.key xs (m ∷ []) h.0 ∙ ap (λ b. cond b (Some m) None) away, apart_push xs m h.1 both.1)

apart_drop : (n : ℕ) (ms : List Mark) → AreApart ms → AreApart (drop n ms)
apart_drop zero ms h = h
apart_drop (suc n) [] h = tt
apart_drop (suc n) (m ∷ ms) h = apart_drop n ms h.1

most_of : (profile : Profile) → holds_marks profile ≡ true → most_marks profile ≡ 1_024
most_of Two h = absurd (cc h)
most_of Three h = refl

-- a mark that isn't refused is one, and a state in the profile holds it
pub record MayHold (profile : Profile) (key value : List ℕ) : Type 0 where
  pub holds : holds_marks profile ≡ true
  pub named : is_name key ≡ true
  pub short : length value ≤ 128

pub may_hold : (profile : Profile) (key value : List ℕ) → mark_refusal profile key value ≡ None → MayHold profile key value
may_hold profile key value h =
    let none = none_first (refused_if (not (holds_marks profile)) COMMAND ∷ refused_if (not (is_name key)) NAME ∷ refused_if (nat_lt 128 (length value)) COMMAND ∷ []) h in
    record { holds = named_if (holds_marks profile) COMMAND none.0; named = named_if (is_name key) NAME none.1.0; short = within_if 128 (length value) COMMAND none.1.1.0 }

pub is_mark : (profile : Profile) (m : Mark) → mark_refusal profile m.key m.value ≡ None → IsUtf8 m.value → IsMark m
is_mark profile m h text = let may = may_hold profile m.key m.value h in record { named = may.named; text = text; short = may.short }

pub marks_with : (profile : Profile) (m : Mark) (ms : List Mark) → AreMarks profile ms → mark_refusal profile m.key m.value ≡ None → IsUtf8 m.value → AreMarks profile (with_mark m ms)
marks_with profile m ms are h text =
    let all = others m.key ms ++ m ∷ [] in
    let most = most_of profile (may_hold profile m.key m.value h).holds in
    record {
      each = all_with IsMark m ms are.each (is_mark profile m h text);
      apart = apart_drop (length all - 1_024) all (apart_push (others m.key ms) m (apart_others m.key ms are.apart) (gone m.key ms are.apart));
      few = omega (arith, length-drop (length all - 1_024) all, most);
    }

-- the state with a mark is good
pub good_noted : (s : State) (m : Mark) → Good s → mark_refusal s.profile m.key m.value ≡ None → IsUtf8 m.value → m.seq ≤ s.seq → Good (noted m s)
good_noted s m g h text low = record {
  distinct = g.distinct;
  storable = g.storable;
  offered = g.offered;
  few = g.few;
  counted = g.counted;
  revised = g.revised;
  marked = marks_with s.profile m s.marks g.marked h text;
  numbered = all_with (λ x. x.seq ≤ s.seq) m s.marks g.numbered low;
}

-- where it holds marks there are at most 1,024, and elsewhere none
pub few_marks : (profile : Profile) (ms : List Mark) → AreMarks profile ms → length ms ≤ 1_024
few_marks Two ms are = let few = are.few in omega (arith, few)
few_marks Three ms are = are.few

-- those that a state keeps in a profile
pub marks_within : (from profile : Profile) (ms : List Mark) → AreMarks from ms → AreMarks profile (marks_in profile ms)
marks_within from Two ms are = record { each = tt; apart = tt; few = omega arith }
marks_within from Three ms are = record { each = are.each; apart = are.apart; few = few_marks from ms are }

pub numbered_within : (profile : Profile) (seq : ℕ) (ms : List Mark) → AreNumbered seq ms → AreNumbered seq (marks_in profile ms)
numbered_within Two seq ms are = tt
numbered_within Three seq ms are = are

-- a good state in a profile in which its documents may be
pub good_within : (profile : Profile) (s : State) → Good s → AreWithin profile s.documents → Good (in_profile profile s)
good_within profile s g within = record {
  distinct = g.distinct;
  storable = g.storable;
  offered = within.offered;
  few = within.few;
  counted = g.counted;
  revised = g.revised;
  marked = marks_within s.profile profile s.marks g.marked;
  numbered = numbered_within profile s.seq s.marks g.numbered;
}

-- each refusal of a mark is the machine's own
pub own_mark : (profile : Profile) (key value : List ℕ) (r : Refusal) → mark_refusal profile key value ≡ Some r → IsOwn r
own_mark profile key value r h = by (not (holds_marks profile)) (not (is_name key)) (nat_lt 128 (length value)) h
  where
    by : (a b c : Bool) → first (refused_if a COMMAND ∷ refused_if b NAME ∷ refused_if c COMMAND ∷ []) ≡ Some r → IsOwn r
    by true b c is = let same : plain COMMAND ≡ r = cc is in subst IsOwn same ((λ e. omega (arith, e)), (λ e. omega (arith, e)), (λ e. omega (arith, e)))
    by false true c is = let same : plain NAME ≡ r = cc is in subst IsOwn same ((λ e. omega (arith, e)), (λ e. omega (arith, e)), (λ e. omega (arith, e)))
    by false false true is = let same : plain COMMAND ≡ r = cc is in subst IsOwn same ((λ e. omega (arith, e)), (λ e. omega (arith, e)), (λ e. omega (arith, e)))
    by false false false is = absurd (cc is)
