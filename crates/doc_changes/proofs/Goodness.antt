-- Each change of the documents keeps a state good.
use Rattle.std.proofs.Common.{◌≡◌, ℕ, suc, ◌+◌, ◌<◌, ◌≤◌, Bool, true, false, cond, List, [], ◌∷◌, ◌++◌, Option, None, Some, is_some, refl, ap, ◌∙◌, subst, length, length-append, arith, bytes_eq}
use Rattle.std.specs.Cmp.Lexicographic.{nat_list_eq_equiv}
use Rattle.std.specs.List.{AllByRecursion}
use Rattle.doc_schema.specs.Faults.{IsFaultless}
use Rattle.doc_changes.specs.Marks.{AreNumbered, Mark}
use Rattle.doc_changes.specs.State.{Document, State, Good, IsStorable, AreDistinct, AreRevised, find, changed, most_documents, without}
use Rattle.doc_changes.specs.declared.limits.TheConstants.{LAST_SEQ}
use Rattle.doc_changes.proofs.Entries.{none_at, none_found}

-- ---- what holds of each document

all_push : (P : Document → Type 0) (ds : List Document) (d : Document) → AllByRecursion P ds → P d → AllByRecursion P (ds ++ d ∷ [])
all_push P [] d h e = (e, tt)
all_push P (x ∷ xs) d h e = (h.0, all_push P xs d h.1 e)

all_changed : (P : Document → Type 0) (f : Document → Document) (m : List ℕ) (ds : List Document) → AllByRecursion P ds → ((d : Document) → find m ds ≡ Some d → P d → P (f d))
    → AllByRecursion P (changed f m ds)
all_changed P f m [] h new = tt
all_changed P f m (x ∷ xs) h new = by (bytes_eq m x.name) new (all_changed P f m xs h.1)
  where
    by : (b : Bool) → ((d : Document) → cond b (Some x) (find m xs) ≡ Some d → P d → P (f d))
        → (((d : Document) → find m xs ≡ Some d → P d → P (f d)) → AllByRecursion P (changed f m xs))
        → AllByRecursion P (cond b (f x ∷ xs) (x ∷ changed f m xs))
    by true made rest = (made x refl h.0, h.1)
    by false made rest = (h.0, rest made)

pub all_found : (P : Document → Type 0) (m : List ℕ) (ds : List Document) (d : Document) → AllByRecursion P ds → find m ds ≡ Some d → P d
all_found P m [] d h found = absurd (cc)
all_found P m (x ∷ xs) d h found = by (bytes_eq m x.name) found (all_found P m xs d h.1)
  where
    by : (b : Bool) → cond b (Some x) (find m xs) ≡ Some d → (find m xs ≡ Some d → P d) → P d
    by true is rest = let same : x ≡ d = cc in subst P same h.0
    by false is rest = rest is

all_without : (P : Document → Type 0) (m : List ℕ) (ds : List Document) → AllByRecursion P ds → AllByRecursion P (without m ds)
all_without P m [] h = tt
all_without P m (x ∷ xs) h =
    elim (bytes_eq m x.name) as (λ b. AllByRecursion P (cond b xs (x ∷ without m xs))) [
      | true ↦ h.1
      | false ↦ (h.0, all_without P m xs h.1)
    ]

-- ---- a new document at the end

find-append : (n : List ℕ) (xs ys : List Document) → find n xs ≡ None → find n (xs ++ ys) ≡ find n ys
find-append n [] ys h = refl
find-append n (x ∷ xs) ys h =
    let both = none_at (bytes_eq n x.name) x (find n xs) h in
    ap (λ b. cond b (Some x) (find n (xs ++ ys))) both.0 ∙ find-append n xs ys both.1

distinct_push : (d : Document) (ds : List Document) → AreDistinct ds → find d.name ds ≡ None → AreDistinct (ds ++ d ∷ [])
distinct_push d [] h e = (refl, tt)
distinct_push d (x ∷ xs) h e =
    let both = none_at (bytes_eq d.name x.name) x (find d.name xs) e in
    let away : bytes_eq x.name d.name ≡ false = nat_list_eq_equiv.symm x.name d.name ∙ both.0 in
    (find-append x.name xs (d ∷ []) h.0 ∙ ap (λ b. cond b (Some d) None) away, distinct_push d xs h.1 both.1)

pub good_push : (s : State) (d : Document) → Good s → find d.name s.documents ≡ None → IsStorable d → IsFaultless s.profile d.schema → length s.documents < most_documents s.profile → d.revision ≤ s.seq
    → Good (record s { documents = s.documents ++ d ∷ [] })
good_push s d g new storable offered few low = record {
  revised = all_push (λ x. x.revision ≤ s.seq) s.documents d g.revised low;
  distinct = distinct_push d s.documents g.distinct new;
  storable = all_push IsStorable s.documents d g.storable storable;
  offered = all_push (λ x. IsFaultless s.profile x.schema) s.documents d g.offered offered;
  few = omega (arith, length-append s.documents (d ∷ []));
  counted = g.counted;
  marked = g.marked;
  numbered = g.numbered;
}

-- ---- a change in place

-- f leaves the name
abbrev pub KeepsName : (Document → Document) → Type 0
KeepsName f = (d : Document) → (f d).name ≡ d.name

alike : (b : Bool) (x y : Document) (o p : Option Document) → is_some o ≡ is_some p → is_some (cond b (Some x) o) ≡ is_some (cond b (Some y) p)
alike true x y o p e = refl
alike false x y o p e = e

-- so each name is found that was
pub found_changed : (f : Document → Document) (n m : List ℕ) (ds : List Document) → KeepsName f → is_some (find n (changed f m ds)) ≡ is_some (find n ds)
found_changed f n m [] keeps = refl
found_changed f n m (x ∷ xs) keeps =
    elim (bytes_eq m x.name) as (λ b. is_some (find n (cond b (f x ∷ xs) (x ∷ changed f m xs))) ≡ is_some (find n (x ∷ xs))) [
      | true ↦ ap (λ (k : List ℕ). is_some (cond (bytes_eq n k) (Some (f x)) (find n xs))) (keeps x) ∙ alike (bytes_eq n x.name) (f x) x (find n xs) (find n xs) refl
      | false ↦ alike (bytes_eq n x.name) x x (find n (changed f m xs)) (find n xs) (found_changed f n m xs keeps)
    ]

distinct_changed : (f : Document → Document) (m : List ℕ) (ds : List Document) → KeepsName f → AreDistinct ds → AreDistinct (changed f m ds)
distinct_changed f m [] keeps h = tt
distinct_changed f m (x ∷ xs) keeps h =
    elim (bytes_eq m x.name) as (λ b. AreDistinct (cond b (f x ∷ xs) (x ∷ changed f m xs))) [
      | true ↦ (ap (λ (k : List ℕ). find k xs) (keeps x) ∙ h.0, h.1)
      | false ↦ (none_found (find x.name (changed f m xs)) (found_changed f x.name m xs keeps ∙ ap is_some h.0), distinct_changed f m xs keeps h.1)
    ]

length-changed : (f : Document → Document) (m : List ℕ) (ds : List Document) → length (changed f m ds) ≡ length ds
length-changed f m [] = refl
length-changed f m (x ∷ xs) =
    elim (bytes_eq m x.name) as (λ b. length (cond b (f x ∷ xs) (x ∷ changed f m xs)) ≡ length (x ∷ xs)) [
      | true ↦ refl
      | false ↦ ap suc (length-changed f m xs)
    ]

pub good_changed : (s : State) (f : Document → Document) (m : List ℕ) → KeepsName f → ((d : Document) → (f d).revision ≤ s.seq) → Good s → ((d : Document) → find m s.documents ≡ Some d → IsStorable d → IsStorable (f d))
    → ((d : Document) → find m s.documents ≡ Some d → IsFaultless s.profile d.schema → IsFaultless s.profile (f d).schema)
    → Good (record s { documents = changed f m s.documents })
good_changed s f m keeps low g new offered =
    let few = g.few in
    record {
      revised = all_changed (λ x. x.revision ≤ s.seq) f m s.documents g.revised (λ d found was. low d);
      distinct = distinct_changed f m s.documents keeps g.distinct;
      storable = all_changed IsStorable f m s.documents g.storable new;
      offered = all_changed (λ x. IsFaultless s.profile x.schema) f m s.documents g.offered offered;
      few = omega (arith, few, length-changed f m s.documents);
      counted = g.counted;
      marked = g.marked;
      numbered = g.numbered;
    }

-- ---- a document goes

find_without : (n m : List ℕ) (ds : List Document) → find n ds ≡ None → find n (without m ds) ≡ None
find_without n m [] h = refl
find_without n m (x ∷ xs) h =
    let both = none_at (bytes_eq n x.name) x (find n xs) h in
    elim (bytes_eq m x.name) as (λ b. find n (cond b xs (x ∷ without m xs)) ≡ None) [
      | true ↦ both.1
      | false ↦ ap (λ b. cond b (Some x) (find n (without m xs))) both.0 ∙ find_without n m xs both.1
    ]

distinct_without : (m : List ℕ) (ds : List Document) → AreDistinct ds → AreDistinct (without m ds)
distinct_without m [] h = tt
distinct_without m (x ∷ xs) h =
    elim (bytes_eq m x.name) as (λ b. AreDistinct (cond b xs (x ∷ without m xs))) [
      | true ↦ h.1
      | false ↦ (find_without x.name m xs h.0, distinct_without m xs h.1)
    ]

few_without : (m : List ℕ) (ds : List Document) → length (without m ds) ≤ length ds
few_without m [] = omega arith
few_without m (x ∷ xs) = by (bytes_eq m x.name) (few_without m xs)
  where
    by : (b : Bool) → length (without m xs) ≤ length xs → length (cond b xs (x ∷ without m xs)) ≤ length (x ∷ xs)
    by true h = omega arith
    by false h = omega arith

pub good_without : (s : State) (m : List ℕ) → Good s → Good (record s { documents = without m s.documents })
good_without s m g =
    let few = g.few in
    record {
      revised = all_without (λ x. x.revision ≤ s.seq) m s.documents g.revised;
      distinct = distinct_without m s.documents g.distinct;
      storable = all_without IsStorable m s.documents g.storable;
      offered = all_without (λ x. IsFaultless s.profile x.schema) m s.documents g.offered;
      few = omega (arith, few, few_without m s.documents);
      counted = g.counted;
      marked = g.marked;
      numbered = g.numbered;
    }

-- ---- seq

revised_more : (n : ℕ) (ds : List Document) → AreRevised n ds → AreRevised (n + 1) ds
revised_more n [] are = tt
revised_more n (x ∷ xs) are = let low = are.0 in (omega (arith, low), revised_more n xs are.1)

numbered_more : (n : ℕ) (ms : List Mark) → AreNumbered n ms → AreNumbered (n + 1) ms
numbered_more n [] are = tt
numbered_more n (m ∷ ms) are = let low = are.0 in (omega (arith, low), numbered_more n ms are.1)

-- one change more is counted
pub good_counted : (s : State) → Good s → s.seq < LAST_SEQ → Good (record s { seq = s.seq + 1 })
good_counted s g rises = record { revised = revised_more s.seq s.documents g.revised; distinct = g.distinct; storable = g.storable; offered = g.offered; few = g.few; counted = omega arith; marked = g.marked; numbered = numbered_more s.seq s.marks g.numbered }
