-- Places keep their locations while a trail grows.
use Rattle.std.proofs.Common.{◌≡◌, ◌≤◌, ◌<◌, ◌++◌, ◌+◌, ◌∙◌, ℕ, suc, List, [], ◌∷◌, take, drop, drop-cons, length, length-append, append_assoc, append-nil, get_or, sym, ap, ap₂, subst, refl, arith, Result, Ok, Err, IfOk}
use Rattle.std.proofs.lemmas.List.{get_or_append_left, get_or_past, length-take-le, take-append-drop, map-append}
use Rattle.std.proofs.Math.Seq.{get_or-append_seam}
use Rattle.doc_tree.specs.Doc.{Place}
use Rattle.doc_tree.specs.TreeView.{view}
use Rattle.path_select.specs.Nodes.{Located}
use Rattle.path_select.specs.Paths.{marked, locations, location, spot_of, all_spots, stand, GoesOn, seen}
use Rattle.path_grammar.specs.Lent.{lent_place}
use Rattle.path_select.specs.declared.paths.Mark.{Mark}
use Rattle.path_select.specs.declared.paths.Spot.{Spot}
use Rattle.path_select.specs.declared.paths.Walk.{Walk}

pub locations-append : (ps : List (List Place)) (ms more : List Mark) → locations ps (ms ++ more) ≡ locations (locations ps ms) more
locations-append ps [] more = refl
locations-append ps (m ∷ ms) more = locations-append (ps ++ marked ps m ∷ []) ms more

pub length-locations : (ps : List (List Place)) (ms : List Mark) → length (locations ps ms) ≡ length ps + length ms
length-locations ps [] = omega (arith)
length-locations ps (m ∷ ms) = let h = length-locations (ps ++ marked ps m ∷ []) ms in let k = length-append ps (marked ps m ∷ []) in omega (arith, h, k)

locations-keep : (ps : List (List Place)) (ms : List Mark) (n : ℕ) → n < length ps → get_or (locations ps ms) n [] ≡ get_or ps n []
locations-keep ps [] n h = refl
locations-keep ps (m ∷ ms) n h =
    let k = length-append ps (marked ps m ∷ []) in
    locations-keep (ps ++ marked ps m ∷ []) ms n (omega (arith, h, k)) ∙ get_or_append_left ps (marked ps m ∷ []) [] n h

pub location-grows : (ms more : List Mark) (n : ℕ) → n ≤ length ms → location (ms ++ more) n ≡ location ms n
location-grows ms more n h =
    let k = length-locations ([] ∷ []) ms in
    ap (λ ps. get_or ps n []) (locations-append ([] ∷ []) ms more) ∙ locations-keep (locations ([] ∷ []) ms) more n (omega (arith, h, k))

pub location-new : (ms : List Mark) (m : Mark) → location (ms ++ m ∷ []) (suc (length ms)) ≡ location ms m.above ++ lent_place m.step ∷ []
location-new ms m =
    let ps = locations ([] ∷ []) ms in
    let h = length-locations ([] ∷ []) ms in
    let n : suc (length ms) ≡ length ps = omega (arith, h) in
    ap (λ qs. get_or qs (suc (length ms)) []) (locations-append ([] ∷ []) ms (m ∷ [])) ∙ ap (λ k. get_or (ps ++ marked ps m ∷ []) k []) n ∙ get_or-append_seam ps (marked ps m) [] []

pub location-root : (ms : List Mark) → location ms 0 ≡ []
location-root ms = locations-keep ([] ∷ []) ms 0 (omega arith)

-- the location of a place by that of the one above it, which is known by the marks before
pub location-marked : (ms : List Mark) (m : Mark) (n : ℕ) → n < length ms → drop n ms ≡ m ∷ drop (suc n) ms → location ms (suc n) ≡ location (take n ms) m.above ++ lent_place m.step ∷ []
location-marked ms m n h next =
    let front = take n ms in
    let k : length front ≡ n = length-take-le n ms (omega (arith, h)) in
    let whole : front ++ (m ∷ drop (suc n) ms) ≡ ms = ap (λ l. front ++ l) (sym next) ∙ take-append-drop n ms in
    let split : (front ++ m ∷ []) ++ drop (suc n) ms ≡ ms = append_assoc front (m ∷ []) (drop (suc n) ms) ∙ whole in
    let l = length-append front (m ∷ []) in
    ap (λ l. location l (suc n)) (sym split) ∙ location-grows (front ++ m ∷ []) (drop (suc n) ms) (suc n) (omega (arith, k, l)) ∙ ap (λ j. location (front ++ m ∷ []) (suc j)) (sym k) ∙ location-new front m

pub location-none : (ms : List Mark) (n : ℕ) → length ms < n → location ms n ≡ []
location-none ms n h = let k = length-locations ([] ∷ []) ms in get_or_past (locations ([] ∷ []) ms) n [] (omega (arith, h, k))

pub all_spots-grow : (ms more : List Mark) (ss : List Spot) → stand (length ms) ss → all_spots (ms ++ more) ss ≡ all_spots ms ss
all_spots-grow ms more [] h = refl
all_spots-grow ms more (s ∷ ss) h = ap₂ (λ (p : List Place) (us : List Located). (p, view s.value.now) ∷ us) (location-grows ms more s.place h.0) (all_spots-grow ms more ss h.1)

pub stand-more : (m n : ℕ) (ss : List Spot) → m ≤ n → stand m ss → stand n ss
stand-more m n [] le h = tt
stand-more m n (s ∷ ss) le h = (omega (arith, le, h.0), stand-more m n ss le h.1)

pub stand-append : (n : ℕ) (ss more : List Spot) → stand n ss → stand n more → stand n (ss ++ more)
stand-append n [] more h k = k
stand-append n (s ∷ ss) more h k = (h.0, stand-append n ss more h.1 k)

-- the part of a list from an index on
pub drop_next : {A : Type 0} (l : List A) (i : ℕ) (x : A) → i < length l → x ≡ get_or l i x → drop i l ≡ x ∷ drop (i + 1) l
drop_next l i x h is =
    let k : suc i ≡ i + 1 = omega arith in
    drop-cons l i x h ∙ ap₂ (λ y n. y ∷ drop n l) (sym is) k

-- ---- walks that go on

pub goes_here : (w : Walk) → stand (length w.trail.items) w.listed.items → GoesOn w w
goes_here w h = ([], [], sym (append-nil w.trail.items), sym (append-nil w.listed.items), h)

pub goes_on_on : (w x y : Walk) → GoesOn w x → GoesOn x y → GoesOn w y
goes_on_on w x y a b = (
  a.0 ++ b.0,
  a.1 ++ b.1,
  b.2 ∙ ap (λ l. l ++ b.0) a.2 ∙ append_assoc w.trail.items a.0 b.0,
  b.3 ∙ ap (λ l. l ++ b.1) a.3 ∙ append_assoc w.listed.items a.1 b.1,
  b.4,
)

pub goes_location : (w x : Walk) → GoesOn w x → (n : ℕ) → n ≤ length w.trail.items → location x.trail.items n ≡ location w.trail.items n
goes_location w x a n h = ap (λ ms. location ms n) a.2 ∙ location-grows w.trail.items a.0 n h

pub goes_place : (w x : Walk) → GoesOn w x → (n : ℕ) → n ≤ length w.trail.items → n ≤ length x.trail.items
goes_place w x a n h = let k = ap length a.2 in let l = length-append w.trail.items a.0 in omega (arith, h, k, l)

pub goes_stand : (w x : Walk) → GoesOn w x → (ss : List Spot) → stand (length w.trail.items) ss → stand (length x.trail.items) ss
goes_stand w x a ss h = stand-more (length w.trail.items) (length x.trail.items) ss (goes_place w x a (length w.trail.items) (omega arith)) h

-- what a walk listed before, seen now
pub goes_seen : (w x : Walk) → GoesOn w x → (ss : List Spot) → stand (length w.trail.items) ss → all_spots x.trail.items ss ≡ all_spots w.trail.items ss
goes_seen w x a ss h = ap (λ ms. all_spots ms ss) a.2 ∙ all_spots-grow w.trail.items a.0 ss h

-- a mark and a node there are added
module _ (w x : Walk) (m : Mark) (s : Spot) (marks : x.trail.items ≡ w.trail.items ++ m ∷ []) (spots : x.listed.items ≡ w.listed.items ++ s ∷ []) (place : s.place ≡ length x.trail.items) (h : stand (length w.trail.items) w.listed.items) where
  count : length x.trail.items ≡ length w.trail.items + 1
  count = ap length marks ∙ length-append w.trail.items (m ∷ [])

  pub added_goes : GoesOn w x
  added_goes =
      let c = count in
      (m ∷ [], s ∷ [], marks, spots, subst (λ l. stand (length x.trail.items) l) (sym spots) (stand-append (length x.trail.items) w.listed.items (s ∷ []) (stand-more _ _ w.listed.items (omega (arith, c)) h) (omega (arith, place), tt)))

  there : location x.trail.items s.place ≡ location w.trail.items m.above ++ lent_place m.step ∷ []
  there =
      let c = count in
      let n : s.place ≡ suc (length w.trail.items) = omega (arith, place, c) in
      ap (λ ms. location ms s.place) marks ∙ ap (location (w.trail.items ++ m ∷ [])) n ∙ location-new w.trail.items m

  pub added_seen : seen x ≡ seen w ++ (location w.trail.items m.above ++ lent_place m.step ∷ [], view s.value.now) ∷ []
  added_seen =
      ap (λ ss. all_spots x.trail.items ss) spots ∙ map-append (spot_of x.trail.items) w.listed.items (s ∷ [])
      ∙ ap₂ (λ (a : List Located) (p : List Place). a ++ (p, view s.value.now) ∷ []) (goes_seen w x added_goes w.listed.items h) there

-- what holds of each value holds of one that was made
pub if_made : {T E : Type 0} {P Q : T → Type 0} (r : Result T E) → ((x : T) → P x → Q x) → IfOk r P → IfOk r Q
if_made (Ok x) f h = f x h
if_made (Err e) f h = h
