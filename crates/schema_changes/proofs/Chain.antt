-- Where a document became another at one location after another, what holds again along each of them makes the whole pass.
use Rattle.std.proofs.Common.{◌≡◌, ℕ, zero, suc, ◌+◌, ◌<◌, ◌≤◌, ◌⊎◌, inl, inr, ⊎_elim, List, [], ◌∷◌, Bool, length, Option, Some, None, refl, sym, ap, subst, ◌∙◌, arith}
use Rattle.doc_tree.specs.Doc.{Doc, Place, child}
use Rattle.schema_graph.specs.Walks.{In, first, later}
use Rattle.schema_graph.proofs.Among.{none_in}
use Rattle.schema_levels.specs.Bits.{size}
use Rattle.schema_levels.specs.Nodes.{AreOrdered}
use Rattle.schema_levels.specs.Table.{IsTable}
use Rattle.schema_levels.specs.declared.node.Node.{Node}
use Rattle.schema_changes.specs.Agree.{AgreeOff, AgreeOffEach, AtChild}
use Rattle.schema_changes.specs.Again.{AllPass, HoldsAlong, PassBelow, asked_at, closed}
use Rattle.schema_changes.proofs.Children.{same_place}
use Rattle.schema_changes.proofs.Location.{below_len, from_below, from_closed, leads, to_below, to_closed}
use Rattle.schema_changes.proofs.Marking.{close_len}
use Rattle.schema_changes.proofs.Values.{all_hold, pass_below}

-- ---- what is among locations

pub in_parts : {A : Type 0} (x y : A) (ys : List A) → In x (y ∷ ys) → (x ≡ y) ⊎ In x ys
in_parts x y ys first = inl refl
in_parts x y ys (later i) = inr i

in_first : {A : Type 0} (x y : A) (ys : List A) → x ≡ y → In x (y ∷ ys)
in_first x y ys e = subst (λ z. In x (z ∷ ys)) e first

root_or_not : (pss : List (List Place)) → In [] pss ⊎ (In [] pss → ⊥)
root_or_not [] = inr (λ i. none_in [] i)
root_or_not ([] ∷ pss) = inl first
root_or_not ((p ∷ ps) ∷ pss) = ⊎_elim
    (λ i. inl (later i))
    (λ apart. inr (λ i. ⊎_elim (λ (e : [] ≡ p ∷ ps). absurd cc) apart (in_parts [] (p ∷ ps) pss i)))
    (root_or_not pss)

-- the lengths of all locations together
total : List (List Place) → ℕ
total [] = 0
total (ps ∷ pss) = length ps + total pss

within_total : (pss : List (List Place)) (ps : List Place) → In ps pss → length ps ≤ total pss
unfolding total
within_total [] ps i = none_in ps i
within_total (qs ∷ pss) ps i = ⊎_elim
    (λ (e : ps ≡ qs). let len = ap length e in omega (arith, len))
    (λ j. let le = within_total pss ps j in omega (arith, le))
    (in_parts ps qs pss i)

-- ---- a child before and after

-- it became the other by what the locations through its place change below it
record Became (q : Place) (pss : List (List Place)) (c d : Doc) : Type 0 where
  pub tails : List (List Place)
  pub from : (ps : List Place) → In ps tails → In (q ∷ ps) pss
  pub agree : AgreeOffEach tails c d

-- a location ends at the child, or it was there before
WasThere : Place → List (List Place) → Doc → Doc → Type 0
WasThere q pss old d = In (q ∷ []) pss ⊎ ((c : Doc) × (child q old ≡ Some c) × Became q pss c d)

-- what one location leaves of a child: all, or nothing, or it changed below
Linked : List Place → Doc → Place → Doc → Type 0
Linked ps old q c = (child q old ≡ Some c) ⊎ ((ps ≡ q ∷ []) ⊎ ((ps' : List Place) × (b : Doc) × (ps ≡ q ∷ ps') × (child q old ≡ Some b) × AgreeOff ps' b c))

linked_at : (q p : Place) (ps : List Place) (old : Doc) (o : Option Doc) (c : Doc) → p ≡ q → child q old ≡ o → AtChild ps (AgreeOff ps) o (Some c) → Linked (p ∷ ps) old q c
unfolding Linked
linked_at q p ps old None c e at agree = inr (inl (ap (λ x. x ∷ ps) e ∙ ap (λ l. q ∷ l) agree))
linked_at q p ps old (Some b) c e at agree = inr (inr (ps, b, ap (λ x. x ∷ ps) e, at, agree))

linked : (ps : List Place) (old mid : Doc) (q : Place) (c : Doc) → ([] ≡ ps → ⊥) → AgreeOff ps old mid → child q mid ≡ Some c → Linked ps old q c
unfolding Linked
linked [] old mid q c not agree at = absurd (not refl)
linked (p ∷ ps) old mid q c not (inl e) at = inl (ap (child q) e ∙ at)
linked (p ∷ ps) old mid q c not (inr agree) at = ⊎_elim
    (λ (e : p ≡ q).
    let here : AtChild ps (AgreeOff ps) (child q old) (child q mid) = subst (λ x. AtChild ps (AgreeOff ps) (child x old) (child x mid)) e agree.2 in
    linked_at q p ps old (child q old) c e refl (subst (λ o. AtChild ps (AgreeOff ps) (child q old) o) at here))
    (λ ne. inl (agree.1 q (λ e. ne (sym e)) ∙ at))
    (same_place p q)

one_more : (ps : List Place) (pss : List (List Place)) (old : Doc) (q : Place) (c d : Doc) → Linked ps old q c → Became q pss c d → WasThere q (ps ∷ pss) old d
unfolding Linked WasThere
one_more ps pss old q c d (inl at) b = inr (c, at, record { tails = b.tails; from = λ ts i. later (b.from ts i); agree = b.agree })
one_more ps pss old q c d (inr (inl e)) b = inl (in_first (q ∷ []) ps pss (sym e))
one_more ps pss old q c d (inr (inr h)) b = inr (
  h.1,
  h.3,
  record {
    tails = h.0 ∷ b.tails;
    from = λ ts i. ⊎_elim (λ (e : ts ≡ h.0). in_first (q ∷ ts) ps pss (ap (λ l. q ∷ l) e ∙ sym h.2)) (λ j. later (b.from ts j)) (in_parts ts h.0 b.tails i);
    agree = (c, h.4, b.agree);
  },
)

was_there : (pss : List (List Place)) (old new : Doc) (q : Place) (d : Doc) → (In [] pss → ⊥) → AgreeOffEach pss old new → child q new ≡ Some d → WasThere q pss old d
unfolding WasThere
was_there [] old new q d apart agree at = inr (d, ap (child q) agree ∙ at, record { tails = []; from = λ ps i. none_in ps i; agree = refl })
was_there (ps ∷ pss) old new q d apart agree at = ⊎_elim
    (λ i. inl (later i))
    (λ (h : (c : Doc) × (child q agree.0 ≡ Some c) × Became q pss c d). one_more ps pss old q h.0 d (linked ps old agree.0 q h.0 (λ e. apart (in_first [] ps pss e)) agree.1 h.1) h.2)
    (was_there pss agree.0 new q d (λ i. apart (later i)) agree.2 at)

-- ---- the whole

module _ (nodes : List Node) (order : AreOrdered nodes) (known : ℕ → Doc → Bool) (table : IsTable nodes known) where
  abbrev Within : ℕ → Type 0
  Within n = (pss : List (List Place)) (asked : List ℕ) (old new : Doc) → length nodes ≤ size asked → ((ps : List Place) → In ps pss → length ps < n) → AllPass known asked old → AgreeOffEach pss old new
      → ((ps : List Place) → In ps pss → HoldsAlong known nodes asked ps new) → AllPass known asked new

  -- a child, where shorter locations are known to do
  below : (n : ℕ) → Within n → (pss : List (List Place)) (asked : List ℕ) (old new : Doc) → length nodes ≤ size asked → ((ps : List Place) → In ps pss → length ps < suc n) → AllPass known asked old
      → ((ps : List Place) → In ps pss → HoldsAlong known nodes asked ps new) → (q : Place) (d : Doc) → child q new ≡ Some d → WasThere q pss old d → PassBelow known nodes (closed nodes asked) q d
  unfolding WasThere
  below n shorter pss asked old new room short all holds q d at (inl i) =
      let here = (holds (q ∷ []) i).1 d at in
      let room' : length nodes ≤ size (closed nodes asked) = (let len = close_len nodes (length nodes) asked in omega (arith, len, room)) in
      record { value = from_below nodes order known (closed nodes asked) room' q d here.1; named = here.0 }
  below n shorter pss asked old new room short all holds q d at (inr h) =
      let room' : length nodes ≤ size (closed nodes asked) = (let len = close_len nodes (length nodes) asked in omega (arith, len, room)) in
      let room'' : length nodes ≤ size (asked_at nodes (closed nodes asked) q) = (let len = below_len nodes (closed nodes asked) q in omega (arith, len, room')) in
      let was = pass_below nodes known table (closed nodes asked) old q h.0 (to_closed nodes order known table asked (closed nodes asked) room refl old all) h.1 in
      let now = shorter h.2.tails (asked_at nodes (closed nodes asked) q) h.0 d room'' (λ ts i. let lt = short (q ∷ ts) (h.2.from ts i) in omega (arith, lt)) (to_below nodes order known (closed nodes asked) room' q h.0 was.value) h.2.agree
      (λ ts i. ((holds (q ∷ ts) (h.2.from ts i)).1 d at).1) in
      record { value = from_below nodes order known (closed nodes asked) room' q d now; named = was.named }

  step : (n : ℕ) → Within n → (pss : List (List Place)) (asked : List ℕ) (old new : Doc) → length nodes ≤ size asked → ((ps : List Place) → In ps pss → length ps < suc n) → AllPass known asked old → AgreeOffEach pss old new
      → ((ps : List Place) → In ps pss → HoldsAlong known nodes asked ps new) → (In [] pss ⊎ (In [] pss → ⊥)) → AllPass known asked new
  step n shorter pss asked old new room short all agree holds (inl i) = holds [] i
  step n shorter [] asked old new room short all agree holds (inr apart) = subst (AllPass known asked) agree all
  step n shorter ([] ∷ pss) asked old new room short all agree holds (inr apart) = absurd (apart first)
  step n shorter ((p ∷ ps) ∷ pss) asked old new room short all agree holds (inr apart) =
      from_closed nodes order known table asked (closed nodes asked) room refl new
      (all_hold nodes known table order (closed nodes asked) new (leads nodes order known table asked (closed nodes asked) room refl) (holds (p ∷ ps) first).0
      (λ q d at. below n shorter ((p ∷ ps) ∷ pss) asked old new room short all holds q d at (was_there ((p ∷ ps) ∷ pss) old new q d apart agree at)))

  within : (n : ℕ) → Within n
  within zero [] asked old new room short all agree holds = subst (AllPass known asked) agree all
  within zero (ps ∷ pss) asked old new room short all agree holds = absurd (let lt = short ps first in omega (arith, lt))
  within (suc n) pss asked old new room short all agree holds = step n (within n) pss asked old new room short all agree holds (root_or_not pss)

  -- what the nodes of a set passed they pass after the changes
  pub chain_passes : (pss : List (List Place)) (asked : List ℕ) (old new : Doc) → length nodes ≤ size asked → AllPass known asked old → AgreeOffEach pss old new → ((ps : List Place) → In ps pss → HoldsAlong known nodes asked ps new) → AllPass known asked new
  chain_passes pss asked old new room all agree holds = within (suc (total pss)) pss asked old new room (λ ps i. let le = within_total pss ps i in omega (arith, le)) all agree holds
