-- The set of one number, and what holds of it along each of several locations.
use Rattle.std.proofs.Common.{Global, Vec, ◌≡◌, ℕ, zero, suc, ◌+◌, ◌<◌, ◌≤◌, ◌*◌, ⊎_elim, List, [], ◌∷◌, Bool, true, false, length, map, drop, get_or, replicate, refl, sym, ap, subst, ◌∙◌, arith}
use Rattle.std.specs.Bool.{⊤}
use Rattle.std.proofs.Math.Numerals.{add-one}
use Rattle.std.proofs.Math.Seq.{drop-cons}
use Rattle.std.proofs.lemmas.List.{length-replicate}
use Rattle.doc_tree.specs.Doc.{Doc, Place}
use Rattle.doc_tree.specs.Place.{place_of}
use Rattle.doc_tree.specs.declared.tree.Step.{Step}
use Rattle.schema_graph.specs.Walks.{In}
use Rattle.schema_graph.proofs.Among.{none_in}
use Rattle.schema_graph.proofs.Numbers.{same_or_not}
use Rattle.schema_levels.specs.Bits.{bit, size}
use Rattle.schema_levels.specs.Nodes.{AreOrdered}
use Rattle.schema_levels.specs.Table.{IsTable}
use Rattle.schema_levels.specs.declared.node.Node.{Node}
use Rattle.schema_levels.proofs.Folding.{none_in_clear}
use Rattle.schema_levels.proofs.Marks.{bit_other, bit_same, set_len}
use Rattle.schema_changes.specs.Again.{AllPass, HoldsAlong, HoldsBy, IsPassedAfter, IsPassedAgain, IsPassedShifted, TellsBy, only}
use Rattle.schema_changes.proofs.Chain.{chain_passes, in_parts}
use Rattle.schema_changes.proofs.Shifting.{shifted_passes}

-- ---- several locations, one after another

-- what must hold along each of them does
abbrev pub HoldsEach : (ℕ → Doc → Bool) → List Node → List ℕ → List (List Place) → Doc → Type 0
HoldsEach known nodes asked [] t = ⊤
HoldsEach known nodes asked (ps ∷ pss) t = HoldsAlong known nodes asked ps t × HoldsEach known nodes asked pss t

holds_in : (known : ℕ → Doc → Bool) (nodes : List Node) (asked : List ℕ) (pss : List (List Place)) (t : Doc) → HoldsEach known nodes asked pss t → (ps : List Place) → In ps pss → HoldsAlong known nodes asked ps t
holds_in known nodes asked [] t h ps i = none_in ps i
holds_in known nodes asked (qs ∷ pss) t h ps i = ⊎_elim (λ (e : ps ≡ qs). subst (λ l. HoldsAlong known nodes asked l t) (sym e) h.0) (λ j. holds_in known nodes asked pss t h.1 ps j) (in_parts ps qs pss i)

abbrev pub places_of : List (Vec Step Global) → List (List Place)
places_of vs = map (λ v. map place_of v.items) vs

-- where what is left holds, so do all
abbrev pub LeavesTo : (ℕ → Doc → Bool) → List Node → List ℕ → List (Vec Step Global) → List (Vec Step Global) → Doc → Type 0
LeavesTo known nodes asked left vs t = HoldsEach known nodes asked (places_of left) t → HoldsEach known nodes asked (places_of vs) t

first_left : (i : ℕ) (xs : List (Vec Step Global)) (x : Vec Step Global) → i < length xs → drop i xs ≡ get_or xs i x ∷ drop (i + 1) xs
first_left i xs x lt = rw (add-one, drop-cons xs i x)

pub one_left : (known : ℕ → Doc → Bool) (nodes : List Node) (asked : List ℕ) (i : ℕ) (vs : List (Vec Step Global)) (x : Vec Step Global) (t : Doc) → i < length vs → x ≡ get_or vs i x → HoldsAlong known nodes asked (map place_of x.items) t → LeavesTo known nodes asked (drop i vs) vs t
    → LeavesTo known nodes asked (drop (i + 1) vs) vs t
one_left known nodes asked i vs x t lt is here left rest =
    left (subst (λ l. HoldsEach known nodes asked (places_of l) t) (sym (first_left i vs x lt ∙ ap (λ y. y ∷ drop (i + 1) vs) (sym is))) (here, rest))

none_left : (i : ℕ) (xs : List (Vec Step Global)) → length xs ≤ i → drop i xs ≡ []
none_left zero [] le = refl
none_left (suc i) [] le = refl
none_left zero (x ∷ xs) le = absurd (omega arith)
none_left (suc i) (x ∷ xs) le = none_left i xs (omega arith)

pub all_left : (known : ℕ → Doc → Bool) (nodes : List Node) (asked : List ℕ) (i : ℕ) (vs : List (Vec Step Global)) (t : Doc) → length vs ≤ i → LeavesTo known nodes asked (drop i vs) vs t → HoldsEach known nodes asked (places_of vs) t
all_left known nodes asked i vs t le left = left (subst (λ l. HoldsEach known nodes asked (places_of l) t) (sym (none_left i vs le)) tt)

-- ---- the set

module _ (words n : ℕ) (room : n < 64 * words) where
  only_len : length (only words n) ≡ words
  only_len = set_len (replicate words 0) n true ∙ length-replicate words 0

  is_in : bit (only words n) n ≡ true
  is_in = let len = length-replicate {A = ℕ} words 0 in bit_same (replicate words 0) n true (omega (arith, len, room))

  only_in : (i : ℕ) → bit (only words n) i ≡ true → i ≡ n
  only_in i on = ⊎_elim
      (λ (same : i ≡ n). same)
      (λ ne. absurd (
      let out : bit (replicate words 0) i ≡ false = none_in_clear words (replicate words 0) refl i in
      let same : bit (only words n) i ≡ bit (replicate words 0) i = bit_other (replicate words 0) n i true ne in
      cc))
      (same_or_not i n)

  module _ (known : ℕ → Doc → Bool) where
    all_of : (t : Doc) → known n t ≡ true → AllPass known (only words n) t
    all_of t e i on = subst (λ k. known k t ≡ true) (sym (only_in i on)) e

    -- one walk
    pub told_along : (s : Bool) (nodes : List Node) (asked : List ℕ) (ps : List Place) (t : Doc) (b : Bool) → asked ≡ only words n → (b ≡ true → HoldsBy s known nodes asked ps t) → (AllPass known asked t → b ≡ true) → TellsBy s known nodes words n ps t b
    told_along s nodes asked ps t b is sound complete = record {
      holds = λ e. subst (λ bs. HoldsBy s known nodes bs ps t) is (sound e);
      all = λ e. complete (subst (λ bs. AllPass known bs t) (sym is) (all_of t e));
    }

    by_answer : (t : Doc) (b : Bool) → (b ≡ true → AllPass known (only words n) t) → (known n t ≡ true → b ≡ true) → b ≡ known n t
    by_answer t true sound complete = sym (sound refl n is_in)
    by_answer t false sound complete = by_known (known n t) refl
      where
        by_known : (b : Bool) → known n t ≡ b → false ≡ known n t
        by_known true e = absurd (let wrong = complete e in cc)
        by_known false e = sym e

    -- several
    module _ (nodes : List Node) (order : AreOrdered nodes) (table : IsTable nodes known) (enough : length nodes ≤ 64 * words) where
      pub told_after : (pss : List (List Place)) (t : Doc) (b : Bool) → (b ≡ true → HoldsEach known nodes (only words n) pss t) → (known n t ≡ true → b ≡ true) → IsPassedAfter known n pss t b
      told_after pss t b sound complete old passed agree =
          let within : length nodes ≤ size (only words n) = (let len = only_len in omega (arith, len, enough)) in
          by_answer t b (λ e. chain_passes nodes order known table pss (only words n) old t within (all_of old passed) agree (holds_in known nodes (only words n) pss t (sound e))) complete

      pub told_again : (ps : List Place) (t : Doc) (b : Bool) → TellsBy false known nodes words n ps t b → IsPassedAgain known n ps t b
      told_again ps t b told old passed agree =
          told_after (ps ∷ []) t b (λ e. (told.holds e, tt)) told.all
          old passed (t, agree, refl)

      pub told_shifted : (ps : List Place) (t : Doc) (b : Bool) → TellsBy true known nodes words n ps t b → IsPassedShifted known n ps t b
      told_shifted ps t b told old passed agree =
          let within : length nodes ≤ size (only words n) = (let len = only_len in omega (arith, len, enough)) in
          by_answer t b (λ e. shifted_passes nodes order known table ps (only words n) old t within (all_of old passed) agree (told.holds e)) told.all
