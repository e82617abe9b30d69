-- The commits in the slots that were read.
use Rattle.std.proofs.Common.{◌≡◌, ◌≢◌, ◌⊎◌, ◌↔◌, inl, inr, ℕ, ◌+◌, ◌*◌, ◌/◌, ◌%◌, ◌≤◌, ◌<◌, List, [], ◌∷◌, ◌++◌, length, get_or, take, drop, Option, Some, None, MatchOption, ap, refl, sym, subst, ◌∙◌, arith}
use Rattle.std.proofs.lemmas.Bool.{cases_lt}
use Rattle.std.proofs.lemmas.List.{get_or-take, get_or-drop}
use Rattle.commit_slots.proofs.Said.{one_length, one_slot}
use Rattle.commit_slots.specs.Slots.{IsHeld, IsSlotOf, count_of, slot_sector}
use Rattle.commit_slots.specs.declared.slot.Slot.{Slot}
use Rattle.sector_device.specs.Disk.{Image}
use Rattle.store_parts.specs.Copies.{AreToldFrom, HasNoneAt, IsBestOf, IsCommitAt, IsFoundAt, IsLast, IsOldAt, IsTold, LacksTwin}
use Rattle.store_parts.specs.declared.findings.Held.{Held}
use Rattle.store_parts.specs.declared.findings.SlotCopy.{SlotCopy}

module _ (sectors : ℕ) (slots : Image) where
  -- a slot holds one commit
  pub one_commit : (place : ℕ) (a b : Slot) (s t : List ℕ) → IsCommitAt sectors slots place a s → IsCommitAt sectors slots place b t → a ≡ b
  one_commit place a b s t first second = one_slot sectors a b s t first.of second.of (sym (first.held 0 (omega arith)) ∙ second.held 0 (omega arith))

  -- so if two hold what is held in a slot, each holds the other's
  held_too : (place at : ℕ) (a b : Slot) (s t : List ℕ) → IsCommitAt sectors slots place a s → IsCommitAt sectors slots place b t → IsHeld a s at slots → IsHeld b t at slots
  held_too place at a b s t first second held = λ k lt.
      let long : length s ≡ length t = one_length sectors a b s t first.of second.of (one_commit place a b s t first second) in
      let low : k < count_of (length s) = subst (λ (n : ℕ). k < count_of n) (sym long) lt in
      held k low ∙ sym (first.held k low) ∙ second.held k lt

  -- one slot more
  last_more : (places place : ℕ) (slot : Slot) (tail : List ℕ) → IsLast sectors slots places place slot tail
      → ((other : Slot) (rest : List ℕ) → IsCommitAt sectors slots places other rest → (other.number < slot.number) ⊎ ((other.number ≡ slot.number) × (place ≤ places)))
      → IsLast sectors slots (places + 1) place slot tail
  last_more places place slot tail last new = record {
    commit = last.commit;
    within = omega (arith, last.within);
    highest = λ at other rest lt is. elim (cases_lt at places) [
      | inl low ↦ last.highest at other rest low is
      | inr high ↦
          let same : at ≡ places = omega (arith, lt, high) in
          subst (λ (n : ℕ). (other.number < slot.number) ⊎ ((other.number ≡ slot.number) × (place ≤ n))) (sym same) (new other rest (subst (λ (n : ℕ). IsCommitAt sectors slots n other rest) same is))
    ];
  }

  pub best_none : (places : ℕ) (one : Option Held) → IsBestOf sectors slots places one → IsFoundAt sectors slots places None → IsBestOf sectors slots (places + 1) one
  best_none places None best none = λ place lt slot tail is. elim (cases_lt place places) [
    | inl low ↦ best place low slot tail is
    | inr high ↦ let same : place ≡ places = omega (arith, lt, high) in none slot tail (subst (λ (n : ℕ). IsCommitAt sectors slots n slot tail) same is)
  ]
  best_none places (Some h) best none = (best.0, last_more places h.place h.slot h.tail.items best.1 (λ other rest is. absurd (none other rest is)))

  -- what is held in the slot of a commit has its number
  same_number : (place : ℕ) (h : Held) → IsFoundAt sectors slots place (Some h) → (other : Slot) (rest : List ℕ) → IsCommitAt sectors slots place other rest → other.number ≡ h.slot.number
  same_number place h found other rest is =
      ap (λ (s : Slot). s.number) (one_commit place other h.slot rest h.tail.items is (subst (λ (n : ℕ). IsCommitAt sectors slots n h.slot h.tail.items) found.1 found.0.commit))

  pub best_first : (places : ℕ) (c : Held) → IsBestOf sectors slots places None → IsFoundAt sectors slots places (Some c) → IsBestOf sectors slots (places + 1) (Some c)
  best_first places c none found = (
    found.0,
    record {
      commit = found.0.commit;
      within = omega (arith, found.1);
      highest = λ at other rest lt is. elim (cases_lt at places) [
        | inl low ↦ absurd (none at low other rest is)
        | inr high ↦
            let same : at ≡ places = omega (arith, lt, high) in
            inr (same_number places c found other rest (subst (λ (n : ℕ). IsCommitAt sectors slots n other rest) same is), omega (arith, high, found.1))
      ];
    },
  )

  pub best_other : (places : ℕ) (b c : Held) → b.slot.number < c.slot.number → IsBestOf sectors slots places (Some b) → IsFoundAt sectors slots places (Some c) → IsBestOf sectors slots (places + 1) (Some c)
  best_other places b c more best found = (
    found.0,
    record {
      commit = found.0.commit;
      within = omega (arith, found.1);
      highest = λ at other rest lt is. elim (cases_lt at places) [
        | inl low ↦ elim (best.1.highest at other rest low is) [
          | inl less ↦ inl (omega (arith, less, more))
          | inr same ↦ inl (omega (arith, same.0, more))
        ]
        | inr high ↦
            let same : at ≡ places = omega (arith, lt, high) in
            inr (same_number places c found other rest (subst (λ (n : ℕ). IsCommitAt sectors slots n other rest) same is), omega (arith, high, found.1))
      ];
    },
  )

  pub best_stays : (places : ℕ) (b c : Held) → c.slot.number ≤ b.slot.number → IsBestOf sectors slots places (Some b) → IsFoundAt sectors slots places (Some c) → IsBestOf sectors slots (places + 1) (Some b)
  best_stays places b c less best found = (
    best.0,
    last_more places b.place b.slot b.tail.items best.1 (λ other rest is.
        let same = same_number places c found other rest is in
        elim (cases_lt c.slot.number b.slot.number) [
          | inl lower ↦ inl (omega (arith, same, lower))
          | inr equal ↦ inr (omega (arith, same, equal, less), omega (arith, best.1.within))
        ]),
  )

  -- where a slot holds a commit, it is old if it is in the pair of the last one, and doesn't hold that
  pub old_of : (place : ℕ) (best : Option Held) (other : Slot) (rest : List ℕ) → IsBestOf sectors slots 4 best → IsCommitAt sectors slots place other rest → LacksTwin slots place best → IsOldAt sectors slots place
  old_of place None other rest best is lacks = absurd lacks
  old_of place (Some h) other rest best is lacks =
      record { other = other; rest = rest; commit = is; at = h.place; slot = h.slot; tail = h.tail.items; last = best.1; pair = lacks.0; lacks = lacks.1 }

  pub lacks_of : (place : ℕ) (best : Option Held) → IsBestOf sectors slots 4 best → IsOldAt sectors slots place → LacksTwin slots place best
  lacks_of place None best old = best old.at old.last.within old.slot old.tail old.last.commit
  lacks_of place (Some h) best old =
      elim (best.1.highest old.at old.slot old.tail old.last.within old.last.commit) [
        | inl less ↦ elim (old.last.highest h.place h.slot h.tail.items best.1.within best.1.commit) [
          | inl more ↦ absurd (omega (arith, less, more))
          | inr same ↦ absurd (omega (arith, less, same.0))
        ]
        | inr one ↦ elim (old.last.highest h.place h.slot h.tail.items best.1.within best.1.commit) [
          | inl more ↦ absurd (omega (arith, one.0, more))
          | inr same ↦
              let there : old.at ≡ h.place = omega (arith, one.1, same.1) in
              let commit = subst (λ (n : ℕ). IsCommitAt sectors slots n old.slot old.tail) there old.last.commit in
              (omega (arith, old.pair, one.0, ap (λ (n : ℕ). n % 2) one.0), λ held. old.lacks (held_too h.place (32 * place) h.slot old.slot h.tail.items old.tail best.1.commit commit held))
        ]
      ]

  -- one more
  pub told_push : (place : ℕ) (copies : List SlotCopy) (copy : SlotCopy) → AreToldFrom sectors slots place copies → IsTold sectors slots (place + length copies) copy → AreToldFrom sectors slots place (copies ++ copy ∷ [])
  told_push place [] copy told is = (subst (λ (n : ℕ). IsTold sectors slots n copy) (omega arith) is, tt)
  told_push place (c ∷ cs) copy told is = (told.0, told_push (place + 1) cs copy told.1 (subst (λ (n : ℕ). IsTold sectors slots n copy) (omega arith) is))

-- what is held in the sectors of a slot
module _ (sectors : ℕ) (slots part : Image) (place : ℕ) (part_is : part ≡ take 32 (drop (32 * place) slots)) where
  same_sector : (k : ℕ) → k < 32 → get_or part (0 + k) [] ≡ get_or slots (32 * place + k) []
  same_sector k lt =
      let at : 0 + k ≡ k = omega arith in
      ap (λ (n : ℕ). get_or part n []) at ∙ ap (λ (l : Image). get_or l k []) part_is ∙ get_or-take 32 (drop (32 * place) slots) k [] lt ∙ get_or-drop (32 * place) slots k []

  in_part : (slot : Slot) (tail : List ℕ) → IsCommitAt sectors slots place slot tail → IsHeld slot tail 0 part
  in_part slot tail is = λ k lt. let few = is.of.tail_fits in same_sector k (omega (arith, lt, few)) ∙ is.held k lt

  pub commit_in : (slot : Slot) (tail : List ℕ) → IsSlotOf sectors slot tail → IsHeld slot tail 0 part → slot.number % 2 ≡ place / 2 → IsCommitAt sectors slots place slot tail
  commit_in slot tail of held pair = record { of = of; held = λ k lt. let few = of.tail_fits in sym (same_sector k (omega (arith, lt, few))) ∙ held k lt; pair = pair }

  pub none_in : ((one : Slot) (rest : List ℕ) → IsSlotOf sectors one rest → IsHeld one rest 0 part → ⊥) → HasNoneAt sectors slots place
  none_in none = λ slot tail is. none slot tail is.of (in_part slot tail is)

  pub other_in : (one : Slot) (rest : List ℕ) → IsSlotOf sectors one rest → IsHeld one rest 0 part → one.number % 2 ≢ place / 2 → HasNoneAt sectors slots place
  other_in one rest of held other = λ slot tail is.
      let same : one ≡ slot = one_slot sectors one slot rest tail of is.of (sym (held 0 (omega arith)) ∙ in_part slot tail is 0 (omega arith)) in
      other (ap (λ (s : Slot). s.number % 2) same ∙ is.pair)

-- what a match tells of an option
pub none_is : {X : Type 0} (found : Option X) (A : Type 0) (B : X → Type 0) → MatchOption found A B → found ≡ None → A
none_is None A B told is = told
none_is (Some x) A B told is = cc

pub some_is : {X : Type 0} (found : Option X) (x : X) (A : Type 0) (B : X → Type 0) → MatchOption found A B → found ≡ Some x → B x
some_is {X} found x A B told is = subst (λ (o : Option X). MatchOption o A B) is told
