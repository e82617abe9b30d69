-- Lists that are made one after another.
use Rattle.std.proofs.Common.{◌≡◌, ◌∙◌, ◌⊎◌, inl, inr, ◌+◌, ◌<◌, ◌≤◌, ℕ, List, [], ◌∷◌, ◌++◌, Some, None, ap, refl, sym, subst, append_assoc, drop, drop-cons, add-one, get_or, length, slice_get}
use Rattle.std.proofs.lemmas.Option.{slice_get_past, slice_get_read}
use Rattle.std.specs.List.{AllByRecursion}
use Rattle.commit_slots.specs.declared.slot.Slot.{Slot}
use Rattle.store_parts.specs.declared.findings.SlotCopy.{SlotCopy}
use Rattle.damaged_files.specs.Damages.{slot_damage, slot_damages, line_of_damage, lines_of_damages}
use Rattle.damaged_files.specs.declared.damage.Damage.{Damage}

-- the rest of a list, from a place on
pub rest_is : {T : Type 0} (xs : List T) (i : ℕ) (x : T) → i < length xs → drop i xs ≡ get_or xs i x ∷ drop (i + 1) xs
rest_is xs i x lt = rw (add-one i) (drop-cons xs i x lt)

-- what is made of one more, before what is made of those that are left
pub one_more : {T A : Type 0} (made : T → List A) (made_all : List T → List A) (before now more all : List A) (x : T) (xs : List T) → made_all (x ∷ xs) ≡ made x ++ made_all xs
    → now ≡ before ++ made x → before ++ made_all (x ∷ xs) ≡ all → now ++ made_all xs ≡ all
one_more made made_all before now more all x xs step is whole =
    ap (λ l. l ++ made_all xs) is ∙ append_assoc before (made x) (made_all xs) ∙ ap (λ l. before ++ l) (sym step) ∙ whole

-- all of one more
pub all_push : {T : Type 0} (P : T → Type 0) (xs : List T) (x : T) → AllByRecursion P xs → P x → AllByRecursion P (xs ++ x ∷ [])
all_push P [] x all is = (is, tt)
all_push P (y ∷ xs) x all is = (all.0, all_push P xs x all.1 is)

-- a list with one more isn't empty
pub push_some : {T : Type 0} {A : Type 0} (xs : List T) (x : T) → xs ++ x ∷ [] ≡ [] → A
push_some [] x is = absurd cc
push_some (y ∷ xs) x is = absurd cc

-- a sector more that was not read, or none
pub within_more : (P : ℕ → Type 0) (xs ys : List ℕ) (x : ℕ) (S F : Type 0) → ((ys ≡ xs) × S) ⊎ ((ys ≡ xs ++ x ∷ []) × F) → AllByRecursion P xs → P x → AllByRecursion P ys
within_more P xs ys x S F (inl same) all is = subst (λ (l : List ℕ). AllByRecursion P l) (sym same.0) all
within_more P xs ys x S F (inr more) all is = subst (λ (l : List ℕ). AllByRecursion P l) (sym more.0) (all_push P xs x all is)

-- if there is none, no call failed
pub heard_more : (xs ys : List ℕ) (x first before now : ℕ) (F : Type 0) → ((ys ≡ xs) × (now ≡ before)) ⊎ ((ys ≡ xs ++ x ∷ []) × F) → (xs ≡ [] → before ≡ first) → ys ≡ [] → now ≡ first
heard_more xs ys x first before now F (inl same) heard none = same.1 ∙ heard (sym same.0 ∙ none)
heard_more xs ys x first before now F (inr more) heard none = push_some xs x (sym more.0 ∙ none)

-- five texts, one after another
pub in_order : (a b c d e : List ℕ) → (((a ++ b) ++ c) ++ d) ++ e ≡ a ++ (b ++ (c ++ (d ++ e)))
in_order a b c d e = append_assoc ((a ++ b) ++ c) d e ∙ append_assoc (a ++ b) c (d ++ e) ∙ append_assoc a b (c ++ (d ++ e))

-- six
pub in_order_six : (a b c d e f : List ℕ) → ((((a ++ b) ++ c) ++ d) ++ e) ++ f ≡ a ++ (b ++ (c ++ (d ++ (e ++ f))))
in_order_six a b c d e f = in_order (a ++ b) c d e f ∙ append_assoc a b (c ++ (d ++ (e ++ f)))

-- no element is at that place, or this one
pub none_there : {T : Type 0} (xs items : List T) (i : ℕ) → xs ≡ items → length xs ≤ i → slice_get items i ≡ None
none_there xs items i same past = subst (λ l. slice_get l i ≡ None) same (slice_get_past xs i past)

pub there : {T : Type 0} (xs items : List T) (i : ℕ) (x : T) → xs ≡ items → i < length xs → x ≡ get_or xs i x → slice_get items i ≡ Some x
there xs items i x same lt is = subst (λ l. slice_get l i ≡ Some x) same (slice_get_read xs (length xs) i x refl lt is)
