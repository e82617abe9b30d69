-- How a change alters a document's height and the length of its text.
use Rattle.std.proofs.Common.{◌≡◌, ℕ, ◌+◌, ◌<◌, ◌≤◌, min, length, [], ◌∷◌, Option, Some, None, Ok, Err, option_map, option_and_then, nat_lt, true, false, refl, sym, ap, ◌∙◌, arith}
use Rattle.std.specs.Option.{SomeIff}
use Rattle.std.specs.Prelude.{unwrap_or}
use Rattle.std.proofs.lemmas.Bool.Decides.{nat_tests}
use Rattle.doc_tree.specs.Doc.{Doc, list, object, height, get_element, Elements}
use Rattle.doc_pointer.specs.Place.{child_named, resolve}
use Rattle.doc_edits.specs.Change.{value_at}
use Rattle.doc_edits.specs.Edit as edit
use Rattle.doc_edits.specs.Edit.{Token, Tokens, at_last, remove_here, remove_member, remove_item, remove_element, index_below, elements_len, cut}
use Rattle.doc_edits.specs.SizeChange.{IsBytes, IsPlaced, Grew, Shrank, IsGrown}
use Rattle.doc_edits.specs.Size.{size}
use Rattle.doc_edits.specs.Limits.{within_limits}
use Rattle.doc_edits.specs.declared.place.Placed.{Placed}
use Rattle.doc_edits.specs.declared.place.Taken.{Taken}
use Rattle.doc_tree.specs.TreeView.{view}
use Rattle.refusals.specs.declared.numbers.TheConstants.{DEPTH, TOO_LARGE}
use Rattle.doc_edits.proofs.Heights.{in_child_steps, add_high, add_low, replace_high, replace_low, remove_not_higher}
use Rattle.doc_edits.proofs.Indices.{child_named-list, index_below-below, element_at}

-- ---- what came and what went

reach_down : (h n r : ℕ) → r ≡ min (min h 0xffff_ffff_ffff_ffff + n) 0xffff_ffff_ffff_ffff → 64 < r → 64 < n + h
reach_down h n r e less = omega (arith, e, less)

reach_within : (h n r : ℕ) → r ≡ min (min h 0xffff_ffff_ffff_ffff + n) 0xffff_ffff_ffff_ffff → r ≤ 64 → n + h ≡ r
reach_within h n r e low = omega (arith, e, low)

grown_bytes : (r : ℕ) (o : Option ℕ) (lost m n old came : ℕ) → IsBytes o came → lost ≡ old → old ≤ m → n + old ≡ m + came → IsGrown (record { reach = r; gained = o; lost = lost }) m n
grown_bytes r None lost m n old came is e low sum = (omega (arith, e, low), omega (arith, is, e, low, sum))
grown_bytes r (Some k) lost m n old came is e low sum = (omega (arith, e, low), omega (arith, is, e, sum))

pub added : (path : Tokens) (v d e : Doc) (r : ℕ) (o : Option ℕ) (p : Placed) → edit.add path v d ≡ Some e → r ≡ min (min (height v) 0xffff_ffff_ffff_ffff + length path) 0xffff_ffff_ffff_ffff
    → (is : IsPlaced p v d e) → IsBytes o (size v + is.beside) → (most : ℕ) → Grew most (record { reach = r; gained = o; lost = p.lost }) d e
added path v d e r o p made reach is came most = record {
  deep = λ low x. let deep = reach_down (height v) (length path) r reach x in let down = add_low path v d e made in omega (arith, deep, down);
  high = λ low x. let within = reach_within (height v) (length path) r reach x in let up = add_high path v d e made in omega (arith, within, up, low);
  longer = λ short. grown_bytes r o p.lost (size d) (size e) is.old (size v + is.beside) came (is.went short) is.low (omega (arith, is.sum));
}

pub replaced : (path : Tokens) (v d e : Doc) (r : ℕ) (o : Option ℕ) (lost old : ℕ) → edit.replace path v d ≡ Some e → r ≡ min (min (height v) 0xffff_ffff_ffff_ffff + length path) 0xffff_ffff_ffff_ffff
    → (size d ≤ 1_048_576 → lost ≡ old) → IsBytes o (size v) → old ≤ size d → size e + old ≡ size d + size v → (most : ℕ) → Grew most (record { reach = r; gained = o; lost = lost }) d e
replaced path v d e r o lost old made reach went is low sum most = record {
  deep = λ small x. let deep = reach_down (height v) (length path) r reach x in let down = replace_low path v d e made in omega (arith, deep, down);
  high = λ small x. let within = reach_within (height v) (length path) r reach x in let up = replace_high path v d e made in omega (arith, within, up, small);
  longer = λ short. grown_bytes r o lost (size d) (size e) old (size v) is (went short) low sum;
}

lost_bytes : (o : Option ℕ) (n : ℕ) → IsBytes o n → n ≤ 1_048_576 → unwrap_or o 0 ≡ n
lost_bytes None n is short = absurd (omega (arith, is, short))
lost_bytes (Some k) n is short = is

pub removed : (path : Tokens) (d e : Doc) (t : Taken) (o : Option ℕ) (j : ℕ) → edit.remove path d ≡ Some e → t.beside ≡ unwrap_or o 0 → IsBytes o j → size e + size (view t.value) + j ≡ size d → Shrank t d e
removed path d e t o j made beside is sum = record {
  higher = remove_not_higher path d e made;
  longer = λ short. let lost = lost_bytes o j is (omega (arith, sum, short)) in omega (arith, beside, lost, sum);
}

pub bytes_of : (o : Option ℕ) (n : ℕ) → SomeIff o (n ≤ 1_048_576) n → IsBytes o n
bytes_of None n h = grind (arith, h)
bytes_of (Some m) n h = h.1

-- ---- within the limits

test_true : (a b : ℕ) → a < b → nat_lt a b ≡ true
test_true a b h = grind (arith, nat_tests)

test_false : (a b : ℕ) → b ≤ a → nat_lt a b ≡ false
test_false a b h = grind (arith, nat_tests)

pub judged_deep : (e : Doc) → 64 < height e → within_limits e ≡ Err DEPTH
judged_deep e high = rw (test_true 64 (height e) high) refl

pub judged_large : (e : Doc) → height e ≤ 64 → 1_048_576 < size e → within_limits e ≡ Err TOO_LARGE
judged_large e low long = rw (test_false 64 (height e) low, test_true 1_048_576 (size e) long) refl

pub judged_within : (e : Doc) → height e ≤ 64 → size e ≤ 1_048_576 → within_limits e ≡ Ok e
judged_within e low short = rw (test_false 64 (height e) low, test_false 1_048_576 (size e) short) refl

pub not_above : (h n : ℕ) → (64 < h → 64 < n) → n ≤ 64 → h ≤ 64
not_above h n f low = grind (arith, f)

-- ---- what is removed was there

no_item : (o : Option ℕ) (ds : Elements) → ((i : ℕ) → o ≡ Some i → i < elements_len ds) → option_and_then (λ i. get_element i ds) o ≡ None → option_and_then (λ i. remove_element i ds) o ≡ None
no_item None ds below h = refl
no_item (Some i) ds below h = let at = element_at i ds (below i refl) in let both : Some at.0 ≡ None = sym at.1 ∙ h in absurd cc

none_here : (t : Token) (d : Doc) → child_named t d ≡ None → remove_here t d ≡ None
none_here t (object ms) h = ap (λ o. option_map object (option_map (λ _. cut t ms) o)) h
none_here t (list ds) h = ap (option_map list) (no_item (index_below (elements_len ds) t) ds (index_below-below (elements_len ds) t) (sym (child_named-list t ds) ∙ h))
none_here t _ h = refl

pub removed_was_there : (t : Token) (ts : Tokens) (d e : Doc) → at_last remove_here t ts d ≡ Some e → value_at t ts d ≡ None → ⊥
removed_was_there t [] d e h none = let both : Some e ≡ None = sym h ∙ none_here t d none in cc
removed_was_there t (u ∷ us) d e h none =
    let s = in_child_steps t (at_last remove_here u us) d e h in
    removed_was_there u us s.child s.new s.made (sym (ap (option_and_then (value_at u us)) s.found) ∙ none)

each_same : (f g : Doc → Option Doc) (o : Option Doc) → ((d : Doc) → f d ≡ g d) → option_and_then f o ≡ option_and_then g o
each_same f g None same = refl
each_same f g (Some d) same = same d

child_then_none : (o : Option Doc) → o ≡ option_and_then (resolve []) o
child_then_none None = refl
child_then_none (Some d) = refl

pub value_at-resolve : (t : Token) (ts : Tokens) (d : Doc) → value_at t ts d ≡ resolve (t ∷ ts) d
value_at-resolve t [] d = child_then_none (child_named t d)
value_at-resolve t (u ∷ us) d = each_same (value_at u us) (resolve (u ∷ us)) (child_named t d) (value_at-resolve u us)
