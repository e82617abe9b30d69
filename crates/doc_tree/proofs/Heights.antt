-- What stands in a document is lower than it.
use Rattle.std.proofs.Common.{◌≡◌, ℕ, zero, suc, ◌≤◌, ◌+◌, max, List, [], ◌∷◌, length, Option, Some, None, Ordering, Less, Equal, Greater, nat_cmp, arith, refl}
use Rattle.std.specs.Cmp.Lexicographic.{slice_cmp}
use Rattle.std.specs.Ordering.{match_ordering}
use Rattle.std.specs.Prelude.{option_and_then}
use Rattle.doc_tree.specs.Doc.{Doc, list, object, Elements, no_elements, element, Members, no_members, member, get_member, get_element, height, elements_height, members_height, Place, name, index, child, at}

pub element_lower : (i : ℕ) (c : Doc) (ds : Elements) → get_element i ds ≡ Some c → height c ≤ elements_height ds
element_lower i c no_elements h = absurd (cc)
element_lower zero c (element d ds) h = let same : d ≡ c = cc in rw same (omega arith)
element_lower (suc i) c (element d ds) h = let rest = element_lower i c ds h in omega (arith, rest)

member_lower_at : (o : Ordering) (c d : Doc) (found : Option Doc) (n : ℕ) → match_ordering o found (Some d) found ≡ Some c → (found ≡ Some c → height c ≤ n) → height c ≤ max (height d) n
member_lower_at Less c d found n h rest = let r = rest h in omega (arith, r)
member_lower_at Equal c d found n h rest = let same : d ≡ c = cc in rw same (omega arith)
member_lower_at Greater c d found n h rest = let r = rest h in omega (arith, r)

pub member_lower : (k : List ℕ) (c : Doc) (ms : Members) → get_member k ms ≡ Some c → height c ≤ members_height ms
member_lower k c no_members h = absurd (cc)
member_lower k c (member l d ms) h = member_lower_at (slice_cmp nat_cmp k l) c d (get_member k ms) (members_height ms) h (member_lower k c ms)

pub child_lower : (p : Place) (d c : Doc) → child p d ≡ Some c → suc (height c) ≤ height d
child_lower (name k) (object ms) c h = let r = member_lower k c ms h in omega (arith, r)
child_lower (index n) (list ds) c h = let r = element_lower n c ds h in omega (arith, r)
child_lower _ _ c h = absurd (cc)

at_lower_from : (p : Place) (ps : List Place) (d c : Doc) (o : Option Doc) → child p d ≡ o → option_and_then (at ps) o ≡ Some c → ((e : Doc) → at ps e ≡ Some c → length ps + height c ≤ height e) → length (p ∷ ps) + height c ≤ height d
at_lower_from p ps d c None here h rest = absurd (cc)
at_lower_from p ps d c (Some e) here h rest = let r = rest e h in let low = child_lower p d e here in omega (arith, r, low)

-- what stands at a location is lower by at least its steps
pub at_lower : (ps : List Place) (d c : Doc) → at ps d ≡ Some c → length ps + height c ≤ height d
at_lower [] d c h = let same : d ≡ c = cc in rw same (omega arith)
at_lower (p ∷ ps) d c h = at_lower_from p ps d c (child p d) refl h (λ e g. at_lower ps e c g)
