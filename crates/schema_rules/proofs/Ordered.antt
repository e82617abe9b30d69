-- `doc_cmp` is a total order, and tells equal only what is equal.
use Rattle.std.proofs.Common.{◌≡◌, ◌<◌, ℕ, zero, suc, ◌+◌, ℤ, pos, List, [], ◌∷◌, true, false, Ordering, Less, Equal, Greater, nat_cmp, int_cmp, refl, sym, ap, ap₂, ◌∙◌, arith}
use Rattle.std.proofs.lemmas.Cmp.{nat_cmp_total, int_cmp_total, nat_list_cmp_total, on_total, then_total, lists_total, tied_itself}
use Rattle.std.proofs.lemmas.Map.Lookups.{exact_signed, exact_bytes}
use Rattle.std.specs.Cmp.{IsTotalOrder}
use Rattle.std.specs.Cmp.Lexicographic.{slice_cmp}
use Rattle.std.specs.Ordering.{ordering_then, ordering_reverse, on, then_cmp}
use Rattle.doc_tree.specs.Doc.{Doc, null, boolean, int, text, list, object, Elements, no_elements, element, Members, no_members, member, height, elements_height, members_height}
use Rattle.schema_rules.specs.Order.{kind_rank, doc_cmp, elements_cmp, members_cmp}

-- ---- what a document has of each kind, by which documents of all kinds compare alike

abbrev number : Doc → ℤ
number (int z) = z
number _ = pos 0

abbrev string : Doc → List ℕ
string (text s) = s
string _ = []

abbrev unnamed : Elements → List (List ℕ × Doc)
unnamed no_elements = []
unnamed (element d ds) = ([], d) ∷ unnamed ds

abbrev named : Members → List (List ℕ × Doc)
named no_members = []
named (member k d ms) = (k, d) ∷ named ms

abbrev children : Doc → List (List ℕ × Doc)
children (list ds) = unnamed ds
children (object ms) = named ms
children _ = []

abbrev child_cmp : (Doc → Doc → Ordering) → List ℕ × Doc → List ℕ × Doc → Ordering
child_cmp R = then_cmp (on (λ p. p.0) (slice_cmp nat_cmp)) (on (λ p. p.1) R)

-- the order of documents that are less than n high
abbrev order_at : ℕ → Doc → Doc → Ordering
order_at zero = λ a b. Equal
order_at (suc n) = then_cmp (on kind_rank nat_cmp) (then_cmp (on number int_cmp) (then_cmp (on string (slice_cmp nat_cmp)) (on children (slice_cmp (child_cmp (order_at n))))))

flat_total : IsTotalOrder {K = Doc} (λ a b. Equal)
flat_total = record { antisymm = λ x y. refl; trans = λ x y z h k. h; congr = λ x y z h. refl }

order_total : (n : ℕ) → IsTotalOrder (order_at n)
order_total zero = flat_total
order_total (suc n) = then_total (on_total kind_rank nat_cmp_total) (then_total (on_total number int_cmp_total) (then_total (on_total string nat_list_cmp_total)
    (on_total children (lists_total (then_total (on_total (λ (p : List ℕ × Doc). p.0) nat_list_cmp_total) (on_total (λ (p : List ℕ × Doc). p.1) (order_total n)))))))

then_equal : (o : Ordering) → ordering_then o Equal ≡ o
then_equal Less = refl
then_equal Equal = refl
then_equal Greater = refl

then_assoc : (o p q : Ordering) → ordering_then (ordering_then o p) q ≡ ordering_then o (ordering_then p q)
then_assoc Less p q = refl
then_assoc Equal p q = refl
then_assoc Greater p q = refl

mutual
  order_is : (n : ℕ) (a b : Doc) → height a < n → order_at n a b ≡ doc_cmp a b
  order_is zero a b h = absurd (omega arith)
  order_is (suc n) (int a) (int b) h = then_equal (int_cmp a b)
  order_is (suc n) (text a) (text b) h = then_equal (slice_cmp nat_cmp a b)
  order_is (suc n) (list a) (list b) h = elements_order_is n a b (omega arith)
  order_is (suc n) (object a) (object b) h = members_order_is n a b (omega arith)
  order_is (suc n) null null h = refl
  order_is (suc n) null (boolean true) h = refl
  order_is (suc n) (boolean true) (boolean true) h = refl
  order_is (suc n) (boolean false) (boolean true) h = refl
  order_is (suc n) (int a) (boolean true) h = refl
  order_is (suc n) (text a) (boolean true) h = refl
  order_is (suc n) (list a) (boolean true) h = refl
  order_is (suc n) (object a) (boolean true) h = refl
  order_is (suc n) _ _ h = refl

  elements_order_is : (n : ℕ) (a b : Elements) → elements_height a < n → slice_cmp (child_cmp (order_at n)) (unnamed a) (unnamed b) ≡ elements_cmp a b
  elements_order_is n no_elements no_elements h = refl
  elements_order_is n no_elements (element b others) h = refl
  elements_order_is n (element a more) no_elements h = refl
  elements_order_is n (element a more) (element b others) h = ap₂ ordering_then (order_is n a b (omega arith)) (elements_order_is n more others (omega arith))

  members_order_is : (n : ℕ) (a b : Members) → members_height a < n → slice_cmp (child_cmp (order_at n)) (named a) (named b) ≡ members_cmp a b
  members_order_is n no_members no_members h = refl
  members_order_is n no_members (member l b others) h = refl
  members_order_is n (member k a more) no_members h = refl
  members_order_is n (member k a more) (member l b others) h = rw (order_is n a b (omega arith), members_order_is n more others (omega arith)) (then_assoc (slice_cmp nat_cmp k l) (doc_cmp a b) (members_cmp more others))

pub doc_total : IsTotalOrder doc_cmp
doc_total = record {
  antisymm = λ x y. let n = suc (height x + height y) in sym (order_is n x y (omega arith)) ∙ ((order_total n).antisymm x y ∙ ap ordering_reverse (order_is n y x (omega arith)));
  trans = λ x y z h k. let n = suc (height x + height y) in sym (order_is n x z (omega arith)) ∙ (order_total n).trans x y z (order_is n x y (omega arith) ∙ h) (order_is n y z (omega arith) ∙ k);
  congr = λ x y z h. let n = suc (height x + height y) in sym (order_is n x z (omega arith)) ∙ ((order_total n).congr x y z (order_is n x y (omega arith) ∙ h) ∙ order_is n y z (omega arith));
}

-- ---- equal by the order is equal

then_both : (o p : Ordering) → ordering_then o p ≡ Equal → (o ≡ Equal) × (p ≡ Equal)
then_both Less p h = absurd (cc)
then_both Equal p h = (refl, h)
then_both Greater p h = absurd (cc)

mutual
  pub doc_exact : (a b : Doc) → doc_cmp a b ≡ Equal → a ≡ b
  doc_exact null null h = refl
  doc_exact null (boolean true) h = absurd (cc)
  doc_exact (boolean true) (boolean true) h = refl
  doc_exact (boolean false) (boolean false) h = refl
  doc_exact (int a) (int b) h = ap int (exact_signed a b h)
  doc_exact (text a) (text b) h = ap text (exact_bytes a b h)
  doc_exact (list a) (list b) h = ap list (elements_exact a b h)
  doc_exact (object a) (object b) h = ap object (members_exact a b h)
  doc_exact (int a) (boolean true) h = absurd (cc)
  doc_exact (text a) (boolean true) h = absurd (cc)
  doc_exact (list a) (boolean true) h = absurd (cc)
  doc_exact (object a) (boolean true) h = absurd (cc)
  doc_exact _ _ h = absurd (cc)

  elements_exact : (a b : Elements) → elements_cmp a b ≡ Equal → a ≡ b
  elements_exact no_elements no_elements h = refl
  elements_exact (element a more) (element b others) h =
      let p = then_both (doc_cmp a b) (elements_cmp more others) h in
      ap₂ element (doc_exact a b p.0) (elements_exact more others p.1)
  elements_exact _ _ h = absurd (cc)

  members_exact : (a b : Members) → members_cmp a b ≡ Equal → a ≡ b
  members_exact no_members no_members h = refl
  members_exact (member k a more) (member l b others) h =
      let p = then_both (slice_cmp nat_cmp k l) (ordering_then (doc_cmp a b) (members_cmp more others)) h in
      let q = then_both (doc_cmp a b) (members_cmp more others) p.1 in
      let at_name : k ≡ l = exact_bytes k l p.0 in
      let first : a ≡ b = doc_exact a b q.0 in
      let rest : more ≡ others = members_exact more others q.1 in
      cc
  members_exact _ _ h = absurd (cc)

pub doc_tied : (a : Doc) → doc_cmp a a ≡ Equal
doc_tied a = tied_itself doc_total a
