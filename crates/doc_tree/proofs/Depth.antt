-- A document that was read is at most 127 high, since the text nests no deeper.
use Rattle.std.proofs.Common.{◌≡◌, ℕ, ◌≤◌, List, Option, Some, None, option_map, option_and_then, subst, arith}
use Rattle.std.specs.Prelude.{⊤}
use Rattle.serde_json.specs.Data as json
use Rattle.serde_json.specs.Find.{as_i64}
use Rattle.serde_json.specs.Read.{read}
use Rattle.serde_json.proofs.Nesting.{depth-read}
use Rattle.doc_tree.specs.Doc.{Doc, int, list, object, element, member, height, elements_height, members_height}
use Rattle.doc_tree.specs.Read.{doc_of, elements_from, members_from}

abbrev AtMost : {A : Type 0} → (A → ℕ) → ℕ → Option A → Type 0
AtMost f n None = ⊤
AtMost f n (Some a) = f a ≤ n

AtMost-map : {A B : Type 0} (f : A → ℕ) (g : B → ℕ) (m n : ℕ) (h : A → B) → ((a : A) → f a ≤ m → g (h a) ≤ n) → (o : Option A) → AtMost f m o → AtMost g n (option_map h o)
AtMost-map f g m n h k None x = tt
AtMost-map f g m n h k (Some a) x = k a x

AtMost-and_then : {A B : Type 0} (f : A → ℕ) (g : B → ℕ) (m n : ℕ) (h : A → Option B) → ((a : A) → f a ≤ m → AtMost g n (h a)) → (o : Option A) → AtMost f m o → AtMost g n (option_and_then h o)
AtMost-and_then f g m n h k None x = tt
AtMost-and_then f g m n h k (Some a) x = k a x

flat : {A : Type 0} (o : Option A) → AtMost (λ _. 0) 0 o
flat None = tt
flat (Some a) = omega arith

mutual
  height-doc_of : (x : json.Data) (n : ℕ) → json.depth x ≤ n → AtMost height n (doc_of x)
  height-doc_of json.null n h = omega arith
  height-doc_of (json.boolean b) n h = omega arith
  height-doc_of (json.number z) n h = AtMost-map (λ _. 0) height 0 n int (λ a x. omega arith) (as_i64 z) (flat _)
  height-doc_of (json.string s) n h = omega arith
  height-doc_of (json.array xs) n h = AtMost-map elements_height height (json.items_depth xs) n list (λ a x. omega arith) _ (height-elements_from xs _ (omega arith))
  height-doc_of (json.object ms) n h = AtMost-map members_height height (json.members_depth ms) n object (λ a x. omega arith) _ (height-members_from ms _ (omega arith))

  height-elements_from : (xs : json.Items) (n : ℕ) → json.items_depth xs ≤ n → AtMost elements_height n (elements_from xs)
  height-elements_from json.no_items n h = omega arith
  height-elements_from (json.item x xs) n h =
      AtMost-and_then height elements_height n n _ (λ d low. AtMost-map elements_height elements_height n n (element d) (λ ds rest. omega arith) _ (height-elements_from xs n (omega arith))) _ (height-doc_of x n (omega arith))

  height-members_from : (ms : json.Members) (n : ℕ) → json.members_depth ms ≤ n → AtMost members_height n (members_from ms)
  height-members_from json.no_members n h = omega arith
  height-members_from (json.member k x ms) n h =
      AtMost-and_then height members_height n n _ (λ d low. AtMost-map members_height members_height n n (member k d) (λ ds rest. omega arith) _ (height-members_from ms n (omega arith))) _ (height-doc_of x n (omega arith))

pub height_of_read : (bytes : List ℕ) (x : json.Data) (d : Doc) → read bytes ≡ Some x → doc_of x ≡ Some d → height d ≤ 127
height_of_read bytes x d e whole = subst (AtMost height 127) whole (height-doc_of x 127 (depth-read bytes x e))
