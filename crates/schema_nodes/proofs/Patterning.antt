-- The loops over the names of `patternProperties`.
use Rattle.std.proofs.Common.{◌≡◌, ℕ, List, [], ◌∷◌, ◌++◌, ◌⊎◌, inl, inr, ⊎_elim, length, map, refl, sym, ap, subst, ◌∙◌, append-nil, append_assoc, arith, String, Global, string_bytes}
use Rattle.doc_tree.specs.Doc.{Doc, Members, no_members, member}
use Rattle.doc_tree.specs.Lists.{names_list}
use Rattle.schema_graph.specs.Walks.{In, first, later}
use Rattle.schema_graph.proofs.Among.{In-parts, none_in}
use Rattle.schema_levels.specs.NamePatterns.{texts_of}
use Rattle.schema_levels.specs.declared.node.NamePattern.{NamePattern}
use Rattle.schema_levels.specs.declared.node.Rule.{Rule}
use Rattle.schema_levels.specs.declared.node.Rule.TheVariants.{Matching}
use Rattle.schema_nodes.specs.Fits.{AreMatching, ArePatterns, Follow, IsNamePattern, IsNumbered}

-- ---- one rule for each

pub record Adding (ps : List (List ℕ)) (before : List Rule) (all : Members) (row : List ℕ) (left : Members) (left_row : List ℕ) (now : List Rule) : Type 0 where
  pub so_far : List Rule
  pub now_is : now ≡ before ++ so_far
  pub rest : (more : List Rule) → AreMatching ps left left_row more → AreMatching ps all row (so_far ++ more)

pub begins : (ps : List (List ℕ)) (before : List Rule) (all : Members) (row : List ℕ) → Adding ps before all row all row before
begins ps before all row = record { so_far = []; now_is = sym (append-nil before); rest = λ more h. h }

pub goes_on : (ps : List (List ℕ)) (before : List Rule) (all : Members) (row : List ℕ) (left left' : Members) (left_row left_row' : List ℕ) (now now' : List Rule) (k : List ℕ) (v : Doc) (j : ℕ) (p : NamePattern)
    → Adding ps before all row left left_row now → left ≡ member k v left' → left_row ≡ j ∷ left_row' → IsNamePattern ps k p → now' ≡ now ++ Matching p j ∷ [] → Adding ps before all row left' left_row' now'
goes_on ps before all row left left' left_row left_row' now now' k v j p h e f is g =
    let r : Rule = Matching p j in
    record {
      so_far = h.so_far ++ r ∷ [];
      now_is = g ∙ ap (λ l. l ++ r ∷ []) h.now_is ∙ append_assoc before h.so_far (r ∷ []);
      rest = λ more m. subst (AreMatching ps all row) (sym (append_assoc h.so_far (r ∷ []) more))
          (h.rest (r ∷ more) (subst (λ l. AreMatching ps l left_row (r ∷ more)) (sym e) (subst (λ l. AreMatching ps (member k v left') l (r ∷ more)) (sym f) (p, refl, is, m))));
    }

pub ends : (ps : List (List ℕ)) (before : List Rule) (all : Members) (row : List ℕ) (left : Members) (left_row : List ℕ) (now : List Rule) → Adding ps before all row left left_row now → (left ≡ no_members) ⊎ (length left_row ≡ 0) → Follow before (AreMatching ps all row) now
ends ps before all row left left_row now h e = (h.so_far, h.now_is, subst (AreMatching ps all row) (append-nil h.so_far) (h.rest [] (over left left_row e)))
  where
    over : (left : Members) (left_row : List ℕ) → (left ≡ no_members) ⊎ (length left_row ≡ 0) → AreMatching ps left left_row []
    over no_members row e = tt
    over (member k v left) [] e = tt
    over (member k v left) (j ∷ row) (inl e) = absurd cc
    over (member k v left) (j ∷ row) (inr e) = absurd (omega (arith, e))

-- ---- the patterns themselves

pub record Finding (ps : List (List ℕ)) (names left : List (List ℕ)) (found : List NamePattern) : Type 0 where
  pub are_texts : texts_of found ++ left ≡ names
  pub numbered : (p : NamePattern) → In p found → IsNumbered ps p

pub finds_none : (ps names : List (List ℕ)) (found : List NamePattern) → found ≡ [] → Finding ps names names found
finds_none ps names found e = record { are_texts = ap (λ l. texts_of l ++ names) e; numbered = λ p i. none_in p (subst (λ l. In p l) e i) }

texts_append : (xs ys : List NamePattern) → texts_of (xs ++ ys) ≡ texts_of xs ++ texts_of ys
texts_append [] ys = refl
texts_append (p ∷ xs) ys = ap (λ l. string_bytes p.text ∷ l) (texts_append xs ys)

pub finds_one : (ps names left left' : List (List ℕ)) (found found' : List NamePattern) (k : List ℕ) (p : NamePattern) → Finding ps names left found → left ≡ k ∷ left' → IsNamePattern ps k p → found' ≡ found ++ p ∷ [] → Finding ps names left' found'
finds_one ps names left left' found found' k p h e is f = record {
  are_texts = ap (λ l. texts_of l ++ left') f ∙ ap (λ l. l ++ left') (texts_append found (p ∷ [])) ∙ append_assoc (texts_of found) (string_bytes p.text ∷ []) left' ∙ ap (λ u. texts_of found ++ u ∷ left') is.is_text ∙ ap (λ l. texts_of found ++ l) (sym e) ∙ h.are_texts;
  numbered = λ q i. ⊎_elim (λ a. h.numbered q a) (λ b. only q b) (In-parts q found (p ∷ []) (subst (λ l. In q l) f i));
}
  where
    only : (q : NamePattern) → In q (p ∷ []) → IsNumbered ps q
    only _ first = is.numbered
    only q (later i) = none_in q i

pub finds_all : (ps names left : List (List ℕ)) (found : List NamePattern) → Finding ps names left found → left ≡ [] → ArePatterns ps names found
finds_all ps names left found h e = record { are_texts = sym (append-nil (texts_of found)) ∙ ap (λ l. texts_of found ++ l) (sym e) ∙ h.are_texts; numbered = h.numbered }
