-- What is left of a list of asked parts while a loop goes over it.
use Rattle.std.proofs.Common.{◌≡◌, ◌⊎◌, ⊎_elim, ℕ, zero, suc, Option, Some, None, ◌+◌, ◌<◌, ◌≤◌, ◌==◌, Bool, true, false, not, ◌&&◌, ◌||◌, is_some, if◌then◌else◌, List, [], ◌∷◌, drop, length, get_or, refl, sym, ap, ap₂, subst, ◌∙◌, arith, drop-cons, String, Global, string_bytes, codes}
use Rattle.doc_tree.specs.Doc.{Doc, text, object, Members, get_member}
use Rattle.doc_tree.specs.Lists.{elements_list, names_list}
use Rattle.doc_tree.specs.TreeView.{view, elements_view, members_view}
use Rattle.doc_tree.specs.declared.tree.Tree.{Tree}
use Rattle.schema_graph.specs.Walks.{In, first, later}
use Rattle.schema_graph.proofs.Among.{In-left, In-right, none_in}
use Rattle.schema_rules.specs.Keywords.{keyword_of}
use Rattle.schema_rules.specs.Parts.{elements_in, members_in, beside, after}
use Rattle.schema_rules.specs.Rules.{Ask, ask, asks, at_each, by_each, of_each, by_place, by_name, of_names, of_others, if_named, at_target, every, how_many, where_present}
use Rattle.schema_rules.specs.declared.keyword.Keyword.TheVariants.{Items}
use Rattle.doc_schema.specs.Schemas.{schemas, IsLoopedSchema}
use Rattle.doc_schema.specs.Steps.{verdict, told, ArePlaced, steps, most, all_hold, holds}
use Rattle.doc_schema.proofs.Fuel.{asked_by, part_less, part_in}

-- what is left is placed, and takes no more steps than all
pub record Rest (root : Doc) (xs all : List Ask) : Type 0 where
  pub placed : ArePlaced root xs
  pub bounded : most root xs ≤ most root all

pub begin_rest : (root : Doc) (all : List Ask) → ArePlaced root all → Rest root all all
begin_rest root all h = record { placed = h; bounded = omega arith }

module _ (root : Doc) (all xs ys : List Ask) (a : Ask) (e : xs ≡ a ∷ ys) (r : Rest root xs all) where
  opened : Rest root (a ∷ ys) all
  opened = subst (λ x. Rest root x all) e r

  pub here : In a.schema (schemas root)
  here = opened.placed a first

  pub less : steps root a.schema a.instance < most root all
  less = let m = opened.bounded in omega (arith, m)

  pub further : Rest root ys all
  further = record { placed = λ b i. opened.placed b (later i); bounded = (let m = opened.bounded in omega (arith, m)) }

-- however the answers are joined, the answer to the next part stands for it
pub on : {B : Type 0} (join : List Bool → B) (root : Doc) (xs ys : List Ask) (a : Ask) (whole : B) (v : Bool) → xs ≡ a ∷ ys → v ≡ verdict root a.schema a.instance
    → join (told (verdict root) xs) ≡ whole → join (v ∷ told (verdict root) ys) ≡ whole
on join root xs ys a whole v e h inv = ap (λ b. join (b ∷ told (verdict root) ys)) h ∙ sym (ap (λ l. join (told (verdict root) l)) e) ∙ inv

-- ---- exactly one

abbrev pub is_one : Bool → List Bool → Bool
is_one found bs = how_many (found ∷ bs) == 1

pub one_skips : (found : Bool) (bs : List Bool) → is_one found (false ∷ bs) ≡ is_one found bs
one_skips true bs = refl
one_skips false bs = refl

pub one_ends : (found : Bool) → found ≡ is_one found []
one_ends true = refl
one_ends false = refl

pub not_two : (bs : List Bool) → false ≡ is_one true (true ∷ bs)
not_two bs = over (how_many bs)
  where
    over : (n : ℕ) → false ≡ (n + 1 + 1 == 1)
    over n = grind arith

-- ---- the next part

pub at_item : (items : List Tree) (i : ℕ) (x : Tree) (t : Doc) → i < length items → x ≡ get_or items i x → at_each (elements_view (drop i items)) t ≡ ask (view x) t ∷ at_each (elements_view (drop (i + 1) items)) t
at_item items i x t lt e =
    let one : suc i ≡ i + 1 = omega arith in
    ap (λ l. at_each (elements_view l) t) (drop-cons items i x lt) ∙ ap (λ n. ask (view (get_or items i x)) t ∷ at_each (elements_view (drop n items)) t) one ∙ ap (λ y. ask (view y) t ∷ at_each (elements_view (drop (i + 1) items)) t) (sym e)

pub of_item : (s : Doc) (items : List Tree) (i : ℕ) (x : Tree) → i < length items → x ≡ get_or items i x → of_each s (elements_view (drop i items)) ≡ ask s (view x) ∷ of_each s (elements_view (drop (i + 1) items))
of_item s items i x lt e =
    let one : suc i ≡ i + 1 = omega arith in
    ap (λ l. of_each s (elements_view l)) (drop-cons items i x lt) ∙ ap (λ n. ask s (view (get_or items i x)) ∷ of_each s (elements_view (drop n items))) one ∙ ap (λ y. ask s (view y) ∷ of_each s (elements_view (drop (i + 1) items))) (sym e)

pub member_next : (ss : Members) (k : String Global) (v : Tree) (es left : List (String Global × Tree)) (o : Option Doc) → es ≡ (k, v) ∷ left → o ≡ get_member (string_bytes k) ss
    → by_name ss (members_view es) ≡ if_named o (view v) (by_name ss (members_view left))
member_next ss k v es left o e f = ap (λ l. by_name ss (members_view l)) e ∙ ap (λ p. if_named p (view v) (by_name ss (members_view left))) (sym f)

-- a member that is named is passed over, another is asked
pub other_named : (ns : Members) (s : Doc) (k : String Global) (v : Tree) (es left : List (String Global × Tree)) → es ≡ (k, v) ∷ left → true ≡ is_some (get_member (string_bytes k) ns)
    → of_others ns [] s (members_view es) ≡ of_others ns [] s (members_view left)
other_named ns s k v es left e h = ap (λ l. of_others ns [] s (members_view l)) e ∙ sym (ap (λ b. if b || false then of_others ns [] s (members_view left) else (ask s (view v) ∷ of_others ns [] s (members_view left))) h)

pub other_next : (ns : Members) (s : Doc) (k : String Global) (v : Tree) (es left : List (String Global × Tree)) → es ≡ (k, v) ∷ left → false ≡ is_some (get_member (string_bytes k) ns)
    → of_others ns [] s (members_view es) ≡ ask s (view v) ∷ of_others ns [] s (members_view left)
other_next ns s k v es left e h = ap (λ l. of_others ns [] s (members_view l)) e ∙ sym (ap (λ b. if b || false then of_others ns [] s (members_view left) else (ask s (view v) ∷ of_others ns [] s (members_view left))) h)

-- the next schema by name
pub each_next : (t : Doc) (k : String Global) (v : Tree) (es left : List (String Global × Tree)) → es ≡ (k, v) ∷ left → by_each (members_view es) t ≡ ask (view v) t ∷ by_each (members_view left) t
each_next t k v es left e = ap (λ l. by_each (members_view l) t) e

abbrev pub presence : Doc → Doc → List (String Global × Tree) → Bool
presence root t es = where_present (names_list (members_view es)) t (told (verdict root) (by_each (members_view es) t))

pub presence_next : (root t : Doc) (k : String Global) (n : List ℕ) (v : Tree) (es left : List (String Global × Tree)) (m b whole : Bool) → es ≡ (k, v) ∷ left → n ≡ string_bytes k → m ≡ is_some (get_member n (members_in t)) → b ≡ verdict root (view v) t
    → presence root t es ≡ whole → ((not m || b) && presence root t left) ≡ whole
presence_next root t k n v es left m b whole e f g h inv =
    ap₂ (λ x y. (not x || y) && presence root t left) (g ∙ ap (λ l. is_some (get_member l (members_in t))) f) h ∙ sym (ap (presence root t) e) ∙ inv

-- the next name
pub name_next : (s : Doc) (k : String Global) (n : List ℕ) (v : Tree) (es left : List (String Global × Tree)) → es ≡ (k, v) ∷ left → n ≡ string_bytes k → of_names s (members_view es) ≡ ask s (text n) ∷ of_names s (members_view left)
name_next s k n v es left e f = ap (λ l. of_names s (members_view l)) e ∙ ap (λ m. ask s (text m) ∷ of_names s (members_view left)) (sym f)

-- ---- a schema, if there is one

pub and_true : (b : Bool) → (b && true) ≡ b
and_true true = refl
and_true false = refl

module _ (root : Doc) (all xs ys : List Ask) (t : Doc) where
  pub found_placed : (o : Option Doc) → xs ≡ if_named o t ys → Rest root xs all → ArePlaced root (at_target o t)
  found_placed None e r a i = none_in a i
  found_placed (Some s) e r _ first = here root all xs ys (ask s t) e r
  found_placed (Some s) e r a (later i) = none_in a i

  pub found_most : (o : Option Doc) → xs ≡ if_named o t ys → Rest root xs all → most root (at_target o t) ≤ most root all
  found_most None e r = omega arith
  found_most (Some s) e r = omega (arith, less root all xs ys (ask s t) e r)

  pub found_further : (o : Option Doc) → xs ≡ if_named o t ys → Rest root xs all → Rest root ys all
  found_further None e r = subst (λ x. Rest root x all) e r
  found_further (Some s) e r = further root all xs ys (ask s t) e r

  -- the answer to it stands for it
  pub on_found : (o : Option Doc) (whole v : Bool) → xs ≡ if_named o t ys → v ≡ every (told (verdict root) (at_target o t)) → every (told (verdict root) xs) ≡ whole → (v && every (told (verdict root) ys)) ≡ whole
  on_found None whole v e h inv = ap (λ b. b && every (told (verdict root) ys)) h ∙ sym (ap (λ l. every (told (verdict root) l)) e) ∙ inv
  on_found (Some s) whole v e h inv = on every root xs ys (ask s t) whole v e (h ∙ and_true (verdict root s t)) inv

-- ---- a member's parts are parts of the schema

pub most_below : (root : Doc) (xs : List Ask) (n : ℕ) → ((a : Ask) → In a xs → steps root a.schema a.instance < n) → most root xs ≤ n
most_below root [] n h = omega arith
most_below root (a ∷ xs) n h = omega (arith, h a first, most_below root xs n (λ b i. h b (later i)))

module _ (root : Doc) (no_loop : IsLoopedSchema root → ⊥) (ms : Members) (t : Doc) (placed : In (object ms) (schemas root)) (xs : List Ask) (among : (a : Ask) → In a xs → In a (asked_by root ms ms t)) where
  pub member_placed : ArePlaced root xs
  member_placed a i = part_in root no_loop (object ms) t a placed (among a i)

  pub member_most : most root xs ≤ steps root (object ms) t
  member_most = most_below root xs (steps root (object ms) t) (λ a i. part_less root no_loop (object ms) t a placed (among a i))

-- the next member's parts, and those of the members after it
module _ (root : Doc) (ms : Members) (t : Doc) (k : String Global) (v : Tree) (es left : List (String Global × Tree)) (e : es ≡ (k, v) ∷ left) where
  pub next_among : (a : Ask) → In a (asks root ms (keyword_of (string_bytes k)) (view v) t) → In a (asked_by root ms (members_view es) t)
  next_among a i = subst (λ l. In a (asked_by root ms (members_view l) t)) (sym e) (In-left a _ _ i)

  pub left_among : (a : Ask) → In a (asked_by root ms (members_view left) t) → In a (asked_by root ms (members_view es) t)
  left_among a i = subst (λ l. In a (asked_by root ms (members_view l) t)) (sym e) (In-right a (asks root ms (keyword_of (string_bytes k)) (view v) t) _ i)

  pub next_holds : (known : Doc → Doc → Bool) → true ≡ holds known root ms (keyword_of (string_bytes k)) (view v) t → all_hold known root ms (members_view es) t ≡ all_hold known root ms (members_view left) t
  next_holds known h = ap (λ l. all_hold known root ms (members_view l) t) e ∙ ap (λ b. b && all_hold known root ms (members_view left) t) (sym h)

-- ---- elements

pub elements_len : (ts : List Tree) → length (elements_list (elements_view ts)) ≡ length ts
elements_len [] = refl
elements_len (t ∷ ts) = ap suc (elements_len ts)

pub after_drop : (n : ℕ) (ts : List Tree) → after n (elements_view ts) ≡ elements_view (drop n ts)
after_drop zero [] = refl
after_drop (suc n) [] = refl
after_drop zero (t ∷ ts) = refl
after_drop (suc n) (t ∷ ts) = after_drop n ts

pub items_asked : (root : Doc) (ms : Members) (v u : Doc) (ts left : List Tree) (n : ℕ) → elements_view ts ≡ elements_in u → n ≡ length (elements_list (elements_in (beside (codes "prefixItems") ms))) → left ≡ drop n ts
    → asks root ms Items v u ≡ of_each v (elements_view left)
items_asked root ms v u ts left n ei en el =
    ap (λ m. of_each v (after m (elements_in u))) (sym en) ∙ ap (λ x. of_each v (after n x)) (sym ei) ∙ ap (of_each v) (after_drop n ts) ∙ ap (λ l. of_each v (elements_view l)) (sym el)

pub place_next : (ss left-ss ts left-ts : List Tree) (s t : Tree) → ss ≡ s ∷ left-ss → ts ≡ t ∷ left-ts
    → by_place (elements_view ss) (elements_view ts) ≡ ask (view s) (view t) ∷ by_place (elements_view left-ss) (elements_view left-ts)
place_next ss left-ss ts left-ts s t e f = ap (λ l. by_place (elements_view l) (elements_view ts)) e ∙ ap (λ l. by_place (elements_view (s ∷ left-ss)) (elements_view l)) f

-- ---- exactly one: the next part passes, and none did before; or it doesn't

pub one_found : (root : Doc) (xs ys : List Ask) (a : Ask) (whole found : Bool) → xs ≡ a ∷ ys → found ≡ false → true ≡ verdict root a.schema a.instance → is_one found (told (verdict root) xs) ≡ whole → is_one true (told (verdict root) ys) ≡ whole
one_found root xs ys a whole found e none h inv = sym (ap (λ f. is_one f (true ∷ told (verdict root) ys)) none) ∙ on (is_one found) root xs ys a whole true e h inv

pub one_passed : (root : Doc) (xs ys : List Ask) (a : Ask) (whole found : Bool) → xs ≡ a ∷ ys → false ≡ verdict root a.schema a.instance → is_one found (told (verdict root) xs) ≡ whole → is_one found (told (verdict root) ys) ≡ whole
one_passed root xs ys a whole found e h inv = sym (one_skips found (told (verdict root) ys)) ∙ on (is_one found) root xs ys a whole false e h inv

-- one of the lists is at its end
pub no_place_left : (ss ts : List Tree) → (length ss ≡ 0) ⊎ (length ts ≡ 0) → [] ≡ by_place (elements_view ss) (elements_view ts)
no_place_left [] ts h = refl
no_place_left (s ∷ ss) [] h = refl
no_place_left (s ∷ ss) (t ∷ ts) h = absurd (⊎_elim (λ (e : length (s ∷ ss) ≡ 0). omega (arith, e)) (λ (e : length (t ∷ ts) ≡ 0). omega (arith, e)) h)
