-- A location of a document that is held in memory can be written as a path and read back.
use Rattle.std.proofs.Common.{◌≡◌, ℕ, zero, suc, ◌<◌, ◌≤◌, ◌^◌, List, [], ◌∷◌, Option, Some, None, option_and_then, Ordering, Less, Equal, Greater, nat_cmp, refl, sym, ap, subst, ◌∙◌, arith, IsUtf8}
use Rattle.std.specs.Cmp.Lexicographic.{slice_cmp}
use Rattle.std.specs.List.{AllByRecursion}
use Rattle.std.specs.Ordering.{match_ordering, is_eq}
use Rattle.std.proofs.lemmas.Map.Text.{is_eq-slice_cmp}
use Rattle.std.proofs.lemmas.Slice.Eq.{bytes_eq-Decides}
use Rattle.doc_tree.specs.Doc.{Doc, null, boolean, int, text, list, object, Elements, no_elements, element, Members, no_members, member, Place, name, index, get_member, get_element, child, at}
use Rattle.doc_tree.specs.Sound.{IsSound, AreSound, MembersAreSound}
use Rattle.doc_tree.proofs.Sizes.{size, elements_size, size-list, size-object, element_within, member_within}
use Rattle.path_parse.specs.QueryOf.{HasUtf8Name, HasExactIndex}

goes_on : {A B : Type 0} (o : Option A) (f : A → Option B) (y : B) → option_and_then f o ≡ Some y → (x : A) × (o ≡ Some x) × (f x ≡ Some y)
goes_on None f y e = absurd cc
goes_on (Some x) f y e = (x, refl, e)

-- an element stands after as many bytes as its index, at least
index_within : (n : ℕ) (e : Doc) (ds : Elements) → get_element n ds ≡ Some e → n < elements_size ds
index_within n e no_elements h = absurd cc
index_within zero e (element d ds) h = omega arith
index_within (suc n) e (element d ds) h = let rest = index_within n e ds h in omega (arith, rest)

element_sound : (n : ℕ) (e : Doc) (ds : Elements) → AreSound ds → get_element n ds ≡ Some e → IsSound e
element_sound n e no_elements sound h = absurd cc
element_sound zero e (element d ds) sound h = let same : d ≡ e = cc in subst IsSound same sound.0
element_sound (suc n) e (element d ds) sound h = element_sound n e ds sound.1 h

names_equal : (k l : List ℕ) → slice_cmp nat_cmp k l ≡ Equal → k ≡ l
names_equal k l e = (bytes_eq-Decides k l).0 (sym (is_eq-slice_cmp k l) ∙ ap is_eq e)

member_sound_at : (o : Ordering) (k l : List ℕ) (d e : Doc) (ms : Members) → slice_cmp nat_cmp k l ≡ o → IsUtf8 l → IsSound d
    → (get_member k ms ≡ Some e → IsUtf8 k × IsSound e)
    → match_ordering o (get_member k ms) (Some d) (get_member k ms) ≡ Some e → IsUtf8 k × IsSound e
member_sound_at Less k l d e ms o utf8 sound rest h = rest h
member_sound_at Equal k l d e ms o utf8 sound rest h = let same : d ≡ e = cc in (subst IsUtf8 (sym (names_equal k l o)) utf8, subst IsSound same sound)
member_sound_at Greater k l d e ms o utf8 sound rest h = rest h

member_sound : (k : List ℕ) (e : Doc) (ms : Members) → MembersAreSound ms → get_member k ms ≡ Some e → IsUtf8 k × IsSound e
member_sound k e no_members sound h = absurd cc
member_sound k e (member l d ms) sound h = member_sound_at (slice_cmp nat_cmp k l) k l d e ms refl sound.0 sound.1 (member_sound k e ms sound.3) h

abbrev Readable : Place → Type 0
Readable p = HasUtf8Name p × HasExactIndex p

child_is : (p : Place) (d e : Doc) → IsSound d → size d ≤ 2 ^ 53 → child p d ≡ Some e → Readable p × IsSound e × (size e ≤ 2 ^ 53)
child_is (name k) (object ms) e sound short h =
    let within = member_within k e ms h in
    let whole = size-object ms in
    let both = member_sound k e ms sound h in
    ((both.0, tt), both.1, omega (arith, within, whole))
child_is (index n) (list ds) e sound short h =
    let below = index_within n e ds h in
    let within = element_within n e ds h in
    let whole = size-list ds in
    ((tt, omega (arith, below, whole)), element_sound n e ds sound h, omega (arith, within, whole))
child_is (name k) null e sound short h = absurd cc
child_is (name k) (boolean b) e sound short h = absurd cc
child_is (name k) (int z) e sound short h = absurd cc
child_is (name k) (text s) e sound short h = absurd cc
child_is (name k) (list ds) e sound short h = absurd cc
child_is (index n) null e sound short h = absurd cc
child_is (index n) (boolean b) e sound short h = absurd cc
child_is (index n) (int z) e sound short h = absurd cc
child_is (index n) (text s) e sound short h = absurd cc
child_is (index n) (object ms) e sound short h = absurd cc

pub location_is : (ps : List Place) (d e : Doc) → IsSound d → size d ≤ 2 ^ 53 → at ps d ≡ Some e → AllByRecursion HasUtf8Name ps × AllByRecursion HasExactIndex ps
location_is [] d e sound short h = (tt, tt)
location_is (p ∷ ps) d e sound short h =
    let step = goes_on (child p d) (at ps) e h in
    let here = child_is p d step.0 sound short step.1 in
    let rest = location_is ps step.0 e here.1 here.2 step.2 in
    ((here.0.0, rest.0), (here.0.1, rest.1))
