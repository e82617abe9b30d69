-- What a name leads to among members, before and after a member is put there.
use Rattle.std.proofs.Common.{◌≡◌, ℕ, List, Option, Some, Bool, true, false, true≢false, Ordering, Less, Equal, Greater, nat_cmp, is_eq, bytes_eq, refl, sym, ap, ◌∙◌, subst}
use Rattle.std.proofs.lemmas.Cmp.{nat_list_cmp_total, tied_itself}
use Rattle.std.proofs.lemmas.Map.Text.{is_eq-slice_cmp}
use Rattle.std.proofs.lemmas.Slice.Eq.{bytes_eq-Decides}
use Rattle.std.specs.Cmp.Lexicographic.{slice_cmp}
use Rattle.std.specs.Ordering.{match_ordering, ordering_reverse}
use Rattle.std.specs.Str.{IsUtf8}
use Rattle.doc_tree.specs.Doc.{Doc, Members, no_members, member, put, get_member}
use Rattle.doc_tree.specs.Sound.{IsBefore, IsSound, MembersAreSound}

same_name : (k : List ℕ) → slice_cmp nat_cmp k k ≡ Equal
same_name k = tied_itself nat_list_cmp_total k

either : (o : Ordering) (a b : Option Doc) → is_eq o ≡ false → match_ordering o a b a ≡ a
either Less a b e = refl
either Equal a b e = absurd (true≢false e)
either Greater a b e = refl

differ : (k l : List ℕ) (b : Bool) → bytes_eq k l ≡ b → (k ≡ l → ⊥) → b ≡ false
differ k l true e other = absurd (other ((bytes_eq-Decides k l).0 e))
differ k l false e other = refl

names_equal : (k l : List ℕ) → slice_cmp nat_cmp k l ≡ Equal → k ≡ l
names_equal k l e = (bytes_eq-Decides k l).0 (sym (is_eq-slice_cmp k l) ∙ ap is_eq e)

-- ---- looking up

pub get_member-first : (k : List ℕ) (d : Doc) (ms : Members) → get_member k (member k d ms) ≡ Some d
get_member-first k d ms = rw same_name

pub get_member-later : (k l : List ℕ) (d : Doc) (ms : Members) → (k ≡ l → ⊥) → get_member k (member l d ms) ≡ get_member k ms
get_member-later k l d ms other = either (slice_cmp nat_cmp k l) _ _ (is_eq-slice_cmp k l ∙ differ k l _ refl other)

get_member-put_at : (o : Ordering) (k l : List ℕ) (d e : Doc) (ms : Members) → slice_cmp nat_cmp k l ≡ o → get_member k (put k d ms) ≡ Some d
    → get_member k (match_ordering o (member k d (member l e ms)) (member l d ms) (member l e (put k d ms))) ≡ Some d
get_member-put_at Less k l d e ms is later = rw same_name
get_member-put_at Equal k l d e ms is later = rw is
get_member-put_at Greater k l d e ms is later = rw is later

-- what was put at a name is found there
pub get_member-put : (k : List ℕ) (d : Doc) (ms : Members) → get_member k (put k d ms) ≡ Some d
get_member-put k d no_members = rw same_name
get_member-put k d (member l e ms) = get_member-put_at _ k l d e ms refl (get_member-put k d ms)

get_member-put_other_at : (o : Ordering) (q k l : List ℕ) (d e : Doc) (ms : Members) → slice_cmp nat_cmp k l ≡ o → (q ≡ k → ⊥) → get_member q (put k d ms) ≡ get_member q ms
    → get_member q (match_ordering o (member k d (member l e ms)) (member l d ms) (member l e (put k d ms))) ≡ get_member q (member l e ms)
get_member-put_other_at Less q k l d e ms is other later = get_member-later q k d (member l e ms) other
get_member-put_other_at Equal q k l d e ms is other later =
    let same = names_equal k l is in
    let apart = λ (h : q ≡ l). other (h ∙ sym same) in
    get_member-later q l d ms apart ∙ sym (get_member-later q l e ms apart)
get_member-put_other_at Greater q k l d e ms is other later = ap (λ r. match_ordering (slice_cmp nat_cmp q l) r (Some e) r) later

-- the other names keep their values
pub get_member-put_other : (q k : List ℕ) (d : Doc) (ms : Members) → (q ≡ k → ⊥) → get_member q (put k d ms) ≡ get_member q ms
get_member-put_other q k d no_members other = get_member-later q k d no_members other
get_member-put_other q k d (member l e ms) other = get_member-put_other_at _ q k l d e ms refl other (get_member-put_other q k d ms other)

-- ---- soundness

IsSound-get_member_at : (o : Ordering) (k l : List ℕ) (d e : Doc) (ms : Members) → IsSound e → (get_member k ms ≡ Some d → IsSound d) → match_ordering o (get_member k ms) (Some e) (get_member k ms) ≡ Some d → IsSound d
IsSound-get_member_at Less k l d e ms h later found = later found
IsSound-get_member_at Equal k l d e ms h later found = let same : e ≡ d = cc in subst IsSound same h
IsSound-get_member_at Greater k l d e ms h later found = later found

-- a member of sound members is sound
pub IsSound-get_member : (k : List ℕ) (d : Doc) (ms : Members) → MembersAreSound ms → get_member k ms ≡ Some d → IsSound d
IsSound-get_member k d no_members h found = absurd (cc)
IsSound-get_member k d (member l e ms) h found = IsSound-get_member_at (slice_cmp nat_cmp k l) k l d e ms h.1 (IsSound-get_member k d ms h.3) found

IsBefore-lower : (k l : List ℕ) (ms : Members) → slice_cmp nat_cmp k l ≡ Less → IsBefore l ms → IsBefore k ms
IsBefore-lower k l no_members less h = tt
IsBefore-lower k l (member m d ms) less h = (nat_list_cmp_total.trans k l m less h.0, IsBefore-lower k l ms less h.1)

less_than : (k l : List ℕ) → slice_cmp nat_cmp k l ≡ Greater → slice_cmp nat_cmp l k ≡ Less
less_than k l e = nat_list_cmp_total.antisymm l k ∙ ap ordering_reverse e

IsBefore-put_at : (o : Ordering) (q k l : List ℕ) (d e : Doc) (ms : Members) → slice_cmp nat_cmp q k ≡ Less → slice_cmp nat_cmp q l ≡ Less → IsBefore q ms → IsBefore q (put k d ms)
    → IsBefore q (match_ordering o (member k d (member l e ms)) (member l d ms) (member l e (put k d ms)))
IsBefore-put_at Less q k l d e ms first next h later = (first, (next, h))
IsBefore-put_at Equal q k l d e ms first next h later = (next, h)
IsBefore-put_at Greater q k l d e ms first next h later = (next, later)

IsBefore-put : (q k : List ℕ) (d : Doc) (ms : Members) → slice_cmp nat_cmp q k ≡ Less → IsBefore q ms → IsBefore q (put k d ms)
IsBefore-put q k d no_members less h = (less, tt)
IsBefore-put q k d (member l e ms) less h = IsBefore-put_at (slice_cmp nat_cmp k l) q k l d e ms less h.0 h.1 (IsBefore-put q k d ms less h.1)

MembersAreSound-put_at : (o : Ordering) (k l : List ℕ) (d e : Doc) (ms : Members) → slice_cmp nat_cmp k l ≡ o → IsUtf8 k → IsSound d → MembersAreSound (member l e ms) → MembersAreSound (put k d ms)
    → MembersAreSound (match_ordering o (member k d (member l e ms)) (member l d ms) (member l e (put k d ms)))
MembersAreSound-put_at Less k l d e ms is utf8 sound h later = (utf8, sound, (is, IsBefore-lower k l ms is h.2), h)
MembersAreSound-put_at Equal k l d e ms is utf8 sound h later = (h.0, sound, h.2, h.3)
MembersAreSound-put_at Greater k l d e ms is utf8 sound h later = (h.0, h.1, IsBefore-put l k d ms (less_than k l is) h.2, later)

-- sound members stay so with a sound document put at a name
pub MembersAreSound-put : (k : List ℕ) (d : Doc) (ms : Members) → IsUtf8 k → IsSound d → MembersAreSound ms → MembersAreSound (put k d ms)
MembersAreSound-put k d no_members utf8 sound h = (utf8, sound, tt, tt)
MembersAreSound-put k d (member l e ms) utf8 sound h = MembersAreSound-put_at (slice_cmp nat_cmp k l) k l d e ms refl utf8 sound h (MembersAreSound-put k d ms utf8 sound h.3)
