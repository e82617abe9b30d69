-- Members that are taken out of others, and what a line says of a mark by them.
use Rattle.std.proofs.Common.{◌≡◌, ℕ, Bool, true, false, List, length, Option, Some, None, option_map, String, Global, string_bytes, string_cmp, nat_cmp, is_eq, bytes_eq, cond, codes, Ordering, Less, Equal, Greater, arith, refl, sym, ap, ap₂, ◌∙◌, subst, append_assoc, ◌++◌, ◌∷◌, []}
use Rattle.std.specs.Cmp.Lexicographic.{slice_cmp}
use Rattle.std.specs.Map.{lookup, remove_entry}
use Rattle.std.specs.Ordering.{match_ordering}
use Rattle.std.specs.BTreeMap.{insert_entry, is_at}
use Rattle.std.proofs.lemmas.Cmp.{nat_list_cmp_total, tied_itself}
use Rattle.std.proofs.lemmas.Map.Text.{is_eq-slice_cmp}
use Rattle.std.proofs.lemmas.Slice.Eq.{bytes_eq-Decides}
use Rattle.name_map.specs.Entries.{named}
use Rattle.doc_tree.specs.Doc.{Doc, Members, get_member, member, no_members, object, put}
use Rattle.doc_tree.specs.TreeView.{members_view, view}
use Rattle.doc_tree.specs.declared.tree.Tree.{Tree}
use Rattle.doc_tree.proofs.Members.{get_member-later, get_member-put, get_member-put_other}
use Rattle.doc_tree.proofs.Views.{Entry, members_view-insert_entry, view-lookup}
use Rattle.record_text.specs.Change.{command_object, create, delete, patch, set_schema}
use Rattle.doc_machine.specs.Marking.{Marking}
use Rattle.doc_machine.specs.Transaction.{Changes, alone, marked, several, single, together}
use Rattle.protocol.specs.Marks.{asked_value, mark_object, put_some, with_marking}
use Rattle.protocol.specs.Read.{IsMarked, IsRequest, TakesOut, asked_by}
use Rattle.protocol.specs.Request as asked
use Rattle.protocol.specs.Request.{AreInRange, IsInRange, IsObjectOf, change, members_of, object_of}
use Rattle.protocol.specs.declared.request.Request.{Request}

same_name : (k : List ℕ) → slice_cmp nat_cmp k k ≡ Equal
same_name k = tied_itself nat_list_cmp_total k

names_equal : (k l : List ℕ) → slice_cmp nat_cmp k l ≡ Equal → k ≡ l
names_equal k l e = (bytes_eq-Decides k l).0 (sym (is_eq-slice_cmp k l) ∙ ap is_eq e)

-- ---- members without one of them

-- the members without the first of that name
abbrev omit : List ℕ → Members → Members
omit k no_members = no_members
omit k (member l e ms) = match_ordering (slice_cmp nat_cmp k l) (member l e (omit k ms)) ms (member l e (omit k ms))

omit_put_at : (o : Ordering) (k l : List ℕ) (d e : Doc) (ms : Members) → slice_cmp nat_cmp k l ≡ o → match_ordering o (get_member k ms) (Some e) (get_member k ms) ≡ None
    → (get_member k ms ≡ None → omit k (put k d ms) ≡ ms) → omit k (match_ordering o (member k d (member l e ms)) (member l d ms) (member l e (put k d ms))) ≡ member l e ms
omit_put_at Less k l d e ms is none later = rw same_name
omit_put_at Equal k l d e ms is none later = absurd (cc none)
omit_put_at Greater k l d e ms is none later = rw is (ap (member l e) (later none))

-- what was put in goes, and the others stay
omit_put : (k : List ℕ) (d : Doc) (ms : Members) → get_member k ms ≡ None → omit k (put k d ms) ≡ ms
omit_put k d no_members none = rw same_name
omit_put k d (member l e ms) none = omit_put_at (slice_cmp nat_cmp k l) k l d e ms refl none (λ later. omit_put k d ms later)

omit_none_at : (o : Ordering) (k l : List ℕ) (e : Doc) (ms : Members) → match_ordering o (get_member k ms) (Some e) (get_member k ms) ≡ None → (get_member k ms ≡ None → omit k ms ≡ ms)
    → match_ordering o (member l e (omit k ms)) ms (member l e (omit k ms)) ≡ member l e ms
omit_none_at Less k l e ms none later = ap (member l e) (later none)
omit_none_at Equal k l e ms none later = absurd (cc none)
omit_none_at Greater k l e ms none later = ap (member l e) (later none)

-- none goes that isn't there
omit_none : (k : List ℕ) (ms : Members) → get_member k ms ≡ None → omit k ms ≡ ms
omit_none k no_members none = refl
omit_none k (member l e ms) none = omit_none_at (slice_cmp nat_cmp k l) k l e ms none (λ later. omit_none k ms later)

omit_other_at : (o : Ordering) (q k l : List ℕ) (e : Doc) (ms : Members) → slice_cmp nat_cmp k l ≡ o → (q ≡ k → ⊥) → get_member q (omit k ms) ≡ get_member q ms
    → get_member q (match_ordering o (member l e (omit k ms)) ms (member l e (omit k ms))) ≡ get_member q (member l e ms)
omit_other_at Less q k l e ms is other later = ap (λ r. match_ordering (slice_cmp nat_cmp q l) r (Some e) r) later
omit_other_at Equal q k l e ms is other later = sym (get_member-later q l e ms (λ (h : q ≡ l). other (h ∙ sym (names_equal k l is))))
omit_other_at Greater q k l e ms is other later = ap (λ r. match_ordering (slice_cmp nat_cmp q l) r (Some e) r) later

-- the other names keep their values
omit_other : (q k : List ℕ) (ms : Members) → (q ≡ k → ⊥) → get_member q (omit k ms) ≡ get_member q ms
omit_other q k no_members other = refl
omit_other q k (member l e ms) other = omit_other_at (slice_cmp nat_cmp k l) q k l e ms refl other (omit_other q k ms other)

-- ---- one that is put in, or none

value_there : (name : List ℕ) (value : Option Doc) (left : Members) → get_member name left ≡ None → get_member name (put_some name value left) ≡ value
value_there name None left none = none
value_there name (Some d) left none = get_member-put name d left

left_there : (name : List ℕ) (value : Option Doc) (left : Members) → get_member name left ≡ None → omit name (put_some name value left) ≡ left
left_there name None left none = omit_none name left none
left_there name (Some d) left none = omit_put name d left none

-- members are made so in one way
taken_once : (name : List ℕ) (v w : Option Doc) (ms ns : Members) → get_member name ms ≡ None → get_member name ns ≡ None → put_some name v ms ≡ put_some name w ns → (v ≡ w) × (ms ≡ ns)
taken_once name v w ms ns none none_too is = (
  sym (value_there name v ms none) ∙ ap (get_member name) is ∙ value_there name w ns none_too,
  sym (left_there name v ms none) ∙ ap (omit name) is ∙ left_there name w ns none_too,
)

-- ---- entries of a map

gone_at : (o : Ordering) (e : Entry) (es fs : List Entry) (m : Members) → members_view fs ≡ m
    → members_view (cond (is_eq o) es (e ∷ fs)) ≡ match_ordering o (member (string_bytes e.0) (view e.1) m) (members_view es) (member (string_bytes e.0) (view e.1) m)
gone_at Less e es fs m h = ap (member (string_bytes e.0) (view e.1)) h
gone_at Equal e es fs m h = refl
gone_at Greater e es fs m h = ap (member (string_bytes e.0) (view e.1)) h

gone : (name : List ℕ) (es : List Entry) → members_view (remove_entry (is_at (named name)) es) ≡ omit name (members_view es)
gone name [] = refl
gone name (e ∷ es) = gone_at (slice_cmp nat_cmp name (string_bytes e.0)) e es _ _ (gone name es)

-- none is taken out if none is there
pub takes_none : (name : List ℕ) (old new : List Entry) → None ≡ lookup (is_at (named name)) old → new ≡ remove_entry (is_at (named name)) old → TakesOut name (members_view old) None (members_view new)
takes_none name old new absent left =
    let none : get_member name (members_view old) ≡ None = sym (view-lookup name old) ∙ ap (option_map view) (sym absent) in
    let same : members_view new ≡ members_view old = ap members_view left ∙ gone name old ∙ omit_none name (members_view old) none in
    (ap (get_member name) same ∙ none, sym same)

-- the entry that was taken out, and that would make the map what it was, has that name
has_name : (name : List ℕ) (old new : List Entry) (k : String Global) (t : Tree) → new ≡ remove_entry (is_at (named name)) old → insert_entry string_cmp new k t ≡ old → lookup (is_at (named (string_bytes k))) new ≡ None
    → string_bytes k ≡ name
has_name name old new k t left back absent = go (bytes_eq (string_bytes k) name) refl
  where
    go : (b : Bool) → bytes_eq (string_bytes k) name ≡ b → string_bytes k ≡ name
    go true e = (bytes_eq-Decides (string_bytes k) name).0 e
    go false e =
        let other : string_bytes k ≡ name → ⊥ = λ h. (let both : false ≡ true = sym e ∙ (bytes_eq-Decides (string_bytes k) name).1 h in absurd (cc both)) in
        let none : get_member (string_bytes k) (members_view new) ≡ None = sym (view-lookup (string_bytes k) new) ∙ ap (option_map view) absent in
        let stays : get_member (string_bytes k) (members_view new) ≡ get_member (string_bytes k) (members_view old) =
        ap (λ (es : List Entry). get_member (string_bytes k) (members_view es)) left ∙ ap (get_member (string_bytes k)) (gone name old) ∙ omit_other (string_bytes k) name (members_view old) other in
        let there : get_member (string_bytes k) (members_view old) ≡ Some (view t) =
        ap (λ (es : List Entry). get_member (string_bytes k) (members_view es)) (sym back) ∙ ap (get_member (string_bytes k)) (members_view-insert_entry new k t) ∙ get_member-put (string_bytes k) (view t) (members_view new) in
        let both : None ≡ Some (view t) = sym none ∙ stays ∙ there in
        absurd (cc both)

pub takes_one : (name : List ℕ) (old new : List Entry) (k : String Global) (t : Tree) → new ≡ remove_entry (is_at (named name)) old → insert_entry string_cmp new k t ≡ old → lookup (is_at (named (string_bytes k))) new ≡ None
    → TakesOut name (members_view old) (Some (view t)) (members_view new)
takes_one name old new k t left back absent =
    let same = has_name name old new k t left back absent in
    let none : get_member (string_bytes k) (members_view new) ≡ None = sym (view-lookup (string_bytes k) new) ∙ ap (option_map view) absent in
    let whole : members_view old ≡ put (string_bytes k) (view t) (members_view new) = ap members_view (sym back) ∙ members_view-insert_entry new k t in
    (subst (λ (n : List ℕ). get_member n (members_view new) ≡ None) same none, subst (λ (n : List ℕ). members_view old ≡ put n (view t) (members_view new)) same whole)

-- ---- what changes say of marks

no_if_mark : (cs : Changes) → get_member (codes "if_mark") (members_of cs) ≡ None
no_if_mark (alone (create name schema doc)) = refl
no_if_mark (alone (patch name ops None)) = refl
no_if_mark (alone (patch name ops (Some r))) = refl
no_if_mark (alone (set_schema name schema)) = refl
no_if_mark (alone (delete name)) = refl
no_if_mark (together cs) = refl

no_mark : (cs : Changes) → get_member (codes "mark") (members_of cs) ≡ None
no_mark (alone (create name schema doc)) = refl
no_mark (alone (patch name ops None)) = refl
no_mark (alone (patch name ops (Some r))) = refl
no_mark (alone (set_schema name schema)) = refl
no_mark (alone (delete name)) = refl
no_mark (together cs) = refl

-- they are two names
apart : codes "mark" ≡ codes "if_mark" → ⊥
apart is = let long = ap length is in omega (arith, long)

no_mark_asked : (value : Option Doc) (cs : Changes) → get_member (codes "mark") (put_some (codes "if_mark") value (members_of cs)) ≡ None
no_mark_asked None cs = no_mark cs
no_mark_asked (Some d) cs = get_member-put_other (codes "mark") (codes "if_mark") d (members_of cs) apart ∙ no_mark cs

-- what stands at `if_mark` and the changes beside it are known from the members
pub asked_once : (value : Option Doc) (ms left : Members) (m : Marking) (cs : Changes) → TakesOut (codes "if_mark") ms value left → ms ≡ put_some (codes "if_mark") (asked_value m.asked) (members_of cs)
    → (value ≡ asked_value m.asked) × (left ≡ members_of cs)
asked_once value ms left m cs takes is = taken_once (codes "if_mark") value (asked_value m.asked) left (members_of cs) takes.0 (no_if_mark cs) (sym takes.1 ∙ is)

-- ---- the request of members of which one is `mark`

module _ (ms left : Members) (at_mark : Doc) (takes : TakesOut (codes "mark") ms (Some at_mark) left) where
  there : get_member (codes "mark") ms ≡ Some at_mark
  there = ap (get_member (codes "mark")) takes.1 ∙ get_member-put (codes "mark") at_mark left

  -- it is none whose object has no such member
  not_so : (ns : Members) → object ms ≡ object ns → get_member (codes "mark") ns ≡ None → ⊥
  not_so ns is none =
      let same : ms ≡ ns = cc is in
      let both : Some at_mark ≡ None = sym there ∙ ap (get_member (codes "mark")) same ∙ none in
      absurd (cc both)

  only_marked : IsMarked at_mark left None → (r : asked.Request) → IsObjectOf (object ms) r → ⊥
  only_marked none (change (marked m cs)) is =
      let same : ms ≡ with_marking m (members_of cs) = cc is.0 in
      let once = taken_once (codes "mark") (Some at_mark) (Some (mark_object m.key m.value)) left (put_some (codes "if_mark") (asked_value m.asked) (members_of cs)) takes.0 (no_mark_asked (asked_value m.asked) cs) (sym takes.1 ∙ same) in
      let mark : at_mark ≡ mark_object m.key m.value = cc once.0 in
      none m cs mark once.1 is.1
  only_marked none (change (single c)) is = not_so (members_of (alone c)) is.0 (no_mark (alone c))
  only_marked none (change (several cs)) is = not_so (members_of (together cs)) is.0 (no_mark (together cs))
  only_marked none (asked.get name path) is = not_so _ is.0 refl
  only_marked none (asked.get_schema name) is = not_so _ is.0 refl
  only_marked none (asked.rev name) is = not_so _ is.0 refl
  only_marked none (asked.mark key) is = not_so _ is.0 refl
  only_marked none (asked.query name path) is = not_so _ is.0 refl
  only_marked none (asked.changes from most) is = not_so _ is.0 refl
  only_marked none asked.list is = not_so _ is.0 refl
  only_marked none asked.status is = not_so _ is.0 refl
  only_marked none asked.snapshot is = not_so _ is.0 refl
  only_marked none (asked.pump most) is = not_so _ is.0 refl
  only_marked none asked.seal is = not_so _ is.0 refl

  -- it is the one with that mark
  pub marked_is : (o : Option Request) → IsMarked at_mark left o → IsRequest (object ms) o
  marked_is None h = only_marked h
  marked_is (Some request) h =
      let members : ms ≡ with_marking h.0 (members_of h.1) = takes.1 ∙ (λ i. put (codes "mark") (h.3 i) (h.4 i)) in
      subst (λ (r : asked.Request). IsObjectOf (object ms) r) (sym h.2) (ap object members, h.5)
