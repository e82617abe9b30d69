-- A machine refuses by no number of a device.
use Rattle.std.proofs.Common.{◌≡◌, ℕ, suc, ◌<◌, ◌&&◌, if◌then◌else◌, Bool, true, false, cond, List, [], ◌∷◌, ◌++◌, Option, None, Some, Result, Ok, Err, MatchResult, arith, length, not, is_some, nat_lt, nat_le, nat_eq, sym, subst, inl, inr, option_map, option_and_then}
use Rattle.std.specs.Bool.{⊤}
use Rattle.std.specs.Cmp.Lexicographic.{pointwise}
use Rattle.std.specs.List.{AllByRecursion}
use Rattle.std.specs.Result.{result_err}
use Rattle.std.specs.Str.{bytes_eq}
use Rattle.doc_tree.specs.Text.{text_of}
use Rattle.doc_tree.specs.Doc.{Doc, height, Elements, no_elements, element, list}
use Rattle.doc_tree.specs.Same.{same}
use Rattle.doc_pointer.specs.Place.{resolve}
use Rattle.doc_pointer.specs.Reading.{pointer_of}
use Rattle.doc_edits.specs.Edit as edit
use Rattle.doc_edits.specs.Edit.{Tokens}
use Rattle.doc_edits.specs.Operation.{Operation, add, remove, replace, move, copy, test, or_missing, and_then, moved, change, op}
use Rattle.doc_edits.specs.Limits.{within_limits}
use Rattle.doc_patch.specs.Patch.{go_on, patch_from}
use Rattle.doc_patch.specs.Reading.{Spelling, with_value, with_path, with_from, is_within, not_into_itself, checked, meant, or_shape, spelling, operation_of, prepend, or_fault, operations_from, operations_in, is_too_long, operations_of, fault_of}
use Rattle.doc_patch.specs.declared.fault.PatchFault.{PatchFault}
use Rattle.refusals.specs.declared.numbers.TheConstants.{PATCH_LONG, PATCH_INTO_ITSELF, PATCH_TEST, DEPTH, TOO_LARGE, SCHEMA_FORM, SCHEMA_KEYWORD, SCHEMA_LOOP, SCHEMA_REF, SCHEMA_SIZE, MEMORY, FULL, NAME, NO_DOCUMENT, EXISTS, TOO_MANY, INVALID, SEQ_END}
use Rattle.doc_patch.specs.declared.limits.TheConstants.{DOCUMENT_BYTES, DOCUMENT_HEIGHT}
use Rattle.doc_schema.specs.Faults.{is_too_large, is_malformed, is_marred, is_looped, first_number, first_fault}
use Rattle.doc_schema.specs.declared.defects.Defect.TheVariants.{LeftOut, Reference}
use Rattle.schema_rules.specs.declared.profile.Profile.{Profile}
use Rattle.record_text.specs.Change.{Change, create, patch, set_schema, delete}
use Rattle.doc_changes.specs.Judged.{RefusesIn}
use Rattle.doc_changes.specs.Patched.{patched, made_by, or_refused, on_made}
use Rattle.doc_changes.specs.Refusals.{refused_if, first, plain, of_patch, other_revision}
use Rattle.doc_changes.specs.State.{Document, State, find, most_documents}
use Rattle.doc_changes.specs.Names.{is_name}
use Rattle.doc_changes.specs.Step.{IsOwn, Refuses, refusals_in, refusal_of, refusal_at, patch_refusal, outcome_refusal, invalid_refusal, revision_refusal, seq_refusal, name_refusal, absent_refusal}
use Rattle.doc_changes.specs.Schema.{schema_refusal, is_valid}
use Rattle.doc_changes.specs.declared.limits.TheConstants.{LAST_SEQ}
use Rattle.doc_changes.specs.declared.refusal.Refusal.{Refusal}

-- ---- patches

abbrev Small : {A : Type 0} → Result A ℕ → Type 0
Small r = MatchResult r (λ _. ⊤) (λ n. n < FULL)

abbrev Smaller : {A : Type 0} → Result A PatchFault → Type 0
Smaller r = MatchResult r (λ _. ⊤) (λ f. f.number < FULL)

small-or_missing : (o : Option Doc) → Small (or_missing o)
small-or_missing None = omega arith
small-or_missing (Some d) = tt

small-and_then : (r : Result Doc ℕ) (f : Doc → Result Doc ℕ) → Small r → ((d : Doc) → Small (f d)) → Small (and_then r f)
small-and_then (Err n) f h g = h
small-and_then (Ok d) f h g = g d

small_if : (b : Bool) (n : ℕ) (r : Result Doc ℕ) → n < FULL → Small r → Small (cond b (Err n) r)
small_if true n r h g = h
small_if false n r h g = g

small_unless : (b : Bool) (n : ℕ) (d : Doc) → n < FULL → Small (cond b (Ok d) (Err n))
small_unless true n d h = tt
small_unless false n d h = h

small-moved : (from path : Tokens) (d v : Doc) → Small (moved from path d v)
small-moved from path d v =
    elim (pointwise bytes_eq from path) as (λ b. Small (cond b (Ok d) (and_then (or_missing (edit.remove from d)) (λ e. or_missing (edit.add path v e))))) [
      | true ↦ tt
      | false ↦ small-and_then (or_missing (edit.remove from d)) _ (small-or_missing _) (λ e. small-or_missing (edit.add path v e))
    ]

small-change : (o : Operation) (d : Doc) → Small (change o d)
small-change (add path v) d = small-or_missing _
small-change (remove []) d = omega arith
small-change (remove (t ∷ ts)) d = small-or_missing _
small-change (replace path v) d = small-or_missing _
small-change (move from path) d = small-and_then (or_missing (resolve from d)) _ (small-or_missing _) (small-moved from path d)
small-change (copy from path) d = small-and_then (or_missing (resolve from d)) _ (small-or_missing _) (λ v. small-or_missing (edit.add path v d))
small-change (test path v) d = small-and_then (or_missing (resolve path d)) _ (small-or_missing _) (λ e. small_unless (same e v) PATCH_TEST d (omega arith))

small-within_limits : (d : Doc) → Small (within_limits d)
small-within_limits d =
    let long = nat_lt DOCUMENT_BYTES (length (text_of d)) in
    small_if (nat_lt DOCUMENT_HEIGHT (height d)) DEPTH (cond long (Err TOO_LARGE) (Ok d)) (omega arith) (small_if long TOO_LARGE (Ok d) (omega arith) tt)

smaller-patch_from : (i : ℕ) (os : List Operation) (d : Doc) → Smaller (patch_from i os d)
smaller-patch_from i [] d = tt
smaller-patch_from i (o ∷ os) d = by (op o d) (small-and_then (change o d) within_limits (small-change o d) small-within_limits) (λ e. smaller-patch_from (suc i) os e)
  where
    by : (r : Result Doc ℕ) → Small r → ((e : Doc) → Smaller (patch_from (suc i) os e)) → Smaller (go_on i r (patch_from (suc i) os))
    by (Err n) h rest = h
    by (Ok e) h rest = rest e

small-not_into_itself : (o : Operation) → Small (not_into_itself o)
small-not_into_itself (move from path) = elim (is_within from path) as (λ b. Small (cond b (Err PATCH_INTO_ITSELF) (Ok (move from path)))) [ true ↦ omega arith | false ↦ tt ]
small-not_into_itself _ = tt

small-checked : (o : Option Operation) → Small (checked o)
small-checked None = omega arith
small-checked (Some o) = small-not_into_itself o

small-meant : (s : Spelling) → Small (meant s)
small-meant (with_value f path v) = small-checked (option_map (λ p. f p v) (pointer_of path))
small-meant (with_path f path) = small-checked (option_map f (pointer_of path))
small-meant (with_from f from path) = small-checked (option_and_then (λ p. option_map (λ q. f q p) (pointer_of from)) (pointer_of path))

small-or_shape : (s : Option Spelling) → Small (or_shape s)
small-or_shape None = omega arith
small-or_shape (Some s) = small-meant s

smaller-prepend : (o : Operation) (r : Result (List Operation) PatchFault) → Smaller r → Smaller (prepend o r)
smaller-prepend o (Err e) h = h
smaller-prepend o (Ok os) h = tt

smaller-or_fault : (i : ℕ) (r : Result Operation ℕ) (rest : Result (List Operation) PatchFault) → Small r → Smaller rest → Smaller (or_fault i r rest)
smaller-or_fault i (Err n) rest h g = h
smaller-or_fault i (Ok o) rest h g = smaller-prepend o rest g

smaller-operations_from : (i : ℕ) (ds : Elements) → Smaller (operations_from i ds)
smaller-operations_from i no_elements = tt
smaller-operations_from i (element d ds) = smaller-or_fault i (operation_of d) _ (small-or_shape (spelling d)) (smaller-operations_from (suc i) ds)

smaller-operations_in : (d : Doc) → Smaller (operations_in d)
smaller-operations_in (list ds) = smaller-operations_from 0 ds
smaller-operations_in _ = omega arith

smaller-operations_of : (d : Doc) → Smaller (operations_of d)
smaller-operations_of d = elim (is_too_long d) as (λ b. Smaller (cond b (Err (fault_of PATCH_LONG)) (operations_in d))) [ true ↦ omega arith | false ↦ smaller-operations_in d ]

-- ---- refusals

-- where there is one it is the machine's own
abbrev MayBe : Option Refusal → Type 0
MayBe None = ⊤
MayBe (Some r) = IsOwn r

below : (r : Refusal) → r.number < FULL → IsOwn r
below r h = ((λ e. omega (arith, h, e)), (λ e. omega (arith, h, e)), (λ e. omega (arith, h, e)))

may-or_refused : (r : Result Doc PatchFault) → Smaller r → MayBe (result_err (or_refused r))
may-or_refused (Ok d) h = tt
may-or_refused (Err f) h = below (of_patch f) h

may-made_by : (r : Result (List Operation) PatchFault) (d : Doc) → Smaller r → MayBe (result_err (made_by r d))
may-made_by (Ok os) d h = may-or_refused (patch_from 0 os d) (smaller-patch_from 0 os d)
may-made_by (Err f) d h = below (of_patch f) h

may-first : (rs : List (Option Refusal)) → AllByRecursion MayBe rs → MayBe (first rs)
may-first [] h = tt
may-first (None ∷ rs) h = may-first rs h.1
may-first (Some r ∷ rs) h = h.0

may-append : (rs : List (Option Refusal)) (r : Option Refusal) → AllByRecursion MayBe rs → MayBe r → AllByRecursion MayBe (rs ++ r ∷ [])
may-append [] r h g = (g, tt)
may-append (x ∷ rs) r h g = (h.0, may-append rs r h.1 g)

may_if : (b : Bool) (n : ℕ) → IsOwn (plain n) → MayBe (refused_if b n)
may_if true n h = h
may_if false n h = tt

may_if_below : (b : Bool) (n : ℕ) → n < FULL → MayBe (refused_if b n)
may_if_below b n h = may_if b n (below (plain n) h)

may_at : (f : Document → Option Refusal) (o : Option Document) → ((d : Document) → MayBe (f d)) → MayBe (refusal_at f o)
may_at f None h = tt
may_at f (Some d) h = h d

may-on_made : (f : Doc → Option Refusal) (r : Result Doc Refusal) → ((d : Doc) → MayBe (f d)) → MayBe (on_made f r)
may-on_made f (Ok d) h = h d
may-on_made f (Err r) h = tt

may_invalid : (schema doc : Doc) → MayBe (invalid_refusal schema doc)
may_invalid schema doc = may_if_below (not (is_valid schema doc)) INVALID (omega arith)

may_name : (name : List ℕ) → MayBe (name_refusal name)
may_name name = may_if_below (not (is_name name)) NAME (omega arith)

may_absent : (ds : List Document) (name : List ℕ) → MayBe (absent_refusal ds name)
may_absent ds name = may_if_below (not (is_some (find name ds))) NO_DOCUMENT (omega arith)

may_first_number : (rows : List (Bool × ℕ)) → AllByRecursion (λ row. row.1 < FULL) rows → MayBe (option_map plain (first_number rows))
may_first_number [] h = tt
may_first_number (row ∷ rows) h =
    elim row.0 as (λ b. MayBe (option_map plain (cond b (Some row.1) (first_number rows)))) [ true ↦ below (plain row.1) h.0 | false ↦ may_first_number rows h.1 ]

may_schema : (profile : Profile) (schema : Doc) → MayBe (schema_refusal profile schema)
unfolding schema_refusal first_fault
may_schema profile schema =
    may_first_number
    ((is_too_large profile schema, SCHEMA_SIZE) ∷ (is_malformed profile schema, SCHEMA_FORM) ∷ (is_marred profile LeftOut schema, SCHEMA_KEYWORD) ∷ (is_marred profile Reference schema, SCHEMA_REF) ∷ (is_looped schema, SCHEMA_LOOP) ∷ [])
    (omega arith, (omega arith, (omega arith, (omega arith, (omega arith, tt)))))

may_other : (b : Bool) (revision : ℕ) → MayBe (if b then None else Some (other_revision revision))
may_other true revision = tt
may_other false revision = below (other_revision revision) (omega arith)

may_revision : (if_rev : Option ℕ) (revision : ℕ) → MayBe (revision_refusal if_rev revision)
may_revision None revision = tt
may_revision (Some asked) revision = may_other (nat_eq asked revision && nat_le asked 0x7fff_ffff_ffff_ffff) revision

may_seq : (n : ℕ) → MayBe (seq_refusal n)
may_seq n = may_if (nat_eq n LAST_SEQ) SEQ_END ((λ e. omega (arith, e)), (λ e. omega (arith, e)), (λ e. omega (arith, e)))

may_alone : (profile : Profile) (ds : List Document) (c : Change) → AllByRecursion MayBe (refusals_in profile ds c)
may_alone profile ds (create name schema doc) = (
  may_name name,
  (
    may_if_below (is_some (find name ds)) EXISTS (omega arith),
    (
      may_if_below (nat_le (most_documents profile) (length ds)) TOO_MANY (omega arith),
      (
        may_schema profile schema,
        (
          may_if_below (nat_lt DOCUMENT_HEIGHT (height doc)) DEPTH (omega arith),
          (
            may_if_below (nat_lt DOCUMENT_BYTES (length (text_of doc))) TOO_LARGE (omega arith),
            (may_invalid schema doc, tt),
          ),
        ),
      ),
    ),
  ),
)
may_alone profile ds (patch name ops if_rev) = (
  may_name name,
  (
    may_absent ds name,
    (
      may_at (λ d. revision_refusal if_rev d.revision) (find name ds) (λ d. may_revision if_rev d.revision),
      (
        may_at (patch_refusal ops) (find name ds) (λ d. may-made_by (operations_of ops) d.doc (smaller-operations_of ops)),
        (may_at (outcome_refusal ops) (find name ds) (λ d. may-on_made (invalid_refusal d.schema) (patched ops d.doc) (may_invalid d.schema)), tt),
      ),
    ),
  ),
)
may_alone profile ds (set_schema name schema) =
    (may_name name, (may_absent ds name, (may_schema profile schema, (may_at (λ d. invalid_refusal schema d.doc) (find name ds) (λ d. may_invalid schema d.doc), tt))))
may_alone profile ds (delete name) = (may_name name, (may_absent ds name, tt))

-- each refusal of a state is the machine's own
pub own_refusal : (s : State) (c : Change) (r : Refusal) → refusal_of s c ≡ Some r → IsOwn r
own_refusal s c r h =
    subst MayBe h (may-first (refusals_in s.profile s.documents c ++ seq_refusal s.seq ∷ []) (may-append (refusals_in s.profile s.documents c) (seq_refusal s.seq) (may_alone s.profile s.documents c) (may_seq s.seq)))

-- and so is want of memory
pub own_memory : (r : Refusal) → r ≡ plain MEMORY → IsOwn r
own_memory r is = subst IsOwn (sym is) ((λ e. omega (arith, e)), (λ e. omega (arith, e)), (λ e. omega (arith, e)))

pub own : (s : State) (c : Change) (r : Refusal) → Refuses s c r → IsOwn r
own s c r (inl memory) = own_memory r memory
own s c r (inr h) = own_refusal s c r h

-- before seq is looked at
pub own_alone : (profile : Profile) (ds : List Document) (c : Change) (r : Refusal) → RefusesIn profile ds c r → IsOwn r
own_alone profile ds c r (inl memory) = own_memory r memory
own_alone profile ds c r (inr h) = subst MayBe h (may-first (refusals_in profile ds c) (may_alone profile ds c))
