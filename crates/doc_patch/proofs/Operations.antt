-- Operations and the refusals of a patch.
use Rattle.std.proofs.Common.{◌≡◌, ◌≢◌, ◌⊎◌, inl, inr, ℕ, suc, min, nat_lt, length, take, drop, drop-cons, get_or, ◌<◌, arith, List, [], ◌∷◌, ◌++◌, append_assoc, String, string_bytes, Global, true, false, Result, Ok, Err, refl, sym, ap, ◌∙◌, subst}
use Rattle.std.specs.Cmp.Derive.Mapped.{pointwise-map}
use Rattle.std.specs.Cmp.Lexicographic.{pointwise}
use Rattle.std.proofs.lemmas.Bool.Decides.{nat_tests}
use Rattle.std.proofs.lemmas.List.{take-map}
use Rattle.std.specs.List.{starts_with}
use Rattle.std.specs.Str.{bytes_eq}
use Rattle.std.specs.String.{string_eq}
use Rattle.doc_tree.specs.Doc.{Doc, list, Elements, element}
use Rattle.doc_edits.proofs.Tokens.{tokens_len}
use Rattle.doc_edits.specs.Change.{tokens_of}
use Rattle.doc_patch.specs.Fault.{IsFaultOf, no_memory}
use Rattle.doc_edits.specs.Operation.{Operation, op}
use Rattle.doc_patch.specs.Patch.{patch_from, fault_at}
use Rattle.doc_edits.specs.OperationFault.{IsOperationFaultOf}
use Rattle.doc_patch.specs.Reading.{operation_of, operations_from, or_fault, prepend, is_within, is_too_long, operations_in, operations_of}
use Rattle.doc_edits.specs.Meaning.{meaning}
use Rattle.doc_patch.specs.Meaning.{meanings}
use Rattle.doc_edits.specs.declared.operation.Operation as held
use Rattle.doc_tree.specs.TreeView.{view, elements_view}
use Rattle.doc_tree.specs.declared.tree.Tree.{Tree}
use Rattle.doc_edits.specs.declared.fault.OperationFault.{OperationFault}
use Rattle.doc_patch.specs.declared.fault.PatchFault.{PatchFault}
use Rattle.refusals.specs.declared.numbers.TheConstants.{MEMORY}

-- what `OperationFault::at` answers
abbrev pub At : OperationFault → ℕ → PatchFault → Type 0
At e i f = ((e.number ≢ MEMORY) × (f ≡ fault_at e.number i)) ⊎ ((e.number ≡ MEMORY) × (f ≡ no_memory))

pub refused_at : (i : ℕ) (o : Operation) (os : List Operation) (d : Doc) (e : OperationFault) (f : PatchFault) → IsOperationFaultOf (op o d) e → At e i f → IsFaultOf (patch_from i (o ∷ os) d) f
refused_at i o os d e f (inl is) (inl at) = inl (rw is (ap Err (sym at.1)))
refused_at i o os d e f (inr memory) (inl at) = absurd (at.0 memory)
refused_at i o os d e f is (inr none) = inr none.1

pub unread_at : (i : ℕ) (d : Doc) (ds : Elements) (e : OperationFault) (f : PatchFault) → IsOperationFaultOf (operation_of d) e → At e i f → IsFaultOf (operations_from i (element d ds)) f
unread_at i d ds e f (inl is) (inl at) = inl (rw is (ap Err (sym at.1)))
unread_at i d ds e f (inr memory) (inl at) = absurd (at.0 memory)
unread_at i d ds e f is (inr none) = inr none.1

-- operations before those that are still to be read
abbrev pub prepended : List Operation → Result (List Operation) PatchFault → Result (List Operation) PatchFault
prepended os (Err e) = Err e
prepended os (Ok ls) = Ok (os ++ ls)

prepended_one : (os : List Operation) (o : Operation) (r : Result (List Operation) PatchFault) → prepended (os ++ o ∷ []) r ≡ prepended os (prepend o r)
prepended_one os o (Err e) = refl
prepended_one os o (Ok ls) = ap Ok (append_assoc os (o ∷ []) ls)

-- one more is read
pub read_one : (i : ℕ) (os : List Operation) (o : Operation) (d : Doc) (ds : Elements) → operation_of d ≡ Ok o → prepended (os ++ o ∷ []) (operations_from (suc i) ds) ≡ prepended os (operations_from i (element d ds))
read_one i os o d ds is = prepended_one os o (operations_from (suc i) ds) ∙ ap (λ r. prepended os (or_fault i r (operations_from (suc i) ds))) (sym is)

pub unread_after : (os : List Operation) (r : Result (List Operation) PatchFault) (f : PatchFault) → IsFaultOf r f → IsFaultOf (prepended os r) f
unread_after os r f (inl is) = inl (ap (prepended os) is)
unread_after os r f (inr none) = inr none

-- the i-th of the operations that are left is refused
pub refused_in : (i : ℕ) (os : List held.Operation) (o : held.Operation) (d : Doc) (e : OperationFault) (f : PatchFault) → i < length os → o ≡ get_or os i o → IsOperationFaultOf (op (meaning o) d) e → At e i f
    → IsFaultOf (patch_from i (meanings (drop i os)) d) f
refused_in i os o d e f less is refused at =
    let left : drop i os ≡ o ∷ drop (suc i) os = drop-cons os i o less ∙ ap (λ x. x ∷ drop (suc i) os) (sym is) in
    subst (λ l. IsFaultOf (patch_from i (meanings l) d) f) (sym left) (refused_at i (meaning o) (meanings (drop (suc i) os)) d e f refused at)

-- the i-th of the elements that are left is no operation
pub unread_in : (i : ℕ) (done : List Operation) (ts : List Tree) (t : Tree) (e : OperationFault) (f : PatchFault) → i < length ts → t ≡ get_or ts i t → IsOperationFaultOf (operation_of (view t)) e → At e i f
    → IsFaultOf (prepended done (operations_from i (elements_view (drop i ts)))) f
unread_in i done ts t e f less is refused at =
    let left : drop i ts ≡ t ∷ drop (suc i) ts = drop-cons ts i t less ∙ ap (λ x. x ∷ drop (suc i) ts) (sym is) in
    unread_after done _ f (subst (λ l. IsFaultOf (operations_from i (elements_view l)) f) (sym left) (unread_at i (view t) (elements_view (drop (suc i) ts)) e f refused at))

-- a list within the limits
pub read_of_list : (d : Doc) (ds : Elements) → is_too_long d ≡ false → d ≡ list ds → operations_of d ≡ operations_from 0 ds
read_of_list d ds short is = rw short (ap operations_in is)

-- ---- places inside places

pub above_capped : (h m : ℕ) → m ≡ min h 0xffff_ffff_ffff_ffff → nat_lt 66 m ≡ nat_lt 66 h
above_capped h m e = grind (arith, nat_tests)

starts : (from path : List (String Global)) → starts_with bytes_eq (tokens_of path) (tokens_of from) ≡ starts_with string_eq path from
starts from path =
    ap (λ n. pointwise bytes_eq (tokens_of from) (take n (tokens_of path))) (tokens_len from) ∙ ap (pointwise bytes_eq (tokens_of from)) (take-map string_bytes (length from) path) ∙ pointwise-map string_bytes bytes_eq from (take (length from) path)

pub inside : (from path : List (String Global)) → starts_with string_eq path from ≡ true → nat_lt (length from) (length path) ≡ is_within (tokens_of from) (tokens_of path)
inside from path e = rw (starts from path ∙ e, tokens_len from, tokens_len path) refl

pub not_inside : (from path : List (String Global)) → starts_with string_eq path from ≡ false → false ≡ is_within (tokens_of from) (tokens_of path)
not_inside from path e = rw (starts from path ∙ e) refl
