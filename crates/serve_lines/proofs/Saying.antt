-- The replies to the transactions of a batch, and what they say.
use Rattle.std.proofs.Common.{◌≡◌, inl, inr, refl, ap, sym, ◌∙◌, subst, ℕ, zero, suc, ◌+◌, ◌<◌, ◌≤◌, List, [], ◌∷◌, ◌++◌, length, map, replicate, drop, drop-cons, get_or, add-one, append_assoc, arith, Option, String, Global}
use Rattle.std.proofs.lemmas.List.{append-nil, drop_all}
use Rattle.doc_tree.specs.Doc.{Doc}
use Rattle.doc_machine.specs.Transaction.{Transaction}
use Rattle.doc_changes.specs.State.{State}
use Rattle.doc_changes.specs.declared.refusal.Refusal.{Refusal}
use Rattle.store_commits.specs.declared.event.Reply.{Reply as StoreReply}
use Rattle.store_commits.specs.declared.event.Reply.TheVariants.{Done, Snapped, Pumped, Sealed, Refused}
use Rattle.protocol.specs.Reply.{refusal_reply}
use Rattle.protocol.specs.Says.{Says}
use Rattle.protocol.specs.declared.reply.Reply.{Reply}
use Rattle.protocol.specs.declared.reply.Reply.TheVariants as shown
use Rattle.serve_lines.specs.LineReplies.{AllSay, key_in, shown_as}
use Rattle.serve_lines.specs.Session.{AreTold, IsTold, shown_reply}

pub says_append : (xs ys : List Reply) (a b : List Doc) → AllSay xs a → AllSay ys b → AllSay (xs ++ ys) (a ++ b)
says_append [] ys [] b h k = k
says_append [] ys (d ∷ a) b h k = absurd h
says_append (x ∷ xs) ys [] b h k = absurd h
says_append (x ∷ xs) ys (d ∷ a) b h k = (h.0, says_append xs ys a b h.1 k)

-- no reply says nothing
pub says_none : (docs : List Doc) → AllSay [] docs → docs ≡ []
says_none [] h = refl
says_none (d ∷ docs) h = absurd h

-- a reply of the store, as a session's
pub says_shown : (said : StoreReply) → Says (shown_as said) (shown_reply said)
says_shown (Done seq) = refl
says_shown (Snapped used) = refl
says_shown (Pumped step) = refl
says_shown Sealed = refl
says_shown (Refused refusal) = refl

-- one refusal to each
pub says_refused : (refusal : Refusal) (cs : List Transaction) → AllSay (replicate (length cs) (shown.Refused refusal)) (map (λ _. refusal_reply refusal) cs)
says_refused refusal [] = tt
says_refused refusal (c ∷ cs) = (refl, says_refused refusal cs)

-- what is left of a list begins with the one at the place
begins : {X : Type 0} (xs : List X) (i : ℕ) (x : X) → i < length xs → x ≡ get_or xs i x → drop i xs ≡ x ∷ drop (i + 1) xs
begins xs i x low at = rw add-one (drop-cons xs i x low ∙ ap (λ y. y ∷ drop (suc i) xs) (sym at))

-- the one at a place, whatever is taken beyond the end
pub get_or_any : {X : Type 0} (xs : List X) (i : ℕ) (d e : X) → i < length xs → get_or xs i d ≡ get_or xs i e
get_or_any [] i d e low = absurd (omega arith)
get_or_any (x ∷ xs) zero d e low = refl
get_or_any (x ∷ xs) (suc i) d e low = get_or_any xs i d e (omega arith)

-- one more is told
pub one_told : (s : State) (keys : List (Option (String Global))) (said : List StoreReply) (i : ℕ) (key : Option (String Global)) (one : StoreReply) → i < length keys → i < length said
    → key ≡ get_or keys i key → one ≡ get_or said i one → (replies : List Doc)
    → ((more : List Doc) → AreTold s (map key_in (drop i keys)) (drop i said) more → AreTold s (map key_in keys) said (replies ++ more)) → (reply : Doc) → IsTold s (key_in key) one reply
    → (more : List Doc) → AreTold s (map key_in (drop (i + 1) keys)) (drop (i + 1) said) more → AreTold s (map key_in keys) said ((replies ++ reply ∷ []) ++ more)
one_told s keys said i key one low low_too at at_too replies before reply told more later =
    let here : AreTold s (map key_in (drop i keys)) (drop i said) (reply ∷ more) =
    subst (λ (ks : List (Option (String Global))). AreTold s (map key_in ks) (drop i said) (reply ∷ more)) (sym (begins keys i key low at))
    (subst (λ (rs : List StoreReply). AreTold s (key_in key ∷ map key_in (drop (i + 1) keys)) rs (reply ∷ more)) (sym (begins said i one low_too at_too)) (told, later)) in
    subst (λ (ds : List Doc). AreTold s (map key_in keys) said ds) (sym (append_assoc replies (reply ∷ []) more)) (before (reply ∷ more) here)

-- all are
pub all_told : (s : State) (keys : List (Option (String Global))) (said : List StoreReply) (i : ℕ) → length keys ≤ i → length said ≤ i → (replies : List Doc)
    → ((more : List Doc) → AreTold s (map key_in (drop i keys)) (drop i said) more → AreTold s (map key_in keys) said (replies ++ more)) → AreTold s (map key_in keys) said replies
all_told s keys said i past past_too replies before =
    let none : AreTold s (map key_in (drop i keys)) (drop i said) [] =
    subst (λ (ks : List (Option (String Global))). AreTold s (map key_in ks) (drop i said) []) (sym (drop_all i keys past))
    (subst (λ (rs : List StoreReply). AreTold s [] rs []) (sym (drop_all i said past_too)) tt) in
    subst (λ (ds : List Doc). AreTold s (map key_in keys) said ds) (append-nil replies) (before [] none)
