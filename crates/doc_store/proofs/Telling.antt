-- What a part tells goes on by one event.
use Rattle.std.proofs.Common.{◌≡◌, ◌⊎◌, inl, inr, ◌+◌, List, [], ◌∷◌, ◌++◌, length, map, refl, sym, ◌∙◌, ap, subst, true, false, Bool, ℕ}
use Rattle.std.proofs.lemmas.List.{append_assoc, append-nil, length-append}
use Rattle.sector_device.specs.Disk.{Disk}
use Rattle.doc_machine.specs.Transaction.{Transaction, transaction_of}
use Rattle.store_commits.specs.Account.{StoreView, IsStanding}
use Rattle.store_commits.specs.Events.{done_by, hit_by}
use Rattle.store_commits.specs.Run.{Event, Ran, dones_of, hits_of}
use Rattle.store_commits.specs.declared.event.Reply.{Reply}
use Rattle.doc_store.specs.Lives.{TellsNothing, accepted_of, replies_of}
use Rattle.doc_store.specs.Ending.{Told}
use Rattle.doc_store.specs.declared.life.Part.{Part}
use Rattle.store_commits.proofs.Modelled.{AreCoherent}
use Rattle.store_commits.proofs.Running.{dones_append, hits_append, ran_joined, ran_nothing, run_paired}

shuffled : (D H d h : List Transaction) → (H ≡ []) ⊎ (d ≡ []) → ((D ++ H) ++ d) ++ h ≡ (D ++ d) ++ (H ++ h)
shuffled D H d h (inl none) = rw none (simp append-nil)
shuffled D H d h (inr none) = rw none (simp (append-nil, append_assoc))

none_front : (xs ys : List Transaction) → xs ++ ys ≡ [] → xs ≡ []
none_front [] ys none = refl
none_front (x ∷ xs) ys none = absurd (cc none)

module _ {D : Type 0} (disk : D → Disk) (coherent : AreCoherent disk) where
  pub told_nothing : (x : StoreView D) (p : Part) → TellsNothing p → IsStanding (disk x.device) x.account → Told disk x x [] p
  told_nothing x p untold standing = record {
    ran = subst (λ (rs : List Reply). Ran disk x x [] rs) (sym untold.replies) (ran_nothing disk coherent x standing);
    accepted = ap (map transaction_of) untold.accepted;
    acknowledged = untold.acknowledged;
  }

  module _ (start mid end : StoreView D) (es : List Event) (e : Event) (r : Reply) (p q : Part) (told : Told disk start mid es p) (one : Ran disk mid end (e ∷ []) (r ∷ [])) where
    paired : length es ≡ length (replies_of p)
    paired = run_paired start.account mid.account es (replies_of p) told.ran.commits told.ran.run

    one_or_none : (b : Bool) → mid.account.broken ≡ b → (hits_of es (replies_of p) ≡ []) ⊎ (done_by e r ≡ [])
    one_or_none false is = inl (told.ran.lasts.none_in_doubt is)
    one_or_none true is = inr (sym (append-nil (done_by e r)) ∙ none_front (dones_of (e ∷ []) (r ∷ [])) (hits_of (e ∷ []) (r ∷ [])) (one.lasts.still is).1)

    pub told_more : replies_of q ≡ replies_of p ++ r ∷ [] → accepted_of q ≡ (accepted_of p ++ done_by e r) ++ hit_by e r → q.acknowledged ≡ p.acknowledged + length (done_by e r)
        → Told disk start end (es ++ e ∷ []) q
    told_more replies accepted acknowledged =
        let rs = replies_of p in
        let ds = dones_of es rs in
        let hs = hits_of es rs in
        let dones : ds ++ done_by e r ≡ dones_of (es ++ e ∷ []) (rs ++ r ∷ []) = ap (λ (l : List Transaction). ds ++ l) (sym (append-nil (done_by e r))) ∙ sym (dones_append es (e ∷ []) rs (r ∷ []) paired) in
        let hits : hs ++ hit_by e r ≡ hits_of (es ++ e ∷ []) (rs ++ r ∷ []) = ap (λ (l : List Transaction). hs ++ l) (sym (append-nil (hit_by e r))) ∙ sym (hits_append es (e ∷ []) rs (r ∷ []) paired) in
        record {
          ran = subst (λ (l : List Reply). Ran disk start end (es ++ e ∷ []) l) (sym replies) (ran_joined disk coherent start mid end es (e ∷ []) rs (r ∷ []) told.ran one);
          accepted = accepted ∙ ap (λ (l : List Transaction). (l ++ done_by e r) ++ hit_by e r) told.accepted ∙ shuffled ds hs (done_by e r) (hit_by e r) (one_or_none mid.account.broken refl)
              ∙ rw replies (λ i. dones i ++ hits i);
          acknowledged = acknowledged ∙ ap (λ (n : ℕ). n + length (done_by e r)) told.acknowledged ∙ sym (length-append ds (done_by e r)) ∙ rw replies (ap length dones);
        }
