-- Batches in runs, and what was done of a batch so far.
use Rattle.std.proofs.Common.{◌≡◌, List, [], ◌∷◌, ◌++◌, length-append, map, refl, sym, ◌∙◌, subst, true, ◌+◌}
use Rattle.std.proofs.lemmas.List.{append_assoc, append-nil}
use Rattle.sector_device.specs.Disk.{Disk}
use Rattle.doc_machine.specs.Transaction.{Transaction}
use Rattle.refusals.specs.declared.numbers.TheConstants.{BROKEN}
use Rattle.doc_changes.specs.Refusals.{plain}
use Rattle.store_commits.specs.Account.{Account, StoreView, IsStanding}
use Rattle.store_commits.specs.Batch.{BatchIsMade, Commit, IsBatch, no_more, stays_broken, changes}
use Rattle.store_commits.specs.Run.{Batched, Event, Lasts, Reply, Refused, a_batch, dones_of, hits_of}
use Rattle.store_commits.specs.Inside.{RanPrefix}
use Rattle.store_commits.proofs.Running.{changes_append, changes_length, lasts_behind, lasts_nothing, made_append, one_done}
use Rattle.store_commits.proofs.Modelled.{AreCoherent}

-- ---- so far

module _ {D : Type 0} (disk : D → Disk) where
  pub batched : (x y : StoreView D) (cs : List Transaction) (rs : List Reply) → RanPrefix disk x y cs rs [] → Batched disk x y cs rs
  batched x y cs rs went =
      let whole = went.goes [] [] y.account (no_more y.account) in
      let is : BatchIsMade disk x cs rs y = record {
        commits = went.commits;
        batch = subst (λ (ks : List Commit). IsBatch x.account cs rs ks y.account) (append-nil went.commits)
            (subst (λ (l : List Reply). IsBatch x.account cs l (went.commits ++ []) y.account) (append-nil rs)
            (subst (λ (l : List Transaction). IsBatch x.account l (rs ++ []) (went.commits ++ []) y.account) (append-nil cs) whole));
        made = went.made;
      } in
      record {
        is = is;
        ran = record { commits = is.commits; run = one_done x.account y.account (changes cs) rs is.commits (a_batch x.account y.account cs rs is.commits is.batch); made = is.made; lasts = went.lasts };
      }

module _ {D : Type 0} (disk : D → Disk) (coherent : AreCoherent disk) where
  -- nothing yet
  pub went_nowhere : (x : StoreView D) (left : List Transaction) → IsStanding (disk x.device) x.account → RanPrefix disk x x [] [] left
  went_nowhere x left standing = record { commits = []; goes = λ rs more end rest. rest; made = refl; paired = refl; lasts = lasts_nothing disk coherent x standing }

  module _ (x y z : StoreView D) (cs ds left : List Transaction) (rs qs : List Reply) (first : RanPrefix disk x y cs rs (ds ++ left)) (second : RanPrefix disk y z ds qs left) where
    goes_both : (more_rs : List Reply) (more : List Commit) (end : Account) → IsBatch z.account left more_rs more end
        → IsBatch x.account ((cs ++ ds) ++ left) ((rs ++ qs) ++ more_rs) ((first.commits ++ second.commits) ++ more) end
    goes_both more_rs more end rest =
        subst (λ (ks : List Commit). IsBatch x.account ((cs ++ ds) ++ left) ((rs ++ qs) ++ more_rs) ks end) (sym (append_assoc first.commits second.commits more))
        (subst (λ (l : List Reply). IsBatch x.account ((cs ++ ds) ++ left) l (first.commits ++ (second.commits ++ more)) end) (sym (append_assoc rs qs more_rs))
        (subst (λ (l : List Transaction). IsBatch x.account l (rs ++ (qs ++ more_rs)) (first.commits ++ (second.commits ++ more)) end) (sym (append_assoc cs ds left))
        (first.goes (qs ++ more_rs) (second.commits ++ more) end (second.goes more_rs more end rest))))

    -- these and those
    pub went_both : RanPrefix disk x z (cs ++ ds) (rs ++ qs) left
    went_both = record {
      commits = first.commits ++ second.commits;
      goes = goes_both;
      made = made_append disk x.device y.device z.device first.commits second.commits first.made second.made;
      paired = length-append cs ds ∙ (λ i. first.paired i + second.paired i) ∙ sym (length-append rs qs);
      lasts = subst (λ (es : List Event). Lasts disk x z (dones_of es (rs ++ qs)) (hits_of es (rs ++ qs))) (sym (changes_append cs ds))
          (lasts_behind disk coherent x y z (changes cs) (changes ds) rs qs (changes_length cs ∙ first.paired) first.lasts second.lasts);
    }

  -- ---- a store that is broken

  module _ (x : StoreView D) (left : List Transaction) (standing : IsStanding (disk x.device) x.account) (broken : x.account.broken ≡ true) where
    one_broken : (c : Transaction) (more : List Transaction) → RanPrefix disk x x (c ∷ []) (Refused (plain BROKEN) ∷ []) more
    one_broken c more = record {
      commits = [];
      goes = λ rs commits end rest. stays_broken x.account end c more rs commits broken rest;
      made = refl;
      paired = refl;
      lasts = lasts_nothing disk coherent x standing;
    }

    pub all_broken : (cs : List Transaction) → RanPrefix disk x x cs (map (λ _. Refused (plain BROKEN)) cs) left
    all_broken [] = went_nowhere x left standing
    all_broken (c ∷ cs) = went_both x x x (c ∷ []) cs left (Refused (plain BROKEN) ∷ []) (map (λ _. Refused (plain BROKEN)) cs) (one_broken c (cs ++ left)) (all_broken cs)
