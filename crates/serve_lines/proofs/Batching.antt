-- Changes of one batch: what they were replied, and what followed them.
use Rattle.std.proofs.Common.{◌≡◌, inl, inr, refl, ap, sym, ◌∙◌, subst, List, [], ◌∷◌, ◌++◌, length, map, replicate, arith, length-append, ℕ, suc, ◌+◌, ◌<◌, ◌≤◌, Option, String, Global, get_or, drop, drop-cons, add-one, append_assoc}
use Rattle.std.proofs.lemmas.List.{append-nil, drop_all}
use Rattle.sector_device.specs.Disk.{Disk}
use Rattle.doc_tree.specs.Doc.{Doc}
use Rattle.doc_machine.specs.Transaction.{Transaction}
use Rattle.doc_changes.specs.Refusals.{plain}
use Rattle.doc_changes.specs.State.{State}
use Rattle.doc_changes.specs.declared.refusal.Refusal.{Refusal}
use Rattle.refusals.specs.declared.numbers.TheConstants.{MEMORY}
use Rattle.recorded_store.specs.Recorded.{Recorded, RecordedView, Records, recorded_of}
use Rattle.store_commits.specs.Account.{Account}
use Rattle.store_commits.specs.Batch.{Commit, IsBatch, changes}
use Rattle.store_commits.specs.Run as store
use Rattle.store_commits.specs.declared.event.Reply.{Reply as StoreReply}
use Rattle.store_commits.specs.Run.{Batched, Ran, reply_of}
use Rattle.store_commits.specs.declared.event.Reply.TheVariants.{Done, Snapped, Pumped, Sealed, Refused}
use Rattle.store_commits.proofs.Modelled.{AreCoherent}
use Rattle.store_commits.proofs.Running.{batch_paired, ran_joined}
use Rattle.protocol.specs.Reply.{refusal_reply}
use Rattle.protocol.specs.Says.{Says}
use Rattle.protocol.specs.declared.reply.Reply.{Reply}
use Rattle.protocol.specs.declared.reply.Reply.TheVariants as shown
use Rattle.serve_lines.specs.LineReplies.{AllSay, BatchIsAnswered, EndsBatch, FollowsBatch, MakesCopyStep, IsRunFrom, key_in, shown_as}
use Rattle.serve_lines.specs.Session.{AreTold, Follows, HasDone, IsTold, WantsStep, key_of, shown_reply}
use Rattle.serve_lines.specs.declared.options.Options.{Options}

pub none_long : {X : Type 0} (xs : List X) → length xs ≡ 0 → xs ≡ []
none_long [] e = refl
none_long (x ∷ xs) e = absurd (omega (arith, e))

-- ---- one reply to each change

pub one_reply_each : (a b : Account) (ts : List Transaction) (rs : List StoreReply) (commits : List Commit) → IsBatch a ts rs commits b → length rs ≡ length ts
one_reply_each a b ts rs commits is = sym (batch_paired a b ts rs commits is)

-- as many as were made
pub made_each : {D : Type 0} (disk : D → Disk) (old mid : RecordedView D) (cs : List Transaction) (said : List StoreReply) → Batched disk old.store mid.store cs said → length said ≡ length cs
made_each disk old mid cs said made = one_reply_each old.account mid.account cs said made.is.commits made.is.batch

-- ---- what a batch led to

module _ {D : Type 0} (disk : D → Disk) (options : Options) where
  -- memory was refused
  pub batch_refused : (old : RecordedView D) (cs : List Transaction) → BatchIsAnswered disk options old cs (map (λ _. refusal_reply (plain MEMORY)) cs) old
  batch_refused old cs = record {
    mid = recorded_of old;
    own = [];
    own_said = [];
    answers = inl (refl, (refl, refl, refl));
    more = [];
    more_said = [];
    follows = inr (λ due. (let none = due.0 in absurd (cc none)), (refl, refl, refl));
    led = inl (refl, refl, refl);
  }

  module _ (old mid : RecordedView D) (cs : List Transaction) (said : List StoreReply) (docs : List Doc) (made : Batched disk old.store mid.store cs said) (recorded : Records (recorded_of old) (changes cs) said (recorded_of mid)) (told : AreTold mid.account.state (map key_of cs) said docs) where
    -- what follows it
    batch_with : (new : RecordedView D) (more : List store.Event) (more_said : List StoreReply) → Follows options said (recorded_of mid) more more_said (recorded_of new) → IsRunFrom disk old (changes cs ++ more) (said ++ more_said) new
        → BatchIsAnswered disk options old cs docs new
    batch_with new more more_said follows led = record {
      mid = recorded_of mid;
      own = changes cs;
      own_said = said;
      answers = inr (made.is.commits, made.is.batch, refl, recorded, told);
      more = more;
      more_said = more_said;
      follows = follows;
      led = led;
    }

    -- nothing follows
    batch_quiet : ((HasDone said × WantsStep options mid.account) → ⊥) → BatchIsAnswered disk options old cs docs mid
    batch_quiet none = batch_with mid [] [] (inr (none, (refl, refl, refl)))
        (inr (subst (λ (es : List store.Event). Ran disk old.store mid.store es (said ++ [])) (sym (append-nil (changes cs)))
        (subst (λ (rs : List StoreReply). Ran disk old.store mid.store (changes cs) rs) (sym (append-nil said)) made.ran)))

    -- some change was done, and a step of a copy follows where one is wanted
    batch_done : (coherent : AreCoherent disk) (new : RecordedView D) → HasDone said → MakesCopyStep disk options mid new → BatchIsAnswered disk options old cs docs new
    batch_done coherent new done h = elim h [
      | inl step ↦
          batch_with new (store.pump options.pump ∷ []) (reply_of Pumped step.1.0 ∷ []) (inl ((done, step.0), (step.1.0, step.1.1, step.1.2, refl, refl)))
          (inr (ran_joined disk coherent old.store mid.store new.store (changes cs) (store.pump options.pump ∷ []) said (reply_of Pumped step.1.0 ∷ []) made.ran step.1.3))
      | inr quiet ↦ subst (λ (v : RecordedView D). BatchIsAnswered disk options old cs docs v) (sym quiet.1) (batch_quiet (λ due. quiet.0 due.1))
    ]

    -- either
    pub batch_behind : (coherent : AreCoherent disk) (new : RecordedView D) → FollowsBatch disk options said mid new → BatchIsAnswered disk options old cs docs new
    batch_behind coherent new h = elim h [
      | inl done ↦ batch_done coherent new done.0 done.1
      | inr none ↦ subst (λ (v : RecordedView D). BatchIsAnswered disk options old cs docs v) (sym none.1) (batch_quiet (λ due. none.0 due.0))
    ]

  -- of changes of which one is the last, the batch was made
  pub batch_of_some : (old new : RecordedView D) (cs : List Transaction) (c : Transaction) (all : List Transaction) (docs : List Doc) → all ≡ cs ++ c ∷ [] → EndsBatch disk options old all docs new
      → BatchIsAnswered disk options old (cs ++ c ∷ []) docs new
  batch_of_some old new cs c all docs is e = elim e [
    | inl none ↦ absurd (omega (arith, length-append cs (c ∷ []), ap length (sym is ∙ none.0)))
    | inr some ↦ subst (λ (l : List Transaction). BatchIsAnswered disk options old l docs new) is some.1
  ]
