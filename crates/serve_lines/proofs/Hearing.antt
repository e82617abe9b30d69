-- What is known of a session over pieces: its start, its lines so far, and what a crash leaves.
use Rattle.std.proofs.Common.{◌≡◌, ℕ, List, [], ◌∷◌, ◌++◌, refl, false, sym, ap, ◌∙◌, subst, map, append_assoc}
use Rattle.std.proofs.lemmas.List.{append-nil}
use Rattle.sector_device.specs.Disk.{Disk, Image}
use Rattle.doc_tree.specs.Doc.{Doc}
use Rattle.doc_machine.specs.Transaction.{Transaction, transaction_of}
use Rattle.doc_machine.specs.declared.transaction.Transaction.{Transaction as Held}
use Rattle.store_journal.specs.Models.{model}
use Rattle.recorded_store.specs.Recorded.{RecordedView, recorded_of}
use Rattle.store_commits.specs.Account.{IsStanding}
use Rattle.store_commits.proofs.Modelled.{AreCoherent}
use Rattle.store_commits.specs.Folds.{StandsAfter}
use Rattle.store_commits.specs.Run.{hits_of}
use Rattle.protocol.specs.Lines.{answered, ended}
use Rattle.protocol.specs.LineBuffer.{Holds}
use Rattle.protocol.specs.Says.{Says}
use Rattle.protocol.specs.declared.reply.Reply.{Reply}
use Rattle.serve_lines.specs.Progress.{HasCut, HasAnswered, HasEnded, HasRead, KeepsLines, waiting_in}
use Rattle.serve_lines.specs.LineReplies.{AllSay}
use Rattle.serve_lines.specs.declared.session.Session.{Session}
use Rattle.serve_lines.specs.declared.options.Options.{Options}
use Rattle.serve_lines.specs.Serve.{IsSession}
use Rattle.serve_lines.proofs.Saying.{says_none}
use Rattle.serve_lines.proofs.Ending.{reaches_more, reaches_start, settles_ended}

-- the first of the replies that are ready says the first of their documents
pub record First (reply : Reply) (rest : List Reply) (docs : List Doc) : Type 0 where
  pub said : Doc
  pub more : List Doc
  pub docs_are : docs ≡ said ∷ more
  pub says : Says reply said
  pub others : AllSay rest more

pub first_says : (reply : Reply) (rest : List Reply) (docs : List Doc) → AllSay (reply ∷ rest) docs → First reply rest docs
first_says reply rest [] h = absurd h
first_says reply rest (said ∷ more) h = record { said = said; more = more; docs_are = refl; says = h.0; others = h.1 }

module _ {D : Type 0} (disk : D → Disk) (options : Options) where
  -- The replies that were given, where none is ready, are those of a session over the lines that have ended, but for those whose changes wait.
  pub settles_heard : (start : RecordedView D) (read : List ℕ) (now : RecordedView D) (session : Session) (replies : List Doc) → session.ready.items ≡ [] → HasRead disk options start read now session replies
      → HasAnswered disk options start (answered (ended read)) now replies (waiting_in session)
  settles_heard start read now session replies none s =
      let no_more : replies ++ s.ready ≡ replies = ap (λ (l : List Doc). replies ++ l) (says_none s.ready (subst (λ (l : List Reply). AllSay l s.ready) none s.says)) ∙ append-nil replies in
      subst (λ (rs : List Doc). HasAnswered disk options start (answered (ended read)) now rs (waiting_in session)) no_more
      (settles_ended disk options start read now (replies ++ s.ready) (waiting_in session) s.rest s.kept.whole s.reached)

  -- what a crash leaves now: each image stands for the store's state, and where the store works for nothing else
  pub stands_heard : (start : RecordedView D) (read : List ℕ) (now : RecordedView D) (session : Session) (replies : List Doc) → HasRead disk options start read now session replies
      → (disk start.device).honest → start.account.broken ≡ false → (image : Image) → (model start.account.rides (disk now.device)).left image
      → (hits : List Transaction) × StandsAfter now.account.state hits image × (now.account.broken ≡ false → hits ≡ [])
  stands_heard start read now is replies s honest working image left =
      let session = s.reached.settles.session in
      let lasts = session.ran.lasts in
      (hits_of session.events session.said, lasts.at_end honest working image left, lasts.none_in_doubt)

  -- one more of the replies that were ready is given
  pub hears_given : (start : RecordedView D) (read : List ℕ) (now : RecordedView D) (was is : Session) (replies : List Doc) (reply : Reply) → was.ready.items ≡ reply ∷ is.ready.items → KeepsLines was is
      → HasRead disk options start read now was replies → (said : Doc) × Says reply said × HasRead disk options start read now is (replies ++ said ∷ [])
  hears_given start read now was is replies reply given same s =
      let first = first_says reply is.ready.items s.ready (subst (λ (l : List Reply). AllSay l s.ready) given s.says) in
      let all : replies ++ s.ready ≡ (replies ++ first.said ∷ []) ++ first.more = ap (λ (l : List Doc). replies ++ l) first.docs_are ∙ sym (append_assoc replies (first.said ∷ []) first.more) in
      let waiting : waiting_in was ≡ waiting_in is = sym (ap (λ v. map transaction_of v.items) same.waiting) in (
        first.said,
        first.says,
        record {
          rest = s.rest;
          ready = first.more;
          reached = subst (λ (cs : List Transaction). HasCut disk options start read now ((replies ++ first.said ∷ []) ++ first.more) cs s.rest) waiting
              (subst (λ (rs : List Doc). HasCut disk options start read now rs (waiting_in was) s.rest) all s.reached);
          kept = subst (λ l. Holds l s.rest) (sym same.line) s.kept;
          goes_by = same.options ∙ s.goes_by;
          says = first.others;
        },
      )

  -- none was ready
  pub hears_same : (start : RecordedView D) (read : List ℕ) (now : RecordedView D) (was is : Session) (replies : List Doc) → was.ready.items ≡ [] → is.ready.items ≡ [] → KeepsLines was is
      → HasRead disk options start read now was replies → HasRead disk options start read now is replies
  hears_same start read now was is replies none still same s = record {
    rest = s.rest;
    ready = s.ready;
    reached = subst (λ (cs : List Transaction). HasCut disk options start read now (replies ++ s.ready) cs s.rest) (sym (ap (λ v. map transaction_of v.items) same.waiting)) s.reached;
    kept = subst (λ l. Holds l s.rest) (sym same.line) s.kept;
    goes_by = same.options ∙ s.goes_by;
    says = subst (λ (l : List Reply). AllSay l s.ready) (none ∙ sym still) s.says;
  }

  -- the same once the input has ended
  pub ended_given : (start : RecordedView D) (lines : List (List ℕ)) (now : RecordedView D) (was is : Session) (replies : List Doc) (reply : Reply) → was.ready.items ≡ reply ∷ is.ready.items
      → HasEnded disk options start lines now was replies → (said : Doc) × Says reply said × HasEnded disk options start lines now is (replies ++ said ∷ [])
  ended_given start lines now was is replies reply given s =
      let first = first_says reply is.ready.items s.ready (subst (λ (l : List Reply). AllSay l s.ready) given s.says) in
      let all : replies ++ s.ready ≡ (replies ++ first.said ∷ []) ++ first.more = ap (λ (l : List Doc). replies ++ l) first.docs_are ∙ sym (append_assoc replies (first.said ∷ []) first.more) in
      (first.said, first.says, record { ready = first.more; session = subst (λ (rs : List Doc). IsSession disk options start lines rs now) all s.session; says = first.others })

  -- and where none is ready any more
  pub ended_all : (start : RecordedView D) (lines : List (List ℕ)) (now : RecordedView D) (session : Session) (replies : List Doc) → session.ready.items ≡ [] → HasEnded disk options start lines now session replies
      → IsSession disk options start lines replies now
  ended_all start lines now session replies none s =
      subst (λ (rs : List Doc). IsSession disk options start lines rs now) (ap (λ (l : List Doc). replies ++ l) (says_none s.ready (subst (λ (l : List Reply). AllSay l s.ready) none s.says)) ∙ append-nil replies) s.session

module _ {D : Type 0} (disk : D → Disk) (options : Options) (coherent : AreCoherent disk) where
  -- A session for which nothing waits may begin anew at any store: what it holds is all that it has read.
  pub hears_start : (start : RecordedView D) (session : Session) (so_far : List ℕ) → IsStanding (disk start.device) start.account → session.options ≡ options → session.waiting.items ≡ [] → session.ready.items ≡ []
      → Holds session.line so_far → HasRead disk options start so_far start session []
  hears_start start session so_far standing by none_waits none_ready kept = record {
    rest = so_far;
    ready = [];
    reached = subst (λ (items : List Held). HasCut disk options start so_far start [] (map transaction_of items) so_far) (sym none_waits)
        (reaches_more disk options start [] start [] [] [] so_far (reaches_start disk options coherent start standing));
    kept = kept;
    goes_by = by;
    says = subst (λ (l : List Reply). AllSay l []) (sym none_ready) tt;
  }
