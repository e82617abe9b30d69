-- A session that ends with a seal: what was kept is kept, and the store went by one run.
use Rattle.std.proofs.Common.{◌≡◌, inl, inr, List, [], ◌++◌, ap₂, ℕ, subst}
use Rattle.sector_device.specs.Disk.{Disk}
use Rattle.doc_tree.specs.Doc.{Doc}
use Rattle.doc_machine.specs.Transaction.{Transaction}
use Rattle.store_commits.specs.Account.{StoreView}
use Rattle.store_commits.specs.Run.{Event, Lasts, Ran, dones_of, hits_of}
use Rattle.store_commits.specs.declared.event.Reply.{Reply}
use Rattle.doc_store.specs.Promise.{KeepsPromise}
use Rattle.doc_store.proofs.Promised.{promise_goes_on}
use Rattle.recorded_store.specs.Recorded.{RecordedView}
use Rattle.serve_lines.specs.Serve.{IsSession}
use Rattle.serve_lines.specs.declared.options.Options.{Options}
use Rattle.file_programs.specs.Files.{RanSomeEvents}
use Rattle.jpstore.specs.Seals.{IsSealedAtEnd}

module _ {D : Type 0} (disk : D → Disk) (old mid : RecordedView D) (new : StoreView D) (sealed : IsSealedAtEnd disk old.store mid.store new) where
  none_done : dones_of sealed.events sealed.said ≡ []
  none_done = elim sealed.how [
    | inl wanted ↦ ap₂ dones_of wanted.1.2 wanted.1.3
    | inr none ↦ ap₂ dones_of none.1 none.2
  ]

  none_hit : hits_of sealed.events sealed.said ≡ []
  none_hit = elim sealed.how [
    | inl wanted ↦ ap₂ hits_of wanted.1.2 wanted.1.3
    | inr none ↦ ap₂ hits_of none.1 none.2
  ]

  lasts : Lasts disk mid.store new [] []
  lasts = subst (λ (ts : List Transaction). Lasts disk mid.store new ts []) none_done (subst (Lasts disk mid.store new (dones_of sealed.events sealed.said)) none_hit sealed.ran.lasts)

  module _ (options : Options) (lines : List (List ℕ)) (replies : List Doc) (session : IsSession disk options old lines replies mid) where
    -- what the session promised is kept
    pub promise_on : (done hit : List Transaction) → KeepsPromise disk old.store mid.store done hit → KeepsPromise disk old.store new done hit
    promise_on done hit promise = promise_goes_on disk old.store mid.store new done hit promise session.ran.lasts.honest.0 session.ran.lasts.rides_is lasts

    -- its events, and the seal, are one run
    pub went_on : ((x y z : StoreView D) (es fs : List Event) (rs qs : List Reply) → Ran disk x y es rs → Ran disk y z fs qs → Ran disk x z (es ++ fs) (rs ++ qs)) → RanSomeEvents disk old.store new
    went_on join = record {
      events = session.events ++ sealed.events;
      replies = session.said ++ sealed.said;
      ran = join old.store mid.store new session.events sealed.events session.said sealed.said session.ran sealed.ran;
    }
