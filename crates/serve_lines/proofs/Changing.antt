-- The answer to a request for the transactions after a change.
use Rattle.std.proofs.Common.{◌≡◌, ◌≤◌, ◌<◌, ℕ, List, length, MatchOption, Option, None, Some, option_map, ap, cond, sym, ◌∙◌}
use Rattle.std.proofs.lemmas.Bool.{le-leb, lt-leb}
use Rattle.change_history.specs.History.{Told, first_within}
use Rattle.doc_tree.specs.Doc.{Doc}
use Rattle.doc_tree.specs.Text.{text_of}
use Rattle.doc_changes.specs.Refusals.{plain}
use Rattle.doc_machine.specs.Transaction.{Transaction}
use Rattle.doc_store.specs.Formats.{status_of}
use Rattle.refusals.specs.declared.numbers.TheConstants.{REPLY_LONG}
use Rattle.told_transactions.specs.Told.{AreReadable, told_each}
use Rattle.recorded_store.specs.Recorded.{Recorded}
use Rattle.protocol.specs.Changes.{changes_reply, gone_reply}
use Rattle.protocol.specs.Reply.{refusal_reply}
use Rattle.protocol.specs.declared.limits.TheConstants.{REPLY_BYTES}
use Rattle.status_lines.specs.Status.{id_of}
use Rattle.serve_lines.specs.Session.{told_reply}

module _ (identity : Option (List ℕ)) (seq from : ℕ) (ts : List Transaction) where
  pub told_within : length (text_of (changes_reply identity seq from ts)) ≤ REPLY_BYTES → told_reply identity seq from ts ≡ changes_reply identity seq from ts
  told_within h =
      ap (λ b. cond b (changes_reply identity seq from ts) (refusal_reply (plain REPLY_LONG))) (le-leb (length (text_of (changes_reply identity seq from ts))) REPLY_BYTES h)

  pub told_beyond : REPLY_BYTES < length (text_of (changes_reply identity seq from ts)) → told_reply identity seq from ts ≡ refusal_reply (plain REPLY_LONG)
  told_beyond h =
      ap (λ b. cond b (changes_reply identity seq from ts) (refusal_reply (plain REPLY_LONG))) (lt-leb (length (text_of (changes_reply identity seq from ts))) REPLY_BYTES h)

module _ (old : Recorded) (from most : ℕ) (reply : Doc) where
  -- what is told, by what comes after the change
  abbrev TellsOf : Option (List Told) → Type 0
  TellsOf rest =
      MatchOption rest (reply ≡ gone_reply old.state.seq old.history.floor)
      (λ rest. (ts : List Transaction) × (first_within most rest ≡ told_each old.rides from ts) × AreReadable from ts × (reply ≡ told_reply (id_of (status_of old.account)) old.state.seq from ts))

  pub tells_some : (first : List Told) (rest : Option (List Told)) → Some first ≡ option_map (first_within most) rest → (ts : List Transaction) → first ≡ told_each old.rides from ts → AreReadable from ts
      → reply ≡ told_reply (id_of (status_of old.account)) old.state.seq from ts → TellsOf rest
  tells_some first None is ts each readable said = absurd (cc is)
  tells_some first (Some rest) is ts each readable said = let same : first ≡ first_within most rest = cc is in (ts, sym same ∙ each, readable, said)

  pub tells_none : (rest : Option (List Told)) → None ≡ option_map (first_within most) rest → reply ≡ gone_reply old.state.seq old.history.floor → TellsOf rest
  tells_none None is said = said
  tells_none (Some rest) is said = absurd (cc is)
