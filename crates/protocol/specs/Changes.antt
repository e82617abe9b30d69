-- The reply with the transactions after a change, and the one that says that they are gone.
use Rattle.std.specs.Prelude.{◌≡◌, ℕ, ◌+◌, Bool, List, [], ◌∷◌, length, pos, true, codes, Option, None, Some}
use Rattle.change_history.specs.History.{Rises, Told}
use Rattle.doc_tree.specs.Doc.{Doc, Elements, Members, boolean, element, int, list, member, no_elements, no_members, object, text}
use Rattle.doc_changes.specs.Marks.{Mark}
use Rattle.doc_machine.specs.Transaction.{Transaction, changes_of}
use Rattle.store_commits.specs.Folds.{mark_after}
use Rattle.told_transactions.specs.Told.{AreReadable, told_each}
use Rattle.protocol.specs.Marks.{mark_object}
use Rattle.protocol.specs.Request.{objects_of}

-- These are transactions as a history has them: they were accepted one after another, from the change of that number on. Their frames can be read, and each has a change.
pub record AreToldFrom (before : ℕ) (told : List Told) (ts : List Transaction) : Type 0 where
  pub rides : Bool
  pub each : told ≡ told_each rides before ts
  pub readable : AreReadable before ts
  pub rises : Rises before told

-- the mark that a transaction sets, if it sets one
abbrev pub mark_member : Option Mark → Members
mark_member None = no_members
mark_member (Some m) = member (codes "mark") (mark_object m.key m.value) no_members

-- a transaction that was accepted after the change of that number: its changes, the numbers of the first and the last of them, and its mark
abbrev pub transaction_object : ℕ → Transaction → Doc
transaction_object seq t =
    object (member (codes "changes") (list (objects_of (changes_of t)))
    (member (codes "first") (int (pos (seq + 1)))
    (member (codes "last") (int (pos (seq + length (changes_of t)))) (mark_member (mark_after seq t)))))

-- transactions that were accepted one after another from this number on
abbrev pub transaction_objects : ℕ → List Transaction → Elements
transaction_objects seq [] = no_elements
transaction_objects seq (t ∷ ts) = element (transaction_object seq t) (transaction_objects (seq + length (changes_of t)) ts)

-- the text of the store's identity, if it has one, before other members
abbrev pub with_identity : Option (List ℕ) → Members → Members
with_identity None ms = ms
with_identity (Some identity) ms = member (codes "identity") (text identity) ms

-- these transactions come after the change of number `from`; that of number `seq` is the store's last
abbrev pub changes_reply : Option (List ℕ) → (seq from : ℕ) → List Transaction → Doc
changes_reply identity seq from ts =
    object (member (codes "changes") (list (transaction_objects from ts)) (with_identity identity (member (codes "ok") (boolean true) (member (codes "seq") (int (pos seq)) no_members))))

-- the transactions that were asked for aren't known any more; those after the change of number `from` are
abbrev pub gone_reply : (seq from : ℕ) → Doc
gone_reply seq from =
    object (member (codes "from") (int (pos from)) (member (codes "gone") (boolean true) (member (codes "ok") (boolean true) (member (codes "seq") (int (pos seq)) no_members))))
