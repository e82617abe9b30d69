-- A status with or without `id`.
use Rattle.std.proofs.Common.{◌≡◌, ℕ, List, Option, None, Some, refl, subst, if◌then◌else◌, is_some, option_map}
use Rattle.serde.specs.Event.{Log}
use Rattle.serde_json.specs.Events.{SendsMembers, members_len}
use Rattle.doc_tree.specs.Doc.{Members}
use Rattle.doc_tree.specs.Text.{members_of}
use Rattle.doc_store.specs.declared.status.Status.{Status}
use Rattle.status_lines.specs.Status.{SendsId, status_members, with_id}

-- the members after it
pub sends_with : (id : Option (List ℕ)) (ms : Members) (old mid new : Log) → SendsId id old mid → SendsMembers (members_of ms) mid new → SendsMembers (members_of (with_id id ms)) old new
sends_with None ms old mid new same rest = subst (λ (l : Log). SendsMembers (members_of ms) l new) same rest
sends_with (Some id) ms old mid new sent rest = (sent.named, mid, sent.key, sent.value, rest)

-- how many members there are
pub members_are : (s : Status) (identity : Option ℕ) (id : List ℕ) → (if is_some identity then 10 else 9) ≡ members_len (members_of (status_members s (option_map (λ (n : ℕ). id) identity)))
members_are s None id = refl
members_are s (Some n) id = refl
