-- The reply that shows the status of a store (`status`).
use Rattle.std.specs.Prelude.{◌≡◌, ℕ, List, option_map, true, Option, Some, None, pos, codes}
use Rattle.std.specs.Int.{w128, to_be_bytes}
use Rattle.hex.specs.Hex.{encode_lower}
use Rattle.doc_tree.specs.Doc.{Doc, Members, boolean, int, text, object, member, no_members}
use Rattle.serde.specs.Event.{Log, Logs, field_key, unsigned}
use Rattle.serde.specs.Event as event
use Rattle.serde.specs.declared.name.Case.TheVariants.{AsIs}
use Rattle.doc_store.specs.declared.status.Status.{Status}

-- an identity in text: its 16 bytes by 32 hexadecimal digits
abbrev pub identity_text : ℕ → List ℕ
identity_text identity = encode_lower (to_be_bytes w128 identity)

-- these members, and before them this text as `id`, if there is one
abbrev pub with_id : Option (List ℕ) → Members → Members
with_id None members = members
with_id (Some id) members = member (codes "id") (text id) members

-- the members of a status after `id`
abbrev pub members_after : Status → Members
members_after s =
    member (codes "ok") (boolean true)
    (member (codes "opens") (int (pos s.opens))
    (member (codes "sectors") (int (pos s.sectors))
    (member (codes "seq") (int (pos s.seq))
    (member (codes "used") (int (pos s.used)) no_members))))

-- all of them, with this text as `id`
abbrev pub status_members : Status → Option (List ℕ) → Members
status_members s id =
    member (codes "broken") (boolean s.broken)
    (member (codes "capacity") (int (pos s.capacity))
    (member (codes "documents") (int (pos s.documents))
    (member (codes "half") (int (pos s.half)) (with_id id (members_after s)))))

-- the text of a status's `id`: in format 3 the identity
abbrev pub id_of : Status → Option (List ℕ)
id_of s = option_map identity_text s.identity

-- a text as `id`, if the status has one
abbrev pub shown_id : Status → List ℕ → Option (List ℕ)
shown_id s id = option_map (λ identity. id) s.identity

-- the document of a store's status
abbrev pub status_reply : Status → Doc
status_reply s = object (status_members s (id_of s))

-- the events of a member whose value is a number
pub record SendsNumber (name : List ℕ) (number : ℕ) (old new : Log) : Type 0 where
  pub named : Log
  pub key : Logs old named (field_key name AsIs)
  pub value : Logs named new (unsigned number)

-- the events of a member whose value is a text
pub record SendsText (name told : List ℕ) (old new : Log) : Type 0 where
  pub named : Log
  pub key : Logs old named (field_key name AsIs)
  pub value : Logs named new (event.text told)

-- the events of a member `id`, if there is one
abbrev pub SendsId : Option (List ℕ) → Log → Log → Type 0
SendsId None old new = new ≡ old
SendsId (Some id) old new = SendsText (codes "id") id old new
