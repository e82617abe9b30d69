-- The reply to a new file; a store that was shown, or brought to a format.
use Rattle.std.specs.Prelude.{◌≡◌, ℕ, List, Option, Ok, pos, true, codes}
use Rattle.std.specs.declared.snapshot.Snapshot.{Snapshot}
use Rattle.command_line.specs.Call.{format}
use Rattle.doc_store.specs.declared.opening.Strictness.{Strictness}
use Rattle.doc_tree.specs.Doc.{Doc, boolean, int, object, member, no_members}
use Rattle.store_commits.specs.Account.{StoreView}
use Rattle.doc_store.specs.Formats.{format_of, number_of}
use Rattle.file_device.specs.declared.file.FileDevice.{FileDevice}
use Rattle.sector_device.specs.declared.history.Held.{Held}
use Rattle.protocol.specs.Reply.{line_of}
use Rattle.file_programs.specs.Files.{IsOpenedIn, IsNoticedIn}
use Rattle.file_programs.specs.Notices.{checked_line}
use Rattle.file_programs.specs.Shown.{Shows}
use Rattle.file_programs.specs.Upgrades.{IsUpgraded, WentTo, format_numbered, upgrade_reply}
use Rattle.file_programs.specs.declared.opening.Closed.{Closed}

-- the reply of a file that was made: `sectors` sectors, a half of which holds `capacity` bytes
abbrev pub format_reply : ℕ → ℕ → Doc
format_reply capacity sectors =
    object (member (codes "capacity") (int (pos capacity)) (member (codes "ok") (boolean true) (member (codes "sectors") (int (pos sectors)) no_members)))

-- The store in a file that held this was opened, and its status shown, and what its slots say in format 3.
pub record IsShown (strictness : Strictness) (held : Snapshot Held) (closed : Closed) (before after : Option (List ℕ)) : Type 0 where
  pub opened : IsOpenedIn held closed.store
  pub noticed : IsNoticedIn strictness held closed.store closed.notice
  pub shown : Shows closed.ended (checked_line closed.store.account closed.notice) before after

-- the store in a file that held this was brought to a format, or as far as its device let it
pub record IsUpgrading (held : Snapshot Held) (version : ℕ) (asked : Option ℕ) (closed : Closed) (before after : Option (List ℕ)) : Type 0 where
  pub opened : StoreView FileDevice
  pub went : WentTo held (format_numbered version) asked opened closed.store
  pub upgraded : closed.ended ≡ Ok tt → IsUpgraded (format_numbered version) asked opened closed.store
  pub shown : Shows closed.ended (line_of (upgrade_reply (number_of (format_numbered version)) (number_of (format_of opened.account)))) before after
