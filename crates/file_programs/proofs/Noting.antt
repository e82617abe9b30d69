-- What is said of a store that was opened.
use Rattle.std.proofs.Common.{◌≡◌, Bool, true, false, refl, if◌then◌else◌, Some, None, option_map, unwrap_or}
use Rattle.doc_store.specs.Formats.{format_of, status_of}
use Rattle.doc_store.specs.declared.format.Format.TheVariants.{Two, Three}
use Rattle.protocol.specs.Reply.{line_of}
use Rattle.status_lines.specs.Status.{id_of, identity_text, status_reply}
use Rattle.slot_commits.specs.declared.found.Notice.{Notice}
use Rattle.store_commits.specs.Account.{Account}
use Rattle.file_programs.specs.Notices.{checked_line, word_of, worded_status}

-- the line of a store, by its format
pub line_in_2 : (a : Account) (notice : Notice) → format_of a ≡ Two → checked_line a notice ≡ line_of (status_reply (status_of a))
line_in_2 a notice is = by a.rides is
  where
    by : (rides : Bool) → (if rides then Three else Two) ≡ Two → line_of (if rides then worded_status (status_of a) (word_of notice) (id_of (status_of a)) else status_reply (status_of a)) ≡ line_of (status_reply (status_of a))
    by false same = refl
    by true same = cc same

pub line_in_3 : (a : Account) (notice : Notice) → format_of a ≡ Three → checked_line a notice ≡ line_of (worded_status (status_of a) (word_of notice) (id_of (status_of a)))
line_in_3 a notice is = by a.rides is
  where
    by : (rides : Bool) → (if rides then Three else Two) ≡ Three → line_of (if rides then worded_status (status_of a) (word_of notice) (id_of (status_of a)) else status_reply (status_of a)) ≡ line_of (worded_status (status_of a) (word_of notice) (id_of (status_of a)))
    by true same = refl
    by false same = cc same

-- the `id` of a status in format 3
pub id_in_3 : (a : Account) → format_of a ≡ Three → id_of (status_of a) ≡ Some (identity_text (unwrap_or (status_of a).identity 0))
id_in_3 a is = by a.rides is
  where
    by : (rides : Bool) → (if rides then Three else Two) ≡ Three
        → option_map identity_text (if rides then Some a.identity else None) ≡ Some (identity_text (unwrap_or (if rides then Some a.identity else None) 0))
    by true same = refl
    by false same = cc same
