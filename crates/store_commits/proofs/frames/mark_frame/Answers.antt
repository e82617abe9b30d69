use Rattle.std.proofs.Common.{rules, ◌≡◌, ◌≤◌, length, true}
use Rattle.doc_changes.specs.Names.{is_name}
use Rattle.store_commits.proofs.frames.mark_frame.Goals as goal

-- the key is a name and the value is short, so this is a mark
pub noted_frame-requires : goal.noted_frame-requires
noted_frame-requires c =
    let named : is_name c.deref.result.now ≡ true = search rules in
    let short : length c.deref-2.result.now ≤ 128 = search rules in
    (c.marks_are_framed.ensures (record { key = c.deref.result.now; value = c.deref-2.result.now; seq = 0 }) (record { named = named; text = c.deref-2.utf8; short = short })).small
