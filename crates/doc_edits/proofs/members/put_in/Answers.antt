use Rattle.std.proofs.Common.{◌<◌, ◌≤◌, Some, None, sym, ap, ◌∙◌, arith, string_bytes}
use Rattle.doc_tree.specs.Doc.{get_member}
use Rattle.doc_tree.specs.TreeView.{view, members_view}
use Rattle.doc_tree.proofs.Views.{members_view-insert_entry}
use Rattle.doc_edits.specs.Spare.{count}
use Rattle.doc_edits.proofs.Leaves.{found}
use Rattle.doc_edits.proofs.Missing.{as_missing}
use Rattle.doc_edits.proofs.Rooms.{count-view, member_full, member_there, member_fits}
use Rattle.doc_edits.proofs.members.put_in.Goals as goal

pub returns-then-len-clause-made : goal.returns-then-len-clause-made
returns-then-len-clause-made c =
    let full : c.in-Members.room ≤ count (members_view c.args.members.now.entries) = omega (arith, c.if-len.true, c.len.ensures.len, c.len-2.ensures, count-view c.args.members.now.entries) in
    as_missing c.of-then-len.result _ c.of-then-len.ensures.fault (member_full c.args.spare c.in-Members.room (view c.args.value) (string_bytes c.args.name) _ c.in-Members.is full)

pub returns-in-Some-clause-made : goal.returns-in-Some-clause-made
returns-in-Some-clause-made c =
    let room : count (members_view c.args.members.now.entries) < c.in-Members.room = omega (arith, c.if-len.false, c.len.ensures.len, c.len-2.ensures, count-view c.args.members.now.entries) in
    let there = found c.as_str.result.now c.args.members.now.entries (Some c.in-Some.field-0.now) c.in-Some.ensures.value in
    let named = ap (λ n. get_member n (members_view c.args.members.now.entries)) (sym c.as_str.ensures) in
    as_missing c.of-in-Some.result _ c.of-in-Some.ensures.fault (member_there c.args.spare c.in-Members.room (view c.args.value) (view c.in-Some.field-0.now) (string_bytes c.args.name) _ c.in-Members.is room (named ∙ there))

pub returns-clause-made : goal.returns-clause-made
returns-clause-made c =
    let room : count (members_view c.args.members.now.entries) < c.in-Members.room = omega (arith, c.if-len.false, c.len.ensures.len, c.len-2.ensures, count-view c.args.members.now.entries) in
    let absent = found c.as_str.result.now c.args.members.now.entries None c.in-None.ensures.value in
    let named = ap (λ n. get_member n (members_view c.args.members.now.entries)) (sym c.as_str.ensures) in
    member_fits c.args.spare c.in-Members.room (view c.args.value) (string_bytes c.args.name) _ c.in-Members.is room (named ∙ absent)
    ∙ ap Some (sym (members_view-insert_entry c.args.members.now.entries c.args.name c.args.value) ∙ ap members_view (sym c.put_back.ensures.entries))
