use Rattle.std.proofs.Common.{refl, sym, ap, ◌∙◌, string_cmp, Some, None}
use Rattle.doc_edits.specs.Size.{comma_beside_members}
use Rattle.doc_tree.specs.TreeView.{view, members_view}
use Rattle.std.specs.BTreeMap.{insert_entry}
use Rattle.doc_edits.proofs.Leaves.{member_added, member_set}
use Rattle.doc_edits.proofs.Leaves.{found}
use Rattle.doc_edits.proofs.Grown.{set_member_size, new_member_size, comma_of_members}
use Rattle.doc_edits.proofs.members.add.Goals as goal

pub returns-in-Some-clause-made : goal.returns-in-Some-clause-made
returns-in-Some-clause-made c = member_set c.args.name.now c.args.members.now.entries _ c.in-Some.place.now c.args.value c.replace.new.dest c.replace.ensures.after c.in-Some.ensures.value (c.get_mut.follows.holds c.replace.new.dest).0

pub returns-clause-made : goal.returns-clause-made
returns-clause-made c = member_added c.args.name.now c.args.members.now.entries _ c.in-Ok.key c.args.value c.in-None.ensures.value c.in-Ok.ensures (c.in_ok-insert.ensures.entries ∙ ap (λ m. insert_entry string_cmp m.entries c.in-Ok.key c.args.value) c.get_mut.follows.holds-at-none)

pub returns-in-Some-clause-sized : goal.returns-in-Some-clause-sized
returns-in-Some-clause-sized c =
    let s = set_member_size c.args.name.now (view c.args.value) (view c.replace.result) (members_view c.args.members.now.entries) _ (returns-in-Some-clause-made c) (found c.args.name.now c.args.members.now.entries (Some c.replace.result) (ap Some c.replace.ensures.value ∙ c.in-Some.ensures.value)) in
    (0, refl, s.0, s.1)

pub returns-clause-sized : goal.returns-clause-sized
returns-clause-sized c =
    let others = ap (λ m. comma_beside_members (members_view m.entries)) (sym c.get_mut.follows.holds-at-none) ∙ comma_of_members c.get_mut.follows.lender-at-none.entries _ c.is_empty-has_others.ensures in
    let s = new_member_size c.args.name.now (view c.args.value) (members_view c.args.members.now.entries) _ _ (returns-clause-made c) (found c.args.name.now c.args.members.now.entries None c.in-None.ensures.value) others in
    (_, c.bytes_beside.ensures, s.0, s.1)

pub returns-in-Some-clause-taken : goal.returns-in-Some-clause-taken
returns-in-Some-clause-taken c = sym (found c.args.name.now c.args.members.now.entries (Some c.replace.result) (ap Some c.replace.ensures.value ∙ c.in-Some.ensures.value))

pub returns-clause-taken : goal.returns-clause-taken
returns-clause-taken c = sym (found c.args.name.now c.args.members.now.entries None c.in-None.ensures.value)
