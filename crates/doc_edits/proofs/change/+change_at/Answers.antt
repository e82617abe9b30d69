use Rattle.std.proofs.Common.{◌≡◌, refl, ◌∙◌, string_bytes, length, arith}
use Rattle.doc_edits.specs.Change.{here}
use Rattle.doc_edits.specs.Change.{tokens_of}
use Rattle.doc_tree.specs.TreeView.{view}
use Rattle.doc_edits.proofs.Walk.{stepped, missing, tokens_step, as_str_step, found_in_object, not_in_object, written_in_object, found_in_list, not_in_list, written_in_list}
use Rattle.doc_edits.proofs.Missing.{as_missing}
use Rattle.doc_edits.proofs.Grown.{stepped_sized, stepped_taken}
use Rattle.doc_edits.proofs.Same.{stepped_unchanged, looked_in}
use Rattle.doc_edits.proofs.change.+change_at.Goals as goal

pub returns-in-Some-get_mut-clause-made : goal.returns-in-Some-get_mut-clause-made
returns-in-Some-get_mut-clause-made t c =
    let d = view c.args.tree.now in
    let token = c.args.token.now in
    let some = c.in-Some.ensures.value in
    let rest = as_str_step c.args.rest.now c.next-item.result c.as_str.result.now (omega arith) c.next-item.is c.as_str.ensures.value in
    stepped (here c.args.change) token c.as_str.result.now _ (tokens_of c.args.rest.now) d (view c.in-Some-get_mut.child.now) (view c.change_at.new.tree) _ rest
    (found_in_object token d c.in-Some.members.now c.in-Some-get_mut.child.now some c.in-Some-get_mut.ensures.value)
    (written_in_object token d c.in-Some.members.now _ c.change_at.new.tree some (c.get_mut.follows.holds c.change_at.new.tree).0) c.change_at.result c.change_at.ensures.made

pub returns-in-None-clause-made : goal.returns-in-None-clause-made
returns-in-None-clause-made t c = as_missing c.unmade.result _ c.unmade.ensures.fault
    (missing (here c.args.change) c.args.token.now (string_bytes c.next-item.result) _ (tokens_of c.args.rest.now) (view c.args.tree.now) (tokens_step c.args.rest.now c.next-item.result (omega arith) c.next-item.is)
    (not_in_object c.args.token.now (view c.args.tree.now) c.in-Some.members.now c.in-Some.ensures.value c.in-None.ensures.value))

pub returns-in-Some-index_within-clause-made : goal.returns-in-Some-index_within-clause-made
returns-in-Some-index_within-clause-made t c =
    let d = view c.args.tree.now in
    let token = c.args.token.now in
    let some = c.in-Some-as_list_mut.ensures.value in
    let u = c.as_str-in-Some-index_within in
    let again = c.change_at-in-Some-index_within in
    let i = c.in-Some-index_within.index in
    let v = c.in-Some-as_list_mut.items.now in
    let len : c.len.result ≡ length v.items = c.len.ensures ∙ v.ok.0 in
    let rest = as_str_step c.args.rest.now c.next-item.result u.result.now (omega arith) c.next-item.is u.ensures.value in
    stepped (here c.args.change) token u.result.now _ (tokens_of c.args.rest.now) d (view c.index_mut.result.now) (view again.new.tree) _ rest
    (found_in_list token d v c.len.result i c.index_mut.result.now some len c.in-Some-index_within.ensures.named c.in-Some-index_within.ensures.below c.index_mut.ensures.value)
    (written_in_list token d v _ c.len.result i again.new.tree some len c.in-Some-index_within.ensures.named refl) again.result again.ensures.made

pub returns-in-None-index_within-clause-made : goal.returns-in-None-index_within-clause-made
returns-in-None-index_within-clause-made t c = as_missing c.unmade-in-None-index_within.result _ c.unmade-in-None-index_within.ensures.fault
    (missing (here c.args.change) c.args.token.now (string_bytes c.next-item.result) _ (tokens_of c.args.rest.now) (view c.args.tree.now) (tokens_step c.args.rest.now c.next-item.result (omega arith) c.next-item.is)
    (not_in_list c.args.token.now (view c.args.tree.now) c.in-Some-as_list_mut.items.now c.len.result c.in-Some-as_list_mut.ensures.value (c.len.ensures ∙ c.in-Some-as_list_mut.items.now.ok.0) c.in-None-index_within.ensures.named))

pub returns-in-Some-get_mut-clause-taken : goal.returns-in-Some-get_mut-clause-taken
returns-in-Some-get_mut-clause-taken t c =
    let d = view c.args.tree.now in
    let token = c.args.token.now in
    let some = c.in-Some.ensures.value in
    let rest = as_str_step c.args.rest.now c.next-item.result c.as_str.result.now (omega arith) c.next-item.is c.as_str.ensures.value in
    let found = found_in_object token d c.in-Some.members.now c.in-Some-get_mut.child.now some c.in-Some-get_mut.ensures.value in
    stepped_taken c.args.change token c.as_str.result.now _ (tokens_of c.args.rest.now) d (view c.in-Some-get_mut.child.now) rest found c.change_at.result c.change_at.ensures.taken

pub returns-in-Some-get_mut-clause-sized : goal.returns-in-Some-get_mut-clause-sized
returns-in-Some-get_mut-clause-sized t c =
    let d = view c.args.tree.now in
    let token = c.args.token.now in
    let some = c.in-Some.ensures.value in
    let found = found_in_object token d c.in-Some.members.now c.in-Some-get_mut.child.now some c.in-Some-get_mut.ensures.value in
    let written = written_in_object token d c.in-Some.members.now _ c.change_at.new.tree some (c.get_mut.follows.holds c.change_at.new.tree).0 in
    stepped_sized c.args.change token d (view c.in-Some-get_mut.child.now) (view c.change_at.new.tree) _ found written c.change_at.result c.change_at.ensures.sized

pub returns-in-Some-index_within-clause-taken : goal.returns-in-Some-index_within-clause-taken
returns-in-Some-index_within-clause-taken t c =
    let d = view c.args.tree.now in
    let token = c.args.token.now in
    let some = c.in-Some-as_list_mut.ensures.value in
    let u = c.as_str-in-Some-index_within in
    let again = c.change_at-in-Some-index_within in
    let v = c.in-Some-as_list_mut.items.now in
    let rest = as_str_step c.args.rest.now c.next-item.result u.result.now (omega arith) c.next-item.is u.ensures.value in
    let found = found_in_list token d v c.len.result c.in-Some-index_within.index c.index_mut.result.now some (c.len.ensures ∙ v.ok.0) c.in-Some-index_within.ensures.named c.in-Some-index_within.ensures.below c.index_mut.ensures.value in
    stepped_taken c.args.change token u.result.now _ (tokens_of c.args.rest.now) d (view c.index_mut.result.now) rest found again.result again.ensures.taken

pub returns-in-Some-index_within-clause-sized : goal.returns-in-Some-index_within-clause-sized
returns-in-Some-index_within-clause-sized t c =
    let d = view c.args.tree.now in
    let token = c.args.token.now in
    let some = c.in-Some-as_list_mut.ensures.value in
    let again = c.change_at-in-Some-index_within in
    let i = c.in-Some-index_within.index in
    let v = c.in-Some-as_list_mut.items.now in
    let len : c.len.result ≡ length v.items = c.len.ensures ∙ v.ok.0 in
    let found = found_in_list token d v c.len.result i c.index_mut.result.now some len c.in-Some-index_within.ensures.named c.in-Some-index_within.ensures.below c.index_mut.ensures.value in
    let written = written_in_list token d v _ c.len.result i again.new.tree some len c.in-Some-index_within.ensures.named refl in
    stepped_sized c.args.change token d (view c.index_mut.result.now) (view again.new.tree) _ found written again.result again.ensures.sized

pub returns-in-Some-get_mut-clause-unchanged : goal.returns-in-Some-get_mut-clause-unchanged
returns-in-Some-get_mut-clause-unchanged t c =
    let d = view c.args.tree.now in
    let token = c.args.token.now in
    let some = c.in-Some.ensures.value in
    let found = found_in_object token d c.in-Some.members.now c.in-Some-get_mut.child.now some c.in-Some-get_mut.ensures.value in
    let written = written_in_object token d c.in-Some.members.now _ c.change_at.new.tree some (c.get_mut.follows.holds c.change_at.new.tree).0 in
    stepped_unchanged token d (view c.in-Some-get_mut.child.now) (view c.change_at.new.tree) _ found written c.change_at.result c.change_at.ensures.unchanged

pub returns-in-Some-index_within-clause-unchanged : goal.returns-in-Some-index_within-clause-unchanged
returns-in-Some-index_within-clause-unchanged t c =
    let d = view c.args.tree.now in
    let token = c.args.token.now in
    let some = c.in-Some-as_list_mut.ensures.value in
    let again = c.change_at-in-Some-index_within in
    let i = c.in-Some-index_within.index in
    let v = c.in-Some-as_list_mut.items.now in
    let len : c.len.result ≡ length v.items = c.len.ensures ∙ v.ok.0 in
    let found = found_in_list token d v c.len.result i c.index_mut.result.now some len c.in-Some-index_within.ensures.named c.in-Some-index_within.ensures.below c.index_mut.ensures.value in
    let written = written_in_list token d v _ c.len.result i again.new.tree some len c.in-Some-index_within.ensures.named refl in
    stepped_unchanged token d (view c.index_mut.result.now) (view again.new.tree) _ found written again.result again.ensures.unchanged

pub returns-in-None-clause-unchanged : goal.returns-in-None-clause-unchanged
returns-in-None-clause-unchanged t c = looked_in (view c.args.tree.now) c.in-Some.members.now _ c.get_mut.follows.holds-at-none c.in-Some.ensures.value
