use Rattle.std.proofs.Common.{◌≡◌, option_map, option_and_then, Some, sym, ap, ◌∙◌}
use Rattle.std.specs.Prelude.{codes}
use Rattle.doc_tree.specs.TreeView.{view}
use Rattle.doc_edits.specs.Operation.{add, replace, move, copy, test}
use Rattle.doc_patch.specs.Reading.{as_text, text_at, with_value, with_from}
use Rattle.doc_patch.proofs.Spellings.{none, member_text, no_op, no_path, by_members, an_add, a_remove, a_replace, a_move, a_copy, a_test, no_operation}
use Rattle.doc_patch.proofs.spelling.spelling_of.Goals as goal

pub returns-in_err-member : goal.returns-in_err-member
returns-in_err-member c =
    none c.from_residual.result _ c.from_residual.ensures (no_op (view c.args.tree.now) (ap (option_and_then as_text) c.in_err-member.ensures))

pub returns-in_err-op : goal.returns-in_err-op
returns-in_err-op c =
    none c.from_residual-in_err-op.result _ c.from_residual-in_err-op.ensures (no_op (view c.args.tree.now) (member_text (codes "op") (view c.args.tree.now) _ _ c.in_ok-member.ensures c.in_err-op.ensures))

pub returns-in_err-member-2 : goal.returns-in_err-member-2
returns-in_err-member-2 c =
    let op : Some c.in_ok-op.op.now ≡ text_at (codes "op") (view c.args.tree.now) = member_text (codes "op") (view c.args.tree.now) _ _ c.in_ok-member.ensures c.in_ok-op.ensures in
    none c.from_residual-in_err-member-2.result _ c.from_residual-in_err-member-2.ensures (no_path (view c.args.tree.now) c.in_ok-op.op.now op (ap (option_and_then as_text) c.in_err-member-2.ensures))

pub returns-in_err-path : goal.returns-in_err-path
returns-in_err-path c =
    let op : Some c.in_ok-op.op.now ≡ text_at (codes "op") (view c.args.tree.now) = member_text (codes "op") (view c.args.tree.now) _ _ c.in_ok-member.ensures c.in_ok-op.ensures in
    none c.from_residual-in_err-path.result _ c.from_residual-in_err-path.ensures (no_path (view c.args.tree.now) c.in_ok-op.op.now op (member_text (codes "path") (view c.args.tree.now) _ _ c.in_ok-member-2.ensures c.in_err-path.ensures))

pub returns-in_err-member-3 : goal.returns-in_err-member-3
returns-in_err-member-3 c =
    let op : Some c.in_ok-op.op.now ≡ text_at (codes "op") (view c.args.tree.now) = member_text (codes "op") (view c.args.tree.now) _ _ c.in_ok-member.ensures c.in_ok-op.ensures in
    let path : Some c.in_ok-path.path.now ≡ text_at (codes "path") (view c.args.tree.now) = member_text (codes "path") (view c.args.tree.now) _ _ c.in_ok-member-2.ensures c.in_ok-path.ensures in
    none c.from_residual-in_err-member-3.result _ c.from_residual-in_err-member-3.ensures (ap (option_map (with_value add c.in_ok-path.path.now)) c.in_err-member-3.ensures ∙ an_add (view c.args.tree.now) c.in_ok-op.op.now c.in_ok-path.path.now (sym c.eq.ensures ∙ c.if-eq.true) ∙ by_members (view c.args.tree.now) c.in_ok-op.op.now c.in_ok-path.path.now op path)

pub returns-in_ok-member-3 : goal.returns-in_ok-member-3
returns-in_ok-member-3 c =
    let op : Some c.in_ok-op.op.now ≡ text_at (codes "op") (view c.args.tree.now) = member_text (codes "op") (view c.args.tree.now) _ _ c.in_ok-member.ensures c.in_ok-op.ensures in
    let path : Some c.in_ok-path.path.now ≡ text_at (codes "path") (view c.args.tree.now) = member_text (codes "path") (view c.args.tree.now) _ _ c.in_ok-member-2.ensures c.in_ok-path.ensures in
    ap (option_map (with_value add c.in_ok-path.path.now)) c.in_ok-member-3.ensures ∙ an_add (view c.args.tree.now) c.in_ok-op.op.now c.in_ok-path.path.now (sym c.eq.ensures ∙ c.if-eq.true) ∙ by_members (view c.args.tree.now) c.in_ok-op.op.now c.in_ok-path.path.now op path

pub returns-then-eq-2 : goal.returns-then-eq-2
returns-then-eq-2 c =
    let op : Some c.in_ok-op.op.now ≡ text_at (codes "op") (view c.args.tree.now) = member_text (codes "op") (view c.args.tree.now) _ _ c.in_ok-member.ensures c.in_ok-op.ensures in
    let path : Some c.in_ok-path.path.now ≡ text_at (codes "path") (view c.args.tree.now) = member_text (codes "path") (view c.args.tree.now) _ _ c.in_ok-member-2.ensures c.in_ok-path.ensures in
    a_remove (view c.args.tree.now) c.in_ok-op.op.now c.in_ok-path.path.now (sym c.eq.ensures ∙ c.if-eq.false) (sym c.eq-else-eq.ensures ∙ c.if-eq-2.true) ∙ by_members (view c.args.tree.now) c.in_ok-op.op.now c.in_ok-path.path.now op path

pub returns-in_err-member-4 : goal.returns-in_err-member-4
returns-in_err-member-4 c =
    let op : Some c.in_ok-op.op.now ≡ text_at (codes "op") (view c.args.tree.now) = member_text (codes "op") (view c.args.tree.now) _ _ c.in_ok-member.ensures c.in_ok-op.ensures in
    let path : Some c.in_ok-path.path.now ≡ text_at (codes "path") (view c.args.tree.now) = member_text (codes "path") (view c.args.tree.now) _ _ c.in_ok-member-2.ensures c.in_ok-path.ensures in
    none c.from_residual-in_err-member-4.result _ c.from_residual-in_err-member-4.ensures (ap (option_map (with_value replace c.in_ok-path.path.now)) c.in_err-member-4.ensures ∙ a_replace (view c.args.tree.now) c.in_ok-op.op.now c.in_ok-path.path.now (sym c.eq.ensures ∙ c.if-eq.false) (sym c.eq-else-eq.ensures ∙ c.if-eq-2.false) (sym c.eq-else-eq-2.ensures ∙ c.if-eq-3.true) ∙ by_members (view c.args.tree.now) c.in_ok-op.op.now c.in_ok-path.path.now op path)

pub returns-in_ok-member-4 : goal.returns-in_ok-member-4
returns-in_ok-member-4 c =
    let op : Some c.in_ok-op.op.now ≡ text_at (codes "op") (view c.args.tree.now) = member_text (codes "op") (view c.args.tree.now) _ _ c.in_ok-member.ensures c.in_ok-op.ensures in
    let path : Some c.in_ok-path.path.now ≡ text_at (codes "path") (view c.args.tree.now) = member_text (codes "path") (view c.args.tree.now) _ _ c.in_ok-member-2.ensures c.in_ok-path.ensures in
    ap (option_map (with_value replace c.in_ok-path.path.now)) c.in_ok-member-4.ensures ∙ a_replace (view c.args.tree.now) c.in_ok-op.op.now c.in_ok-path.path.now (sym c.eq.ensures ∙ c.if-eq.false) (sym c.eq-else-eq.ensures ∙ c.if-eq-2.false) (sym c.eq-else-eq-2.ensures ∙ c.if-eq-3.true) ∙ by_members (view c.args.tree.now) c.in_ok-op.op.now c.in_ok-path.path.now op path

pub returns-in_err-member-5 : goal.returns-in_err-member-5
returns-in_err-member-5 c =
    let op : Some c.in_ok-op.op.now ≡ text_at (codes "op") (view c.args.tree.now) = member_text (codes "op") (view c.args.tree.now) _ _ c.in_ok-member.ensures c.in_ok-op.ensures in
    let path : Some c.in_ok-path.path.now ≡ text_at (codes "path") (view c.args.tree.now) = member_text (codes "path") (view c.args.tree.now) _ _ c.in_ok-member-2.ensures c.in_ok-path.ensures in
    none c.from_residual-in_err-member-5.result _ c.from_residual-in_err-member-5.ensures (ap (option_map (λ from. with_from move from c.in_ok-path.path.now)) (ap (option_and_then as_text) c.in_err-member-5.ensures) ∙ a_move (view c.args.tree.now) c.in_ok-op.op.now c.in_ok-path.path.now (sym c.eq.ensures ∙ c.if-eq.false) (sym c.eq-else-eq.ensures ∙ c.if-eq-2.false) (sym c.eq-else-eq-2.ensures ∙ c.if-eq-3.false) (sym c.eq-else-eq-3.ensures ∙ c.if-eq-4.true) ∙ by_members (view c.args.tree.now) c.in_ok-op.op.now c.in_ok-path.path.now op path)

pub returns-in_err-as_text : goal.returns-in_err-as_text
returns-in_err-as_text c =
    let op : Some c.in_ok-op.op.now ≡ text_at (codes "op") (view c.args.tree.now) = member_text (codes "op") (view c.args.tree.now) _ _ c.in_ok-member.ensures c.in_ok-op.ensures in
    let path : Some c.in_ok-path.path.now ≡ text_at (codes "path") (view c.args.tree.now) = member_text (codes "path") (view c.args.tree.now) _ _ c.in_ok-member-2.ensures c.in_ok-path.ensures in
    none c.from_residual-in_err-as_text.result _ c.from_residual-in_err-as_text.ensures (ap (option_map (λ from. with_from move from c.in_ok-path.path.now)) (member_text (codes "from") (view c.args.tree.now) _ _ c.in_ok-member-5.ensures c.in_err-as_text.ensures) ∙ a_move (view c.args.tree.now) c.in_ok-op.op.now c.in_ok-path.path.now (sym c.eq.ensures ∙ c.if-eq.false) (sym c.eq-else-eq.ensures ∙ c.if-eq-2.false) (sym c.eq-else-eq-2.ensures ∙ c.if-eq-3.false) (sym c.eq-else-eq-3.ensures ∙ c.if-eq-4.true) ∙ by_members (view c.args.tree.now) c.in_ok-op.op.now c.in_ok-path.path.now op path)

pub returns-in_ok-as_text : goal.returns-in_ok-as_text
returns-in_ok-as_text c =
    let op : Some c.in_ok-op.op.now ≡ text_at (codes "op") (view c.args.tree.now) = member_text (codes "op") (view c.args.tree.now) _ _ c.in_ok-member.ensures c.in_ok-op.ensures in
    let path : Some c.in_ok-path.path.now ≡ text_at (codes "path") (view c.args.tree.now) = member_text (codes "path") (view c.args.tree.now) _ _ c.in_ok-member-2.ensures c.in_ok-path.ensures in
    ap (option_map (λ from. with_from move from c.in_ok-path.path.now)) (member_text (codes "from") (view c.args.tree.now) _ _ c.in_ok-member-5.ensures c.in_ok-as_text.ensures) ∙ a_move (view c.args.tree.now) c.in_ok-op.op.now c.in_ok-path.path.now (sym c.eq.ensures ∙ c.if-eq.false) (sym c.eq-else-eq.ensures ∙ c.if-eq-2.false) (sym c.eq-else-eq-2.ensures ∙ c.if-eq-3.false) (sym c.eq-else-eq-3.ensures ∙ c.if-eq-4.true) ∙ by_members (view c.args.tree.now) c.in_ok-op.op.now c.in_ok-path.path.now op path

pub returns-in_err-member-6 : goal.returns-in_err-member-6
returns-in_err-member-6 c =
    let op : Some c.in_ok-op.op.now ≡ text_at (codes "op") (view c.args.tree.now) = member_text (codes "op") (view c.args.tree.now) _ _ c.in_ok-member.ensures c.in_ok-op.ensures in
    let path : Some c.in_ok-path.path.now ≡ text_at (codes "path") (view c.args.tree.now) = member_text (codes "path") (view c.args.tree.now) _ _ c.in_ok-member-2.ensures c.in_ok-path.ensures in
    none c.from_residual-in_err-member-6.result _ c.from_residual-in_err-member-6.ensures (ap (option_map (λ from. with_from copy from c.in_ok-path.path.now)) (ap (option_and_then as_text) c.in_err-member-6.ensures) ∙ a_copy (view c.args.tree.now) c.in_ok-op.op.now c.in_ok-path.path.now (sym c.eq.ensures ∙ c.if-eq.false) (sym c.eq-else-eq.ensures ∙ c.if-eq-2.false) (sym c.eq-else-eq-2.ensures ∙ c.if-eq-3.false) (sym c.eq-else-eq-3.ensures ∙ c.if-eq-4.false) (sym c.eq-else-eq-4.ensures ∙ c.if-eq-5.true) ∙ by_members (view c.args.tree.now) c.in_ok-op.op.now c.in_ok-path.path.now op path)

pub returns-in_err-as_text-2 : goal.returns-in_err-as_text-2
returns-in_err-as_text-2 c =
    let op : Some c.in_ok-op.op.now ≡ text_at (codes "op") (view c.args.tree.now) = member_text (codes "op") (view c.args.tree.now) _ _ c.in_ok-member.ensures c.in_ok-op.ensures in
    let path : Some c.in_ok-path.path.now ≡ text_at (codes "path") (view c.args.tree.now) = member_text (codes "path") (view c.args.tree.now) _ _ c.in_ok-member-2.ensures c.in_ok-path.ensures in
    none c.from_residual-in_err-as_text-2.result _ c.from_residual-in_err-as_text-2.ensures (ap (option_map (λ from. with_from copy from c.in_ok-path.path.now)) (member_text (codes "from") (view c.args.tree.now) _ _ c.in_ok-member-6.ensures c.in_err-as_text-2.ensures) ∙ a_copy (view c.args.tree.now) c.in_ok-op.op.now c.in_ok-path.path.now (sym c.eq.ensures ∙ c.if-eq.false) (sym c.eq-else-eq.ensures ∙ c.if-eq-2.false) (sym c.eq-else-eq-2.ensures ∙ c.if-eq-3.false) (sym c.eq-else-eq-3.ensures ∙ c.if-eq-4.false) (sym c.eq-else-eq-4.ensures ∙ c.if-eq-5.true) ∙ by_members (view c.args.tree.now) c.in_ok-op.op.now c.in_ok-path.path.now op path)

pub returns-in_ok-as_text-2 : goal.returns-in_ok-as_text-2
returns-in_ok-as_text-2 c =
    let op : Some c.in_ok-op.op.now ≡ text_at (codes "op") (view c.args.tree.now) = member_text (codes "op") (view c.args.tree.now) _ _ c.in_ok-member.ensures c.in_ok-op.ensures in
    let path : Some c.in_ok-path.path.now ≡ text_at (codes "path") (view c.args.tree.now) = member_text (codes "path") (view c.args.tree.now) _ _ c.in_ok-member-2.ensures c.in_ok-path.ensures in
    ap (option_map (λ from. with_from copy from c.in_ok-path.path.now)) (member_text (codes "from") (view c.args.tree.now) _ _ c.in_ok-member-6.ensures c.in_ok-as_text-2.ensures) ∙ a_copy (view c.args.tree.now) c.in_ok-op.op.now c.in_ok-path.path.now (sym c.eq.ensures ∙ c.if-eq.false) (sym c.eq-else-eq.ensures ∙ c.if-eq-2.false) (sym c.eq-else-eq-2.ensures ∙ c.if-eq-3.false) (sym c.eq-else-eq-3.ensures ∙ c.if-eq-4.false) (sym c.eq-else-eq-4.ensures ∙ c.if-eq-5.true) ∙ by_members (view c.args.tree.now) c.in_ok-op.op.now c.in_ok-path.path.now op path

pub returns-in_err-member-7 : goal.returns-in_err-member-7
returns-in_err-member-7 c =
    let op : Some c.in_ok-op.op.now ≡ text_at (codes "op") (view c.args.tree.now) = member_text (codes "op") (view c.args.tree.now) _ _ c.in_ok-member.ensures c.in_ok-op.ensures in
    let path : Some c.in_ok-path.path.now ≡ text_at (codes "path") (view c.args.tree.now) = member_text (codes "path") (view c.args.tree.now) _ _ c.in_ok-member-2.ensures c.in_ok-path.ensures in
    none c.from_residual-in_err-member-7.result _ c.from_residual-in_err-member-7.ensures (ap (option_map (with_value test c.in_ok-path.path.now)) c.in_err-member-7.ensures ∙ a_test (view c.args.tree.now) c.in_ok-op.op.now c.in_ok-path.path.now (sym c.eq.ensures ∙ c.if-eq.false) (sym c.eq-else-eq.ensures ∙ c.if-eq-2.false) (sym c.eq-else-eq-2.ensures ∙ c.if-eq-3.false) (sym c.eq-else-eq-3.ensures ∙ c.if-eq-4.false) (sym c.eq-else-eq-4.ensures ∙ c.if-eq-5.false) (sym c.eq-else-eq-5.ensures ∙ c.if-eq-6.true) ∙ by_members (view c.args.tree.now) c.in_ok-op.op.now c.in_ok-path.path.now op path)

pub returns-in_ok-member-7 : goal.returns-in_ok-member-7
returns-in_ok-member-7 c =
    let op : Some c.in_ok-op.op.now ≡ text_at (codes "op") (view c.args.tree.now) = member_text (codes "op") (view c.args.tree.now) _ _ c.in_ok-member.ensures c.in_ok-op.ensures in
    let path : Some c.in_ok-path.path.now ≡ text_at (codes "path") (view c.args.tree.now) = member_text (codes "path") (view c.args.tree.now) _ _ c.in_ok-member-2.ensures c.in_ok-path.ensures in
    ap (option_map (with_value test c.in_ok-path.path.now)) c.in_ok-member-7.ensures ∙ a_test (view c.args.tree.now) c.in_ok-op.op.now c.in_ok-path.path.now (sym c.eq.ensures ∙ c.if-eq.false) (sym c.eq-else-eq.ensures ∙ c.if-eq-2.false) (sym c.eq-else-eq-2.ensures ∙ c.if-eq-3.false) (sym c.eq-else-eq-3.ensures ∙ c.if-eq-4.false) (sym c.eq-else-eq-4.ensures ∙ c.if-eq-5.false) (sym c.eq-else-eq-5.ensures ∙ c.if-eq-6.true) ∙ by_members (view c.args.tree.now) c.in_ok-op.op.now c.in_ok-path.path.now op path

pub returns-else-eq-6 : goal.returns-else-eq-6
returns-else-eq-6 c =
    let op : Some c.in_ok-op.op.now ≡ text_at (codes "op") (view c.args.tree.now) = member_text (codes "op") (view c.args.tree.now) _ _ c.in_ok-member.ensures c.in_ok-op.ensures in
    let path : Some c.in_ok-path.path.now ≡ text_at (codes "path") (view c.args.tree.now) = member_text (codes "path") (view c.args.tree.now) _ _ c.in_ok-member-2.ensures c.in_ok-path.ensures in
    no_operation (view c.args.tree.now) c.in_ok-op.op.now c.in_ok-path.path.now (sym c.eq.ensures ∙ c.if-eq.false) (sym c.eq-else-eq.ensures ∙ c.if-eq-2.false) (sym c.eq-else-eq-2.ensures ∙ c.if-eq-3.false) (sym c.eq-else-eq-3.ensures ∙ c.if-eq-4.false) (sym c.eq-else-eq-4.ensures ∙ c.if-eq-5.false) (sym c.eq-else-eq-5.ensures ∙ c.if-eq-6.false) ∙ by_members (view c.args.tree.now) c.in_ok-op.op.now c.in_ok-path.path.now op path
