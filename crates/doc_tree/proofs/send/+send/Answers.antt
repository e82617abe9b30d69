use Rattle.std.proofs.Common.{◌≡◌, [], length, drop, Some, sym, ◌∙◌, subst, arith, rules}
use Rattle.std.proofs.lemmas.List.{drop_all}
use Rattle.std.proofs.lemmas.Result.{on_ok_weaker}
use Rattle.serde.specs.Event.{Logs, seq_begins, map_begins}
use Rattle.serde_json.specs.Events.{SendsItems, SendsMembers}
use Rattle.doc_tree.specs.Text.{items_of, members_of}
use Rattle.doc_tree.specs.TreeView.{elements_view, members_view}
use Rattle.doc_tree.proofs.Events.{items_len-elements_view, members_len-members_view}
use Rattle.doc_tree.proofs.Soundness.{AllSound, MembersAreSound-members_view}
use Rattle.doc_tree.proofs.send.+send.Goals as goal

pub send_items-returns-clause-events : goal.send_items-returns-clause-events
send_items-returns-clause-events g t c =
    let xs = c.deref-item-items.result.now in
    let first = g.S.Serializer.written c.begin_seq.new.self in
    let end = g.S.Serializer.written c.end_seq.new.self in
    let len : c.len.result ≡ length c.args.items.now.items = search rules in
    let begun = subst (λ n. Logs (g.S.Serializer.written c.args.out.now) first (seq_begins (Some n))) (len ∙ sym (items_len-elements_view c.args.items.now.items)) c.in_ok-begin_seq.ensures in
    let none : drop c.loop-item.item-index xs ≡ [] = drop_all c.loop-item.item-index xs (omega arith) in
    on_ok_weaker c.end_seq.result (λ e. (
      first,
      begun,
      subst (λ ys. SendsItems (items_of (elements_view ys)) first end) c.deref-item-items.ensures.value
          (c.loop-item.invariant.0 end (subst (λ ys. SendsItems (items_of (elements_view ys)) (g.S.Serializer.written c.loop-item.out) end) (sym none) e)),
    )) c.end_seq.ensures

pub send_members-returns-clause-events : goal.send_members-returns-clause-events
send_members-returns-clause-events g t c =
    let first = g.S.Serializer.written c.begin_map.new.self in
    let end = g.S.Serializer.written c.end_map.new.self in
    let len : c.len.result ≡ length c.args.members.now.entries = search rules in
    let all : c.into_iter-name-iterator.result ≡ c.args.members.now.entries = search rules in
    let begun = subst (λ n. Logs (g.S.Serializer.written c.args.out.now) first (map_begins (Some n))) (len ∙ sym (members_len-members_view c.args.members.now.entries)) c.in_ok-begin_map.ensures in
    on_ok_weaker c.end_map.result (λ e. (
      first,
      begun,
      subst (λ ys. SendsMembers (members_of (members_view ys)) first end) all
          (c.loop-name.invariant.0 end (subst (λ ys. SendsMembers (members_of (members_view ys)) (g.S.Serializer.written c.loop-name.out) end) (sym c.in-None.ensures.steps.0) e)),
    )) c.end_map.ensures

pub send_members-returns-clause-sound : goal.send_members-returns-clause-sound
send_members-returns-clause-sound g t c =
    on_ok_weaker c.end_map.result (λ _. MembersAreSound-members_view c.args.members.now.entries c.iter-name-items.ensures.ordered (c.loop-name.invariant.1 (subst AllSound (sym c.in-None.ensures.steps.0) tt)))
    c.end_map.ensures
