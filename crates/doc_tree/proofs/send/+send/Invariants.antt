use Rattle.std.proofs.Common.{drop}
use Rattle.serde.specs.Event.{Log}
use Rattle.serde_json.specs.Events.{SendsItems, SendsMembers}
use Rattle.doc_tree.specs.Sound.{AreSound}
use Rattle.doc_tree.specs.Text.{items_of, members_of}
use Rattle.doc_tree.specs.TreeView.{elements_view, members_view}
use Rattle.doc_tree.proofs.Soundness.{AllSound}
use Rattle.doc_tree.proofs.send.+send.Given as goal

-- whatever ends it well from here ends it well from the start, and so it is with soundness
abbrev pub invariant-send_items-loop-item : goal.invariant-send_items-loop-item
invariant-send_items-loop-item g l =
    ((end : Log) → SendsItems (items_of (elements_view (drop l.item-index l.item-items))) (g.S.Serializer.written l.out) end → SendsItems (items_of (elements_view l.item-items)) (g.S.Serializer.written l.initial.out) end)
    × (AreSound (elements_view (drop l.item-index l.item-items)) → AreSound (elements_view l.item-items))

abbrev pub invariant-send_members-loop-name : goal.invariant-send_members-loop-name
invariant-send_members-loop-name g l =
    ((end : Log) → SendsMembers (members_of (members_view l.name-iterator)) (g.S.Serializer.written l.out) end → SendsMembers (members_of (members_view l.initial.name-iterator)) (g.S.Serializer.written l.initial.out) end)
    × (AllSound l.name-iterator → AllSound l.members.entries)
