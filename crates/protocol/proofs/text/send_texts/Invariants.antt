use Rattle.std.proofs.Common.{map, drop}
use Rattle.serde.specs.Event.{Log}
use Rattle.serde_json.specs.Events.{SendsItems}
use Rattle.doc_tree.specs.Text.{items_of}
use Rattle.protocol.specs.Reply.{texts}
use Rattle.protocol.proofs.text.send_texts.Given as goal

-- whatever ends it well from here ends it well from the start
abbrev pub invariant-loop-text : goal.invariant-loop-text
invariant-loop-text g l =
    (end : Log) → SendsItems (items_of (texts (map (λ t. t.now) (drop l.text-index l.all)))) (g.S.Serializer.written l.out) end
    → SendsItems (items_of (texts (map (λ t. t.now) l.all))) (g.S.Serializer.written l.initial.out) end
