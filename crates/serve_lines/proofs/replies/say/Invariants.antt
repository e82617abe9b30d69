use Rattle.std.proofs.Common.{◌≡◌, ◌≤◌, ◌+◌, ◌++◌, List, map, drop, length}
use Rattle.std.specs.VecDeque.{deque_capacity, deque_len}
use Rattle.doc_tree.specs.Doc.{Doc}
use Rattle.protocol.specs.declared.reply.Reply.{Reply}
use Rattle.serve_lines.specs.LineReplies.{AllSay, key_in}
use Rattle.serve_lines.specs.Session.{AreTold}
use Rattle.serve_lines.proofs.replies.say.Given as goal

-- the replies that were made, before whatever tells the rest, tell all
abbrev pub invariant-loop-place : goal.invariant-loop-place
invariant-loop-place g l = record {
  said : (added : List Reply) × (replies : List Doc) × (l.ready.items ≡ l.fn.ready.items ++ added) × AllSay added replies
      × ((more : List Doc) → AreTold l.store.account.state (map key_in (drop l.place l.keys)) (drop l.place l.said) more → AreTold l.store.account.state (map key_in l.keys) l.said (replies ++ more));
  len : deque_len l.ready ≡ deque_len l.fn.ready + l.place;
  room : deque_capacity l.fn.ready ≤ deque_capacity l.ready;
}
