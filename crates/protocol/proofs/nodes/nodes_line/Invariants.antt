use Rattle.std.proofs.Common.{◌≡◌, ◌++◌, drop, nat_lt}
use Rattle.path_eval.specs.NodeView.{listed_of}
use Rattle.protocol.specs.Reply.{line_of, nodes_reply}
use Rattle.protocol.specs.Rows.{rows_left}
use Rattle.protocol.proofs.nodes.nodes_line.Given as goal

-- the line, and what it has behind these rows, are the whole line
abbrev pub invariant-loop-number : goal.invariant-loop-number
invariant-loop-number l =
    let all = listed_of l.nodes in l.line.items ++ rows_left (nat_lt 0 l.number) (drop l.number all) ≡ line_of (nodes_reply all)
