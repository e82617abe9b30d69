use Rattle.std.proofs.Common.{◌≡◌, ◌-◌, ◌≤◌, true, length, take}
use Rattle.doc_edits.specs.Change.{tokens_of}
use Rattle.doc_patch.specs.Within.{leads_to}
use Rattle.doc_patch.proofs.reach.common.Given as goal

abbrev pub invariant-loop-len : goal.invariant-loop-len
invariant-loop-len l = (l.len ≤ length l.first) × (leads_to (tokens_of (take l.len l.first)) (tokens_of l.second) ≡ true)

abbrev pub decreases-loop-len : goal.decreases-loop-len
decreases-loop-len l = length l.first - l.len
