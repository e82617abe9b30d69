use Rattle.std.proofs.Common.{◌≡◌, ◌≤◌, ◌+◌, ℕ, List, [], ◌++◌, length}
use Rattle.serve_lines.specs.Progress.{ReadsMore, held_in}
use Rattle.serve_lines.proofs.session.Session.next_reply.Given as goal

abbrev pub invariant-lines : goal.invariant-lines
invariant-lines g l = (taken : List ℕ) × (taken ++ l.rest ≡ l.fn.input) × ReadsMore g.D.SectorDevice.disk taken l.fn.store l.fn.self l.store l.self
    × (l.self.ready.items ≡ []) × (length l.rest + held_in l.self ≤ length l.fn.input + held_in l.fn.self)

abbrev pub decreases-lines : goal.decreases-lines
decreases-lines g l = length l.rest
