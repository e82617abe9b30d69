use Rattle.std.proofs.Common.{◌≤◌, ◌∙◌, sym, ap, arith}
use Rattle.change_history.specs.History.{bytes_of}
use Rattle.change_history.proofs.Trimmed.{all_stay}
use Rattle.change_history.proofs.history.History.keep_within.Goals as goal

pub returns-clause-floor : goal.returns-clause-floor
returns-clause-floor c =
    let h = c.loop-self.self-inside in
    let bytes = c.loop-self.invariant.bytes in
    let below = c.loop-self-test.false in
    let fit : bytes_of h.told.items ≤ c.args.most = omega (arith, bytes, below) in
    ap (λ k. k.floor) (sym (all_stay c.args.most h.floor h.told.items fit) ∙ c.loop-self.invariant.trimmed)

pub returns-clause-told : goal.returns-clause-told
returns-clause-told c =
    let h = c.loop-self.self-inside in
    let bytes = c.loop-self.invariant.bytes in
    let below = c.loop-self-test.false in
    let fit : bytes_of h.told.items ≤ c.args.most = omega (arith, bytes, below) in
    ap (λ k. k.told) (sym (all_stay c.args.most h.floor h.told.items fit) ∙ c.loop-self.invariant.trimmed)
