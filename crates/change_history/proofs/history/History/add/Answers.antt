use Rattle.std.proofs.Common.{◌≡◌, sym, ap, ◌∙◌, ◌+◌, ◌<◌, ◌≤◌, ◌++◌, ◌∷◌, [], length, if◌then◌else◌, subst, arith}
use Rattle.std.specs.VecDeque.{deque_capacity, deque_len}
use Rattle.change_history.specs.History.{bytes_of, newest, IsKept}
use Rattle.change_history.proofs.Trimmed.{all, bytes-push, kept_push}
use Rattle.change_history.proofs.history.History.add.Goals as goal

pub invariant_of-self : goal.invariant_of-self
invariant_of-self c =
    let h = c.self.inside in
    let told = c.args.told in
    let view = c.self.view_is in
    let free : length h.told.items < deque_capacity h.told = subst (λ r. length r.history.told < r.capacity) (sym view) c.requires.room in
    let room : deque_len h.told < deque_capacity h.told = subst (λ n. n < deque_capacity h.told) (sym h.told.ok.0) free in
    let larger : newest h.floor h.told.items < told.last = subst (λ r. newest r.history.floor r.history.told < told.last) (sym view) c.requires.larger in
    let fits : bytes_of h.told.items + length told.frames ≤ h.limit = subst (λ r. bytes_of r.history.told + length told.frames ≤ r.history.limit) (sym view) c.requires.fits in
    let items : c.push_back.new.self.items ≡ h.told.items ++ told ∷ [] = c.push_back.ensures.items ∙ ap (λ b. if b then h.told.items ++ told ∷ [] else h.told.items) (c.push_back.ensures.succeeds room) in
    let bytes = c.self.invariant.1 in
    let more = c.bytes.ensures in
    let sum = bytes-push h.told.items told in (
      subst (λ ts. IsKept (all h.limit h.floor ts)) (sym items) (kept_push h.limit h.floor h.told.items told c.self.invariant.0 larger fits),
      omega (arith, bytes, more, sum) ∙ ap bytes_of (sym items),
    )
