use Rattle.std.proofs.Common.{◌≡◌, ◌∙◌, ◌+◌, ◌-◌, ◌<◌, ◌≤◌, ◌++◌, ◌∷◌, [], length, sym, ap, subst, arith}
use Rattle.change_history.specs.History.{bytes_of, newest, trimmed}
use Rattle.change_history.proofs.Trimmed.{all, bytes-trimmed, length-told, length-trimmed, newest-told, newest-trimmed, none_stays, room_first}
use Rattle.change_history.proofs.history.History.push.Goals as goal

pub add-requires-clause-room : goal.add-requires-clause-room
add-requires-clause-room c =
    let h = c.args.self.now.history in
    let kept = c.keep_within-else-self-bytes in
    let shorter = length-trimmed (c.keep_within.inside.limit - c.bytes-bytes.result) h.floor h.told in
    let same = ap length kept.ensures.told in
    let capacity = kept.ensures.capacity in
    let room = c.requires.room in
    omega (arith, shorter, same, capacity, room)

pub add-requires-clause-larger : goal.add-requires-clause-larger
add-requires-clause-larger c =
    let h = c.args.self.now.history in
    let kept = c.keep_within-else-self-bytes in
    let most = c.keep_within.inside.limit - c.bytes-bytes.result in
    let same : newest kept.new.self.history.floor kept.new.self.history.told ≡ newest h.floor h.told =
    ap (λ f. newest f kept.new.self.history.told) kept.ensures.floor ∙ ap (newest (trimmed most h.floor h.told).floor) kept.ensures.told ∙ newest-trimmed most h.floor h.told in
    subst (λ n. n < c.args.told.last) (sym same) c.requires.larger

pub add-requires-clause-fits : goal.add-requires-clause-fits
add-requires-clause-fits c =
    let h = c.args.self.now.history in
    let kept = c.keep_within-else-self-bytes in
    let fit = bytes-trimmed (c.keep_within.inside.limit - c.bytes-bytes.result) h.floor h.told in
    let same = ap bytes_of kept.ensures.told in
    let bytes = c.bytes-bytes.ensures in
    let below = c.if-self-bytes.false in
    let limit = kept.ensures.limit in
    let inside = ap (λ r. r.history.limit) c.self.view_is in
    let again = ap (λ r. r.history.limit) c.keep_within.view_is in
    omega (arith, fit, same, bytes, below, limit, inside, again)

pub returns-then-self-bytes-clause-pushed : goal.returns-then-self-bytes-clause-pushed
returns-then-self-bytes-clause-pushed c =
    let h = c.args.self.now.history in
    let bytes = c.bytes-bytes.ensures in
    let above = c.if-self-bytes.true in
    let inside = ap (λ r. r.history.limit) c.self.view_is in
    let over : h.limit < length c.args.told.frames = omega (arith, bytes, above, inside) in
    c.clear.ensures.cleared ∙ ap (λ n. all h.limit n []) (ap (λ t. t.last) c.told.view_is) ∙ sym (none_stays h.limit h.floor h.told c.args.told over)

pub returns-else-self-bytes-clause-pushed : goal.returns-else-self-bytes-clause-pushed
returns-else-self-bytes-clause-pushed c =
    let h = c.args.self.now.history in
    let t = c.args.told in
    let kept = c.keep_within-else-self-bytes in
    let k = kept.new.self.history in
    let most = c.keep_within.inside.limit - c.bytes-bytes.result in
    let bytes = c.bytes-bytes.ensures in
    let below = c.if-self-bytes.false in
    let inside = ap (λ r. r.history.limit) c.self.view_is in
    let fit : length t.frames ≤ h.limit = omega (arith, bytes, below, inside) in
    let again = ap (λ r. r.history.limit) c.keep_within.view_is in
    let same : most ≡ h.limit - length t.frames = omega (arith, bytes, again) in
    c.add.ensures.added
    ∙ ap (λ l. all l k.floor (k.told ++ t ∷ [])) kept.ensures.limit
    ∙ ap (λ f. all h.limit f (k.told ++ t ∷ [])) kept.ensures.floor
    ∙ ap (λ ts. all h.limit (trimmed most h.floor h.told).floor (ts ++ t ∷ [])) kept.ensures.told
    ∙ ap (λ n. all h.limit (trimmed n h.floor h.told).floor ((trimmed n h.floor h.told).told ++ t ∷ [])) same
    ∙ sym (room_first h.limit h.floor h.told t fit)

pub returns-then-self-bytes-clause-newest : goal.returns-then-self-bytes-clause-newest
returns-then-self-bytes-clause-newest c = ap (λ k. newest k.floor k.told) (returns-then-self-bytes-clause-pushed c) ∙ newest-told c.args.self.now.history c.args.told

pub returns-then-self-bytes-clause-len : goal.returns-then-self-bytes-clause-len
returns-then-self-bytes-clause-len c = subst (λ n. n ≤ length c.args.self.now.history.told + 1) (sym (ap (λ k. length k.told) (returns-then-self-bytes-clause-pushed c))) (length-told c.args.self.now.history c.args.told)

pub returns-else-self-bytes-clause-newest : goal.returns-else-self-bytes-clause-newest
returns-else-self-bytes-clause-newest c = ap (λ k. newest k.floor k.told) (returns-else-self-bytes-clause-pushed c) ∙ newest-told c.args.self.now.history c.args.told

pub returns-else-self-bytes-clause-len : goal.returns-else-self-bytes-clause-len
returns-else-self-bytes-clause-len c = subst (λ n. n ≤ length c.args.self.now.history.told + 1) (sym (ap (λ k. length k.told) (returns-else-self-bytes-clause-pushed c))) (length-told c.args.self.now.history c.args.told)
