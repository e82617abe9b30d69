use Rattle.std.proofs.Common.{rules, ◌≡◌, ◌≢◌, ◌∙◌, ◌<◌, ◌+◌, ℕ, List, [], true, arith, length, take, drop, sym, ap, subst}
use Rattle.std.proofs.Math.Seq.{take-append_seam, drop-append_seam}
use Rattle.change_history.specs.History.{History, Told, newest, with_told}
use Rattle.log_frames.specs.Kinds.{frames_as}
use Rattle.log_frames.specs.Log.{Transacted, logged_each, logged_transacted}
use Rattle.store_commits.proofs.Replays.{none_left}
use Rattle.told_transactions.specs.Begun.{AreLogged, IsNumbered}
use Rattle.told_transactions.proofs.Filling.{all_filled, fails_first, fails_next, filled_next, filled_none, has_next, needs_of}
use Rattle.told_transactions.proofs.Transactions.{logged_first}
use Rattle.told_transactions.proofs.begun.filled.Goals as goal

pub returns-in_default : goal.returns-in_default
returns-in_default c = λ ts are is. fails_first c.args.limit ts
    (λ t us same floor numbered. c.in_default.ensures.number t us (subst AreLogged same are) (ap (λ (l : List Transacted). frames_as (logged_each l)) (sym same) ∙ is) floor numbered)

pub transactions-init : goal.transactions-init
transactions-init c = λ ts are is. filled_none c.args.limit c.in-Some.floor ts c.new-history.result.history c.args.bytes.now are is c.new-history.ensures

pub returns-in_default-transaction_at : goal.returns-in_default-transaction_at
returns-in_default-transaction_at c = λ ts are is.
    let l = c.transactions in
    let h = l.history.history in
    let some : l.rest.now ≢ [] = search rules in
    let next = has_next c.args.limit c.in-Some.floor ts h l.rest.now some (l.invariant ts are is) in
    fails_next c.args.limit c.in-Some.floor ts h l.rest.now
    (λ t us same floor numbered. c.in-Some.ensures.number t us (subst AreLogged same are) (ap (λ (k : List Transacted). frames_as (logged_each k)) (sym same) ∙ is) floor numbered)
    next (λ numbered. c.in_default-transaction_at.ensures next.next (frames_as (logged_each next.more)) (logged_first next.next next.more next.logged) next.bytes_are (subst (λ (n : ℕ). IsNumbered n next.next) (sym c.newest.ensures.value) numbered))

pub split_at-requires : goal.split_at-requires
split_at-requires c =
    let l = c.transactions in
    let some : l.rest.now ≢ [] = search rules in
    let next = has_next c.args.limit c.in-Some.floor c.requires.0 l.history.history l.rest.now some (l.invariant c.requires.0 c.requires.1 c.requires.2) in
    let needs = needs_of c.args.limit c.in-Some.floor c.requires.0 l.history.history l.rest.now next in
    let found = c.in-Some-transaction_at.ensures next.next (frames_as (logged_each next.more)) (logged_first next.next next.more next.logged) next.bytes_are in
    let fits = needs.fits in
    let size = found.2 in
    omega (arith, fits, size)

pub push-requires-clause-larger : goal.push-requires-clause-larger
push-requires-clause-larger c =
    let l = c.transactions in
    let some : l.rest.now ≢ [] = search rules in
    let next = has_next c.args.limit c.in-Some.floor c.requires.0 l.history.history l.rest.now some (l.invariant c.requires.0 c.requires.1 c.requires.2) in
    let needs = needs_of c.args.limit c.in-Some.floor c.requires.0 l.history.history l.rest.now next in
    let found = c.in-Some-transaction_at.ensures next.next (frames_as (logged_each next.more)) (logged_first next.next next.more next.logged) next.bytes_are in
    let same = ap (λ (k : History). newest k.floor k.told) c.in_ok-reserve.ensures.same in
    let value = c.newest.ensures.value in
    let last = found.1 in
    let changes = needs.changes in
    omega (arith, same, value, last, changes)

pub transactions-preserved : goal.transactions-preserved
transactions-preserved c = λ ts are is.
    let l = c.transactions in
    let h = l.history.history in
    let some : l.rest.now ≢ [] = search rules in
    let next = has_next c.args.limit c.in-Some.floor ts h l.rest.now some (l.invariant ts are is) in
    let found = c.in-Some-transaction_at.ensures next.next (frames_as (logged_each next.more)) (logged_first next.next next.more next.logged) next.bytes_are in
    let frames = frames_as (logged_transacted next.next) in
    let more = frames_as (logged_each next.more) in
    let x : Told = record { last = c.in-Some-transaction_at.last; frames = c.own.result } in
    let value = c.newest.ensures.value in
    let last : x.last ≡ newest h.floor h.told + length next.next.changes = found.1 ∙ ap (λ (n : ℕ). n + length next.next.changes) value in
    let bytes : x.frames ≡ frames = c.own.ensures ∙ c.in_ok-frames.ensures ∙ c.split_at.ensures.front ∙ (λ i. take (found.2 i) (next.bytes_are i)) ∙ take-append_seam frames more in
    filled_next c.args.limit c.in-Some.floor ts h l.rest.now next x c.push.new.self.history c.split_at.result.1.now
    (subst (λ (n : ℕ). IsNumbered n next.next) value found.0)
    (λ i. record { last = last i; frames = bytes i })
    (c.push.ensures.pushed ∙ ap (λ (k : History). with_told k x) c.in_ok-reserve.ensures.same)
    c.push.ensures.newest
    (c.split_at.ensures.back ∙ (λ i. drop (found.2 i) (next.bytes_are i)) ∙ drop-append_seam frames more)

pub transactions-smaller : goal.transactions-smaller
transactions-smaller c =
    let l = c.transactions in
    let some : l.rest.now ≢ [] = search rules in
    let next = has_next c.args.limit c.in-Some.floor c.requires.0 l.history.history l.rest.now some (l.invariant c.requires.0 c.requires.1 c.requires.2) in
    let needs = needs_of c.args.limit c.in-Some.floor c.requires.0 l.history.history l.rest.now next in
    let found = c.in-Some-transaction_at.ensures next.next (frames_as (logged_each next.more)) (logged_first next.next next.more next.logged) next.bytes_are in
    let long = needs.some in
    let size = found.2 in
    let left = c.split_at.ensures.back_len in
    let less : length c.split_at.result.1.now < length l.rest.now = omega (arith, long, size, left) in
    less

pub returns : goal.returns
returns c = λ ts are is.
    let l = c.transactions in
    let empty : c.is_empty.result ≡ true = search rules in
    let none : l.rest.now ≡ [] = none_left l.rest.now (sym c.is_empty.ensures ∙ empty) in
    all_filled c.args.limit c.in-Some.floor ts l.history.history l.rest.now (l.invariant ts are is) none
    (λ no. (let bytes = sym is ∙ ap (λ (k : List Transacted). frames_as (logged_each k)) no in let count = ap length bytes in let long = c.in-Some.ensures.some in omega (arith, count, long)))
