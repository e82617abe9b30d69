use Rattle.std.proofs.Common.{rules, ◌≡◌, ◌+◌, ◌-◌, ◌++◌, ◌∷◌, [], ℕ, List, length, ap, ◌∙◌, arith, Vec, Global}
use Rattle.std.proofs.lemmas.List.{map-append}
use Rattle.doc_machine.specs.Transaction.{transaction_of}
use Rattle.store_commits.specs.Folds.{frames_of}
use Rattle.store_commits.specs.Given.{bytes_each}
use Rattle.store_commits.specs.Run.{Done}
use Rattle.store_commits.proofs.Changes.{size_is}
use Rattle.store_commits.proofs.Plans.{first_stays, further_waits}
use Rattle.store_commits.proofs.plan.Planning.wait.Goals as goal

pub returns-clause-ok : goal.returns-clause-ok
returns-clause-ok c = λ a slots is.
    let p = c.args.self.now in
    let t = transaction_of c.args.transaction in
    let tried = c.in-Ok.ensures.made in
    let size = ap length c.requires.frames ∙ size_is p.rides c.args.trial.now.state.seq t in
    let fits = c.requires.fits in
    let len = c.len-size.ensures in
    let ok = c.args.frames.ok in
    let sum : c.in-Some.bytes ≡ p.bytes + c.len-size.result = search rules in
    let count : c.in-Some-checked_add.adds ≡ p.last.adds + c.len-adds.result = search rules in
    let said = p.last.replies.items in
    let each : bytes_each c.push.new.self.items ≡ bytes_each p.last.each.items ++ frames_of p.rides c.args.trial.now.state.seq t ∷ [] =
    ap bytes_each c.in_ok-push.ensures.items ∙ map-append (λ (v : Vec ℕ Global). v.items) p.last.each.items (c.args.frames ∷ []) ∙ ap (λ (l : List ℕ). bytes_each p.last.each.items ++ l ∷ []) c.requires.frames in
    further_waits a slots p c.args.trial.now is t tried.accepted c.transact.new.self tried.made c.transact.ensures.good
    c.extend_from_slice.new.self (c.in_ok-extend_from_slice.ensures.items ∙ ap (λ (l : List ℕ). p.last.frames.items ++ l) (c.deref.ensures.value ∙ c.requires.frames))
    c.push.new.self each
    c.push-2.new.self (c.in_ok-push-2.ensures.items ∙ ap (λ (n : ℕ). said ++ Done n ∷ []) tried.seq_is)
    (p.left - c.len-size.result) c.in-Some.bytes c.in-Some-checked_add.adds (omega (arith, size, fits, len, ok)) (omega (arith, sum, size, len, ok)) (count ∙ ap (λ (n : ℕ). p.last.adds + n) c.len-adds.ensures)

pub returns-in_err-push-clause-origin : goal.returns-in_err-push-clause-origin
returns-in_err-push-clause-origin c = first_stays c.args.trial.now c.transact.new.self (transaction_of c.args.transaction) c.in-Ok.seq c.in-Ok.ensures.made

pub returns-in_err-push-2-clause-origin : goal.returns-in_err-push-2-clause-origin
returns-in_err-push-2-clause-origin c = first_stays c.args.trial.now c.transact.new.self (transaction_of c.args.transaction) c.in-Ok.seq c.in-Ok.ensures.made
