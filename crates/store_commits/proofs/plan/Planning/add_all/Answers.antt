use Rattle.std.proofs.Common.{◌≡◌, ◌++◌, ◌∷◌, [], List, map, ap, sym, ◌∙◌, refl}
use Rattle.std.proofs.lemmas.List.{append_assoc, append-nil, map-append, nil_from_length}
use Rattle.std.specs.Vec.Iter.{into_iter_items}
use Rattle.doc_machine.specs.declared.transaction.Transaction.{Transaction as Held}
use Rattle.doc_machine.specs.Transaction.{transaction_of}
use Rattle.store_commits.proofs.Slots.{asked_append}
use Rattle.store_commits.proofs.plan.Planning.add_all.Goals as goal

pub loop-transaction-init : goal.loop-transaction-init
loop-transaction-init c = record {
  planned = λ a is. ([], refl, is);
  origin = refl;
  left = sym c.into_iter-transaction-iterator.ensures.into_iter_gives.0;
}

pub loop-transaction-preserved : goal.loop-transaction-preserved
loop-transaction-preserved c =
    let l = c.loop-transaction in
    let t = c.in-Some.transaction in
    record {
      planned = λ a begins.
          let is = l.invariant.planned a begins in
          let go = c.in_ok-add.ensures.ok a is.0 is.2 in (
            is.0 ++ go.0 ∷ [],
            asked_append is.0 (go.0 ∷ []) ∙ (λ i. is.1 i ++ go.1 i) ∙ sym (map-append transaction_of l.yielded (t ∷ [])),
            go.2,
          );
      origin = c.add.ensures.origin ∙ l.invariant.origin;
      left = l.invariant.left ∙ ap (λ (ts : List Held). l.yielded ++ ts) c.in-Some.ensures.steps.0 ∙ sym (append_assoc l.yielded (t ∷ []) (into_iter_items c.next.new.self));
    }

pub returns-clause-ok : goal.returns-clause-ok
returns-clause-ok c = λ a begins.
    let l = c.loop-transaction in
    let is = l.invariant.planned a begins in
    let none : into_iter_items l.transaction-iterator ≡ [] = nil_from_length _ (sym l.transaction-iterator.rest.ok.0 ∙ c.in-None.ensures.steps.0) in
    let all : c.args.transactions.items ≡ l.yielded = l.invariant.left ∙ ap (λ (ts : List Held). l.yielded ++ ts) none ∙ append-nil l.yielded in (
      is.0,
      is.1 ∙ ap (map transaction_of) (sym all),
      is.2,
    )
