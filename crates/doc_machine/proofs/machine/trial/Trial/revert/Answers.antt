use Rattle.std.proofs.Common.{◌≡◌, ◌-◌, sym, ◌∙◌, ap, subst, map, List, [], ◌∷◌, ◌++◌, length, length-append, arith}
use Rattle.doc_changes.specs.State.{State, Document, Good}
use Rattle.doc_machine.specs.Trial.{TrialView}
use Rattle.doc_machine.specs.Tried.{tried, before, past_of, CanGoBackAll}
use Rattle.doc_changes.specs.StateView.{document_of}
use Rattle.doc_machine.specs.declared.machine.trial.Tried.{Tried}
use Rattle.doc_machine.proofs.Pasts.{newest, past_of-push, popped}
use Rattle.doc_machine.proofs.machine.trial.Trial.revert.Goals as goal

pub unset_all-requires : goal.unset_all-requires
unset_all-requires c = (newest c.self.inside.log.items c.pop.new.self.items c.pop.result c.unwrap-tried.result (tried c.self.inside) c.pop.ensures.items c.unwrap-tried.ensures c.self.invariant.back).1.set

pub unmake-requires-clause-there : goal.unmake-requires-clause-there
unmake-requires-clause-there c = (newest c.self.inside.log.items c.pop.new.self.items c.pop.result c.unwrap-tried.result (tried c.self.inside) c.pop.ensures.items c.unwrap-tried.ensures c.self.invariant.back).1.there

pub unmake-requires-clause-distinct : goal.unmake-requires-clause-distinct
unmake-requires-clause-distinct c = (newest c.self.inside.log.items c.pop.new.self.items c.pop.result c.unwrap-tried.result (tried c.self.inside) c.pop.ensures.items c.unwrap-tried.ensures c.self.invariant.back).1.good.distinct

pub overflow_sub-self : goal.overflow_sub-self
overflow_sub-self c = (newest c.self.inside.log.items c.pop.new.self.items c.pop.result c.unwrap-tried.result (tried c.self.inside) c.pop.ensures.items c.unwrap-tried.ensures c.self.invariant.back).1.counted

abbrev now : (c : goal.After-self-1) → State
now c = record { documents = map document_of c.unmake.new.documents.entries; marks = c.unset_all.new.self; seq = c.self.inside.seq - 1; profile = c.self.inside.profile }

now_is : (c : goal.After-self-1) → now c ≡ before c.unwrap-tried.result (tried c.self.inside)
now_is c = λ i. record { documents = c.unmake.ensures.before i; marks = c.unset_all.ensures i; seq = c.self.inside.seq - 1; profile = c.self.inside.profile }

pub invariant_of-self : goal.invariant_of-self
invariant_of-self c =
    let both = (newest c.self.inside.log.items c.pop.new.self.items c.pop.result c.unwrap-tried.result (tried c.self.inside) c.pop.ensures.items c.unwrap-tried.ensures c.self.invariant.back) in
    let rest = c.pop.new.self.items in
    let size = ap length (popped c.self.inside.log.items c.pop.new.self.items c.pop.result c.unwrap-tried.result c.pop.ensures.items c.unwrap-tried.ensures) in
    record {
      good = subst Good (sym (now_is c)) both.1.good;
      back = subst (CanGoBackAll rest) (sym (now_is c)) both.0;
      room = omega (arith, size, length-append rest (c.unwrap-tried.result ∷ []), c.self.invariant.room, c.unmake.ensures.spare);
    }

pub returns : goal.returns
returns c =
    sym (ap (λ (v : TrialView). v.past) c.self.view_is) ∙ ap (λ (l : List Tried). past_of l (tried c.self.inside)) (popped c.self.inside.log.items c.pop.new.self.items c.pop.result c.unwrap-tried.result c.pop.ensures.items c.unwrap-tried.ensures)
    ∙ past_of-push c.pop.new.self.items c.unwrap-tried.result (tried c.self.inside)
    ∙ ap (λ (s : State). past_of c.pop.new.self.items s ++ s ∷ []) (sym (now_is c))
