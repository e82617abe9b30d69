use Rattle.std.proofs.Common.{◌≡◌, ◌∙◌, List, sym, ap, subst}
use Rattle.doc_changes.specs.MarkView.{AreSet, all_before}
use Rattle.doc_changes.specs.declared.marks.Unset.{Unset}
use Rattle.doc_changes.proofs.Marked.{before_push, set_pop}
use Rattle.doc_changes.proofs.marks.Marks.unset_all.Goals as goal

pub unset-requires : goal.unset-requires
unset-requires c =
    let l = c.loop-last in
    (set_pop c.pop.new.self.items c.in-Some.last l.self (subst (λ (us : List Unset). AreSet us l.self) c.in-Some.ensures.items l.invariant.1)).1

pub loop-last-preserved : goal.loop-last-preserved
loop-last-preserved c =
    let l = c.loop-last in
    let rest = c.pop.new.self.items in
    let both = set_pop rest c.in-Some.last l.self (subst (λ (us : List Unset). AreSet us l.self) c.in-Some.ensures.items l.invariant.1) in (
      ap (all_before rest) c.unset.ensures ∙ sym (before_push rest c.in-Some.last l.self) ∙ ap (λ (us : List Unset). all_before us l.self) (sym c.in-Some.ensures.items) ∙ l.invariant.0,
      subst (AreSet rest) (sym c.unset.ensures) both.0,
    )
