use Rattle.std.proofs.Common.{◌∙◌, List, ℕ, ap, max, subst}
use Rattle.doc_changes.specs.State.{empty_in}
use Rattle.store_parts.specs.Parts.{HasCheck}
use Rattle.store_salvage.specs.Making.{profile_of, seq_or, source_of}
use Rattle.store_salvage.proofs.OfParts.{gathers_by}
use Rattle.store_salvage.proofs.making.made_of.Goals as goal

pub returns-clause-made : goal.returns-clause-made
returns-clause-made g c = λ h.
    let found = c.args.found.now in
    let bytes = c.in_ok-bytes.field-0.bytes.items in
    let last = c.in_ok-machine.field-0.last in
    let check = c.check_of-check.result in
    record {
      bytes = bytes;
      has = c.in_ok-bytes.ensures.read h;
      checked = subst (λ (l : List ℕ). HasCheck c.args.part.now l check) c.deref.ensures.value c.check_of-check.ensures;
      last = last;
      gathers = gathers_by c.source_of-source.result (source_of found c.args.part.now check) c.deref-3.result.now bytes c.deref-4.result.now found.parts.items c.at-empty.result
          (empty_in (profile_of found.format) 18446744073709551615) c.in_ok-machine.field-0.doubts.items last c.in_ok-machine.field-0.machine
          c.source_of-source.ensures.value c.deref-3.ensures.value c.deref-4.ensures.value
          (c.at-empty.ensures.empty ∙ ap (λ p. empty_in p 18446744073709551615) c.profile_of.ensures) c.in_ok-machine.ensures.gathers;
      seq_is = c.max.ensures ∙ ap (λ n. max last n) c.seq_or.ensures;
    }
