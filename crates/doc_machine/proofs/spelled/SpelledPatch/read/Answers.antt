use Rattle.std.proofs.Common.{rules, ◌≡◌, ℕ, List, None, arith, string_bytes, subst, sym}
use Rattle.doc_patch.specs.Meaning.{operations}
use Rattle.doc_patch.specs.Plain.{IsTextOfPatch}
use Rattle.record_text.specs.Change.{object_of, patch}
use Rattle.record_text.specs.Fault.{IsTextOf}
use Rattle.doc_machine.specs.Spelled.{IsSpelledBy}
use Rattle.doc_machine.proofs.SpelledTexts.{spells_patch}
use Rattle.doc_machine.proofs.spelled.SpelledPatch.read.Goals as goal

pub returns-clause-spells : goal.returns-clause-spells
returns-clause-spells c =
    let t : IsTextOfPatch c.in_ok-name.ops.now (operations c.in_ok-changes.changes) = c.in_ok-changes.ensures in
    spells_patch c.args.bytes.now c.in_ok-name.name.now t.ops (c.in_ok-name.ensures t.ops t.text t.sound (omega (arith, t.low)))

pub invariant_of-result : goal.invariant_of-result
invariant_of-result c =
    let t : IsTextOfPatch c.in_ok-name.ops.now (operations c.in_ok-changes.changes) = c.in_ok-changes.ensures in
    let copied : c.extend_from_slice.new.self.items ≡ c.args.bytes.now = search rules in
    let named : string_bytes c.in_ok-name-2.name ≡ c.in_ok-name.name.now = search rules in
    subst (λ (bytes : List ℕ). IsSpelledBy bytes (string_bytes c.in_ok-name-2.name) (operations c.in_ok-changes.changes)) (sym copied)
    (record {
      spells = spells_patch c.args.bytes.now c.in_ok-name.name.now t.ops (c.in_ok-name.ensures t.ops t.text t.sound (omega (arith, t.low)));
      named = sym named;
      read = t.read;
      sound = t.sound;
    })
