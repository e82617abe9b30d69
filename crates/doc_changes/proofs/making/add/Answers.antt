use Rattle.std.proofs.Common.{◌≡◌, ◌-◌, ◌∙◌, ap, map, List, ◌++◌, ◌∷◌, [], length, length-append, take, arith}
use Rattle.std.proofs.lemmas.Result.{IfOk-at_ok}
use Rattle.std.proofs.lemmas.List.{map-append}
use Rattle.doc_changes.specs.State.{Document}
use Rattle.doc_changes.specs.StateView.{document_of}
use Rattle.doc_changes.proofs.Entries.{pushed}
use Rattle.doc_changes.proofs.Undoing.{take-push}
use Rattle.doc_changes.proofs.making.add.Goals as goal

is : (c : goal.Joined-old) → map document_of c.insert.new.self.entries ≡ map document_of c.args.documents.now.entries ++ document_of (c.args.name, c.args.stored) ∷ []
is c =
    let es = c.args.documents.now.entries in
    ap (map document_of) (IfOk-at_ok _ c.unwrap-old.ensures c.insert.ensures.entries ∙ pushed c.args.name c.args.stored es c.requires.new)
    ∙ map-append document_of es ((c.args.name, c.args.stored) ∷ [])

pub returns-clause-after : goal.returns-clause-after
returns-clause-after c = is c

pub returns-clause-undo : goal.returns-clause-undo
returns-clause-undo c =
    let ds = map document_of c.args.documents.now.entries in
    let size = ap length (is c) in
    record {
      back = ap (λ (l : List Document). take (length l - 1) l) (is c) ∙ take-push ds (document_of (c.args.name, c.args.stored));
      there = omega (arith, size, length-append ds (document_of (c.args.name, c.args.stored) ∷ []));
    }
