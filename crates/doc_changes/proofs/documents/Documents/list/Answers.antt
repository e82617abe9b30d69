use Rattle.std.proofs.Common.{◌∙◌, ap, arith}
use Rattle.doc_changes.specs.Reading.{names_of}
use Rattle.doc_changes.proofs.Entries.{names_of_keys}
use Rattle.doc_changes.proofs.documents.Documents.list.Goals as goal

pub returns-clause-names : goal.returns-clause-names
returns-clause-names c =
    c.loop-name.invariant
    ∙ names_of_keys c.self.inside.documents.now.entries c.as_slice-keys.result.now c.loop-name.name-index (c.as_slice-keys.ensures ∙ c.keys.ensures.rest) (omega arith)
    ∙ ap names_of c.self.view_is
