-- Patches in their text, and the changes that they are.
use Rattle.std.proofs.Common.{◌≡◌, ℕ, List, None, ap, sym, ◌∙◌}
use Rattle.doc_tree.specs.Doc.{Doc, null}
use Rattle.doc_tree.specs.Read.{Reading, document, not_json, not_whole, read_of}
use Rattle.doc_tree.proofs.RoundTrip.{read_of-text_of}
use Rattle.record_text.specs.Change.{object_of, patch}
use Rattle.record_text.specs.Fault.{IsTextOf}
use Rattle.doc_edits.specs.Operation.{Operation}
use Rattle.doc_machine.specs.Spelled.{IsSpelledBy, SpellsPatch, change_in, patch_in}

-- what the text of a document is read as
pub reads : (bytes : List ℕ) (d : Doc) → IsTextOf bytes d → read_of bytes ≡ document d
reads bytes d t = ap read_of (sym t.text) ∙ read_of-text_of d t.sound t.low

abbrev read_document : Reading → Doc
read_document (document d) = d
read_document not_json = null
read_document not_whole = null

-- bytes are the text of one document at most
pub one_document : (bytes : List ℕ) (d e : Doc) → IsTextOf bytes d → IsTextOf bytes e → d ≡ e
one_document bytes d e t u = ap read_document (sym (reads bytes d t) ∙ reads bytes e u)

-- the text of a patch spells it
abbrev pub spells_patch : (bytes name : List ℕ) (ops : Doc) → IsTextOf bytes (object_of (patch name ops None)) → SpellsPatch bytes
spells_patch bytes name ops t = record { name = name; ops = ops; text = t; is = ap patch_in (reads bytes (object_of (patch name ops None)) t) }

-- a patch of that name is the one that the text spells
pub named_patch : (bytes name : List ℕ) (os : List Operation) (s : IsSpelledBy bytes name os) → patch name s.spells.ops None ≡ change_in bytes
named_patch bytes name os s = ap (λ (n : List ℕ). patch n s.spells.ops None) (sym s.named) ∙ sym s.spells.is
