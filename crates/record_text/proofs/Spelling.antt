-- What is read and written again is the same where it was written once.
use Rattle.std.proofs.Common.{◌≡◌, ◌≢◌, ℕ, List, Some, None, sym, ap, ◌∙◌}
use Rattle.doc_tree.specs.Doc.{Doc}
use Rattle.doc_tree.specs.Fault.{IsFaultOf, refusal_of}
use Rattle.doc_tree.specs.Read.{read_of, document}
use Rattle.doc_tree.specs.Text.{text_of}
use Rattle.doc_tree.specs.declared.fault.TreeFault.{TreeFault}
use Rattle.refusals.specs.declared.numbers.TheConstants.{MEMORY}
use Rattle.doc_tree.proofs.RoundTrip.{read_of-text_of}
use Rattle.record_text.specs.Fault.{IsTextOf}

none_some : (n : ℕ) → None ≡ Some n → ⊥
none_some n e = absurd (cc)

same_document : (a b : Doc) → document a ≡ document b → a ≡ b
same_document a b e = cc

reads : (bytes : List ℕ) (d : Doc) → IsTextOf bytes d → read_of bytes ≡ document d
reads bytes d t = ap read_of (sym t.text) ∙ read_of-text_of d t.sound t.low

-- what isn't read is no document's text
pub unread : (bytes : List ℕ) (fault : TreeFault) → fault.number ≢ MEMORY → IsFaultOf fault (read_of bytes) → (d : Doc) → IsTextOf bytes d → ⊥
unread bytes fault other h d t = none_some fault.number (sym (ap refusal_of (reads bytes d t)) ∙ h other)

-- what is read as a document has that document's text, if it is a document's text at all
pub written_again : (bytes : List ℕ) (read : Doc) → read_of bytes ≡ document read → (d : Doc) → IsTextOf bytes d → text_of read ≡ bytes
written_again bytes read e d t = ap text_of (same_document read d (sym e ∙ reads bytes d t)) ∙ t.text
