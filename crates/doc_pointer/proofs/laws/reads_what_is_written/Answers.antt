use Rattle.doc_pointer.proofs.Readings.{pointer_of-Some, pointer_of-pointer_text}
use Rattle.doc_pointer.proofs.laws.reads_what_is_written.Goals as goal

pub returns : goal.returns
returns c = λ text ks. (pointer_of-Some text ks, pointer_of-pointer_text text ks)
