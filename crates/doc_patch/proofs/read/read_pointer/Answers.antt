use Rattle.std.proofs.Common.{inr}
use Rattle.doc_pointer.proofs.Readings.{pointer_of-pointer_text}
use Rattle.doc_patch.proofs.Pointers.{unread}
use Rattle.doc_patch.proofs.read.read_pointer.Goals.{then-fault-eq-MEMORY, in-Err-2}
use Rattle.doc_patch.proofs.read.read_pointer.Goals as goal

pub returns-in-Ok : goal.returns-in-Ok
returns-in-Ok c = pointer_of-pointer_text c.args.text.now c.in-Ok.pointer c.in-Ok.ensures.ok

pub returns : goal.returns
returns c =
    elim c.if-fault-eq-MEMORY.branch [
      | then-fault-eq-MEMORY w ↦ inr w.number-is
      | in-Err-2 w ↦ unread c.args.text.now c.in-Err.fault _ c.in-Err.ensures.err w.if-fault-eq-MEMORY.false w.number-is
    ]
