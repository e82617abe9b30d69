-- The view of a machine's fields.
use Rattle.doc_changes.specs.State.{State}
use Rattle.doc_changes.specs.StateView.{kept_state}
use Rattle.doc_machine.specs.declared.machine.Machine.TheInside.{Inside}

abbrev pub state_of : Inside → State
state_of m = kept_state m.documents.entries m.marks m.seq m.profile
