use Rattle.doc_pointer.proofs.Places.{element_named_dash}
use Rattle.doc_pointer.proofs.laws.dash_names_no_element.Goals as goal

pub returns : goal.returns
returns c = element_named_dash 0
