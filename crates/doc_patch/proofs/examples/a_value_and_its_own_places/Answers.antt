use Rattle.std.proofs.Common.{refl}
use Rattle.std.specs.Fmt.{digits}
use Rattle.json.specs.Print.{escape_byte}
use Rattle.doc_patch.proofs.examples.a_value_and_its_own_places.Goals as goal

pub returns-clause-into_itself : goal.returns-clause-into_itself
unfolding escape_byte digits
returns-clause-into_itself c = refl

pub returns-clause-same : goal.returns-clause-same
unfolding escape_byte digits
returns-clause-same c = refl

pub returns-clause-copy : goal.returns-clause-copy
unfolding escape_byte digits
returns-clause-copy c = refl
