use Rattle.std.proofs.Common.{refl}
use Rattle.std.specs.Fmt.{digits}
use Rattle.json.specs.Print.{escape_byte}
use Rattle.doc_patch.proofs.examples.an_array_takes_elements_up_to_its_end.Goals as goal

pub returns-clause-both : goal.returns-clause-both
unfolding escape_byte digits
returns-clause-both c = refl

pub returns-clause-refused : goal.returns-clause-refused
unfolding escape_byte digits
returns-clause-refused c = refl
