use Rattle.std.proofs.Common.{refl}
use Rattle.std.specs.Fmt.{digits}
use Rattle.json.specs.Print.{escape_byte}
use Rattle.doc_patch.proofs.examples.a_failed_test_refuses_the_patch.Goals as goal

pub returns-clause-read : goal.returns-clause-read
unfolding escape_byte digits
returns-clause-read c = refl

pub returns-clause-refused : goal.returns-clause-refused
unfolding escape_byte digits
returns-clause-refused c = refl
