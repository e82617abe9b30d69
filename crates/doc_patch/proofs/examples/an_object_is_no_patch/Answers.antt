use Rattle.std.proofs.Common.{refl}
use Rattle.std.specs.Fmt.{digits}
use Rattle.json.specs.Print.{escape_byte}
use Rattle.doc_patch.proofs.examples.an_object_is_no_patch.Goals as goal

pub returns : goal.returns
unfolding escape_byte digits
returns c = refl
