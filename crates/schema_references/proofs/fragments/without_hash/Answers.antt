use Rattle.std.proofs.Common.{◌≡◌, ◌<◌, arith}
use Rattle.std.proofs.lemmas.Str.Pattern.{strip_suffix_char}
use Rattle.schema_references.proofs.Fronts.{if_none, if_some}
use Rattle.schema_references.proofs.fragments.without_hash.Goals as goal

pub returns-in-Some : goal.returns-in-Some
returns-in-Some c = if_some c.args.identifier.now c.strip_suffix.result c.in-Some.rest (strip_suffix_char 35 c.args.identifier.now c.strip_suffix.result c.strip_suffix.ensures.cases (omega arith)) c.in-Some.is

pub returns-in-None : goal.returns-in-None
returns-in-None c = if_none c.args.identifier.now c.strip_suffix.result (strip_suffix_char 35 c.args.identifier.now c.strip_suffix.result c.strip_suffix.ensures.cases (omega arith)) c.in-None.is
