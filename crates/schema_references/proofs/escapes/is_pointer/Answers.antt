use Rattle.std.proofs.Common.{◌≡◌, ◌<◌, ◌∙◌, arith}
use Rattle.std.proofs.lemmas.Str.Pattern.{strip_prefix_char}
use Rattle.schema_references.proofs.Pointing.{after_slash, if_no_slash, if_slash}
use Rattle.schema_references.proofs.escapes.is_pointer.Goals as goal

pub returns-in-Some : goal.returns-in-Some
returns-in-Some c =
    let found = strip_prefix_char 47 c.args.text.now c.strip_prefix.result c.strip_prefix.ensures.cases (omega arith) in
    after_slash c.args.text.now c.in-Some.tokens.now c.as_bytes.result.now c.has_whole_escapes.result (if_slash c.args.text.now c.strip_prefix.result c.in-Some.tokens found c.in-Some.is) c.as_bytes.ensures.value c.has_whole_escapes.ensures

pub returns-in-None : goal.returns-in-None
returns-in-None c =
    c.is_empty.ensures ∙ if_no_slash c.args.text.now c.strip_prefix.result (strip_prefix_char 47 c.args.text.now c.strip_prefix.result c.strip_prefix.ensures.cases (omega arith)) c.in-None.is
