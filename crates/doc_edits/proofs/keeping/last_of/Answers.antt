use Rattle.std.proofs.Common.{◌∙◌, sym}
use Rattle.doc_edits.proofs.Tokens.{last_token}
use Rattle.doc_edits.proofs.keeping.last_of.Goals as goal

pub returns-in-Some : goal.returns-in-Some
returns-in-Some c = c.as_str.ensures.value ∙ sym (last_token c.args.token.now c.args.rest.now c.in-Some.last.now c.in-Some.ensures.value)
