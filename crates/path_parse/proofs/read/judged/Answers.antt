use Rattle.std.proofs.Common.{◌∙◌, ap, subst, Bool, Some, inl, inr, refl}
use Rattle.path_grammar.specs.Reading.{read_whole}
use Rattle.path_grammar.proofs.OneQuery.{SpellsOnly-read, SpellsLeftOut-read, SpellsNone-read}
use Rattle.path_parse.specs.Gives.{Stops}
use Rattle.path_parse.specs.SyntaxView.{query_view}
use Rattle.path_parse.proofs.read.judged.Goals as goal

pub returns-then-left_out-clause-err : goal.returns-then-left_out-clause-err
returns-then-left_out-clause-err c =
    let read = c.in-Ok.ensures ∙ ap (λ (b : Bool). Some (query_view c.in-Ok.query, b)) c.if-left_out.true in
    inl (refl, SpellsLeftOut-read (query_view c.in-Ok.query) c.args.text.now read)

pub returns-else-left_out-clause-ok : goal.returns-else-left_out-clause-ok
returns-else-left_out-clause-ok c =
    let read = c.in-Ok.ensures ∙ ap (λ (b : Bool). Some (query_view c.in-Ok.query, b)) c.if-left_out.false in
    SpellsOnly-read (query_view c.in-Ok.query) c.args.text.now read

pub returns-in-Err-Syntax-clause-err : goal.returns-in-Err-Syntax-clause-err
returns-in-Err-Syntax-clause-err c =
    let read = subst (λ s. Stops s (read_whole c.args.text.now)) c.in-Err-Syntax.field-0-is c.in-Err-Syntax.ensures in
    inr (inl (refl, SpellsNone-read c.args.text.now read))
