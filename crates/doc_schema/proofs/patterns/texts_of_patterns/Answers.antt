use Rattle.std.proofs.Common.{◌++◌, map, ap, ◌∙◌}
use Rattle.std.proofs.lemmas.Result.{IfOk-weaker}
use Rattle.doc_tree.specs.TreeView.{view}
use Rattle.schema_rules.specs.PatternTexts.{offered_texts}
use Rattle.doc_schema.proofs.patterns.texts_of_patterns.Goals as goal

pub returns : goal.returns
returns c = IfOk-weaker c.texts_in.result _ _ (λ v h. h ∙ ap (λ l. map (λ s. s.now) l ++ offered_texts c.args.profile (view c.args.root.now)) c.new.ensures.items) c.texts_in.ensures
