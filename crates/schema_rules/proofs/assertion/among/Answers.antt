use Rattle.std.proofs.Common.{◌∙◌, sym, ap}
use Rattle.doc_tree.specs.TreeView.{view}
use Rattle.doc_tree.proofs.Views.{view-List}
use Rattle.schema_rules.specs.Assertions.{is_among}
use Rattle.schema_rules.proofs.Choosing.{alike}
use Rattle.schema_rules.proofs.assertion.among.Goals as goal

pub returns-in-List : goal.returns-in-List
returns-in-List c t = alike c.in-List.values.items c.of.result.sorted.items t c.of.ensures ∙ sym (ap (λ v. is_among (view v) t) c.in-List.is ∙ ap (λ d. is_among d t) (view-List c.in-List.values))
