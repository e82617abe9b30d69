use Rattle.std.proofs.Common.{length, ◌==◌, not, sym, ap, ◌∙◌}
use Rattle.schema_rules.proofs.Counts.{is_some_list-view}
use Rattle.schema_rules.proofs.forms.is_some_list.Goals as goal

pub returns-in-List : goal.returns-in-List
returns-in-List c = ap not (c.is_empty.ensures ∙ ap (λ items. length items == 0) c.as_slice.ensures.value) ∙ sym (is_some_list-view _ c.in-List.items c.in-List.is)
