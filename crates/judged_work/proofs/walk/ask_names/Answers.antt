use Rattle.std.proofs.Common.{◌∙◌, ap, length}
use Rattle.std.proofs.lemmas.List.{length-replicate}
use Rattle.schema_levels.specs.Closure.{close}
use Rattle.schema_levels.specs.PlaceInValue.{member_name}
use Rattle.judged_work.proofs.Nothing.{begun}
use Rattle.judged_work.proofs.walk.ask_names.Goals as goal

pub returns-clause-named : goal.returns-clause-named
returns-clause-named c =
    c.close.ensures ∙ ap (close c.args.nodes.now (length c.args.nodes.now)) (begun c.args.nodes.now c.args.asked.now member_name c.args.named.now c.collect.new.found c.requires.nothing c.collect.ensures.found)

pub returns-clause-narrow : goal.returns-clause-narrow
returns-clause-narrow c = c.close.auto.asked ∙ c.collect.auto.found ∙ ap length c.requires.nothing ∙ length-replicate (length c.args.asked.now) 0
