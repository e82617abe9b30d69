use Rattle.std.proofs.Common.{refl, sym, subst, option_map}
use Rattle.schema_graph.specs.Orders.{at}
use Rattle.schema_levels.specs.declared.node.Rule.TheVariants.{All}
use Rattle.schema_nodes.specs.Fits.{IsReference}
use Rattle.schema_nodes.proofs.rules.reference.Goals as goal

pub returns-in-None : goal.returns-in-None
returns-in-None c = subst (λ o. IsReference (option_map (at c.args.ranks.now) o) (All c.new.result)) (sym c.in-None.is) (c.new.result, refl, c.new.ensures.items)
