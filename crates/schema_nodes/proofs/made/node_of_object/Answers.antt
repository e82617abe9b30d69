use Rattle.std.proofs.Common.{ap}
use Rattle.schema_rules.specs.Keywords.{shape_of}
use Rattle.schema_nodes.proofs.KeywordNames.{properties_is}
use Rattle.schema_nodes.proofs.made.node_of_object.Goals as goal

pub returns : goal.returns
returns c = record {
  fits = c.in_ok-rules.ensures.fits;
  sorted = c.in_ok-rules.ensures.sorted;
  named = λ schema have. c.in_ok-named.ensures schema have (ap shape_of properties_is);
  prefix = c.prefix_len-prefix.ensures;
}
