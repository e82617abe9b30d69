use Rattle.path_parse.specs.NormalPath.{normal_path}
use Rattle.path_parse.specs.QueryOf.{query_of}
use Rattle.path_parse.proofs.Spelled.{path_spelled, query_in_profile}
use Rattle.path_parse.proofs.normal_laws.spells_its_query_only.Goals as goal

pub returns : goal.returns
returns c steps utf8 exact =
    let spelled = path_spelled steps utf8 exact in
    let in_profile = query_in_profile steps in
    (spelled, in_profile, λ w x. c.spells_no_other_query.ensures (normal_path steps) (query_of steps) w spelled in_profile x)
