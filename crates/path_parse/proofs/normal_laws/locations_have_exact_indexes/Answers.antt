use Rattle.path_parse.proofs.Located.{location_is}
use Rattle.path_parse.proofs.normal_laws.locations_have_exact_indexes.Goals as goal

pub returns : goal.returns
returns c document found steps sound short leads = location_is steps document found sound short leads
