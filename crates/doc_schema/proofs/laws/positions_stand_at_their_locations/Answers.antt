use Rattle.doc_schema.proofs.Located.{found_at}
use Rattle.doc_schema.proofs.laws.positions_stand_at_their_locations.Goals as goal

pub returns : goal.returns
returns c = found_at
