use Rattle.recorded_store.proofs.Accepted.{record_opened}
use Rattle.recorded_store.proofs.store.RecordedStore.of_opened.Goals as goal

pub invariant_of-result : goal.invariant_of-result
invariant_of-result g c = record_opened c.args.store.account c.args.bytes.now c.args.limit c.in-Ok.history.history c.requires c.in-Ok.ensures
