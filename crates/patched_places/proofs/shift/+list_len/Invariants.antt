use Rattle.std.proofs.Common.{length}
use Rattle.patched_places.proofs.shift.+list_len.Given as goal

abbrev pub decreases-list_len : goal.decreases-list_len
decreases-list_len l = length l.tokens.now
