-- The queries become fewer.
use Rattle.std.proofs.Common.{length}
use Rattle.overlay_located.proofs.together.+ask.Given as goal

abbrev pub decreases-ask : goal.decreases-ask
decreases-ask g l = length l.queries.now
