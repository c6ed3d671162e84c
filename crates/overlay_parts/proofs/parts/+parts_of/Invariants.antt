-- Each half is shorter.
use Rattle.std.proofs.Common.{length}
use Rattle.overlay_parts.proofs.parts.+parts_of.Given as goal

abbrev pub decreases-parts_of : goal.decreases-parts_of
decreases-parts_of g l = length l.edges.now
