-- The paths so far are the first ones of the pieces, packed, and each leaves fewer pieces open.
use Rattle.std.proofs.Common.{length}
use Rattle.overlay_geom.specs.Flat.{paths_in}
use Rattle.overlay_geom.specs.Packed.{IsPacked}
use Rattle.overlay_string.proofs.JoinedPaths.{AreJoinedSoFar}
use Rattle.overlay_string.proofs.joined_paths.joined_paths.Given as goal

abbrev pub invariant-loop-piece : goal.invariant-loop-piece
invariant-loop-piece g l =
    let points = l.paths.points.items in
    let ranges = l.paths.ranges.items in
    AreJoinedSoFar l.fn.pieces l.pieces (paths_in g.I.IntNumber.whole points ranges) × IsPacked points ranges

abbrev pub decreases-loop-piece : goal.decreases-loop-piece
decreases-loop-piece g l = length l.pieces
