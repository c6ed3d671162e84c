-- A walk is under way, and each step leaves fewer pieces open.
use Rattle.std.proofs.Common.{length}
use Rattle.overlay_geom.specs.Points.{plain_point, plain_points}
use Rattle.overlay_string.proofs.WalksOn.{IsUnderWay}
use Rattle.overlay_string.proofs.joined_paths.go_on.Given as goal

abbrev pub invariant-loop-piece : goal.invariant-loop-piece
invariant-loop-piece g l =
    let whole = g.I.IntNumber.whole in
    IsUnderWay l.way (plain_point whole l.fn.from) (plain_point whole l.end) l.fn.pieces l.pieces
    (plain_points whole l.fn.path.items) (plain_points whole l.path.items)

abbrev pub decreases-loop-piece : goal.decreases-loop-piece
decreases-loop-piece g l = length l.pieces
