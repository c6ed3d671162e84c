-- The walls of the edges so far.
use Rattle.std.proofs.Common.{◌≡◌, map, take}
use Rattle.overlay_geom.specs.Resolved.{plain_edges}
use Rattle.overlay_relate.specs.Walls.{wall_of}
use Rattle.overlay_relate.proofs.walls.walls_of.Given as goal

abbrev pub invariant-loop-e : goal.invariant-loop-e
invariant-loop-e g l =
    let whole = g.I.IntNumber.whole in
    plain_edges whole l.walls.items ≡ map wall_of (plain_edges whole (take l.e-index l.edges))
