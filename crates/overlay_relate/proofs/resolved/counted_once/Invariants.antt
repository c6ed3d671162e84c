-- The edges so far are counted.
use Rattle.std.proofs.Common.{◌≡◌, take}
use Rattle.overlay_geom.specs.Resolved.{plain_edges}
use Rattle.overlay_relate.specs.Resolved.{ends_once}
use Rattle.overlay_relate.proofs.resolved.counted_once.Given as goal

abbrev pub invariant-loop-e : goal.invariant-loop-e
invariant-loop-e g l =
    let whole = g.I.IntNumber.whole in
    ends_once whole l.counted.items ≡ plain_edges whole (take l.e-index l.edges)
