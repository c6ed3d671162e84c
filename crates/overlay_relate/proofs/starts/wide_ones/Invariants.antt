-- The edges so far that are not vertical.
use Rattle.std.proofs.Common.{◌≡◌, take}
use Rattle.std.specs.List.{filter}
use Rattle.overlay_geom.specs.Resolved.{plain_edges}
use Rattle.overlay_relate.specs.Sweeps.{wide_edges, is_wide}
use Rattle.overlay_relate.proofs.starts.wide_ones.Given as goal

abbrev pub invariant-loop-e : goal.invariant-loop-e
invariant-loop-e g l =
    let whole = g.I.IntNumber.whole in
    wide_edges whole l.wide.items ≡ filter is_wide (plain_edges whole (take l.e-index l.edges))
