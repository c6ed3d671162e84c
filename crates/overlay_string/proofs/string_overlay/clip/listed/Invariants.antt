-- The lists so far are the first paths.
use Rattle.std.proofs.Common.{◌≡◌, take}
use Rattle.overlay_geom.specs.Flat.{paths_in}
use Rattle.overlay_geom.specs.Paths.{paths_of_shape}
use Rattle.overlay_string.proofs.string_overlay.clip.listed.Given as goal

abbrev pub invariant-loop-index : goal.invariant-loop-index
invariant-loop-index g l =
    let whole = g.I.IntNumber.whole in
    paths_of_shape whole l.list.items ≡ take l.index (paths_in whole l.paths.points.items l.paths.ranges.items)
