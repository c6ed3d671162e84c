-- The count so far is that of the shapes so far.
use Rattle.std.proofs.Common.{◌≡◌, length, take}
use Rattle.overlay_geom.specs.Paths.{paths_of_shapes, counted_paths}
use Rattle.overlay_geom.proofs.resource.count_contours.Given as goal

abbrev pub invariant-loop-shape : goal.invariant-loop-shape
invariant-loop-shape g l = l.count ≡ length
    (counted_paths (paths_of_shapes g.I.IntNumber.whole (take l.shape-index l.shapes)))
