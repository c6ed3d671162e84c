-- The final state of a buffer of contours whose first contour was lent.
use Rattle.std.specs.Prelude.{List, length}
use Rattle.std.specs.Borrow.{Lends, MutBor, Fml, RattleType, Array}
use Rattle.std.specs.Vec.{with_items_from}
use Rattle.std.specs.declared.alloc.Allocator.{Ghosts}
use Rattle.overlay_geom.specs.Flat.{range_within, first_range}
use Rattle.overlay_geom.specs.declared.point.IntPoint.{IntPoint}
use Rattle.overlay_geom.specs.declared.flat.contours.FlatContoursBuffer.{FlatContoursBuffer}
use Rattle.overlay_geom.specs.contracts.point.IntPoint.{the_row as point-row}
use Rattle.overlay_geom.specs.contracts.flat.contours.FlatContoursBuffer.{the_row}

-- b, with ws written over its points from the start of its first contour on
abbrev pub with_first : {I A : Type 0} → FlatContoursBuffer I A → List (IntPoint I) → FlatContoursBuffer I A
with_first b ws =
    let first = range_within (length b.points.items) (first_range b.ranges.items) in
    record b { points = with_items_from b.points first.start ws }

-- the final b has the final points behind r in place of the points of its first contour
abbrev pub LendsFirst : (I A : RattleType) → Ghosts A.Denot → MutBor (FlatContoursBuffer I.Denot A.Denot)
    → MutBor (List (IntPoint I.Denot)) → Fml
LendsFirst I A heap b r = Lends (the_row I A heap) (Array (point-row I) 0) b r (with_first b.now)
