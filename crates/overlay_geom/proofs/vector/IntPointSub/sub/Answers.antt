-- The vector is the difference of the points, and within twice their range.
use Rattle.overlay_geom.proofs.Widths.{Within-minus}
use Rattle.overlay_geom.proofs.vector.IntPointSub.sub.Goals as goal

-- both coordinates are differences of coordinates in range
pub returns : goal.returns
returns g c = record {
  x = c.minus.ensures;
  y = c.minus-2.ensures;
  fits = record {
    x = Within-minus _ _ _ _ c.requires.0.x c.requires.1.x c.minus.ensures;
    y = Within-minus _ _ _ _ c.requires.0.y c.requires.1.y c.minus-2.ensures;
  };
}
