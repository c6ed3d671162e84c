-- The edges strictly below a point are the greatest such edge and all under it. So the winding at the point is the
-- winding above that edge.
use Rattle.std.proofs.Common.{cond, pos, ap}
use Rattle.overlay_geom.specs.Plane.{is_strictly_below}
use Rattle.overlay_geom.specs.Edges.{ends_of}
use Rattle.overlay_plane.specs.GreatestBelow.{WindingAboveTheGreatestBelow}
use Rattle.overlay_plane.proofs.GreatestTaken.{above_the_greatest_taken}
use Rattle.overlay_plane.proofs.RegionBelow.{takes_below}
use Rattle.overlay_plane.proofs.Totals.{total-zero}

-- the winding is 0 where no edge is strictly below the point
pub winding_above_the_greatest_below : WindingAboveTheGreatestBelow
winding_above_the_greatest_below = record {
  above = λ count es r p g h. above_the_greatest_taken count es r p.x p.d p.positive
      (λ f. is_strictly_below (ends_of f) p)
      (takes_below ends_of es r.planar.settled p) g (record { entry = h.entry; is = h.below; greatest = h.greatest });
  none = λ count es p none. total-zero (λ f. cond (is_strictly_below (ends_of f) p) (count f) (pos 0)) es
      (λ f at. ap (λ t. cond t (count f) (pos 0)) (none f at));
}
