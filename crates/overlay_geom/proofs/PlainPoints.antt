-- The cross product of points that a program reads from a list, as that of the whole points at their places.
use Rattle.std.proofs.Common.{◌≡◌, ℕ, ◌+◌, ◌<◌, List, length, get_or, refl, sym, ◌∙◌, ap, arith}
use Rattle.std.specs.Prelude.{ℤ}
use Rattle.overlay_geom.specs.declared.point.IntPoint.{IntPoint}
use Rattle.overlay_geom.specs.Plane.{Point, cross_at}
use Rattle.overlay_geom.specs.Points.{plain_point, plain_points}
use Rattle.overlay_geom.proofs.Mapped.{read_mapped}
use Rattle.overlay_geom.proofs.NarrowedLists.{point_at, cross_along}

module _ {I : Type 0} (whole : I → ℤ) (xs : List (IntPoint I)) where
  -- the point that was read at a place
  point_at-plain : (k : ℕ) (x : IntPoint I) → k < length xs → x ≡ get_or xs k x →
      point_at (plain_points whole xs) k ≡ plain_point whole x
  point_at-plain k x h read = read_mapped (plain_point whole) xs k x _ h read

  -- the turn from three points that were read
  pub cross-read : (i j k : ℕ) (u v w : IntPoint I) → i < length xs → j < length xs → k < length xs →
      u ≡ get_or xs i u → v ≡ get_or xs j v → w ≡ get_or xs k w → cross_at (point_at (plain_points whole xs) i)
      (point_at (plain_points whole xs) j) (point_at (plain_points whole xs) k) ≡ cross_at (plain_point whole u)
      (plain_point whole v) (plain_point whole w)
  cross-read i j k u v w first second third at_first at_second at_third =
      cross_along (point_at-plain i u first at_first) (point_at-plain j v second at_second)
      (point_at-plain k w third at_third)

  -- the turn at the last point of a stack before the next, by the points that were read
  pub cross-read_top : (k last : ℕ) (u v : IntPoint I) (w : Point) → k + 2 ≡ length xs → last ≡ k + 1 →
      u ≡ get_or xs k u → v ≡ get_or xs last v → cross_at (point_at (plain_points whole xs) k)
      (point_at (plain_points whole xs) (k + 1)) w ≡ cross_at (plain_point whole u) (plain_point whole v) w
  cross-read_top k last u v w two e first second =
      cross_along (point_at-plain k u (omega arith) first) (ap (point_at (plain_points whole xs)) (sym e)
      ∙ point_at-plain last v (omega arith) second) refl
