-- The copy has the points.
use Rattle.std.proofs.Common.{subst}
use Rattle.std.specs.Prelude.{◌↔◌, IsTrue, IfOk}
use Rattle.overlay_geom.specs.Points.{plain_points}
use Rattle.overlay_plane.specs.Groups.{HasEachPointOnce}
use Rattle.overlay_walk.proofs.points_once.has_each_point_once.Goals as goal

pub returns : goal.returns
returns g c = record {
  ok = subst (λ ps. IfOk c.are_different.result
      (λ b. IsTrue b ↔ HasEachPointOnce (plain_points g.I.IntNumber.whole ps)))
      c.in_ok-copied.ensures.ok c.are_different.ensures.ok;
}
