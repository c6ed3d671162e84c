-- The points are those that the steps leave.
use Rattle.std.proofs.Common.{subst}
use Rattle.std.specs.Prelude.{◌↔◌, IsTrue, IfOk}
use Rattle.overlay_plane.specs.Groups.{HasEachPointOnce}
use Rattle.overlay_walk.proofs.points_once.leave_each_point_once.Goals as goal

pub returns : goal.returns
returns g c = record {
  ok = subst (λ ps. IfOk c.are_different.result (λ b. IsTrue b ↔ HasEachPointOnce ps))
      c.in_ok-points_left.ensures.ok c.are_different.ensures.ok;
}
