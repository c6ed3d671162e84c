-- The new builder answers of the paths that were added to it.
use Rattle.overlay_plane.specs.Predicates.{PointIntersects}
use Rattle.i_overlay.proofs.Relations.{answer_of_two}
use Rattle.i_overlay.proofs.relate.AnyIntRelate.point_intersects_with_solver.Goals as goal

pub returns : goal.returns
returns g c =
    let made = c.in_ok-overlay.ensures in
    answer_of_two c.args.solver g.I.IntNumber.limit PointIntersects _ _ c.in_ok-overlay.overlay
    c.point_intersects.new.self c.point_intersects.result made.ok made.made c.point_intersects.ensures
