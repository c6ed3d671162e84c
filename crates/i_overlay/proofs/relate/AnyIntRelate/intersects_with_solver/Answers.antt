-- The new builder answers of the paths that were added to it.
use Rattle.overlay_plane.specs.Predicates.{Intersects}
use Rattle.i_overlay.proofs.Relations.{answer_of_two}
use Rattle.i_overlay.proofs.relate.AnyIntRelate.intersects_with_solver.Goals as goal

pub returns : goal.returns
returns g c =
    let made = c.in_ok-overlay.ensures in
    answer_of_two c.args.solver g.I.IntNumber.limit Intersects _ _ c.in_ok-overlay.overlay
    c.intersects.new.self c.intersects.result made.ok made.made c.intersects.ensures
