-- The new builder answers of the paths that were added to it.
use Rattle.overlay_plane.specs.Predicates.{IsWithin}
use Rattle.i_overlay.proofs.Relations.{answer_of_two}
use Rattle.i_overlay.proofs.relate.AnyIntRelate.within_with_solver.Goals as goal

pub returns : goal.returns
returns g c =
    let made = c.in_ok-overlay.ensures in
    answer_of_two c.args.solver g.I.IntNumber.limit IsWithin _ _ c.in_ok-overlay.overlay
    c.within.new.self c.within.result made.ok made.made c.within.ensures
