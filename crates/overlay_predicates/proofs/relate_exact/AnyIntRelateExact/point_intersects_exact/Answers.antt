-- The new builder tells of the paths that were added to it.
use Rattle.std.proofs.Common.{false}
use Rattle.overlay_relate.proofs.PathClosures.{path_points}
use Rattle.overlay_predicates.specs.ExactQueries.{ContentsMeetInPoints}
use Rattle.overlay_predicates.specs.ExactPaths.{PathsMeetInPoints}
use Rattle.overlay_predicates.proofs.ToldPaths.{relation_of_two}
use Rattle.overlay_predicates.proofs.relate_exact.AnyIntRelateExact.point_intersects_exact.Goals as goal

pub returns : goal.returns
returns g c =
    let made = c.in_ok-predicates.ensures in
    relation_of_two PathsMeetInPoints ContentsMeetInPoints (path_points false) _ _ c.in_ok-predicates.predicates
    c.point_intersects.result made.ok made.made c.point_intersects.ensures
