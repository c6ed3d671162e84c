-- The new builder tells of the paths that were added to it.
use Rattle.std.proofs.Common.{false}
use Rattle.overlay_relate.proofs.PathClosures.{path_touch}
use Rattle.overlay_predicates.specs.ExactQueries.{ContentsTouch}
use Rattle.overlay_predicates.specs.ExactPaths.{PathsTouch}
use Rattle.overlay_predicates.proofs.ToldPaths.{relation_of_two}
use Rattle.overlay_predicates.proofs.relate_exact.AnyIntRelateExact.touches_exact.Goals as goal

pub returns : goal.returns
returns g c =
    let made = c.in_ok-predicates.ensures in
    relation_of_two PathsTouch ContentsTouch (path_touch false) _ _ c.in_ok-predicates.predicates
    c.touches.result made.ok made.made c.touches.ensures
