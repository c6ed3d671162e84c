-- The new builder tells of the paths that were added to it.
use Rattle.std.proofs.Common.{false}
use Rattle.overlay_relate.proofs.PathClosures.{path_meeting}
use Rattle.overlay_predicates.specs.ExactQueries.{ContentsMeet}
use Rattle.overlay_predicates.specs.ExactPaths.{PathsMeet}
use Rattle.overlay_predicates.proofs.ToldPaths.{relation_of_two}
use Rattle.overlay_predicates.proofs.relate_exact.AnyIntRelateExact.intersects_exact.Goals as goal

pub returns : goal.returns
returns g c =
    let made = c.in_ok-predicates.ensures in
    relation_of_two PathsMeet ContentsMeet (path_meeting false) _ _ c.in_ok-predicates.predicates
    c.intersects.result made.ok made.made c.intersects.ensures
