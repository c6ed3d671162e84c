-- The new builder tells of the paths that were added to it.
use Rattle.std.proofs.Common.{false}
use Rattle.overlay_plane.specs.Predicates.{InteriorsIntersect}
use Rattle.overlay_relate.specs.PathRelations.{PathInteriorsIntersect}
use Rattle.overlay_relate.proofs.PathRelations.{interiors}
use Rattle.overlay_predicates.proofs.ToldPaths.{relation_of_two}
use Rattle.overlay_predicates.proofs.relate_exact.AnyIntRelateExact.interiors_intersect_exact.Goals as goal

pub returns : goal.returns
returns g c =
    let made = c.in_ok-predicates.ensures in
    relation_of_two PathInteriorsIntersect InteriorsIntersect (interiors false) _ _ c.in_ok-predicates.predicates
    c.interiors_intersect.result made.ok made.made c.interiors_intersect.ensures
