-- The new builder tells of the paths that were added to it.
use Rattle.std.proofs.Common.{false}
use Rattle.overlay_relate.proofs.PathClosures.{path_apart}
use Rattle.overlay_predicates.specs.ExactQueries.{AreContentsApart}
use Rattle.overlay_predicates.specs.ExactPaths.{ArePathsApart}
use Rattle.overlay_predicates.proofs.ToldPaths.{relation_of_two}
use Rattle.overlay_predicates.proofs.relate_exact.AnyIntRelateExact.disjoint_exact.Goals as goal

pub returns : goal.returns
returns g c =
    let made = c.in_ok-predicates.ensures in
    relation_of_two ArePathsApart AreContentsApart (path_apart false) _ _ c.in_ok-predicates.predicates
    c.disjoint.result made.ok made.made c.disjoint.ensures
