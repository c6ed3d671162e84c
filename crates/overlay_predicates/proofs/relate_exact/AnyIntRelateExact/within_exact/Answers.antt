-- The new builder tells of the paths that were added to it.
use Rattle.std.proofs.Common.{false}
use Rattle.overlay_plane.specs.Predicates.{IsWithin}
use Rattle.overlay_predicates.specs.ExactPaths.{ArePathsWithin}
use Rattle.overlay_predicates.proofs.ExactPaths.{subject_within}
use Rattle.overlay_predicates.proofs.ToldPaths.{relation_of_two}
use Rattle.overlay_predicates.proofs.relate_exact.AnyIntRelateExact.within_exact.Goals as goal

pub returns : goal.returns
returns g c =
    let made = c.in_ok-predicates.ensures in
    relation_of_two ArePathsWithin IsWithin (subject_within false) _ _ c.in_ok-predicates.predicates
    c.within.result made.ok made.made c.within.ensures
