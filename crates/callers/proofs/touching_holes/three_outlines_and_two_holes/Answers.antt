-- The walks are those that the computation tells of.
use Rattle.std.proofs.Common.{rules, ◌≡◌, All, List, sym, subst}
use Rattle.overlay_geom.specs.Plane.{Step, edge_of}
use Rattle.overlay_geom.specs.Settled.{IsSettledBy}
use Rattle.overlay_plane.specs.BoundContours.{walks_in}
use Rattle.overlay_plane.specs.Contours.{IsContour, all_steps}
use Rattle.overlay_walk.specs.GroupedContours.{plain_contours}
use Rattle.callers.proofs.TouchingHoles.{touching_holes, touching_contours, touching_settled}
use Rattle.callers.proofs.touching_holes.three_outlines_and_two_holes.Goals as goal

pub returns-clause-contours : goal.returns-clause-contours
returns-clause-contours c =
    let same : walks_in (plain_contours (λ z. z) c.in_ok-contours.contours.items) ≡ touching_holes = search rules in
    subst (λ (walks : List (List Step)). All IsContour walks) (sym same) touching_contours

pub returns-clause-settled : goal.returns-clause-settled
returns-clause-settled c =
    let same : walks_in (plain_contours (λ z. z) c.in_ok-contours.contours.items) ≡ touching_holes = search rules in
    subst (λ (walks : List (List Step)). IsSettledBy edge_of (all_steps walks)) (sym same) touching_settled
