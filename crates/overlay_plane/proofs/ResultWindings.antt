-- The points of the contours that the selected steps are cut into, as given or thinned, wind once round each point
-- where the rule holds: the steps of these points are the selected steps in another order.
use Rattle.std.proofs.Common.{◌≡◌, List, [], ◌∷◌, ◌++◌, map, All, refl, ap, ap₂, ◌∙◌}
use Rattle.std.specs.List.{flat_map}
use Rattle.std.proofs.lemmas.List.Elements.{All-head, All-tail}
use Rattle.overlay_geom.specs.Plane.{Step, steps_of, points_of, total}
use Rattle.overlay_plane.specs.SelectedSteps.{selected_steps}
use Rattle.overlay_plane.specs.Contours.{all_steps, IsContour}
use Rattle.overlay_plane.specs.ContourWindings.{ResultsWind}
use Rattle.overlay_plane.proofs.AlongLines.{winding_part}
use Rattle.overlay_plane.proofs.ClosedWalks.{cuts_are_contours}
use Rattle.overlay_plane.proofs.CutWindings.{selected_alternate, contours_wind, thinned_contours_wind_alike}

-- the steps of the points of contours are their steps
pub steps_of_contours : (walks : List (List Step)) → All IsContour walks →
    flat_map steps_of (map points_of walks) ≡ all_steps walks
steps_of_contours [] each = refl
steps_of_contours (w ∷ ws) each = ap₂ (λ a b. a ++ b) (All-head IsContour w ws each).whole
    (steps_of_contours ws (All-tail IsContour w ws each))

-- the points of the contours wind as the selected steps
pub results_wind : ResultsWind
results_wind holds subj clip es ruled filled hand_of walks cut keep result shown p =
    thinned_contours_wind_alike keep (map points_of walks) result shown p
    ∙ ap (total (winding_part p)) (steps_of_contours walks
    (cuts_are_contours hand_of (selected_steps holds subj clip filled es)
    (selected_alternate holds subj clip es ruled filled) walks cut))
    ∙ contours_wind holds subj clip es ruled filled hand_of walks cut p
