-- The steps of shapes, by the points of their contours. Shapes keep their windings with each contour thinned or not.
use Rattle.std.proofs.Common.{◌≡◌, Bool, List, [], ◌∷◌, ◌++◌, All, refl, sym, ap, ap₂, ◌+ℤ◌, ◌∙◌}
use Rattle.std.specs.List.{flat_map}
use Rattle.std.proofs.lemmas.Grind.{flat_map-append}
use Rattle.overlay_geom.specs.Plane.{Point, PlanePoint, Step, steps_of, winding}
use Rattle.overlay_plane.specs.Contours.{all_steps, IsContour}
use Rattle.overlay_plane.specs.Binding.{walks_of}
use Rattle.overlay_plane.specs.ShapeWindings.{steps_of_shapes, points_of_shapes, AreKeptOrThinned}
use Rattle.overlay_plane.proofs.AlongLines.{winding_part}
use Rattle.overlay_plane.proofs.CutWindings.{thinned_contours_wind_alike}
use Rattle.overlay_plane.proofs.Entries.{All-first, All-rest}
use Rattle.overlay_plane.proofs.JoinedLists.{total-append}
use Rattle.overlay_plane.proofs.ResultWindings.{steps_of_contours}

-- a list is made of its entries
pub single_parts : {X : Type 0} (xs : List X) → flat_map (λ x. x ∷ []) xs ≡ xs
single_parts [] = refl
single_parts (x ∷ xs) = ap (λ ys. x ∷ ys) (single_parts xs)

-- the steps of the points of shapes that are contours are their steps
pub steps_of_all : (shapes : List (List (List Step))) → All IsContour (walks_of shapes) →
    steps_of_shapes (points_of_shapes shapes) ≡ all_steps (walks_of shapes)
steps_of_all [] each = refl
steps_of_all (shape ∷ shapes) each =
    ap₂ (λ a b. a ++ b) (steps_of_contours shape (All-first IsContour shape (walks_of shapes) each))
    (steps_of_all shapes (All-rest IsContour shape (walks_of shapes) each))
    ∙ sym (flat_map-append (λ (w : List Step). w) shape (walks_of shapes))

-- shapes wind alike, each contour as given or thinned
pub thinned_shapes_wind_alike : (keep : Bool) (given taken : List (List (List Point))) → AreKeptOrThinned keep given
    taken →
    (p : PlanePoint) →
    winding (steps_of_shapes taken) p ≡ winding (steps_of_shapes given) p
thinned_shapes_wind_alike keep [] [] each p = refl
thinned_shapes_wind_alike keep [] (t ∷ ts) each p = absurd each
thinned_shapes_wind_alike keep (g ∷ gs) [] each p = absurd each
thinned_shapes_wind_alike keep (g ∷ gs) (t ∷ ts) each p =
    total-append (winding_part p) (flat_map steps_of t) (steps_of_shapes ts)
    ∙ ap₂ (λ a b. a +ℤ b) (thinned_contours_wind_alike keep g t each.0 p)
    (thinned_shapes_wind_alike keep gs ts each.1 p)
    ∙ sym (total-append (winding_part p) (flat_map steps_of g) (steps_of_shapes gs))
