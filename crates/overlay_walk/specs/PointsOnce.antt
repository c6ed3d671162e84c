-- Points of a list that follow one another.
use Rattle.std.specs.Prelude.{Bool, true, not, ◌&&◌, List, [], ◌∷◌}
use Rattle.overlay_geom.specs.Plane.{Point, point_eq}

-- each point of the list differs from the one before it, the first one from p
abbrev pub differ_along : Point → List Point → Bool
differ_along p [] = true
differ_along p (q ∷ qs) = not (point_eq p q) && differ_along q qs

abbrev pub all_next_differ : List Point → Bool
all_next_differ [] = true
all_next_differ (p ∷ ps) = differ_along p ps
