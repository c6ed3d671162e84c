use Rattle.std.proofs.Common.{◌≡◌, ◌++◌, codes, map, take, string_bytes}
use Rattle.std.specs.List.{flat_map}
use Rattle.overlay_geom.specs.Points.{plain_point}
use Rattle.polyover_text.specs.Printed.{point_text}
use Rattle.polyover_text.proofs.shape_text.push_contour.Given as goal

-- the points so far, a space before each, came to the text
abbrev pub invariant-loop-point : goal.invariant-loop-point
invariant-loop-point g l =
    string_bytes l.text ≡ string_bytes l.initial.text ++ flat_map (λ q. codes " " ++ point_text q)
    (map (plain_point (λ z. z)) (take l.point-index l.rest))
