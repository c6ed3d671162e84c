-- Slices are the only ones: over the edges of an arrangement the loops, their order and starts, and the shapes in which
-- they stand are determined.
use Rattle.std.specs.Prelude.{◌≡◌, ℕ, List}
use Rattle.std.specs.Int.{Width}
use Rattle.overlay_geom.specs.Plane.{Point}
use Rattle.overlay_geom.specs.Edges.{CountedEdge}
use Rattle.overlay_geom.specs.declared.fill_rule.FillRule.{FillRule}
use Rattle.overlay_geom.specs.declared.options.ContourDirection.{ContourDirection}
use Rattle.overlay_extract.specs.Sliced.{IsSliced}

-- two results that are asked for alike are one
abbrev pub OneSlicing : Type 0
OneSlicing = (width : Width) (min : ℕ) (fill : FillRule) (direction : ContourDirection) (es : List CountedEdge)
    (first second : List (List (List Point))) → IsSliced width min fill direction es first →
    IsSliced width min fill direction es second → first ≡ second
