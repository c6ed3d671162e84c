-- Open paths over a shape, in arrays of a caller.
use Rattle.std.specs.Prelude.{ℤ, List}
use Rattle.overlay_geom.specs.Edges.{CountedEdge}
use Rattle.overlay_builder.specs.PathLists.{AddedPath}
use Rattle.overlay_string.specs.OneShot.{shape_and_strings}
use Rattle.polyover_calls.specs.Given.{Contours, paths_of}

-- the contours of the shape, and then the lines, as open strings over it
abbrev pub shape_and_lines : {I : Type 0} → (I → ℤ) → Contours I → Contours I → List (AddedPath CountedEdge)
shape_and_lines whole shape lines = shape_and_strings (paths_of whole shape) (paths_of whole lines)
