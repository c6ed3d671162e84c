-- What is added to a builder for strings: closed contours of the shape, and strings, which are open or closed lines.
use Rattle.std.specs.Prelude.{not, pos, negsuc, ℤ, List, map}
use Rattle.overlay_geom.specs.Edges.{CountedEdge, subject_edge}
use Rattle.overlay_geom.specs.Plane.{Point, Step, edge_of, is_forward}
use Rattle.overlay_geom.specs.Points.{plain_points}
use Rattle.overlay_geom.specs.declared.point.IntPoint.{IntPoint}
use Rattle.overlay_order.specs.Content.{edge_with}
use Rattle.overlay_order.specs.declared.string_count.ShapeCountString.{ShapeCountString}
use Rattle.overlay_builder.specs.PathLists.{AddedPath, path_as}
use Rattle.overlay_builder.specs.declared.path.PathKind.{PathKind}
use Rattle.overlay_builder.specs.declared.path.PathKind.TheVariants.{Open, Closed, Thinned}
use Rattle.overlay_builder.specs.declared.path.StepCounts.{StepCounts}
use Rattle.overlay_string.specs.declared.role.PathRole.{PathRole}
use Rattle.overlay_string.specs.declared.role.PathRole.TheVariants.{Shape, OpenString, ClosedString}

-- the edge of a string's step: no path of the shape passes it, and a string runs over it as the step does
abbrev pub string_edge : Step → CountedEdge
string_edge s =
    edge_with (edge_of s).a (edge_of s).b
    (record { subj = pos 0; clip = pos 0; along = is_forward s; against = not (is_forward s) })

-- ---- paths

-- a contour of the shape, of which points on one line are dropped
abbrev pub shape_contour : List Point → AddedPath CountedEdge
shape_contour ps = path_as Thinned subject_edge ps

-- a string from the first of its points to the last one, of which no point is dropped
abbrev pub open_string : List Point → AddedPath CountedEdge
open_string ps = path_as Open string_edge ps

-- one that runs back from its last point to its first
abbrev pub closed_string : List Point → AddedPath CountedEdge
closed_string ps = path_as Closed string_edge ps

-- several of each
abbrev pub shape_contours : List (List Point) → List (AddedPath CountedEdge)
shape_contours paths = map shape_contour paths

abbrev pub open_strings : List (List Point) → List (AddedPath CountedEdge)
open_strings paths = map open_string paths

abbrev pub closed_strings : List (List Point) → List (AddedPath CountedEdge)
closed_strings paths = map closed_string paths

-- the two points of each line
abbrev pub paths_of_lines : {I : Type 0} → (I → ℤ) → List (List (IntPoint I)) → List (List Point)
paths_of_lines whole lines = map (plain_points whole) lines

-- ---- paths by their role

-- how the points of a path are taken
abbrev pub kind_in : PathRole → PathKind
kind_in Shape = Thinned
kind_in OpenString = Open
kind_in ClosedString = Closed

-- what an edge carries that a step of it passes: a count of the shape, or a mark of a string
abbrev pub passing_in : PathRole → StepCounts ShapeCountString
passing_in Shape = record { along = record { subj = pos 1; clip = 0 }; back = record { subj = negsuc 0; clip = 0 } }
passing_in OpenString = record { along = record { subj = pos 0; clip = 1 }; back = record { subj = pos 0; clip = 2 } }
passing_in ClosedString = record { along = record { subj = pos 0; clip = 1 }; back = record { subj = pos 0; clip = 2 } }

-- the edge of a step of it
abbrev pub edge_in : PathRole → Step → CountedEdge
edge_in Shape = subject_edge
edge_in OpenString = string_edge
edge_in ClosedString = string_edge

-- the path to be added, and several
abbrev pub path_in : PathRole → List Point → AddedPath CountedEdge
path_in role ps = path_as (kind_in role) (edge_in role) ps

abbrev pub paths_in : PathRole → List (List Point) → List (AddedPath CountedEdge)
paths_in role paths = map (path_in role) paths
