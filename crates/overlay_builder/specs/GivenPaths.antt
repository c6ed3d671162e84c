-- Closed paths of the subject or of the clip, as a builder adds them.
use Rattle.std.specs.Prelude.{◌≡◌, ◌++◌, Bool, false, List, map}
use Rattle.overlay_geom.specs.Plane.{Point}
use Rattle.overlay_geom.specs.Edges.{CountedEdge, weight}
use Rattle.overlay_geom.specs.declared.options.ShapeType.{ShapeType}
use Rattle.overlay_geom.specs.declared.options.ShapeType.TheVariants.{Subject, Clip}
use Rattle.overlay_plane.specs.Balance.{HasBalancedCounts}
use Rattle.overlay_order.specs.Content.{edge_for}
pub use Rattle.overlay_order.specs.Paths.{GivenPath}
use Rattle.overlay_builder.specs.PathLists.{AddedPath, WouldWeighTooMuch, path_as}
use Rattle.overlay_builder.specs.Paths.{contour_kind}

-- the paths of a resource, all for the subject or all for the clip
abbrev pub paths_for : ShapeType → List (List Point) → List GivenPath
paths_for shape_type paths = map (λ ps. record { shape_type = shape_type; points = ps }) paths

-- the paths of a resource for the subject, and then those of another resource for the clip
abbrev pub subject_and_clip : List (List Point) → List (List Point) → List GivenPath
subject_and_clip subj clip = paths_for Subject subj ++ paths_for Clip clip

-- the paths as a builder adds them; collinear points stay where they are kept
abbrev pub added_path : Bool → GivenPath → AddedPath CountedEdge
added_path keep p = path_as (contour_kind keep) (edge_for p.shape_type) p.points

abbrev pub added_paths : Bool → List GivenPath → List (AddedPath CountedEdge)
added_paths keep paths = map (added_path keep) paths

-- the edges of a builder that has not failed have balanced counts, since only closed contours were added
abbrev pub IsBalancedUnlessFailed : Bool → List CountedEdge → Type 0
IsBalancedUnlessFailed failed es = failed ≡ false → HasBalancedCounts es

-- adding the contour would bring the weight to 2^31
abbrev pub ContourWeighsTooMuch : Bool → ShapeType → List Point → List CountedEdge → Type 0
ContourWeighsTooMuch keep_points shape_type given old =
    WouldWeighTooMuch weight (path_as (contour_kind keep_points) (edge_for shape_type) given) old
