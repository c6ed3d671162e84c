-- What holds of the clips of one arrangement.
use Rattle.std.specs.Prelude.{Bool, true, false, cond, ◌==◌, List, [], ◌++◌, flat_map}
use Rattle.std.specs.List.Sorted.{IsPermutation}
use Rattle.overlay_geom.specs.Edges.{CountedEdge, ends_of}
use Rattle.overlay_geom.specs.Plane.{Point, Step, path_steps}
use Rattle.overlay_geom.specs.Rules.{fills_of}
use Rattle.overlay_geom.specs.declared.fill_rule.FillRule.{FillRule}
use Rattle.overlay_plane.specs.EdgeLists.{IsForwardBy}
use Rattle.overlay_string.specs.ClipPaths.{ArePathsOf}
use Rattle.overlay_string.specs.ClipPieces.{filled_side_count, string_steps, clip_pieces}
use Rattle.overlay_string.specs.declared.clip_rule.ClipRule.{ClipRule}

-- the steps of paths
abbrev pub steps_of_paths : List (List Point) → List Step
steps_of_paths paths = flat_map path_steps paths

-- the steps of the paths that a clip gives are the pieces that it keeps, each once
abbrev pub PathsTakeEachPieceOnce : Type 0
PathsTakeEachPieceOnce = (fill : FillRule) (rule : ClipRule) (es : List CountedEdge) (paths : List (List Point)) →
    IsForwardBy ends_of es → ArePathsOf (clip_pieces fill rule es) paths →
    IsPermutation (clip_pieces fill rule es) (steps_of_paths paths)

-- a clip of what lies inside the shape alone, and one of what lies outside
abbrev pub inside_alone : ClipRule
inside_alone = record { invert = false; boundary_included = false }

abbrev pub outside_alone : ClipRule
outside_alone = record { invert = true; boundary_included = false }

-- the shape fills one side of an edge of the list
abbrev pub is_on_boundary : FillRule → List CountedEdge → CountedEdge → Bool
is_on_boundary fill es e = filled_side_count (fills_of fill es e).subj_above (fills_of fill es e).subj_below == 1

-- the pieces of strings on the boundary
abbrev pub boundary_pieces : FillRule → List CountedEdge → List Step
boundary_pieces fill es = flat_map (λ e. cond (is_on_boundary fill es e) (string_steps e) []) es

-- and all of them: for each edge one in each direction in which a string runs over it
abbrev pub string_pieces : List CountedEdge → List Step
string_pieces es = flat_map string_steps es

-- the paths of a clip inside, those of one outside, and the pieces on the boundary take together each piece once
abbrev pub EachPieceIsClippedOnce : Type 0
EachPieceIsClippedOnce = (fill : FillRule) (es : List CountedEdge) (inside outside : List (List Point)) →
    IsForwardBy ends_of es →
    ArePathsOf (clip_pieces fill inside_alone es) inside → ArePathsOf (clip_pieces fill outside_alone es) outside →
    IsPermutation (string_pieces es) (steps_of_paths inside ++ (steps_of_paths outside ++ boundary_pieces fill es))
