-- What a clip in one call answers, which leaves no builder.
use Rattle.std.specs.Prelude.{◌⊎◌, ◌++◌, List}
use Rattle.overlay_geom.specs.Plane.{Point}
use Rattle.overlay_geom.specs.Edges.{CountedEdge}
use Rattle.overlay_geom.specs.declared.error.OverlayError.{OverlayError}
use Rattle.overlay_geom.specs.declared.error.OverlayError.TheVariants.{Memory, NotSettled, TooManyEdges, Failed}
use Rattle.overlay_geom.specs.declared.solver.Solver.{Solver}
use Rattle.overlay_geom.specs.declared.fill_rule.FillRule.{FillRule}
use Rattle.overlay_graph.specs.Arranged.{MayRefuseSplitting}
use Rattle.overlay_builder.specs.PathLists.{AddedPath, HoldsPaths, SomePathWeighsTooMuch}
use Rattle.overlay_string.specs.ClipPaths.{AreClipped}
use Rattle.overlay_string.specs.StringPaths.{shape_contours, open_strings}
use Rattle.overlay_string.specs.declared.clip_rule.ClipRule.{ClipRule}

-- the paths of a shape, and then those of strings over it
abbrev pub shape_and_strings : List (List Point) → List (List Point) → List (AddedPath CountedEdge)
shape_and_strings shape strings = shape_contours shape ++ open_strings strings

-- what a clip leaves of the edges that the paths give, split by the solver
pub record AreClippedOfPaths (solver : Solver) (fill : FillRule) (rule : ClipRule)
    (paths : List (AddedPath CountedEdge)) (left : List (List Point)) : Type 0 where
  pub content : List CountedEdge
  pub holds : HoldsPaths paths content
  pub clipped : AreClipped solver fill rule content left

-- the edges that the paths give, brought into an arrangement by the solver, may be refused so
pub record MayRefuseSplittingPaths (solver : Solver) (paths : List (AddedPath CountedEdge)) (e : OverlayError)
    : Type 0 where
  pub content : List CountedEdge
  pub holds : HoldsPaths paths content
  pub refused : MayRefuseSplitting solver content e

-- the paths may be refused so
abbrev pub MayRefusePaths : Solver → List (AddedPath CountedEdge) → OverlayError → Type 0
MayRefusePaths solver paths Memory = Unit {0}
MayRefusePaths solver paths NotSettled = MayRefuseSplittingPaths solver paths NotSettled
MayRefusePaths solver paths TooManyEdges =
    SomePathWeighsTooMuch paths ⊎ MayRefuseSplittingPaths solver paths TooManyEdges
MayRefusePaths solver paths Failed = ⊥
