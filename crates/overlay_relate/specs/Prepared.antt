-- Shapes that are prepared of paths, and when they are refused.
use Rattle.std.specs.Prelude.{◌⊎◌, false, List}
use Rattle.overlay_geom.specs.Plane.{Edge}
use Rattle.overlay_geom.specs.Edges.{CountedEdge}
use Rattle.overlay_geom.specs.declared.error.OverlayError.{OverlayError}
use Rattle.overlay_geom.specs.declared.error.OverlayError.TheVariants.{Memory, NotSettled, TooManyEdges, Failed}
use Rattle.overlay_geom.specs.declared.solver.Solver.{Solver}
use Rattle.overlay_geom.specs.Rules.{is_filled}
use Rattle.overlay_geom.specs.declared.fill_rule.FillRule.{FillRule}
use Rattle.overlay_graph.specs.Arranged.{MayRefuseSplitting}
use Rattle.overlay_builder.specs.GivenPaths.{GivenPath, added_paths}
use Rattle.overlay_builder.specs.PathLists.{HoldsPaths, SomePathWeighsTooMuch}
use Rattle.overlay_relate.specs.Bounded.{Bounds}
use Rattle.overlay_relate.specs.Exchanged.{IsArrangementOf}

-- these edges bound, under the rule, the shape of some arrangement, by the solver, of the edges that the paths give
pub record IsPreparedOf (solver : Solver) (fill : FillRule) (paths : List GivenPath)
    (boundary : List Edge) : Type 0 where
  pub edges : List CountedEdge
  pub arranged : IsArrangementOf false solver paths edges
  pub bounds : Bounds (is_filled fill) edges boundary

-- the edges that the paths give, brought into an arrangement by the solver, may be refused so
pub record MayRefuseToArrange (solver : Solver) (paths : List GivenPath) (e : OverlayError) : Type 0 where
  pub content : List CountedEdge
  pub holds : HoldsPaths (added_paths false paths) content
  pub refused : MayRefuseSplitting solver content e

-- a shape of the paths may be refused so
abbrev pub MayRefusePreparing : Solver → List GivenPath → OverlayError → Type 0
MayRefusePreparing solver paths Memory = Unit {0}
MayRefusePreparing solver paths NotSettled = MayRefuseToArrange solver paths NotSettled
MayRefusePreparing solver paths TooManyEdges =
    SomePathWeighsTooMuch (added_paths false paths) ⊎ MayRefuseToArrange solver paths TooManyEdges
MayRefusePreparing solver paths Failed = ⊥
