-- Subject and clip exchanged: in the paths that are given, and in an arrangement of the edges that they give.
use Rattle.std.specs.Prelude.{◌++◌, Bool, List, map}
use Rattle.overlay_geom.specs.Edges.{CountedEdge}
use Rattle.overlay_geom.specs.declared.solver.Solver.{Solver}
use Rattle.overlay_geom.specs.declared.options.ShapeType.{ShapeType}
use Rattle.overlay_geom.specs.declared.options.ShapeType.TheVariants.{Subject, Clip}
use Rattle.overlay_graph.specs.Arranged.{IsArranged}
use Rattle.overlay_builder.specs.GivenPaths.{GivenPath, added_paths}
use Rattle.overlay_builder.specs.PathLists.{HoldsPaths}
use Rattle.overlay_relate.specs.PredicateLaws.{exchanged}

-- the clip in place of the subject, and the subject in place of the clip
abbrev pub other_shape : ShapeType → ShapeType
other_shape Subject = Clip
other_shape Clip = Subject

-- the path, given for the other shape
abbrev pub exchanged_path : GivenPath → GivenPath
exchanged_path p = record { shape_type = other_shape p.shape_type; points = p.points }

-- the paths of the subject as those of the clip, and those of the clip as those of the subject
abbrev pub exchanged_paths : List GivenPath → List GivenPath
exchanged_paths ps = map exchanged_path ps

-- the edges are an arrangement of those that the paths give, reached by the solver
pub record IsArrangementOf (keep_points : Bool) (solver : Solver) (paths : List GivenPath)
    (edges : List CountedEdge) : Type 0 where
  pub content : List CountedEdge
  pub holds : HoldsPaths (added_paths keep_points paths) content
  pub arranged : IsArranged solver content edges

-- an arrangement of what paths give, with the counts of subject and clip exchanged in each edge, is one of what the
-- exchanged paths give; and an arrangement of what paths give is one of what they give in another order
pub record ExchangingKeepsArrangements : Type 0 where
  pub exchanging : (keep_points : Bool) (solver : Solver) (paths : List GivenPath) (edges : List CountedEdge) →
      IsArrangementOf keep_points solver paths edges →
      IsArrangementOf keep_points solver (exchanged_paths paths) (map exchanged edges)
  pub reordering : (keep_points : Bool) (solver : Solver) (first later : List GivenPath) (edges : List CountedEdge) →
      IsArrangementOf keep_points solver (first ++ later) edges →
      IsArrangementOf keep_points solver (later ++ first) edges
