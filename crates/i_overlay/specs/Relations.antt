-- What predicates of two resources answer that leave no builder: each by itself, or all told of one arrangement.
use Rattle.std.specs.Prelude.{◌≡◌, ◌↔◌, ℕ, Bool, false, ℤ, List, Result, All, IsTrue, IfOk, IfErr}
use Rattle.overlay_geom.specs.Edges.{CountedEdge}
use Rattle.overlay_geom.specs.Plane.{Point}
use Rattle.overlay_geom.specs.Points.{AllInRange}
use Rattle.overlay_geom.specs.declared.error.OverlayError.{OverlayError}
use Rattle.overlay_geom.specs.declared.solver.Solver.{Solver}
use Rattle.overlay_geom.specs.Rules.{is_filled}
use Rattle.overlay_geom.specs.declared.fill_rule.FillRule.{FillRule}
use Rattle.overlay_geom.specs.declared.fill_rule.FillRule.TheVariants.{EvenOdd}
use Rattle.overlay_plane.specs.Predicates.{IsWithin, IsFillable}
use Rattle.overlay_graph.specs.Arranged.{IsArranged}
use Rattle.overlay_builder.specs.GivenPaths.{GivenPath, added_paths, subject_and_clip}
use Rattle.overlay_builder.specs.PathLists.{HoldsPaths}
use Rattle.overlay_relate.specs.PredicateBuilder.{PredicateBuilder}
use Rattle.overlay_relate.specs.PredicateQueries.{AreRelations}
use Rattle.overlay_relate.specs.declared.relations.Relations.{Relations}
use Rattle.i_overlay.specs.OneShot.{MayRefusePaths}

-- the answer tells whether the relation holds of some arrangement, by the solver, of the edges that the paths give,
-- under the fill rule; its edges are planar, with balanced counts, as laws of predicates ask
pub record TellsOfPaths (solver : Solver) (relation : (ℤ → Bool) → List CountedEdge → Type 0) (fill : FillRule)
    (paths : List GivenPath) (answer : Bool) : Type 0 where
  pub content : List CountedEdge
  pub edges : List CountedEdge
  pub holds : HoldsPaths (added_paths false paths) content
  pub arranged : IsArranged solver content edges
  pub fillable : IsFillable (is_filled fill) edges
  pub tells : IsTrue answer ↔ relation (is_filled fill) edges

-- ---- a relation of a subject and a clip, under EvenOdd

-- the points of both are in the coordinate range
pub record AreBothInRange (limit : ℕ) (subj clip : List (List Point)) : Type 0 where
  pub subj_in_range : All (AllInRange limit) subj
  pub clip_in_range : All (AllInRange limit) clip

-- the answer tells whether the relation holds of their paths by the solver, and a refusal is one of those paths
pub record TellsOfTwo (solver : Solver) (relation : (ℤ → Bool) → List CountedEdge → Type 0)
    (subj clip : List (List Point)) (result : Result Bool OverlayError) : Type 0 where
  pub answer : IfOk result (TellsOfPaths solver relation EvenOdd (subject_and_clip subj clip))
  pub err : IfErr result (MayRefusePaths solver (subject_and_clip subj clip))

-- ---- all relations

-- the answers tell whether the relations hold of some arrangement of the edges that the paths give, under the fill
-- rule, whose edges are planar, with balanced counts; the last one tells also whether the subject lies within the clip
-- in some arrangement of the paths exchanged
pub record AreRelationsOfPaths (solver : Solver) (fill : FillRule) (paths exchanged : List GivenPath) (r : Relations) :
    Type 0 where
  pub content : List CountedEdge
  pub edges : List CountedEdge
  pub holds : HoldsPaths (added_paths false paths) content
  pub arranged : IsArranged solver content edges
  pub fillable : IsFillable (is_filled fill) edges
  pub relations : AreRelations (is_filled fill) edges r
  pub within_exchanged : TellsOfPaths solver IsWithin fill exchanged r.covers

-- a builder for predicates by the solver and under the fill rule, which has not failed, holds just the paths
pub record HasAddedUnder (solver : Solver) (fill : FillRule) (paths : List GivenPath) (b : PredicateBuilder) : Type 0
  where
    pub holds : HoldsPaths (added_paths false paths) b.edges
    pub ready : b.failed ≡ false
    pub rule : b.fill_rule ≡ fill
    pub by : b.solver ≡ solver
