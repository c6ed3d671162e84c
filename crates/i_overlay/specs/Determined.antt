-- What paths are simplified to is determined by the arrangement of their edges. What a builder holds after a query
-- is, by
-- snap rounding.
use Rattle.std.specs.Prelude.{◌≡◌, ℕ, Bool, false, ℤ, List, Result, IsOk}
use Rattle.overlay_geom.specs.Plane.{Point}
use Rattle.overlay_geom.specs.Edges.{CountedEdge}
use Rattle.overlay_geom.specs.declared.error.OverlayError.{OverlayError}
use Rattle.overlay_geom.specs.declared.error.OverlayError.TheVariants.{Memory}
use Rattle.overlay_geom.specs.declared.solver.Solver.{Solver}
use Rattle.overlay_geom.specs.declared.solver.Solver.TheVariants.{Snapping}
use Rattle.overlay_geom.specs.declared.fill_rule.FillRule.{FillRule}
use Rattle.overlay_geom.specs.declared.options.ShapeType.TheVariants.{Subject}
use Rattle.overlay_plane.specs.Meetings.{MeetInWholePoints}
use Rattle.overlay_order.specs.Vectors.{Vector}
use Rattle.overlay_builder.specs.GivenPaths.{GivenPath, added_paths, paths_for}
use Rattle.overlay_builder.specs.Held.{Held, AnswersQuery}
use Rattle.overlay_builder.specs.PathLists.{HoldsPaths}
use Rattle.overlay_plane.specs.Islands.{ChildLink}
use Rattle.overlay_extract.specs.Determined.{AreArrangedWithBalance}
use Rattle.overlay_extract.specs.Results.{Asked}
use Rattle.overlay_plane.specs.Predicates.{IsDisjoint, Covers}
use Rattle.overlay_relate.specs.PredicateQueries.{Holds}
use Rattle.overlay_relate.specs.declared.predicate.Predicate.{Predicate}
use Rattle.overlay_relate.specs.declared.relations.Relations.{Relations}
use Rattle.i_overlay.specs.Relations.{TellsOfPaths, AreRelationsOfPaths}
use Rattle.i_overlay.specs.Alone.{MayRefuseAlone}
use Rattle.i_overlay.specs.OneShot.{IsResultOfPaths, IsHierarchyOfPaths, AreEdgesOfPaths}
use Rattle.i_overlay.specs.Simplified.{IsSimplifiedSource, IsSimplifiedAlone, AreSimplified}

-- two lists of shapes to which the paths of a source are simplified are equal
abbrev pub OneSimplified : Type 0
OneSimplified = (q : Asked) (keep : Bool) (paths : List (List Point)) (es : List CountedEdge) →
    AreArrangedWithBalance es → (first second : List (List (List Point))) → IsSimplifiedSource q keep paths es first →
    IsSimplifiedSource q keep paths es second → first ≡ second

-- so are two lists of contours to which contours are simplified
abbrev pub OneSimplifiedList : Type 0
OneSimplifiedList = (q : Asked) (keep : Bool) (paths : List (List Point)) (es : List CountedEdge) →
    AreArrangedWithBalance es → (first second : List (List Point)) → AreSimplified q keep paths es first →
    AreSimplified q keep paths es second → first ≡ second

-- ---- calls that leave no builder

-- by snap rounding two results of the same paths, asked for alike, are equal
abbrev pub OneAnswer : Type 0
OneAnswer = (q : Asked) (paths : List GivenPath) (first second : List (List (List Point))) →
    IsResultOfPaths Snapping q paths first → IsResultOfPaths Snapping q paths second → first ≡ second

-- so are two hierarchies
abbrev pub OneHierarchy : Type 0
OneHierarchy = (q : Asked) (paths : List GivenPath) (first second : List (List (List Point)))
    (links others : List ChildLink) → IsHierarchyOfPaths Snapping q paths first links →
    IsHierarchyOfPaths Snapping q paths second others → (first ≡ second) × (links ≡ others)

-- and two lists of edges
abbrev pub OneListOfEdges : Type 0
OneListOfEdges = (fill : FillRule) (paths : List GivenPath) (first second : List Vector) →
    AreEdgesOfPaths Snapping fill paths first → AreEdgesOfPaths Snapping fill paths second → first ≡ second

-- and two lists of shapes to which paths are simplified
abbrev pub OneSimplification : Type 0
OneSimplification = (q : Asked) (keep : Bool) (paths : List (List Point)) (first second : List (List (List Point))) →
    IsSimplifiedAlone Snapping q keep paths first → IsSimplifiedAlone Snapping q keep paths second → first ≡ second

-- two answers whether this relation holds of the same paths are equal
abbrev pub OneAnswerOf : ((ℤ → Bool) → List CountedEdge → Type 0) → Type 0
OneAnswerOf relation = (fill : FillRule) (paths : List GivenPath) (first second : Bool) →
    TellsOfPaths Snapping relation fill paths first → TellsOfPaths Snapping relation fill paths second → first ≡ second

-- so it is with each predicate
pub record OneAnswerOfEach : Type 0 where
  pub predicate : (p : Predicate) → OneAnswerOf (Holds p)
  pub disjoint : OneAnswerOf IsDisjoint
  pub covers : OneAnswerOf Covers

-- and two that tell all relations
abbrev pub OneListOfRelations : Type 0
OneListOfRelations = (fill : FillRule) (paths exchanged : List GivenPath) (first second : Relations) →
    AreRelationsOfPaths Snapping fill paths exchanged first →
    AreRelationsOfPaths Snapping fill paths exchanged second → first ≡ second

-- ---- paths whose edges meet in whole points alone

-- the edges that the paths give meet in whole points alone, or overlap
abbrev pub PathsMeetInWholePoints : Bool → List GivenPath → Type 0
PathsMeetInWholePoints keep paths = (content : List CountedEdge) → HoldsPaths (added_paths keep paths) content →
    MeetInWholePoints content

-- two answers to such paths are equal, whichever solvers give them
pub record OneAnswerWhereWhole : Type 0 where
  pub shapes : (solver another : Solver) (q : Asked) (paths : List GivenPath) → PathsMeetInWholePoints false paths →
      (first second : List (List (List Point))) → IsResultOfPaths solver q paths first →
      IsResultOfPaths another q paths second → first ≡ second
  pub hierarchies : (solver another : Solver) (q : Asked) (paths : List GivenPath) →
      PathsMeetInWholePoints false paths → (first second : List (List (List Point))) (links others : List ChildLink) →
      IsHierarchyOfPaths solver q paths first links → IsHierarchyOfPaths another q paths second others →
      (first ≡ second) × (links ≡ others)
  pub edges : (solver another : Solver) (fill : FillRule) (paths : List GivenPath) →
      PathsMeetInWholePoints false paths → (first second : List Vector) → AreEdgesOfPaths solver fill paths first →
      AreEdgesOfPaths another fill paths second → first ≡ second
  pub simplified : (solver another : Solver) (q : Asked) (keep : Bool) (paths : List (List Point)) →
      PathsMeetInWholePoints keep (paths_for Subject paths) → (first second : List (List (List Point))) →
      IsSimplifiedAlone solver q keep paths first → IsSimplifiedAlone another q keep paths second → first ≡ second
  pub relations : (solver another : Solver) (fill : FillRule) (paths exchanged : List GivenPath) →
      PathsMeetInWholePoints false paths → (first second : Relations) →
      AreRelationsOfPaths solver fill paths exchanged first →
      AreRelationsOfPaths another fill paths exchanged second → first ≡ second

-- ---- refusals

-- memory alone may refuse the paths by snap rounding
abbrev pub MemoryAloneRefusesPaths : Bool → List GivenPath → Type 0
MemoryAloneRefusesPaths keep paths = (e : OverlayError) → MayRefuseAlone keep Snapping paths e → e ≡ Memory

-- so it is with paths to which there is an answer
pub record AnsweredPathsAreRefusedByMemoryAlone : Type 0 where
  pub shapes : (q : Asked) (paths : List GivenPath) (result : List (List (List Point))) →
      IsResultOfPaths Snapping q paths result → MemoryAloneRefusesPaths false paths
  pub hierarchies : (q : Asked) (paths : List GivenPath) (result : List (List (List Point))) (links : List ChildLink) →
      IsHierarchyOfPaths Snapping q paths result links → MemoryAloneRefusesPaths false paths
  pub edges : (fill : FillRule) (paths : List GivenPath) (result : List Vector) →
      AreEdgesOfPaths Snapping fill paths result → MemoryAloneRefusesPaths false paths
  pub simplified : (q : Asked) (keep : Bool) (paths : List (List Point)) (result : List (List (List Point))) →
      IsSimplifiedAlone Snapping q keep paths result → MemoryAloneRefusesPaths keep (paths_for Subject paths)
  pub relations : (fill : FillRule) (paths exchanged : List GivenPath) (result : Relations) →
      AreRelationsOfPaths Snapping fill paths exchanged result → MemoryAloneRefusesPaths false paths

-- and with paths of which this relation was told
abbrev pub ToldPathsAreRefusedByMemoryAlone : ((ℤ → Bool) → List CountedEdge → Type 0) → Type 0
ToldPathsAreRefusedByMemoryAlone relation = (fill : FillRule) (paths : List GivenPath) (answer : Bool) →
    TellsOfPaths Snapping relation fill paths answer → MemoryAloneRefusesPaths false paths

-- ---- queries

-- two builders after a query that snap rounding answered are one
abbrev pub OneQuery : Type 0
OneQuery = (limit : ℕ) (old new newer : Held CountedEdge) (result other : Result (Unit {0}) OverlayError) →
    AnswersQuery limit Snapping old new result →
    AnswersQuery limit Snapping old newer other → IsOk result → IsOk other → new ≡ newer
