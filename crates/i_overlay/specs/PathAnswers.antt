-- What answers about the relations of two resources tell of their paths, as these were given.
use Rattle.std.specs.Prelude.{Bool, List}
use Rattle.overlay_geom.specs.declared.solver.Solver.{Solver}
use Rattle.overlay_geom.specs.Rules.{is_filled}
use Rattle.overlay_geom.specs.declared.fill_rule.FillRule.{FillRule}
use Rattle.overlay_geom.specs.declared.options.ShapeType.TheVariants.{Subject, Clip}
use Rattle.overlay_plane.specs.Predicates.{Intersects, InteriorsIntersect, Touches, PointIntersects, IsWithin}
use Rattle.overlay_plane.specs.Predicates.{IsDisjoint}
use Rattle.overlay_builder.specs.GivenPaths.{GivenPath}
use Rattle.overlay_relate.specs.Closures.{ClosuresTouch, ClosuresMeetInPoints, AreClosuresApart}
use Rattle.overlay_relate.specs.PathRelations.{TellsOfPathInteriors, TellsOfPathWithin, TellsOfPathMeeting}
use Rattle.overlay_relate.specs.PathRelations.{TellsOfPathApart}
use Rattle.overlay_relate.specs.declared.relations.Relations.{Relations}
use Rattle.i_overlay.specs.Relations.{TellsOfPaths, AreRelationsOfPaths}

-- an answer to one relation: k is the number of rounds that moved some point. `covers` is `within` of the exchanged
-- paths
pub record AnswersTellOfPaths : Type 0 where
  pub intersects : (solver : Solver) (fill : FillRule) (paths : List GivenPath) (answer : Bool)
      (told : TellsOfPaths solver Intersects fill paths answer) →
      TellsOfPathMeeting told.arranged.moving (is_filled fill) paths told.content answer
  pub interiors_intersect : (solver : Solver) (fill : FillRule) (paths : List GivenPath) (answer : Bool)
      (told : TellsOfPaths solver InteriorsIntersect fill paths answer) →
      TellsOfPathInteriors told.arranged.moving (is_filled fill) paths told.content answer
  pub within : (solver : Solver) (fill : FillRule) (paths : List GivenPath) (answer : Bool)
      (told : TellsOfPaths solver IsWithin fill paths answer) →
      TellsOfPathWithin told.arranged.moving (is_filled fill) paths told.content Subject Clip answer
  pub touches : (solver : Solver) (fill : FillRule) (paths : List GivenPath) (answer : Bool)
      (told : TellsOfPaths solver Touches fill paths answer) →
      TellsOfPathApart told.arranged.moving (is_filled fill) paths told.content ClosuresTouch answer
  pub point_intersects : (solver : Solver) (fill : FillRule) (paths : List GivenPath) (answer : Bool)
      (told : TellsOfPaths solver PointIntersects fill paths answer) →
      TellsOfPathApart told.arranged.moving (is_filled fill) paths told.content ClosuresMeetInPoints answer
  pub disjoint : (solver : Solver) (fill : FillRule) (paths : List GivenPath) (answer : Bool)
      (told : TellsOfPaths solver IsDisjoint fill paths answer) →
      TellsOfPathApart told.arranged.moving (is_filled fill) paths told.content AreClosuresApart answer

-- the answers to all relations
pub record RelationsTellOfPaths (solver : Solver) (fill : FillRule) (paths exchanged : List GivenPath) (r : Relations)
    (told : AreRelationsOfPaths solver fill paths exchanged r) : Type 0 where
  pub intersects : TellsOfPathMeeting told.arranged.moving (is_filled fill) paths told.content r.intersects
  pub interiors_intersect : TellsOfPathInteriors told.arranged.moving (is_filled fill) paths told.content
      r.interiors_intersect
  pub touches : TellsOfPathApart told.arranged.moving (is_filled fill) paths told.content ClosuresTouch r.touches
  pub point_intersects : TellsOfPathApart told.arranged.moving (is_filled fill) paths told.content ClosuresMeetInPoints
      r.point_intersects
  pub disjoint : TellsOfPathApart told.arranged.moving (is_filled fill) paths told.content AreClosuresApart r.disjoint
  pub within : TellsOfPathWithin told.arranged.moving (is_filled fill) paths told.content Subject Clip r.within
  pub covers : TellsOfPathWithin told.arranged.moving (is_filled fill) paths told.content Clip Subject r.covers

abbrev pub AllRelationsTellOfPaths : Type 0
AllRelationsTellOfPaths = (solver : Solver) (fill : FillRule) (paths exchanged : List GivenPath) (r : Relations)
    (told : AreRelationsOfPaths solver fill paths exchanged r) → RelationsTellOfPaths solver fill paths exchanged r told
