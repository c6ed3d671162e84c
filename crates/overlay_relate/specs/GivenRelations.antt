-- What answers about relations tell of the edges as given, before they are brought into an arrangement.
use Rattle.std.specs.Prelude.{◌≡◌, ◌↔◌, ℕ, ℤ, Bool, true, false, ◌&&◌, List, Ok, IsTrue}
use Rattle.overlay_geom.specs.Edges.{CountedEdge, subj_of, clip_of}
use Rattle.overlay_geom.specs.Plane.{PlanePoint}
use Rattle.overlay_geom.specs.Rules.{is_filled}
use Rattle.overlay_plane.specs.FarPoints.{IsFarFrom}
use Rattle.overlay_plane.specs.Meetings.{MeetInWholePoints}
use Rattle.overlay_plane.specs.Predicates.{fills_at, Intersects, InteriorsIntersect, Touches, PointIntersects}
use Rattle.overlay_plane.specs.Predicates.{LiesWithin, IsWithin, Covers}
use Rattle.overlay_relate.specs.Closures.{ClosuresMeet, ClosuresTouch, ClosuresMeetInPoints, AreClosuresApart}
use Rattle.overlay_relate.specs.Closures.{IsInInterior}
use Rattle.overlay_relate.specs.PredicateBuilder.{PredicateBuilder}
use Rattle.overlay_relate.specs.PredicateQueries.{TellsRelation, TellsRelations}
use Rattle.overlay_relate.specs.declared.relations.Relations.{Relations}

-- the answer whether the interiors intersect, by an arrangement for which k rounds moved some point
pub record TellsOfGivenInteriors (k : ℕ) (filled : ℤ → Bool) (given : List CountedEdge) (answer : Bool) : Type 0 where
  -- where the edges meet only in whole points or overlap, it is the one of the edges as given
  pub exact : MeetInWholePoints given → (IsTrue answer ↔ InteriorsIntersect filled given)
  -- it is yes where both shapes fill a point more than k/2 away from the edges, in x or in y
  pub both : (p : PlanePoint) → IsFarFrom k given p → fills_at filled given subj_of p ≡ true →
      fills_at filled given clip_of p ≡ true → IsTrue answer
  -- so where it is no, both fill no such point
  pub apart : answer ≡ false → (p : PlanePoint) → IsFarFrom k given p →
      (fills_at filled given subj_of p && fills_at filled given clip_of p) ≡ false

-- the answer whether the inner shape lies within the outer
pub record TellsOfGivenWithin (k : ℕ) (filled : ℤ → Bool) (given : List CountedEdge)
    (inner outer : CountedEdge → ℤ) (answer : Bool) : Type 0 where
  -- where the edges meet only in whole points or overlap, it is the one of the edges as given
  pub exact : MeetInWholePoints given → (IsTrue answer ↔ LiesWithin filled given inner outer)
  -- where it is yes, the outer shape fills each point that the inner one fills more than k/2 away from the edges
  pub far : IsTrue answer → (p : PlanePoint) → IsFarFrom k given p → fills_at filled given inner p ≡ true →
      fills_at filled given outer p ≡ true

-- the answer whether the closures of the interiors meet
pub record TellsOfGivenMeeting (k : ℕ) (filled : ℤ → Bool) (given : List CountedEdge) (answer : Bool) : Type 0 where
  -- where the edges meet only in whole points or overlap, it is the one of the edges as given
  pub exact : MeetInWholePoints given →
      (IsTrue answer ↔ ClosuresMeet (IsInInterior filled given subj_of) (IsInInterior filled given clip_of))
  -- it is yes where both shapes fill a point more than k/2 away from the edges, in x or in y
  pub both : (p : PlanePoint) → IsFarFrom k given p → fills_at filled given subj_of p ≡ true →
      fills_at filled given clip_of p ≡ true → IsTrue answer
  -- so where it is no, both fill no such point
  pub apart : answer ≡ false → (p : PlanePoint) → IsFarFrom k given p →
      (fills_at filled given subj_of p && fills_at filled given clip_of p) ≡ false

-- the answer to a relation of the interiors and their closures, for shapes whose interiors do not meet
pub record TellsOfGivenApart (k : ℕ) (filled : ℤ → Bool) (given : List CountedEdge)
    (relation : (first second : PlanePoint → Type 0) → Type 0) (answer : Bool) : Type 0 where
  -- where the edges meet only in whole points or overlap, it is the one of the edges as given
  pub exact : MeetInWholePoints given →
      (IsTrue answer ↔ relation (IsInInterior filled given subj_of) (IsInInterior filled given clip_of))
  -- where it is yes, both shapes fill no point more than k/2 away from the edges
  pub apart : IsTrue answer → (p : PlanePoint) → IsFarFrom k given p →
      (fills_at filled given subj_of p && fills_at filled given clip_of p) ≡ false

-- the answers about all relations
pub record TellOfGivenRelations (k : ℕ) (filled : ℤ → Bool) (given : List CountedEdge) (r : Relations) : Type 0 where
  pub intersects : TellsOfGivenMeeting k filled given r.intersects
  pub interiors_intersect : TellsOfGivenInteriors k filled given r.interiors_intersect
  pub touches : TellsOfGivenApart k filled given ClosuresTouch r.touches
  pub point_intersects : TellsOfGivenApart k filled given ClosuresMeetInPoints r.point_intersects
  pub disjoint : TellsOfGivenApart k filled given AreClosuresApart r.disjoint
  pub within : TellsOfGivenWithin k filled given subj_of clip_of r.within
  pub covers : TellsOfGivenWithin k filled given clip_of subj_of r.covers

-- ---- laws

-- the answers of queries tell so of the edges that the builder held before
pub record QueriesTellOfGivenEdges : Type 0 where
  pub intersects : (limit : ℕ) (old new : PredicateBuilder) (answer : Bool)
      (asked : TellsRelation limit Intersects old new (Ok answer)) →
      TellsOfGivenMeeting asked.query.arranged.moving (is_filled old.fill_rule) old.edges answer
  pub touches : (limit : ℕ) (old new : PredicateBuilder) (answer : Bool)
      (asked : TellsRelation limit Touches old new (Ok answer)) →
      TellsOfGivenApart asked.query.arranged.moving (is_filled old.fill_rule) old.edges ClosuresTouch answer
  pub point_intersects : (limit : ℕ) (old new : PredicateBuilder) (answer : Bool)
      (asked : TellsRelation limit PointIntersects old new (Ok answer)) →
      TellsOfGivenApart asked.query.arranged.moving (is_filled old.fill_rule) old.edges ClosuresMeetInPoints answer
  pub interiors_intersect : (limit : ℕ) (old new : PredicateBuilder) (answer : Bool)
      (asked : TellsRelation limit InteriorsIntersect old new (Ok answer)) →
      TellsOfGivenInteriors asked.query.arranged.moving (is_filled old.fill_rule) old.edges answer
  pub within : (limit : ℕ) (old new : PredicateBuilder) (answer : Bool)
      (asked : TellsRelation limit IsWithin old new (Ok answer)) →
      TellsOfGivenWithin asked.query.arranged.moving (is_filled old.fill_rule) old.edges subj_of clip_of answer
  pub covers : (limit : ℕ) (old new : PredicateBuilder) (answer : Bool)
      (asked : TellsRelation limit Covers old new (Ok answer)) →
      TellsOfGivenWithin asked.query.arranged.moving (is_filled old.fill_rule) old.edges clip_of subj_of answer
  pub relations : (limit : ℕ) (old new : PredicateBuilder) (r : Relations)
      (asked : TellsRelations limit old new (Ok r)) →
      TellOfGivenRelations asked.query.arranged.moving (is_filled old.fill_rule) old.edges r
