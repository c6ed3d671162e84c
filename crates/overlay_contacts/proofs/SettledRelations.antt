-- The relations of edges that meet in ends alone are those of a content whose points off the edges they keep: in an
-- arrangement the closures of the interiors are the closed regions.
use Rattle.std.proofs.Common.{◌↔◌, Bool, ℤ, List}
use Rattle.std.specs.Prelude.{IsTrue}
use Rattle.overlay_geom.specs.Edges.{CountedEdge}
use Rattle.overlay_plane.specs.GivenPredicates.{KeepsPointsOff, HaveSameInteriors}
use Rattle.overlay_plane.specs.Predicates.{InteriorsIntersect, IsWithin, Covers, IsFillable}
use Rattle.overlay_plane.proofs.GivenPredicates.{kept_points_keep_relations}
use Rattle.overlay_relate.specs.Closures.{ClosuresTell}
use Rattle.overlay_relate.specs.PredicateQueries.{AreRelations}
use Rattle.overlay_relate.specs.declared.relations.Relations.{Relations}
use Rattle.overlay_relate.proofs.Closures.{closures_tell}
use Rattle.overlay_relate.proofs.GivenClosures.{joined, kept_meeting, kept_touch, kept_points, kept_apart}
use Rattle.overlay_contacts.specs.ExactRelations.{AreExactRelations}

module _ (filled : ℤ → Bool) (content es : List CountedEdge) (off : KeepsPointsOff content es)
    (fillable : IsFillable filled es) (r : Relations) (are : AreRelations filled es r) where
  tell : ClosuresTell filled es
  tell = closures_tell filled es fillable

  same : HaveSameInteriors filled content es
  same = kept_points_keep_relations.relations filled content es off

  -- an answer to a relation of the edges, which the content has too
  kept : (P R : Type 0) (answer : Bool) → IsTrue answer ↔ P → R ↔ P → IsTrue answer ↔ R
  kept P R answer tells both = joined (IsTrue answer) P R tells (both.1, both.0)

  -- and one of their closed regions
  closed : (P Q R : Type 0) (answer : Bool) → IsTrue answer ↔ P → P ↔ Q → R ↔ Q → IsTrue answer ↔ R
  closed P Q R answer tells of both = kept Q R answer (joined (IsTrue answer) P Q tells of) both

  pub exact_of_settled : AreExactRelations filled content r
  exact_of_settled = record {
    intersects = closed _ _ _ r.intersects are.intersects tell.intersects (kept_meeting filled content es off);
    interiors_intersect = kept (InteriorsIntersect filled es) (InteriorsIntersect filled content)
        r.interiors_intersect are.interiors_intersect same.interiors_intersect;
    touches = closed _ _ _ r.touches are.touches tell.touches (kept_touch filled content es off);
    point_intersects = closed _ _ _ r.point_intersects are.point_intersects tell.point_intersects
        (kept_points filled content es off);
    within = kept (IsWithin filled es) (IsWithin filled content) r.within are.within same.within;
    disjoint = closed _ _ _ r.disjoint are.disjoint tell.disjoint (kept_apart filled content es off);
    covers = kept (Covers filled es) (Covers filled content) r.covers are.covers same.covers;
  }
