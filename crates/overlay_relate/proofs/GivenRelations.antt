-- What answers about the relations of an arrangement tell of the edges as given.
use Rattle.std.proofs.Common.{◌↔◌, ℤ, Bool, List}
use Rattle.std.specs.Prelude.{IsTrue}
use Rattle.std.proofs.lemmas.Bool.{both_ways}
use Rattle.overlay_geom.specs.Edges.{CountedEdge, subj_of, clip_of}
use Rattle.overlay_geom.specs.declared.solver.Solver.{Solver}
use Rattle.overlay_geom.specs.Rules.{is_filled}
use Rattle.overlay_plane.specs.GivenPredicates.{HaveSameInteriors, TellOfFarPoints}
use Rattle.overlay_plane.specs.Meetings.{MeetInWholePoints}
use Rattle.overlay_plane.specs.Predicates.{InteriorsIntersect, IsWithin, Covers, IsFillable}
use Rattle.overlay_plane.proofs.GivenPredicates.{kept_points_keep_relations}
use Rattle.overlay_plane.proofs.GivenPredicates.{far_points_tell_relations}
use Rattle.overlay_graph.specs.Arranged.{IsArranged}
use Rattle.overlay_relate.specs.GivenRelations.{TellsOfGivenInteriors, TellsOfGivenWithin, TellOfGivenRelations}
use Rattle.overlay_relate.specs.GivenRelations.{QueriesTellOfGivenEdges}
use Rattle.overlay_relate.specs.PredicateQueries.{AreRelations}
use Rattle.overlay_relate.specs.declared.relations.Relations.{Relations}
use Rattle.overlay_relate.proofs.GivenClosures.{answer_of, kept, tells_of_given_meeting, tells_of_given_touch}
use Rattle.overlay_relate.proofs.GivenClosures.{tells_of_given_points, tells_of_given_disjoint}

module _ (solver : Solver) (given edges : List CountedEdge) (arranged : IsArranged solver given edges)
    (filled : ℤ → Bool) where
  same : MeetInWholePoints given → HaveSameInteriors filled given edges
  same whole = kept_points_keep_relations.relations filled given edges
      (kept solver given edges arranged whole)

  told : TellOfFarPoints arranged.moving filled given edges
  told = far_points_tell_relations.relations filled arranged.moving given edges arranged.far

  pub tells_of_given_interiors : (answer : Bool) → IsTrue answer ↔ InteriorsIntersect filled edges →
      TellsOfGivenInteriors arranged.moving filled given answer
  tells_of_given_interiors answer tells = record {
    exact = λ whole. answer_of (InteriorsIntersect filled given) (InteriorsIntersect filled edges) answer tells
        (same whole).interiors_intersect;
    both = λ p far subj clip. tells.1 (told.interiors_intersect p far subj clip);
    apart = λ no p far. told.apart (λ h. both_ways answer no (tells.1 h)) p far;
  }

  pub tells_of_given_within : (answer : Bool) → IsTrue answer ↔ IsWithin filled edges →
      TellsOfGivenWithin arranged.moving filled given subj_of clip_of answer
  tells_of_given_within answer tells = record {
    exact = λ whole. answer_of (IsWithin filled given) (IsWithin filled edges) answer tells (same whole).within;
    far = λ t p far h. told.within (tells.0 t) p far h;
  }

  pub tells_of_given_covers : (answer : Bool) → IsTrue answer ↔ Covers filled edges →
      TellsOfGivenWithin arranged.moving filled given clip_of subj_of answer
  tells_of_given_covers answer tells = record {
    exact = λ whole. answer_of (Covers filled given) (Covers filled edges) answer tells (same whole).covers;
    far = λ t p far h. told.covers (tells.0 t) p far h;
  }

  pub tell_of_given_relations : IsFillable filled edges → (r : Relations) → AreRelations filled edges r →
      TellOfGivenRelations arranged.moving filled given r
  tell_of_given_relations fillable r are = record {
    intersects = tells_of_given_meeting solver given edges arranged filled fillable r.intersects are.intersects;
    touches = tells_of_given_touch solver given edges arranged filled fillable r.touches are.touches;
    point_intersects = tells_of_given_points solver given edges arranged filled fillable r.point_intersects
        are.point_intersects;
    disjoint = tells_of_given_disjoint solver given edges arranged filled fillable r.disjoint are.disjoint;
    interiors_intersect = tells_of_given_interiors r.interiors_intersect are.interiors_intersect;
    within = tells_of_given_within r.within are.within;
    covers = tells_of_given_covers r.covers are.covers;
  }

pub queries_tell_of_given_edges : QueriesTellOfGivenEdges
queries_tell_of_given_edges = record {
  intersects = λ limit old new answer asked. tells_of_given_meeting old.solver old.edges new.edges asked.query.arranged
      (is_filled old.fill_rule) asked.fillable answer asked.answer;
  touches = λ limit old new answer asked. tells_of_given_touch old.solver old.edges new.edges asked.query.arranged
      (is_filled old.fill_rule) asked.fillable answer asked.answer;
  point_intersects = λ limit old new answer asked. tells_of_given_points old.solver old.edges new.edges
      asked.query.arranged (is_filled old.fill_rule) asked.fillable answer asked.answer;
  interiors_intersect = λ limit old new answer asked. tells_of_given_interiors old.solver old.edges new.edges
      asked.query.arranged (is_filled old.fill_rule) answer asked.answer;
  within = λ limit old new answer asked. tells_of_given_within old.solver old.edges new.edges asked.query.arranged
      (is_filled old.fill_rule) answer asked.answer;
  covers = λ limit old new answer asked. tells_of_given_covers old.solver old.edges new.edges asked.query.arranged
      (is_filled old.fill_rule) answer asked.answer;
  relations = λ limit old new r asked. tell_of_given_relations old.solver old.edges new.edges asked.query.arranged
      (is_filled old.fill_rule) asked.fillable r asked.answer;
}
