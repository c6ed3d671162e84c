-- What is found of the edges of an arrangement, from which each predicate is answered.
use Rattle.std.specs.Prelude.{◌↔◌, Bool, not, ◌&&◌, List, IsTrue}
use Rattle.overlay_geom.specs.Edges.{CountedEdge}
use Rattle.overlay_geom.specs.Rules.{is_filled}
use Rattle.overlay_geom.specs.declared.fill_rule.FillRule.{FillRule}
use Rattle.overlay_plane.specs.Predicates.{IsFillable}
use Rattle.overlay_relate.specs.PredicateQueries.{Holds}
use Rattle.overlay_relate.specs.declared.found.Found.{Found}
use Rattle.overlay_relate.specs.declared.predicate.Predicate.{Predicate}
use Rattle.overlay_relate.specs.declared.predicate.Predicate.TheVariants.{Intersect, InteriorsIntersect as Interiors}
use Rattle.overlay_relate.specs.declared.predicate.Predicate.TheVariants.{Touch, PointIntersect, Within, Cover}
use Rattle.overlay_relate.specs.declared.relations.Relations.{Relations}

-- what was found answers a predicate so
abbrev pub answer_by : Found → Predicate → Bool
answer_by f Intersect = f.meet
answer_by f Interiors = f.has_common_side
answer_by f Touch = f.meet && not f.has_common_side
answer_by f PointIntersect = f.meet && not f.has_both
answer_by f Within = f.has_subject && not f.subject_pokes_out
answer_by f Cover = f.has_clip && not f.clip_pokes_out

-- and all relations so
abbrev pub relations_by : Found → Relations
relations_by f = record {
  intersects = answer_by f Intersect;
  interiors_intersect = answer_by f Interiors;
  touches = answer_by f Touch;
  point_intersects = answer_by f PointIntersect;
  within = answer_by f Within;
  disjoint = not (answer_by f Intersect);
  covers = answer_by f Cover;
}

-- under the rule, of a planar list with balanced counts: each answer is right
pub record IsFoundUnder (rule : FillRule) (es : List CountedEdge) (f : Found) : Type 0 where
  pub fillable : IsFillable (is_filled rule) es
  pub answers : (p : Predicate) → IsTrue (answer_by f p) ↔ Holds p (is_filled rule) es
