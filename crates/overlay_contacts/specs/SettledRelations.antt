-- What is found of the filled sides of edges that meet in ends alone, and the relations that it tells.
use Rattle.std.specs.Prelude.{Bool, not, ◌&&◌, ℤ, List}
use Rattle.overlay_geom.specs.Edges.{CountedEdge}
use Rattle.overlay_plane.specs.Predicates.{IsFillable}
use Rattle.overlay_relate.specs.PredicateQueries.{AreRelations}
use Rattle.overlay_relate.specs.declared.relations.Relations.{Relations}
use Rattle.overlay_contacts.specs.declared.settled.EdgeFindings.{EdgeFindings}

-- the findings tell the relations so
abbrev pub relations_of : EdgeFindings → Relations
relations_of f = record {
  intersects = f.meet;
  interiors_intersect = f.has_common_side;
  touches = f.meet && not f.has_common_side;
  point_intersects = f.meet && not f.has_both;
  within = f.has_subject && not f.subject_pokes_out;
  disjoint = not f.meet;
  covers = f.has_clip && not f.clip_pokes_out;
}

-- these are the relations of the edges, a planar list with balanced counts
pub record TellOfEdges (filled : ℤ → Bool) (es : List CountedEdge) (f : EdgeFindings) : Type 0 where
  pub fillable : IsFillable filled es
  pub relations : AreRelations filled es (relations_of f)
