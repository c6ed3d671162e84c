-- All relations of a subject and a clip as given.
use Rattle.std.specs.Prelude.{◌↔◌, Bool, not, ◌&&◌, ◌||◌, ℤ, List, IsTrue}
use Rattle.overlay_geom.specs.Edges.{CountedEdge, subj_of, clip_of}
use Rattle.overlay_plane.specs.Predicates.{InteriorsIntersect, IsWithin, Covers}
use Rattle.overlay_given.specs.declared.relations.Contacts.{Contacts}
use Rattle.overlay_relate.specs.Closures.{IsInInterior, ClosuresMeet, ClosuresTouch, ClosuresMeetInPoints}
use Rattle.overlay_relate.specs.Closures.{AreClosuresApart}
use Rattle.overlay_relate.specs.declared.relations.Relations.{Relations}

-- each answer tells whether the relation holds of the content: of the interiors of its subject and its clip, or of
-- their closures
pub record AreExactRelations (filled : ℤ → Bool) (content : List CountedEdge) (r : Relations) : Type 0 where
  pub intersects : IsTrue r.intersects ↔
      ClosuresMeet (IsInInterior filled content subj_of) (IsInInterior filled content clip_of)
  pub interiors_intersect : IsTrue r.interiors_intersect ↔ InteriorsIntersect filled content
  pub touches : IsTrue r.touches ↔
      ClosuresTouch (IsInInterior filled content subj_of) (IsInInterior filled content clip_of)
  pub point_intersects : IsTrue r.point_intersects ↔
      ClosuresMeetInPoints (IsInInterior filled content subj_of) (IsInInterior filled content clip_of)
  pub within : IsTrue r.within ↔ IsWithin filled content
  pub disjoint : IsTrue r.disjoint ↔
      AreClosuresApart (IsInInterior filled content subj_of) (IsInInterior filled content clip_of)
  pub covers : IsTrue r.covers ↔ Covers filled content

-- the relations that contacts tell
abbrev pub relations_by : Contacts → Relations
relations_by c = record {
  intersects = c.beside_piece || c.in_points;
  interiors_intersect = c.interiors.interiors_intersect;
  touches = (c.beside_piece || c.in_points) && not c.interiors.interiors_intersect;
  point_intersects = c.in_points;
  within = c.interiors.within;
  disjoint = not (c.beside_piece || c.in_points);
  covers = c.interiors.covers;
}
