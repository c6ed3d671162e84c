-- Relations of the contours as given, and the tests of filled sides from which they are answered.
use Rattle.std.specs.Prelude.{◌≡◌, ◌↔◌, Bool, true, false, not, ◌&&◌, ℤ, List, IsTrue}
use Rattle.std.specs.List.{list_any}
use Rattle.overlay_geom.specs.Edges.{CountedEdge}
use Rattle.overlay_geom.specs.Merged.{IsMerged}
use Rattle.overlay_plane.specs.Predicates.{InteriorsIntersect, IsWithin, Covers}
use Rattle.overlay_scaled.specs.PlainContacts.{passes_at, fill_both, fill_one, HasSharedPlace}
use Rattle.overlay_scaled.specs.PlainPoints.{SomePlain}
use Rattle.overlay_given.specs.Sides.{sides_pass}
use Rattle.overlay_given.specs.declared.relations.Contacts.{Contacts}
use Rattle.overlay_given.specs.declared.relations.Found.{Found}
use Rattle.overlay_given.specs.declared.relations.InteriorRelations.{InteriorRelations}
use Rattle.overlay_given.specs.declared.sides.FilledSides.{FilledSides}
use Rattle.overlay_given.specs.declared.sides.SideTest.TheVariants.{CommonSide, SubjectSide, SubjectOutside, ClipSide}
use Rattle.overlay_given.specs.declared.sides.SideTest.TheVariants.{ClipOutside}

-- these tests pass of some sides of the list
pub record IsFoundOf (sides : List FilledSides) (f : Found) : Type 0 where
  pub has_common_side : f.has_common_side ≡ list_any (sides_pass CommonSide) sides
  pub has_subject : f.has_subject ≡ list_any (sides_pass SubjectSide) sides
  pub subject_pokes_out : f.subject_pokes_out ≡ list_any (sides_pass SubjectOutside) sides
  pub has_clip : f.has_clip ≡ list_any (sides_pass ClipSide) sides
  pub clip_pokes_out : f.clip_pokes_out ≡ list_any (sides_pass ClipOutside) sides

-- what was found answers so
abbrev pub relations_by : Found → InteriorRelations
relations_by f = record {
  interiors_intersect = f.has_common_side;
  within = f.has_subject && not f.subject_pokes_out;
  covers = f.has_clip && not f.clip_pokes_out;
}

-- each of these tells whether the relation holds of the content
pub record AreInteriorRelations (filled : ℤ → Bool) (content : List CountedEdge) (r : InteriorRelations) : Type 0 where
  pub interiors_intersect : IsTrue r.interiors_intersect ↔ InteriorsIntersect filled content
  pub within : IsTrue r.within ↔ IsWithin filled content
  pub covers : IsTrue r.covers ↔ Covers filled content

-- ---- contacts

-- the pieces of the edges tell how the shapes meet, and the relations of the interiors of a content that merges to them
pub record AreContacts (filled : ℤ → Bool) (es : List CountedEdge) (c : Contacts) : Type 0 where
  pub interiors : (content : List CountedEdge) → IsMerged content es → AreInteriorRelations filled content c.interiors
  pub common_side : IsTrue c.interiors.interiors_intersect ↔ SomePlain (passes_at fill_one filled es) es
  pub beside_piece : IsTrue c.beside_piece ↔ SomePlain (passes_at fill_both filled es) es
  pub in_points : IsTrue c.in_points ↔
      (HasSharedPlace filled es × (¬ (SomePlain (passes_at fill_both filled es) es)))

-- the contacts of shapes of which each has interior points inside the other and outside it
abbrev pub crossing_contacts : Contacts
crossing_contacts = record {
  interiors = record { interiors_intersect = true; within = false; covers = false };
  beside_piece = true;
  in_points = false;
}

-- both shapes fill one side of some piece, and each fills a side that the other does not fill. So c are their contacts
pub record IsCrossing (f : Found) (c : Contacts) : Type 0 where
  pub common : f.has_common_side ≡ true
  pub subject : f.subject_pokes_out ≡ true
  pub clip : f.clip_pokes_out ≡ true
  pub contacts : c ≡ crossing_contacts
