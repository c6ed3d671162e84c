-- Contacts of two shapes as given: how the closures of their interiors meet, told by the plain points and the pieces of
-- the merged edges. Nothing is rounded.
use Rattle.std.specs.Prelude.{◌≡◌, ◌⊎◌, ◌↔◌, Bool, false, ℤ, pos, List}
use Rattle.overlay_geom.specs.Edges.{CountedEdge, ends_of, subj_of, clip_of}
use Rattle.overlay_geom.specs.Merged.{IsMerged}
use Rattle.overlay_plane.specs.Balance.{HasBalancedCounts}
use Rattle.overlay_plane.specs.EdgeLists.{IsForwardBy}
use Rattle.overlay_relate.specs.Closures.{IsInInterior, ClosuresMeet, ClosuresTouch, ClosuresMeetInPoints}
use Rattle.overlay_relate.specs.Closures.{AreClosuresApart}
use Rattle.overlay_scaled.specs.PlainContacts.{passes_at, fill_both, fill_one, HasSharedPlace}
use Rattle.overlay_scaled.specs.PlainPoints.{SomePlain}

-- the shapes meet beside a plain point, or at a shared end
abbrev pub MeetPlainly : (ℤ → Bool) → List CountedEdge → Type 0
MeetPlainly filled es = SomePlain (passes_at fill_both filled es) es ⊎ HasSharedPlace filled es

-- how the shapes of the content meet, told by the merged edges
pub record TellContacts (filled : ℤ → Bool) (content es : List CountedEdge) : Type 0 where
  pub intersects : ClosuresMeet (IsInInterior filled content subj_of) (IsInInterior filled content clip_of) ↔
      MeetPlainly filled es
  pub touches : ClosuresTouch (IsInInterior filled content subj_of) (IsInInterior filled content clip_of) ↔
      (MeetPlainly filled es × (¬ (SomePlain (passes_at fill_one filled es) es)))
  pub point_intersects : ClosuresMeetInPoints (IsInInterior filled content subj_of)
      (IsInInterior filled content clip_of) ↔
      (HasSharedPlace filled es × (¬ (SomePlain (passes_at fill_both filled es) es)))
  pub disjoint : AreClosuresApart (IsInInterior filled content subj_of) (IsInInterior filled content clip_of) ↔
      (¬ (MeetPlainly filled es))

-- ---- laws

-- this holds of a content with balanced counts whose merged edges lead forward, for a test that fails for winding 0
abbrev pub GivenContacts : Type 0
GivenContacts = (filled : ℤ → Bool) (content es : List CountedEdge) → IsMerged content es →
    IsForwardBy ends_of es → HasBalancedCounts es → filled (pos 0) ≡ false → TellContacts filled content es
