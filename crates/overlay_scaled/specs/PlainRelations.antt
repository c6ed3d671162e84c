-- Relations of two shapes as given that speak of points off the edges, told by the plain points of the merged edges.
use Rattle.std.specs.Prelude.{◌≡◌, ◌↔◌, Bool, false, not, ◌&&◌, ◌||◌, ℤ, pos, List}
use Rattle.overlay_geom.specs.Edges.{CountedEdge, ends_of}
use Rattle.overlay_geom.specs.Merged.{IsMerged}
use Rattle.overlay_plane.specs.Balance.{HasBalancedCounts}
use Rattle.overlay_plane.specs.EdgeLists.{IsForwardBy}
use Rattle.overlay_plane.specs.Predicates.{InteriorsIntersect, IsWithin, Covers}
use Rattle.overlay_scaled.specs.PlainContacts.{passes_at, fill_one}
use Rattle.overlay_scaled.specs.PlainPoints.{SomePlain}

-- the subject fills a side, and the clip does
abbrev pub subject_fills : Bool → Bool → Bool → Bool → Bool
subject_fills sa sb ca cb = sa || sb

abbrev pub clip_fills : Bool → Bool → Bool → Bool → Bool
clip_fills sa sb ca cb = ca || cb

-- the subject fills a side that the clip does not fill, and the other way round
abbrev pub subject_pokes_out : Bool → Bool → Bool → Bool → Bool
subject_pokes_out sa sb ca cb = (sa && not ca) || (sb && not cb)

abbrev pub clip_pokes_out : Bool → Bool → Bool → Bool → Bool
clip_pokes_out sa sb ca cb = (ca && not sa) || (cb && not sb)

-- the relations of the content, told by the merged edges
pub record TellRelations (filled : ℤ → Bool) (content es : List CountedEdge) : Type 0 where
  pub interiors_intersect : InteriorsIntersect filled content ↔ SomePlain (passes_at fill_one filled es) es
  pub within : IsWithin filled content ↔ (SomePlain (passes_at subject_fills filled es) es
      × (¬ (SomePlain (passes_at subject_pokes_out filled es) es)))
  pub covers : Covers filled content ↔ (SomePlain (passes_at clip_fills filled es) es
      × (¬ (SomePlain (passes_at clip_pokes_out filled es) es)))

-- ---- laws

-- this holds where the merged edges lead forward and have balanced counts, for a test that fails for winding 0
abbrev pub PlainPointsTellRelations : Type 0
PlainPointsTellRelations = (filled : ℤ → Bool) (content es : List CountedEdge) → IsMerged content es →
    IsForwardBy ends_of es → HasBalancedCounts es → filled (pos 0) ≡ false → TellRelations filled content es
