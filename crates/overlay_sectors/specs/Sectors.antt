-- Sectors round a point: the parts of a small disc round it between the edges that lead through it. Left of the point
-- and right of it, each is the lowest, or the next above an edge. Its winding is a sum of counts.
use Rattle.std.specs.Prelude.{◌≡◌, Bool, true, false, cond, ◌&&◌, ◌||◌, ℤ, pos, ◌*ℤ◌, int_lt, int_le, List, Contains}
use Rattle.std.specs.Prelude.{Option, Some, None}
use Rattle.std.specs.Ordering.{int_eq}
use Rattle.overlay_geom.specs.Edges.{CountedEdge, ends_of, subj_of}
use Rattle.overlay_geom.specs.Plane.{Point, PlanePoint, Edge, side, total, in_plane}
use Rattle.overlay_sectors.specs.declared.flank.Flank.{Flank}
use Rattle.overlay_sectors.specs.declared.flank.Flank.TheVariants.{Left, Right}

-- the edge has points at p.x and on this flank of it
abbrev pub spans_beside : Flank → Edge → PlanePoint → Bool
spans_beside Right f p = int_le (f.a.x *ℤ p.d) p.x && int_lt p.x (f.b.x *ℤ p.d)
spans_beside Left f p = int_lt (f.a.x *ℤ p.d) p.x && int_le p.x (f.b.x *ℤ p.d)

-- the end of the edge on this flank
abbrev pub far_end : Flank → Edge → Point
far_end Right f = f.b
far_end Left f = f.a

-- the edge leads from p into this flank
abbrev pub leads_from : Flank → Edge → PlanePoint → Bool
leads_from h f p = spans_beside h f p && int_eq (side f p) (pos 0)

-- an edge that leads from p is below a sector: below none that is the lowest, and below that next above an edge where
-- the end of this edge is not below the first
abbrev pub is_low : Flank → Option Edge → Edge → Bool
is_low h None f = false
is_low h (Some e) f = int_le (pos 0) (side f (in_plane (far_end h e)))

-- its line passes below p, or through p and it is low
abbrev pub is_under_near : Edge → PlanePoint → Bool → Bool
is_under_near f p low = int_lt (pos 0) (side f p) || (int_eq (side f p) (pos 0) && low)

-- the edge is below the points near p on this flank: it passes below p, or leads from p and is low
abbrev pub is_below_near : Flank → Edge → PlanePoint → Bool → Bool
is_below_near h f p low = spans_beside h f p && is_under_near f p low

-- the counts of the edges below the points near p, summed
abbrev pub winding_near : Flank → (CountedEdge → ℤ) → List CountedEdge → PlanePoint → (Edge → Bool) → ℤ
winding_near h count es p low = total (λ e. cond (is_below_near h (ends_of e) p (low (ends_of e))) (count e) (pos 0)) es

-- the lowest sector, or that next above an edge of the list that leads from p
abbrev pub IsSector : Flank → List CountedEdge → PlanePoint → Option Edge → Type 0
IsSector h es p None = Unit {0}
IsSector h es p (Some e) = (f : CountedEdge) × Contains es f × (ends_of f ≡ e) × (leads_from h e p ≡ true)

-- the shape fills the sector
abbrev pub fills_sector : (ℤ → Bool) → Flank → List CountedEdge → PlanePoint → Option Edge → Bool
fills_sector filled h es p sector = filled (winding_near h subj_of es p (is_low h sector))

-- some sector round p is filled, or not filled
pub record HasSector (filled : ℤ → Bool) (es : List CountedEdge) (p : PlanePoint) (t : Bool) : Type 0 where
  pub flank : Flank
  pub sector : Option Edge
  pub is : IsSector flank es p sector
  pub fills : fills_sector filled flank es p sector ≡ t
