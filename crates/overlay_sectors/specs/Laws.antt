-- Where a point lies is told by the sectors round it.
use Rattle.std.specs.Prelude.{◌≡◌, Bool, true, false, ℤ, pos, ◌≤ℤ◌, List, Contains, Option}
use Rattle.overlay_geom.specs.Edges.{CountedEdge, ends_of}
use Rattle.overlay_geom.specs.Plane.{PlanePoint, Edge}
use Rattle.overlay_plane.specs.Heights.{width}
use Rattle.overlay_relate.specs.declared.location.PointLocation.TheVariants.{Inside, Boundary, Outside}
use Rattle.overlay_sectors.specs.Located.{LiesIn}
use Rattle.overlay_sectors.specs.Sectors.{HasSector, IsSector, fills_sector}
use Rattle.overlay_sectors.specs.declared.flank.Flank.{Flank}

-- no edge leads to the left
abbrev pub LeadRight : List CountedEdge → Type 0
LeadRight es = (e : CountedEdge) → Contains es e → pos 0 ≤ℤ width (ends_of e)

-- each sector round p is filled, or none is
abbrev pub AreSectors : (ℤ → Bool) → List CountedEdge → PlanePoint → Bool → Type 0
AreSectors filled es p t = (h : Flank) (sector : Option Edge) → IsSector h es p sector →
    fills_sector filled h es p sector ≡ t

-- the sectors round p tell where it lies
pub record TellLocation (filled : ℤ → Bool) (es : List CountedEdge) (p : PlanePoint) : Type 0 where
  pub inside : AreSectors filled es p true → LiesIn filled es p Inside
  pub boundary : HasSector filled es p true → HasSector filled es p false → LiesIn filled es p Boundary
  pub outside : AreSectors filled es p false → LiesIn filled es p Outside

abbrev pub SectorsTellLocations : Type 0
SectorsTellLocations = (filled : ℤ → Bool) (es : List CountedEdge) (p : PlanePoint) → LeadRight es →
    TellLocation filled es p
