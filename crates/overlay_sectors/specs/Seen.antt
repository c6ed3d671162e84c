-- Fillings of sectors found so far, and where a point lies by them.
use Rattle.std.specs.Prelude.{◌≡◌, ℕ, ◌<◌, ℤ, Bool, true, false, cond, not, ◌||◌, List, None, Some}
use Rattle.overlay_geom.specs.Edges.{CountedEdge, ends_of}
use Rattle.overlay_geom.specs.Plane.{PlanePoint}
use Rattle.overlay_pairs.specs.Places.{IsAt}
use Rattle.overlay_relate.specs.declared.location.PointLocation.{PointLocation}
use Rattle.overlay_relate.specs.declared.location.PointLocation.TheVariants.{Inside, Boundary, Outside}
use Rattle.overlay_sectors.specs.Sectors.{HasSector, fills_sector, leads_from}
use Rattle.overlay_sectors.specs.declared.flank.Flank.{Flank}
use Rattle.overlay_sectors.specs.declared.seen.Seen.{Seen}

-- inside where no sector is unfilled, outside where none is filled
abbrev pub location_of : Seen → PointLocation
location_of s = cond s.empty (cond s.filled Boundary Outside) Inside

-- a sector with this filling was found
abbrev pub has_seen : Seen → Bool → Bool
has_seen s t = cond t s.filled s.empty

-- what was found is so of sectors round p
pub record IsSeenOf (filled : ℤ → Bool) (es : List CountedEdge) (p : PlanePoint) (s : Seen) : Type 0 where
  pub some : s.filled ≡ true → HasSector filled es p true
  pub other : s.empty ≡ true → HasSector filled es p false

-- both lowest sectors were found
abbrev pub HasSeenLowest : (ℤ → Bool) → List CountedEdge → PlanePoint → Seen → Type 0
HasSeenLowest filled es p s = (h : Flank) → has_seen s (fills_sector filled h es p None) ≡ true

-- and those next above the edges that lead from p before place n of the list
abbrev pub HasSeenUpTo : (ℤ → Bool) → List CountedEdge → PlanePoint → ℕ → Seen → Type 0
HasSeenUpTo filled es p n s = (h : Flank) (k : ℕ) (e : CountedEdge) → k < n → IsAt es k e →
    leads_from h (ends_of e) p ≡ true → has_seen s (fills_sector filled h es p (Some (ends_of e))) ≡ true

-- the sectors of the first n edges were found
pub record IsSeenUpTo (filled : ℤ → Bool) (es : List CountedEdge) (p : PlanePoint) (n : ℕ) (s : Seen) : Type 0 where
  pub right : IsSeenOf filled es p s
  pub lowest : HasSeenLowest filled es p s
  pub rays : HasSeenUpTo filled es p n s

-- a sector with this filling is found beside the others
pub record AddsFilling (t : Bool) (old new : Seen) : Type 0 where
  pub filled : new.filled ≡ (t || old.filled)
  pub empty : new.empty ≡ (not t || old.empty)
