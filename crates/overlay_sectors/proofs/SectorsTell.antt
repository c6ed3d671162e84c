-- The sectors round a point tell where it lies: inside where all are filled, outside where none is, and on the boundary
-- where some are.
use Rattle.std.proofs.Common.{◌≡◌, Bool, true, false, ℤ, pos, List, ap, ◌∙◌}
use Rattle.std.specs.Prelude.{Option}
use Rattle.std.proofs.lemmas.Bool.{both_ways}
use Rattle.std.proofs.lemmas.Int.{by_lt_z}
use Rattle.overlay_geom.specs.Edges.{CountedEdge, subj_of, winding_by}
use Rattle.overlay_geom.specs.Plane.{PlanePoint, Edge}
use Rattle.overlay_relate.specs.Closures.{AreWithinPart, IsInClosure, IsInInterior}
use Rattle.overlay_relate.proofs.SteepPoints.{closeness, fits_closeness}
use Rattle.overlay_sectors.specs.Laws.{LeadRight, SectorsTellLocations}
use Rattle.overlay_sectors.specs.Located.{HasNoneNear, IsInExterior}
use Rattle.overlay_sectors.specs.Sectors.{HasSector, IsSector, fills_sector}
use Rattle.overlay_sectors.specs.declared.flank.Flank.{Flank}
use Rattle.overlay_sectors.specs.declared.flank.Flank.TheVariants.{Left, Right}
use Rattle.overlay_sectors.proofs.NearSectors.{across, IsOnFlank}
use Rattle.overlay_sectors.proofs.NearTells.{WindsAsSector, winds_as_sector}
use Rattle.overlay_sectors.proofs.SectorPoints.{sector_point}

module _ (filled : ℤ → Bool) (es : List CountedEdge) (p : PlanePoint) where
  -- each point near p is filled as a sector is
  fills_as : (q : PlanePoint) → AreWithinPart (closeness 0 es p) q p → (t : Bool) →
      ((h : Flank) (sector : Option Edge) → IsSector h es p sector → fills_sector filled h es p sector ≡ t) →
      filled (winding_by subj_of es q) ≡ t
  fills_as q near t all = by_lt_z (across p q) (pos 0) (λ left. on Left left) (λ right. on Right right)
    where
      on : (h : Flank) → IsOnFlank h p q → filled (winding_by subj_of es q) ≡ t
      on h flank =
          let at : WindsAsSector h es p q =
          winds_as_sector (closeness 0 es p) p q near h flank es (fits_closeness 0 es p) in
          ap filled (at.winds subj_of) ∙ all h at.sector at.is

  none_near : (t : Bool) → (points : PlanePoint → Type 0) →
      ((q : PlanePoint) → points q → ¬ (filled (winding_by subj_of es q) ≡ t)) →
      ((h : Flank) (sector : Option Edge) → IsSector h es p sector → fills_sector filled h es p sector ≡ t) →
      HasNoneNear points p
  none_near t points other all = (closeness 0 es p, λ q at near. other q at (fills_as q near t all))

  -- a sector has points however near
  interior_near : LeadRight es → HasSector filled es p true → IsInClosure (IsInInterior filled es subj_of) p
  interior_near forward at n =
      let found = sector_point n es p forward at.flank at.sector at.is in
      (found.near, (found.off, ap filled (found.winds subj_of) ∙ at.fills), found.close)

  exterior_near : LeadRight es → HasSector filled es p false → IsInClosure (IsInExterior filled es subj_of) p
  exterior_near forward at n =
      let found = sector_point n es p forward at.flank at.sector at.is in
      (found.near, (found.off, ap filled (found.winds subj_of) ∙ at.fills), found.close)

pub sectors_tell : SectorsTellLocations
sectors_tell filled es p forward = record {
  inside = λ all. none_near filled es p true (IsInExterior filled es subj_of)
      (λ q at is. both_ways (filled (winding_by subj_of es q)) at.1 is) all;
  boundary = λ some other.
      (interior_near filled es p forward some, exterior_near filled es p forward other);
  outside = λ all. none_near filled es p false (IsInInterior filled es subj_of)
      (λ q at is. both_ways (filled (winding_by subj_of es q)) is at.1) all;
}
