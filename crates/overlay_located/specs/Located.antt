-- Where a point lies in the shape of paths as they are given: told by the points near it.
use Rattle.std.specs.Prelude.{◌≡◌, ℤ, Bool, false, List}
use Rattle.overlay_geom.specs.Plane.{PlanePoint}
use Rattle.overlay_geom.specs.declared.options.ShapeType.TheVariants.{Subject}
use Rattle.overlay_builder.specs.GivenPaths.{GivenPath}
use Rattle.overlay_builder.specs.PathWindings.{IsFarFromPaths}
use Rattle.overlay_relate.specs.PathRelations.{path_fills, IsInPathInterior}
use Rattle.overlay_relate.specs.declared.location.PointLocation.{PointLocation}
use Rattle.overlay_sectors.specs.Located.{IsLocatedNear}

-- the paths do not fill p, which is on none of them
abbrev pub IsInPathExterior : (ℤ → Bool) → List GivenPath → PlanePoint → Type 0
IsInPathExterior filled paths p = IsFarFromPaths 0 paths p × (path_fills filled paths Subject p ≡ false)

-- where p lies in the shape of the subject's paths as they are
abbrev pub LiesInPaths : (ℤ → Bool) → List GivenPath → PlanePoint → PointLocation → Type 0
LiesInPaths filled paths p l = IsLocatedNear (IsInPathInterior filled paths Subject) (IsInPathExterior filled paths) p l
