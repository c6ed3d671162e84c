-- Contours placed in the shapes found for them, and the placed contours of an overlay.
use Rattle.std.specs.Prelude.{ℕ, List, Option}
use Rattle.overlay_geom.specs.Edges.{CountedEdge}
use Rattle.overlay_plane.specs.BoundContours.{AreShapesFound}
use Rattle.overlay_plane.specs.PlacedContours.{ArePlaced}
use Rattle.overlay_plane.specs.RoledContours.{Contour}
use Rattle.overlay_plane.specs.Turn.{Hand}
use Rattle.overlay_walk.specs.Asked.{Asked, filled_asked}
use Rattle.overlay_walk.specs.KeptResults.{AreKeptResults}

-- the places are those of the contours in the shapes found for them
pub record ArePlacedSomehow (filled : Hand) (contours : List Contour) (places : List (List ℕ)) : Type 0 where
  pub shapes : List (Option ℕ)
  pub found : AreShapesFound filled contours shapes
  pub placed : ArePlaced contours shapes places

-- the contours are kept, and have these places in the shapes found for them
pub record ArePlacedResults (q : Asked) (es : List CountedEdge) (contours : List Contour)
    (places : List (List ℕ)) : Type 0 where
  pub kept : AreKeptResults q es contours
  pub shapes : List (Option ℕ)
  pub found : AreShapesFound (filled_asked q) contours shapes
  pub placed : ArePlaced contours shapes places
