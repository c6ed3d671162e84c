-- What is told of a shape's edges is told of the paths that it is of; and what is held of these.
use Rattle.std.proofs.Common.{◌≡◌, ◌⊎◌, inl, inr, false, ap, subst, List, []}
use Rattle.std.specs.Prelude.{Result, Ok, Err}
use Rattle.std.proofs.lemmas.Bool.{both_ways}
use Rattle.overlay_geom.specs.Edges.{CountedEdge, weight}
use Rattle.overlay_geom.specs.Plane.{PlanePoint}
use Rattle.overlay_geom.specs.Rules.{is_filled}
use Rattle.overlay_geom.specs.declared.error.OverlayError.{OverlayError}
use Rattle.overlay_geom.specs.declared.error.OverlayError.TheVariants.{Memory, NotSettled, TooManyEdges, Failed}
use Rattle.overlay_builder.specs.GivenPaths.{GivenPath, added_paths}
use Rattle.overlay_builder.specs.Held.{Held}
use Rattle.overlay_builder.specs.PathLists.{AddsAsAsked, AddsPaths, StopsAtPath, HoldsPaths, MayRefuseBuilder}
use Rattle.overlay_relate.specs.declared.location.PointLocation.{PointLocation}
use Rattle.overlay_located.specs.GivenShapes.{GivenShape, TellsLocation}
use Rattle.overlay_sectors.specs.Located.{LiesIn}
use Rattle.overlay_located.proofs.LocatedPaths.{contents_locate_of_paths}

pub tells_location : (s : GivenShape) (p : PlanePoint) (l : PointLocation) →
    LiesIn (is_filled s.fill_rule) s.edges p l → TellsLocation s p l
tells_location s p l lies = record {
  edges = lies;
  paths = λ fill paths is. contents_locate_of_paths false paths s.edges is.holds (is_filled fill) p l
      (subst (λ r. LiesIn (is_filled r) s.edges p l) is.rule lies);
}

module _ (paths : List GivenPath) (old new : Held CountedEdge) (is : old ≡ record { edges = []; failed = false }) where
  -- all paths are added to an empty builder
  pub paths_held : {V : Type 0} (v : V) → AddsAsAsked weight (added_paths false paths) old new (Ok v) →
      HoldsPaths (added_paths false paths) new.edges
  paths_held v h = record {
    added = subst (λ (b : Held CountedEdge). AddsPaths (added_paths false paths)
        b.edges new.edges) is h.ok;
    light = h.light;
  }

  -- one of them is refused
  adding_refused : (es : List CountedEdge) (e : OverlayError) → StopsAtPath weight (added_paths false paths) [] es e →
      MayRefuseBuilder (added_paths false paths) e
  adding_refused es Memory stops = tt
  adding_refused es NotSettled stops = stops.refused
  adding_refused es TooManyEdges stops = (es, stops)
  adding_refused es Failed stops = stops.refused

  pub paths_refused : {V : Type 0} (e : OverlayError) →
      AddsAsAsked {V = V} weight (added_paths false paths) old new (Err e) →
      MayRefuseBuilder (added_paths false paths) e
  paths_refused {V} e h = by (subst (λ (b : Held CountedEdge). (e ≡ Failed) ⊎
      StopsAtPath weight (added_paths false paths) b.edges new.edges e) is h.err)
    where
      by : ((e ≡ Failed) ⊎ StopsAtPath weight (added_paths false paths) [] new.edges e) →
          MayRefuseBuilder (added_paths false paths) e
      by (inl same) = absurd (both_ways old.failed (ap (λ b. b.failed) is)
          (h.failed.0 (ap {B = Result V OverlayError} (λ x. Err x) same)))
      by (inr stops) = adding_refused new.edges e stops
