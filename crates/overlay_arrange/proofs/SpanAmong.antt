-- The hot points in the span of an edge: those whose pixels it meets stand among them.
use Rattle.std.proofs.Common.{⊎_elim, ◌<◌, ◌≤◌, ℕ, ◌≤ℤ◌, List, length, slice_range}
use Rattle.std.proofs.lemmas.Bool.{cases_lt}
use Rattle.overlay_geom.specs.Plane.{Point}
use Rattle.overlay_geom.specs.Edges.{CountedEdge}
use Rattle.overlay_geom.proofs.Signs.{linear}
use Rattle.overlay_arrange.specs.HotPoints.{AreLeftBefore, AreMetAmong, AreRightFrom}
use Rattle.overlay_arrange.proofs.LedThrough.{from_ranged, ranged}
use Rattle.overlay_arrange.proofs.PassedCorners.{met_amid}

module _ (vs : List Point) (e : CountedEdge) where
  -- those from a place left of which all others lie, up to one from which on they lie right of the edge
  pub span_among : (low high : ℕ) → e.a.x ≤ℤ e.b.x → AreLeftBefore vs e.a.x low → high ≤ length vs →
      AreRightFrom vs e.b.x high → AreMetAmong vs e (slice_range vs low high)
  span_among low high forward lefts within rights = record {
    within = λ v at. let place = from_ranged vs low high v within at in (place.0, place.3.0, place.3.1);
    all = λ v at meets.
        let amid = met_amid e v forward meets in
        let past : low ≤ at.0 = ⊎_elim (λ (less : at.0 < low).
        absurd (let left = lefts.left at.0 v less (at.1, at.2) in let from = amid.0 in omega (linear, left, from)))
        (λ (le : low ≤ at.0). le) (cases_lt at.0 low) in
        let less : at.0 < high = ⊎_elim (λ (lt : at.0 < high). lt) (λ (le : high ≤ at.0).
        absurd (let right = rights at.0 v le (at.1, at.2) in let to = amid.1 in omega (linear, right, to)))
        (cases_lt at.0 high) in
        ranged vs low high at.0 v past less within (at.1, at.2);
  }
