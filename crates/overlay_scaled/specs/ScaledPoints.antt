-- A point of the plane and the point n times as far: scaled edges lie round the second as edges round the first.
use Rattle.std.specs.Prelude.{◌≡◌, ◌↔◌, ℤ, pos, ◌<ℤ◌, List}
use Rattle.overlay_geom.specs.Counts.{Counts}
use Rattle.overlay_geom.specs.Edges.{CountedEdge, ends_of, all_ends, winding_by}
use Rattle.overlay_geom.specs.Plane.{PlanePoint, IsOn, IsOff, is_strictly_below}
use Rattle.overlay_scaled.specs.Scaled.{scaled_edge, scaled, IsTimes}

-- scaled edges have q on them, or lie below it, where the edges have p on them or lie below it. So they wind alike
pub record LiesAlike (n : ℤ) (p q : PlanePoint) : Type 0 where
  pub on : (e : CountedEdge) → IsOn (ends_of e) p ↔ IsOn (ends_of (scaled_edge n e)) q
  pub below : (e : CountedEdge) →
      is_strictly_below (ends_of (scaled_edge n e)) q ≡ is_strictly_below (ends_of e) p
  pub off : (es : List CountedEdge) → IsOff (all_ends es) p ↔ IsOff (all_ends (scaled n es)) q
  pub winding : (count : Counts → ℤ) (es : List CountedEdge) →
      winding_by (λ e. count e.counts) (scaled n es) q ≡ winding_by (λ e. count e.counts) es p

-- ---- laws

-- a point of the plane and the point n times as far lie alike, and each point has another n times as far, and another
-- that is n times nearer
pub record ScalingKeepsPoints : Type 0 where
  pub alike : (n : ℤ) → pos 0 <ℤ n → (p q : PlanePoint) → IsTimes n p q → LiesAlike n p q
  pub further : (n : ℤ) (p : PlanePoint) → (q : PlanePoint) × IsTimes n p q
  pub nearer : (n : ℤ) → pos 0 <ℤ n → (q : PlanePoint) → (p : PlanePoint) × IsTimes n p q
