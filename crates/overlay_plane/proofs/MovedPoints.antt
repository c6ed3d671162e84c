-- Each cutting round moves some meeting point or none, so of any rounds some number moves points.
use Rattle.std.proofs.Common.{◌⊎◌, inl, inr, ℕ, zero, suc, List, [], ◌∷◌}
use Rattle.std.specs.List.{All, Any}
use Rattle.overlay_geom.specs.Plane.{Point, PlanePoint, IsAt}
use Rattle.overlay_plane.specs.Rounds.{Round, MovesSome, MovesNone, MovingRounds}
use Rattle.overlay_plane.specs.Rounds.MovingRounds.{none, exact, moving}
use Rattle.overlay_plane.proofs.Entries.{all_or_any}
use Rattle.overlay_plane.proofs.WholeOnEdges.{Decides-is_at, by_test}

-- a whole point is at a point of the plane or not
pub at_or_not : (v : Point) (p : PlanePoint) → IsAt v p ⊎ (¬ (IsAt v p))
at_or_not v p = by_test _ (Decides-is_at v p) (λ at. inl at) (λ off. inr off)

-- a round moves none of its meeting points, or some
pub none_or_some : (r : Round) → MovesNone r ⊎ MovesSome r
none_or_some r = all_or_any (λ e. All (λ p. IsAt (r.whole_at p) p) (r.cuts e))
    (λ e. Any (λ p. ¬ (IsAt (r.whole_at p) p)) (r.cuts e))
    (λ e. all_or_any (λ p. IsAt (r.whole_at p) p) (λ p. ¬ (IsAt (r.whole_at p) p)) (λ p. at_or_not (r.whole_at p) p)
    (r.cuts e)) r.edges

-- of any rounds some number moves points
pub moving_rounds : (rs : List Round) → (k : ℕ) × MovingRounds rs k
moving_rounds [] = (zero, none)
moving_rounds (r ∷ rs) = by (none_or_some r) (moving_rounds rs)
  where
    by : MovesNone r ⊎ MovesSome r → (k : ℕ) × MovingRounds rs k → (k : ℕ) × MovingRounds (r ∷ rs) k
    by (inl still) (k, h) = (k, exact still h)
    by (inr some) (k, h) = (suc k, moving some h)
