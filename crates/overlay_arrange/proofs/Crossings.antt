-- Edges that go across each other's lines: how far along each edge the other crosses it, and the point through which it
-- leads it.
use Rattle.std.proofs.Common.{◌≡◌, inl, inr, ◌∷◌, []}
use Rattle.overlay_geom.specs.Plane.{Edge}
use Rattle.overlay_geom.specs.Placed.{IsAlong, IsBeside, IsAcross}
use Rattle.overlay_geom.proofs.Signs.{linear}
use Rattle.overlay_plane.specs.CutPoints.{crossing, met_at}
use Rattle.overlay_plane.proofs.Placements.{met_across}

-- an edge that goes across e's line is not along it
across_is_not_along : (e f : Edge) → IsAcross e f → ¬ (IsAlong e f)
across_is_not_along e f (inl (low, high, less)) (at_a, at_b) = omega linear
across_is_not_along e f (inr (high, low, less)) (at_a, at_b) = omega linear

-- nor beside it
across_is_not_beside : (e f : Edge) → IsAcross e f → ¬ (IsBeside e f)
across_is_not_beside e f (inl (low, high, less)) (inl (left, too)) = omega linear
across_is_not_beside e f (inl (low, high, less)) (inr (right, too)) = omega linear
across_is_not_beside e f (inr (high, low, less)) (inl (left, too)) = omega linear
across_is_not_beside e f (inr (high, low, less)) (inr (right, too)) = omega linear

-- two edges that go across each other's lines lead each other through the point nearest to their crossing
pub met_where_both_across : (e f : Edge) → IsAcross e f → IsAcross f e → met_at e f ≡ crossing e f ∷ []
met_where_both_across e f forth back = met_across e f
    (record {
      apart = across_is_not_along e f forth;
      not_beside = across_is_not_beside e f forth;
      not_back =
          across_is_not_beside f e back;
    })
