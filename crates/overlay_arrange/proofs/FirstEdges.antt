-- The first edges of a content.
use Rattle.std.proofs.Common.{◌≡◌, ℕ, ◌≤◌, List, map, take, sym, subst, arith}
use Rattle.std.proofs.lemmas.List.{take-map}
use Rattle.std.proofs.lemmas.List.Elements.{All-take}
use Rattle.std.proofs.lemmas.List.Sums.{sum_by-take-le}
use Rattle.overlay_geom.specs.Edges.{CountedEdge, weight}
use Rattle.overlay_geom.proofs.Weights.{edge_weight}
use Rattle.overlay_order.specs.Content.{IsContent, IsHeld}

-- a builder may hold the first edges of a content
first_are_content : (limit count : ℕ) (es : List CountedEdge) → IsContent limit es → IsContent limit (take count es)
first_are_content limit count es h =
    let lighter : weight (take count es) ≤ weight es = sum_by-take-le edge_weight es count in
    record { held = All-take (IsHeld limit) count es h.held; light = omega (arith, lighter, h.light) }

-- this holds of items seen as edges too
pub first_seen : {X : Type 0} (limit count : ℕ) (see : X → CountedEdge) (xs ys : List X) → ys ≡ take count xs →
    IsContent limit (map see xs)
    → IsContent limit (map see ys)
first_seen limit count see xs ys are h =
    subst (λ zs. IsContent limit (map see zs)) (sym are)
    (subst (IsContent limit) (take-map see count xs) (first_are_content limit count (map see xs) h))
