-- Facts of the edges of a cutting round: each is as light as all, and the points through which it is led are in range.
use Rattle.std.proofs.Common.{inl, inr, ℕ, ◌≤◌, ℤ, List, [], ◌∷◌, ap, arith}
use Rattle.std.specs.List.{All, Contains, flat_map}
use Rattle.std.proofs.lemmas.List.Elements.{All-nil, All-append, All-contains, All-weaker}
use Rattle.std.proofs.lemmas.List.Sums.{sum_by_more_le}
use Rattle.overlay_geom.specs.Numbers.{Within}
use Rattle.overlay_geom.specs.Plane.{Point, IsBetween}
use Rattle.overlay_geom.specs.Points.{InRange}
use Rattle.overlay_geom.specs.Edges.{CountedEdge, ends_of, weight}
use Rattle.overlay_geom.proofs.PointOrder.{Decides-point_lt}
use Rattle.overlay_geom.proofs.Signs.{linear}
use Rattle.overlay_geom.proofs.Weights.{edge_weight}
use Rattle.overlay_plane.specs.CutPoints.{comes_first, cut_points, met_at}
use Rattle.overlay_plane.proofs.Entries.{all_of_entries}
use Rattle.overlay_plane.proofs.InOrderLists.{Contains-in_order}
use Rattle.overlay_plane.proofs.MetInBox.{IsInBox, met_at-in_box}
use Rattle.overlay_order.specs.Content.{IsHeld}

-- an edge weighs no more than a list that has it
pub weight_of_entry : (es : List CountedEdge) (e : CountedEdge) → Contains es e → edge_weight e ≤ weight es
weight_of_entry es e at =
    let bound = sum_by_more_le edge_weight es at.0 e at.1 in
    let same = ap edge_weight at.2 in
    omega (arith, bound, same)

-- a number between two numbers within a limit is within it
pub within_between : (limit : ℕ) (z u v : ℤ) → Within limit u → Within limit v → IsBetween z u v → Within limit z
within_between limit z u v of_u of_v (inl (low, high)) = let from = of_u.low in let to = of_v.high in
    record { low = omega linear; high = omega linear }
within_between limit z u v of_u of_v (inr (low, high)) = let from = of_v.low in let to = of_u.high in
    record { low = omega linear; high = omega linear }

-- a point in the box of an edge in range is in range
in_range_in_box : (limit : ℕ) (e : CountedEdge) (v : Point) → IsHeld limit e → IsInBox (ends_of e) v → InRange limit v
in_range_in_box limit e v held box = record {
  x = within_between limit v.x e.a.x e.b.x held.a_in_range.x held.b_in_range.x (inl (box.from, box.to));
  y = within_between limit v.y e.a.y e.b.y held.a_in_range.y held.b_in_range.y box.in_y;
}

-- a fact of all that each entry gives holds of all that they give
all_given : {X Y : Type 0} (P : Y → Type 0) (f : X → List Y) (xs : List X) → ((x : X) → All P (f x)) →
    All P (flat_map f xs)
all_given P f [] each = All-nil P
all_given P f (x ∷ xs) each = All-append P (f x) (flat_map f xs) (each x) (all_given P f xs each)

-- the points through which an edge in range is led are in range
pub cut_points_in_range : (limit : ℕ) (es : List CountedEdge) (e : CountedEdge) → IsHeld limit e →
    All (InRange limit) (cut_points es e)
cut_points_in_range limit es e held =
    all_of_entries (InRange limit) (cut_points es e)
    (λ v at. All-contains (InRange limit) met v led (Contains-in_order (comes_first (ends_of e)) met v at))
  where
    met : List Point
    met = flat_map (λ f. met_at (ends_of e) (ends_of f)) es

    led : All (InRange limit) met
    led = all_given (InRange limit) (λ f. met_at (ends_of e) (ends_of f)) es
        (λ f. All-weaker (IsInBox (ends_of e)) (InRange limit) (λ v box. in_range_in_box limit e v held box)
        (met_at (ends_of e) (ends_of f))
        (met_at-in_box (ends_of e) (ends_of f) ((Decides-point_lt e.a e.b).0 held.forward)))
