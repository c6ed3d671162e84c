-- Pieces of edges with hidden weights, added edge by edge to a list that stands for them. With what is hidden they
-- weigh as much as the pieces of all edges.
use Rattle.std.proofs.Common.{◌≡◌, ℕ, ◌+◌, ◌*◌, ◌≤◌, ◌<◌, ◌^◌, List, [], ◌∷◌, ◌++◌, map, length, drop, get_or}
use Rattle.std.proofs.Common.{refl, sym, ap, ◌∙◌, subst, arith}
use Rattle.std.proofs.lemmas.List.Sums.{sum_by-append, sum_by-cons}
use Rattle.overlay_geom.specs.Edges.{CountedEdge, weight}
use Rattle.overlay_geom.specs.Plane.{Step}
use Rattle.overlay_geom.proofs.Weights.{edge_weight}
use Rattle.overlay_plane.specs.Carried.{Carried}
use Rattle.overlay_plane.specs.Cutting.{piece_along}
use Rattle.overlay_plane.specs.DerivedData.{AreCutAlong, ArePieces}
use Rattle.overlay_parts.specs.PartedContents.{covered}
use Rattle.overlay_parts.specs.Parts.{Part}
use Rattle.overlay_arrange.specs.Batches.{AddsJoined}
use Rattle.overlay_arrange.specs.Cut.{chain_by, LeadingPoints}
use Rattle.overlay_arrange.specs.Parting.{AreJoinedParts, cover_weight, cover_weight_of}
use Rattle.overlay_arrange.proofs.PartingKept.{sum_times}
use Rattle.overlay_arrange.proofs.PartingKeepsCuts.{carried_of_covered, pieces_weight}

-- an edge with a hidden weight
abbrev pub part_hiding : {C : Type 0} → Carried C → ℕ → Part C
part_hiding x h = record { edge = x; cover = edge_weight x.edge + h }

-- the first edge has the first number, if there is one
pub covered_first : {C : Type 0} (x : Carried C) (xs : List (Carried C)) (hidden : List ℕ) →
    covered (x ∷ xs) hidden ≡ part_hiding x (get_or hidden 0 0) ∷ covered xs (drop 1 hidden)
covered_first {C} x xs [] = ap (λ n. with_cover n ∷ covered xs []) (none (edge_weight x.edge))
  where
    with_cover : ℕ → Part C
    with_cover n = record { edge = x; cover = n }

    none : (n : ℕ) → n ≡ n + 0
    none n = omega arith
covered_first x xs (h ∷ hidden) = refl

module _ {C : Type 0} (points : LeadingPoints) (x : Carried C) (xs : List (Carried C)) (hidden : List ℕ)
    (steps : List Step) (chain : steps ≡ chain_by points x.edge) (old : List CountedEdge) (was total : ℕ)
    (all : weight old + cover_weight points (covered (x ∷ xs) hidden) + was ≡ total) where
  -- the first number
  abbrev pub first_hidden : ℕ
  first_hidden = get_or hidden 0 0

  -- the pieces of the first edge are among those of all
  with_first : weight (old ++ map (piece_along x.edge) steps) + first_hidden * length steps
      + cover_weight points (covered xs (drop 1 hidden)) + was ≡ total
  with_first =
      let count = length (chain_by points x.edge) in
      let split : cover_weight points (covered (x ∷ xs) hidden)
      ≡ (edge_weight x.edge + first_hidden) * count + cover_weight points (covered xs (drop 1 hidden)) =
      ap (cover_weight points) (covered_first x xs hidden)
      ∙ sum_by-cons (cover_weight_of points) (part_hiding x first_hidden) (covered xs (drop 1 hidden)) in
      let apart = sum_times (edge_weight x.edge) first_hidden count in
      let here : weight (old ++ map (piece_along x.edge) steps) ≡ weight old + weight (map (piece_along x.edge) steps) =
      sum_by-append edge_weight old (map (piece_along x.edge) steps) in
      let own : weight (map (piece_along x.edge) steps) ≡ edge_weight x.edge * count =
      pieces_weight x.edge steps ∙ ap (λ (ss : List Step). edge_weight x.edge * length ss) chain in
      let hides : first_hidden * length steps ≡ first_hidden * count =
      ap (λ (ss : List Step). first_hidden * length ss) chain in
      omega (arith, split, apart, here, own, hides, all)

  -- once they are added the others are left
  pub cover_weighed_on : (new : List CountedEdge) (now : ℕ) →
      weight new + now ≡ weight (old ++ map (piece_along x.edge) steps) + first_hidden * length steps + was →
      weight new + cover_weight points (covered xs (drop 1 hidden)) + now ≡ total
  cover_weighed_on new now added = let first = with_first in omega (arith, first, added)

  -- where they are heavy, so are all
  pub cover_heavy_among : (limit : ℕ) →
      limit ≤ weight (old ++ map (piece_along x.edge) steps) + first_hidden * length steps + was → limit ≤ total
  cover_heavy_among limit heavy = let first = with_first in omega (arith, first, heavy)

-- pieces added to nothing are those of all edges
pub all_joined_parts : {C : Type 0} (merges : C → C → C → Type 0) (splits reverses : C → C → Type 0)
    (points : LeadingPoints) (hidden : List ℕ) {xs new : List (Carried C)} →
    AddsJoined merges (ArePieces splits reverses (chain_by points)) xs [] new →
    cover_weight points (covered xs hidden) < 2 ^ 31 →
    AreJoinedParts merges splits reverses points (covered xs hidden) new
all_joined_parts merges splits reverses points hidden {xs} adds light = record {
  pieces = adds.more;
  carried = subst (λ ys. AreCutAlong splits reverses (chain_by points) ys adds.more)
      (sym (carried_of_covered xs hidden)) adds.given;
  light = light;
  stands = adds.stands;
}
