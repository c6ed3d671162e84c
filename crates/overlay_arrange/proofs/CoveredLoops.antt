-- A loop over edges with hidden weights: the pieces of the edge at a place are added, and the others are left.
use Rattle.std.proofs.Common.{◌≡◌, ℕ, ◌+◌, ◌*◌, ◌≤◌, ◌<◌, ℤ, List, ◌∷◌, ◌++◌, map, length, drop, get_or, sym, ap, ◌∙◌}
use Rattle.std.proofs.Common.{subst, arith}
use Rattle.std.proofs.lemmas.List.{drop-drop, get_or-drop}
use Rattle.overlay_geom.specs.Counts.{Counts}
use Rattle.overlay_geom.specs.Edges.{CountedEdge, weight}
use Rattle.overlay_geom.specs.Plane.{Step}
use Rattle.overlay_geom.proofs.Mapped.{mapped_rest}
use Rattle.overlay_plane.specs.Cutting.{piece_along}
use Rattle.overlay_order.specs.Content.{carried_edge, carried_edges, plain_edge}
use Rattle.overlay_order.specs.declared.edge.CountedEdge.{CountedEdge as HeldEdge}
use Rattle.overlay_parts.specs.PartedContents.{covered}
use Rattle.overlay_arrange.specs.Cut.{chain_by, LeadingPoints}
use Rattle.overlay_arrange.specs.Parting.{cover_weight}
use Rattle.overlay_arrange.proofs.CoveredPieces.{cover_heavy_among, cover_weighed_on}

module _ {I C : Type 0} (whole : I → ℤ) (counts : C → Counts) (points : LeadingPoints) (edges : List (HeldEdge I C))
    (hidden : List ℕ) where
  -- the weight of the pieces of the edges from a place on, with what they hide
  abbrev pub weight_from : ℕ → ℕ
  weight_from i = cover_weight points (covered (carried_edges whole counts (drop i edges)) (drop i hidden))

  module _ (i : ℕ) (e : HeldEdge I C) (within : i < length edges) (is : e ≡ get_or edges i e) (h : ℕ)
      (hides : h ≡ get_or hidden i 0) (steps : List Step) (chain : steps ≡ chain_by points (plain_edge whole counts e))
      (old : List CountedEdge) (was total : ℕ) (all : weight old + weight_from i + was ≡ total) where
    -- the number at the place
    first_of_rest : get_or (drop i hidden) 0 0 ≡ h
    first_of_rest = get_or-drop i hidden 0 0 ∙ ap (λ k. get_or hidden k 0) (plus_none i) ∙ sym hides
      where
        plus_none : (n : ℕ) → n + 0 ≡ n
        plus_none n = omega arith

    -- the edge and those behind it
    with_edge : weight old + cover_weight points
        (covered (carried_edge whole counts e ∷ carried_edges whole counts (drop (i + 1) edges)) (drop i hidden)) + was
        ≡ total
    with_edge = subst (λ xs. weight old + cover_weight points (covered xs (drop i hidden)) + was ≡ total)
        (mapped_rest (carried_edge whole counts) edges i e within is) all

    -- one number for each
    rest_again : drop 1 (drop i hidden) ≡ drop (i + 1) hidden
    rest_again = drop-drop 1 i hidden

    -- once the pieces are added the others are left
    pub loop_weighed : (new : List CountedEdge) (now : ℕ) →
        weight new + now
        ≡ weight (old ++ map (piece_along (plain_edge whole counts e)) steps) + was + h * length steps →
        weight new + weight_from (i + 1) + now ≡ total
    loop_weighed new now added =
        let number = ap (λ n. n * length steps) first_of_rest in
        subst (λ hs. weight new
        + cover_weight points (covered (carried_edges whole counts (drop (i + 1) edges)) hs) + now ≡ total) rest_again
        (cover_weighed_on points (carried_edge whole counts e) (carried_edges whole counts (drop (i + 1) edges))
        (drop i hidden) steps chain old was total with_edge new now (omega (arith, added, number)))

    -- where they are heavy, so are all
    pub loop_heavy : (limit : ℕ) →
        limit ≤ weight (old ++ map (piece_along (plain_edge whole counts e)) steps) + was + h * length steps →
        limit ≤ total
    loop_heavy limit heavy =
        let number = ap (λ n. n * length steps) first_of_rest in
        cover_heavy_among points (carried_edge whole counts e) (carried_edges whole counts (drop (i + 1) edges))
        (drop i hidden) steps chain old was total with_edge limit (omega (arith, heavy, number))
