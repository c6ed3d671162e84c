-- The lines of a grid across a box of edges, brought into an arrangement with them, are covered by its edges.
use Rattle.std.proofs.Common.{◌≡◌, inl, inr, true, ℤ, pos, neg_ℤ, ◌*ℤ◌, ◌<ℤ◌, List, Contains, refl, sym, subst}
use Rattle.std.specs.List.{All}
use Rattle.std.proofs.lemmas.List.Elements.{All-contains}
use Rattle.overlay_geom.specs.Plane.{Point, Edge, IsBetween}
use Rattle.overlay_geom.specs.Edges.{CountedEdge, ends_of}
use Rattle.overlay_geom.specs.declared.solver.Solver.{Solver}
use Rattle.overlay_geom.proofs.Signs.{linear}
use Rattle.overlay_plane.specs.Arrangements.{IsReachedBy}
use Rattle.overlay_plane.specs.ChainLinks.{Leads, chain_through}
use Rattle.overlay_plane.specs.EdgeLists.{IsForwardBy}
use Rattle.overlay_plane.specs.HalfPlanes.{IsEdgeInHalf}
use Rattle.overlay_plane.specs.HalfPlanes.HalfPlane.{left_of, right_of, below, above}
use Rattle.overlay_plane.specs.Rounds.{Round}
use Rattle.overlay_plane.proofs.ChainMarks.{marked_chains_stay}
use Rattle.overlay_plane.proofs.HalfPlanes.{arrangements_stay_in_half_planes}
use Rattle.overlay_tiles.specs.Spans.{Bounds}
use Rattle.overlay_tiles.proofs.Axes.{Axis, of_uprights, of_levels, across, along}
use Rattle.overlay_tiles.proofs.CoveredLines.{IsOver, IsCovered}
use Rattle.overlay_tiles.proofs.LinesByChains.{over_each}

-- all edges lie in the box
pub record AreInBox (b : Bounds) (es : List CountedEdge) : Type 0 where
  pub low_x : All (IsEdgeInHalf (right_of b.x.least)) es
  pub high_x : All (IsEdgeInHalf (left_of b.x.greatest)) es
  pub low_y : All (IsEdgeInHalf (above b.y.least)) es
  pub high_y : All (IsEdgeInHalf (below b.y.greatest)) es

-- the edge of a line from p to q, which has a mark
pub record IsLineEdge (es : List CountedEdge) (p q : Point) : Type 0 where
  pub edge : CountedEdge
  pub entry : Contains es edge
  pub ends : ends_of edge ≡ record { a = p; b = q }
  pub marked : edge.counts.along ≡ true

module _ (b : Bounds) (solver : Solver) (rounds : List Round) (old new : List CountedEdge)
    (reached : IsReachedBy solver rounds old new) (forward : IsForwardBy ends_of old)
    (keep_ends : All (λ e. Leads e.a (chain_through rounds e) e.b) old) (in_box : AreInBox b old) where
  -- what the edges are brought into lies in the box too
  pub stay_in_box : AreInBox b new
  stay_in_box = record {
    low_x = arrangements_stay_in_half_planes solver rounds old new reached (right_of b.x.least) in_box.low_x;
    high_x = arrangements_stay_in_half_planes solver rounds old new reached (left_of b.x.greatest) in_box.high_x;
    low_y = arrangements_stay_in_half_planes solver rounds old new reached (above b.y.least) in_box.low_y;
    high_y = arrangements_stay_in_half_planes solver rounds old new reached (below b.y.greatest) in_box.high_y;
  }

  -- the edge of a line on the grid line covers what lies between its ends
  line_covers : (axis : Axis) (c : ℤ) (p q : Point) → IsLineEdge old p q → across axis p ≡ c → across axis q ≡ c →
      ¬ (along axis p ≡ along axis q) → (z d : ℤ) → pos 0 <ℤ d →
      IsBetween z (along axis p *ℤ d) (along axis q *ℤ d) → IsOver axis c new z d
  line_covers axis c p q line from to apart z d some between =
      over_each axis c solver old new rounds reached.cut line.edge
      (subst (λ (f : Edge). across axis f.a ≡ c) (sym line.ends) from)
      (subst (λ (f : Edge). across axis f.b ≡ c) (sym line.ends) to)
      (subst (λ (f : Edge). ¬ (along axis f.a ≡ along axis f.b)) (sym line.ends) apart)
      (All-contains (λ e. Leads e.a (chain_through rounds e) e.b) old line.edge keep_ends line.entry)
      (λ t at. marked_chains_stay solver rounds old new forward reached line.edge line.entry (inl line.marked) t at)
      z d some
      (subst (λ (f : Edge). IsBetween z (along axis f.a *ℤ d) (along axis f.b *ℤ d)) (sym line.ends) between)

  -- an upright line is covered from the top of the box to its bottom
  pub upright_covered : (c : ℤ) → b.y.least <ℤ b.y.greatest →
      IsLineEdge old (record { x = c; y = b.y.least }) (record { x = c; y = b.y.greatest }) →
      IsCovered of_uprights c new (neg_ℤ b.y.greatest) (neg_ℤ b.y.least)
  upright_covered c some line = record {
    covers = λ z d positive low high. line_covers of_uprights c (record { x = c; y = b.y.least })
        (record { x = c; y = b.y.greatest }) line refl refl (λ same. omega linear) z d positive (inr (low, high));
    above_low = λ e at. let box = All-contains (IsEdgeInHalf (below b.y.greatest)) new e stay_in_box.high_y at in
        let u = box.0 in
        let v = box.1 in
        (omega linear, omega linear);
    below_high = λ e at. let box = All-contains (IsEdgeInHalf (above b.y.least)) new e stay_in_box.low_y at in
        let u = box.0 in
        let v = box.1 in
        (omega linear, omega linear);
  }

  -- and a level one from its left to its right
  pub level_covered : (c : ℤ) → b.x.least <ℤ b.x.greatest →
      IsLineEdge old (record { x = b.x.least; y = c }) (record { x = b.x.greatest; y = c }) →
      IsCovered of_levels c new b.x.least b.x.greatest
  level_covered c some line = record {
    covers = λ z d positive low high. line_covers of_levels c (record { x = b.x.least; y = c })
        (record { x = b.x.greatest; y = c }) line refl refl (λ same. omega linear) z d positive (inl (low, high));
    above_low = λ e at. All-contains (IsEdgeInHalf (right_of b.x.least)) new e stay_in_box.low_x at;
    below_high = λ e at. All-contains (IsEdgeInHalf (left_of b.x.greatest)) new e stay_in_box.high_x at;
  }
