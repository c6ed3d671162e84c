-- A line across settled edges that edges along it cover goes on from each node on it, along a spoke.
use Rattle.std.proofs.Common.{◌≡◌, inl, inr, ⊎_elim, true, cond, ℤ, pos, ◌+ℤ◌, ◌*ℤ◌, ◌<ℤ◌, ◌≤ℤ◌}
use Rattle.std.proofs.Common.{List, Contains, sym, ap, ◌∙◌, subst}
use Rattle.std.proofs.lemmas.Bool.{false_from_ne_true}
use Rattle.std.proofs.lemmas.Int.{by_lt_z}
use Rattle.overlay_geom.specs.Plane.{Point, Edge, IsAt, IsBetween, IsOn, edge_eq, in_plane, point_eq}
use Rattle.overlay_geom.specs.Edges.{CountedEdge, ends_of}
use Rattle.overlay_geom.specs.Settled.{IsSettled}
use Rattle.overlay_geom.proofs.Identities.{solve, number, ◌⊕◌, ◌⊗◌, ◌≗◌}
use Rattle.overlay_geom.proofs.Orders.{edge_eq-same, point_eq-of_same, point_eq-same}
use Rattle.overlay_geom.proofs.Signs.{linear}
use Rattle.overlay_plane.specs.Spokes.{IsSpoke, far_end}
use Rattle.overlay_plane.proofs.Ends.{start_on, end_on}
use Rattle.overlay_tiles.proofs.Axes.{Axis, of_uprights, of_levels, across, along, one_point}
use Rattle.overlay_tiles.proofs.CoveredLines.{IsOver, IsCovered, plane_across, plane_along, on_along}

-- a whole point in the plane is in a unit of 1
whole_across : (axis : Axis) (v : Point) (c : ℤ) → across axis v ≡ c → plane_across axis (in_plane v) ≡ c *ℤ pos 1
whole_across of_uprights v c e = e ∙ solve 1 (λ c. c ≗ c ⊗ number (pos 1)) tt c
whole_across of_levels v c e = e ∙ solve 1 (λ c. c ≗ c ⊗ number (pos 1)) tt c

once : (z : ℤ) → z *ℤ pos 1 ≡ z
once = solve 1 (λ z. z ⊗ number (pos 1) ≗ z) tt

twice : (z : ℤ) → z *ℤ pos 2 ≡ z +ℤ z
twice = solve 1 (λ z. z ⊗ number (pos 2) ≗ z ⊕ z) tt

-- a whole point of a plane point in a unit of 1
whole_along : (axis : Axis) (u v : Point) → IsAt u (in_plane v) → along axis v ≡ along axis u
whole_along of_uprights u v at = let y = at.1 in let one = once u.y in omega linear
whole_along of_levels u v at = at.0 ∙ once u.x

module _ (axis : Axis) (c : ℤ) (es : List CountedEdge) (settled : IsSettled es) (low high : ℤ)
    (covered : IsCovered axis c es low high) where
  -- the line goes on from the node along a spoke
  pub record GoesOn (v : Point) : Type 0 where
    pub spoke : CountedEdge
    pub is_spoke : IsSpoke es v spoke
    pub on_line : across axis (far_end v spoke) ≡ c
    pub ahead : along axis v <ℤ along axis (far_end v spoke)

  module _ (v : Point) (e : CountedEdge) (is_spoke : IsSpoke es v e) (level : across axis v ≡ c) where
    -- the node lies on the edge of which it is an end
    on_its_edge : IsOn (ends_of e) (in_plane v)
    on_its_edge = ⊎_elim (λ starts. subst (λ (w : Point). IsOn (ends_of e) (in_plane w)) starts (start_on (ends_of e)))
        (λ ends. subst (λ (w : Point). IsOn (ends_of e) (in_plane w)) ends (end_on (ends_of e))) is_spoke.at

    -- it does not lie between the ends of an edge along the line
    not_inside : (g : CountedEdge) → Contains es g → across axis g.a ≡ c → across axis g.b ≡ c →
        IsBetween (along axis v) (along axis g.a) (along axis g.b) → ¬ (along axis v ≡ along axis g.a) →
        ¬ (along axis v ≡ along axis g.b) → ⊥
    not_inside g at from to over not_a not_b =
        ⊎_elim (λ here. not_a (whole_along axis g.a v here)) (λ here. not_b (whole_along axis g.b v here))
        (settled g e at is_spoke.entry (false_from_ne_true (edge_eq (ends_of g) (ends_of e)) other) (in_plane v) (
          on_along axis c (ends_of g) (in_plane v) from to (whole_across axis v c level) (placed axis (in_units over)),
          on_its_edge,
        )).0
      where
        placed : (x : Axis) → IsBetween (along x v) (along x g.a *ℤ pos 1) (along x g.b *ℤ pos 1) →
            IsBetween (plane_along x (in_plane v)) (along x g.a *ℤ pos 1) (along x g.b *ℤ pos 1)
        placed of_uprights h = h
        placed of_levels h = h

        in_units : IsBetween (along axis v) (along axis g.a) (along axis g.b) →
            IsBetween (along axis v) (along axis g.a *ℤ pos 1) (along axis g.b *ℤ pos 1)
        in_units h =
            let a = once (along axis g.a) in
            let b = once (along axis g.b) in
            ⊎_elim (λ up. let l = up.0 in
            let r = up.1 in
            inl (omega linear, omega linear)) (λ down. let l = down.0 in
            let r = down.1 in
            inr (omega linear, omega linear)) h

        other : ¬ (edge_eq (ends_of g) (ends_of e) ≡ true)
        other same =
            let is = edge_eq-same (ends_of g) (ends_of e) same in
            ⊎_elim (λ starts. not_a (ap (along axis) (sym starts) ∙ ap (λ (f : Edge). along axis f.a) (sym is)))
            (λ ends. not_b (ap (along axis) (sym ends) ∙ ap (λ (f : Edge). along axis f.b) (sym is))) is_spoke.at

    -- of an edge along the line over a place just ahead of the node, the end behind that place is the node
    pub goes_on : low ≤ℤ along axis v → along axis v <ℤ high → GoesOn v
    goes_on above below =
        let low_twice = twice low in
        let high_twice = twice high in
        by (covered.covers (along axis v +ℤ along axis v +ℤ pos 1) (pos 2) (omega linear) (omega linear) (omega linear))
      where
        by : IsOver axis c es (along axis v +ℤ along axis v +ℤ pos 1) (pos 2) → GoesOn v
        by there = ⊎_elim
            (λ up. begins there.edge there.entry there.from there.to
            (let a = twice (along axis there.edge.a) in let l = up.0 in omega linear)
            (let b = twice (along axis there.edge.b) in let r = up.1 in omega linear))
            (λ down. ends there.edge there.entry there.from there.to
            (let b = twice (along axis there.edge.b) in let l = down.0 in omega linear)
            (let a = twice (along axis there.edge.a) in let r = down.1 in omega linear)) there.over
          where
            begins : (g : CountedEdge) → Contains es g → across axis g.a ≡ c → across axis g.b ≡ c →
                along axis g.a ≤ℤ along axis v → along axis v <ℤ along axis g.b → GoesOn v
            begins g at from to behind ahead =
                let place : along axis g.a ≡ along axis v = by_lt_z (along axis g.a) (along axis v)
                (λ less. absurd (not_inside g at from to (inl (omega linear, omega linear)) (λ is. omega linear)
                (λ is. omega linear))) (λ ge. omega linear) in
                let same = one_point axis g.a v (from ∙ sym level) place in
                let far : far_end v g ≡ g.b = ap (λ t. cond t g.b g.a) (point_eq-of_same g.a v same) in record {
                  spoke = g;
                  is_spoke = record { entry = at; at = inl same };
                  on_line = ap (across axis) far ∙ to;
                  ahead = subst (λ (w : Point). along axis v <ℤ along axis w) (sym far) ahead;
                }

            ends : (g : CountedEdge) → Contains es g → across axis g.a ≡ c → across axis g.b ≡ c →
                along axis g.b ≤ℤ along axis v → along axis v <ℤ along axis g.a → GoesOn v
            ends g at from to behind ahead =
                let place : along axis g.b ≡ along axis v = by_lt_z (along axis g.b) (along axis v)
                (λ less. absurd (not_inside g at from to (inr (omega linear, omega linear)) (λ is. omega linear)
                (λ is. omega linear))) (λ ge. omega linear) in
                let same = one_point axis g.b v (to ∙ sym level) place in
                let apart = false_from_ne_true (point_eq g.a v)
                (λ one. let is = ap (along axis) (point_eq-same g.a v one) in omega linear) in
                let far : far_end v g ≡ g.a = ap (λ t. cond t g.b g.a) apart in record {
                  spoke = g;
                  is_spoke = record { entry = at; at = inr same };
                  on_line = ap (across axis) far ∙ from;
                  ahead = subst (λ (w : Point). along axis v <ℤ along axis w) (sym far) ahead;
                }
