-- Where nothing winds below any edge, no orbit has a filled side: each such side would lead forward. So it is where all
-- edges lie on one line.
use Rattle.std.proofs.Common.{◌≡◌, ◌⊎◌, inl, inr, Bool, true, false, ℤ, pos, ◌+ℤ◌, ◌-ℤ◌, ◌*ℤ◌}
use Rattle.std.proofs.Common.{int_le, int_lt, List, Contains, refl, sym, ap, ◌∙◌, subst, length, ℕ, zero, suc, arith}
use Rattle.std.proofs.lemmas.Bool.{and_parts}
use Rattle.overlay_geom.specs.Plane.{Point, Step, midpoint, is_strictly_below, side}
use Rattle.overlay_geom.specs.Edges.{CountedEdge, ends_of, winding_below}
use Rattle.overlay_geom.proofs.Identities.{solve, number, ◌⊕◌, ◌⊗◌, ◌⊖◌, ◌≗◌}
use Rattle.overlay_geom.proofs.PointOrder.{IsBefore, IsUpTo, by_order, before_after_up_to, before_up_to, up_to_itself}
use Rattle.overlay_geom.proofs.PointOrder.{not_before_up_to}
use Rattle.overlay_geom.proofs.PointOrder.{before_unless_same}
use Rattle.overlay_geom.proofs.Signs.{linear}
use Rattle.overlay_plane.specs.Nodes.{IsBalancedArrangement}
use Rattle.overlay_plane.specs.Turn.{IsOrbit, step_round}
use Rattle.overlay_plane.specs.Turn.Hand.{left}
use Rattle.overlay_plane.proofs.OrbitSteps.{goes_on_round, step_inside}
use Rattle.overlay_plane.proofs.ItemsRound.{item_round-whole}
use Rattle.overlay_plane.specs.Turn.{no_step}
use Rattle.overlay_plane.proofs.Tests.{lt_from_test, le_from_test}
use Rattle.overlay_tiles.proofs.Borders.{none_counted}
use Rattle.overlay_tiles.proofs.StaysBeyond.{IsFilled, is_long, not_back_along_none}

module _ (fills : ℤ → Bool) (none_filled : fills (pos 0) ≡ false) (count : CountedEdge → ℤ) (es : List CountedEdge)
    (arranged : IsBalancedArrangement count es) where
  module _ (none_below : (e : CountedEdge) → Contains es e → winding_below count es e ≡ pos 0) where
    -- each filled side leads forward
    leads_forward : (s : Step) → IsFilled fills none_filled count es arranged s → IsBefore s.from s.to
    leads_forward s f = by_order s.to s.from
        (λ up_to. absurd (not_back_along_none fills none_filled count es arranged s f
        (before_unless_same s.to s.from up_to (λ same. is_long fills none_filled count es arranged s f (sym same)))
        (none_below f.edge f.along_it.entry))) (λ before. before)

    module _ (steps : List Step) (walk : List Step) (orbit : IsOrbit steps left walk)
        (filled : (s : Step) → Contains steps s → IsFilled fills none_filled count es arranged s) where
      -- so each step of an orbit ends beyond where the orbit begins
      ends_beyond : (k : ℕ) → IsBefore (step_round walk 0).from (step_round walk k).to
      ends_beyond zero = leads_forward (step_round walk 0)
          (filled (step_round walk 0) (step_inside steps left walk orbit 0))
      ends_beyond (suc k) =
          let next = goes_on_round steps left walk orbit k in
          before_after_up_to (step_round walk 0).from (step_round walk k).to (step_round walk (suc k)).to
          (before_up_to (step_round walk 0).from (step_round walk k).to (ends_beyond k))
          (subst (λ (p : Point). IsBefore p (step_round walk (suc k)).to) next.leaves
          (leads_forward (step_round walk (suc k))
          (filled (step_round walk (suc k)) (step_inside steps left walk orbit (suc k)))))

      -- but it ends where it begins
      pub no_orbit_upward : ⊥
      no_orbit_upward = by (length walk) refl
        where
          by : (n : ℕ) → length walk ≡ n → ⊥
          by zero e = let some = orbit.some in omega arith
          by (suc k) e =
              let next = goes_on_round steps left walk orbit k in
              let again : step_round walk (suc k) ≡ step_round walk 0 =
              subst (λ n. step_round walk n ≡ step_round walk 0) e
              (item_round-whole walk no_step) in
              let ends = ends_beyond k in
              let same : (step_round walk 0).from ≡ (step_round walk k).to = ap (λ (s : Step). s.from) (sym again)
              ∙ next.leaves in
              not_before_up_to (step_round walk 0).from (step_round walk k).to ends
              (subst (λ (p : Point). IsUpTo p (step_round walk 0).from) same (up_to_itself (step_round walk 0).from))

  -- where all edges lie on a level line, or on an upright one, nothing winds below them
  none_below_level : (h : ℤ) → ((e : CountedEdge) → Contains es e → (e.a.y ≡ h) × (e.b.y ≡ h)) →
      (e : CountedEdge) → Contains es e → winding_below count es e ≡ pos 0
  none_below_level h level e at = none_counted (λ m. is_strictly_below (ends_of m) (midpoint (ends_of e))) count es none
    where
      none : (m : CountedEdge) → Contains es m → ¬ (is_strictly_below (ends_of m) (midpoint (ends_of e)) ≡ true)
      none m in_es test =
          let parts = and_parts _ (int_lt (pos 0) (side (ends_of m) (midpoint (ends_of e)))) test in
          let over = lt_from_test (pos 0) (side (ends_of m) (midpoint (ends_of e))) parts.1 in
          let at_m = level m in_es in
          let at_e = level e at in
          let flat : side (ends_of m) (midpoint (ends_of e)) ≡ pos 0 = flat_side m.a.x m.b.x (e.a.x +ℤ e.b.x) h m.a.y
          m.b.y
          e.a.y e.b.y at_m.0 at_m.1 at_e.0 at_e.1 in
          absurd (omega linear)
        where
          flat_side : (ax bx x h ay by cy dy : ℤ) → ay ≡ h → by ≡ h → cy ≡ h → dy ≡ h →
              (bx -ℤ ax) *ℤ ((cy +ℤ dy) -ℤ ay *ℤ pos 2) -ℤ (by -ℤ ay) *ℤ (x -ℤ ax *ℤ pos 2) ≡ pos 0
          flat_side ax bx x h ay by cy dy a b c d = rw (a, b, c, d)
              (solve 4 (λ ax bx x h. (bx ⊖ ax) ⊗ ((h ⊕ h) ⊖ h ⊗ number (pos 2)) ⊖ (h ⊖ h) ⊗ (x ⊖ ax ⊗ number (pos 2))
              ≗ number (pos 0)) tt ax bx x h)

  none_below_upright : (h : ℤ) → ((e : CountedEdge) → Contains es e → (e.a.x ≡ h) × (e.b.x ≡ h)) →
      (e : CountedEdge) → Contains es e → winding_below count es e ≡ pos 0
  none_below_upright h upright e at = none_counted (λ m. is_strictly_below (ends_of m) (midpoint (ends_of e))) count es
      none
    where
      none : (m : CountedEdge) → Contains es m → ¬ (is_strictly_below (ends_of m) (midpoint (ends_of e)) ≡ true)
      none m in_es test =
          let parts = and_parts _ (int_lt (pos 0) (side (ends_of m) (midpoint (ends_of e)))) test in
          let more = and_parts (int_le (m.a.x *ℤ pos 2) (e.a.x +ℤ e.b.x)) (int_lt (e.a.x +ℤ e.b.x) (m.b.x *ℤ pos 2))
          parts.0 in
          let from = le_from_test (m.a.x *ℤ pos 2) (e.a.x +ℤ e.b.x) more.0 in
          let to = lt_from_test (e.a.x +ℤ e.b.x) (m.b.x *ℤ pos 2) more.1 in
          let at_m = upright m in_es in
          let same : m.a.x *ℤ pos 2 ≡ m.b.x *ℤ pos 2 = ap (λ x. x *ℤ pos 2) (at_m.0 ∙ sym at_m.1) in
          absurd (omega linear)

  -- so no orbit of sides of edges on one line is filled
  pub no_orbit_on_line : (h : ℤ) → ((e : CountedEdge) → Contains es e → (e.a.y ≡ h) × (e.b.y ≡ h))
      ⊎ ((e : CountedEdge) → Contains es e → (e.a.x ≡ h) × (e.b.x ≡ h)) → (steps walk : List Step) →
      IsOrbit steps left walk →
      ((s : Step) → Contains steps s → IsFilled fills none_filled count es arranged s) → ⊥
  no_orbit_on_line h (inl level) steps walk orbit filled = no_orbit_upward (none_below_level h level) steps walk orbit
      filled
  no_orbit_on_line h (inr upright) steps walk orbit filled = no_orbit_upward (none_below_upright h upright) steps walk
      orbit filled
