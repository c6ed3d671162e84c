-- Two edges of a settled list that start in one point, or end in one, without a turn between them are equal.
use Rattle.std.proofs.Common.{◌≡◌, ◌⊎◌, inl, inr, ⊎_elim, Bool, true, false, ℤ, pos, ◌<ℤ◌, ◌≤ℤ◌, refl, sym, ap, ◌∙◌}
use Rattle.std.proofs.Common.{subst, arith}
use Rattle.std.proofs.lemmas.Int.{ints, by_lt_z}
use Rattle.std.proofs.lemmas.Bool.{false≢true}
use Rattle.overlay_geom.specs.Plane.{Point, Edge, side, in_plane, point_lt, edge_eq, IsOn}
use Rattle.overlay_geom.specs.Settled.{MeetInEnds}
use Rattle.overlay_geom.proofs.Signs.{linear}
use Rattle.overlay_geom.proofs.Orders.{edge_eq-from_ends, point_lt-itself}
use Rattle.overlay_plane.specs.Heights.{width}
use Rattle.overlay_plane.specs.Nodes.{edge_turn}
use Rattle.overlay_plane.proofs.LineForms.{side-start, side-end}
use Rattle.overlay_plane.proofs.Crossing.{between_on_line}
use Rattle.overlay_plane.proofs.Ends.{start_on, end_on}
use Rattle.overlay_plane.proofs.NodeStarts.{rises_upright}
use Rattle.overlay_plane.proofs.NodeUprights.{side-rises}
use Rattle.overlay_plane.proofs.EdgeTurns.{IsForward, not_narrower, both_wide, edge_turn_exchanged}
use Rattle.overlay_plane.proofs.WholeOnEdges.{at_whole}

-- the ends of a forward edge are different points
pub ends_differ : (e : Edge) → IsForward e → ¬ (e.a ≡ e.b)
ends_differ e forward one = false≢true (sym (subst (λ (p : Point). point_lt e.a p ≡ false) one (point_lt-itself e.a))
    ∙ forward)

-- a point on the line of a wide edge, between its ends in x, is on the edge
on_wide : (e : Edge) (p : Point) → pos 0 <ℤ width e → side e (in_plane p) ≡ pos 0 → e.a.x ≤ℤ p.x → p.x ≤ℤ e.b.x →
    IsOn e (in_plane p)
on_wide e p wide level from to = record {
  on_line = level;
  in_x = inl (omega (arith, ints), omega (arith, ints));
  in_y = between_on_line e p.x p.y (pos 1) wide level (record { from = omega (arith, ints); to = omega (arith, ints) });
}

-- a point on a vertical edge lies between its ends in height
on_upright : (e : Edge) (p : Point) → e.a.x ≡ e.b.x → p.x ≡ e.a.x → side e (in_plane p) ≡ pos 0 → e.a.y ≤ℤ p.y →
    p.y ≤ℤ e.b.y → IsOn e (in_plane p)
on_upright e p upright over level from to =
    record {
      on_line = level;
      in_x = inl (omega (arith, ints), omega (arith, ints));
      in_y = inl (omega (arith, ints), omega (arith, ints));
    }

module _ (e g : Edge) (forward_e : IsForward e) (forward_g : IsForward g) (level : edge_turn e g ≡ pos 0) where
  -- there is no turn back either
  back : edge_turn g e ≡ pos 0
  back = let opposite = edge_turn_exchanged g e in let l = level in omega linear

  -- both are vertical, or neither is
  by_width : {P : Type 0} → (pos 0 <ℤ width e → pos 0 <ℤ width g → P) → (e.a.x ≡ e.b.x → g.a.x ≡ g.b.x → P) → P
  by_width slanted upright = by_lt_z (pos 0) (width e) (λ w. slanted w (both_wide g e forward_g forward_e back w))
      (λ ge. by_lt_z (pos 0) (width g) (λ w. let we = both_wide e g forward_e forward_g level w in
      absurd (omega linear))
      (λ le. upright (let n = not_narrower e forward_e in omega linear) (let n = not_narrower g forward_g in
      omega linear)))

  -- of two that start in one point, one reaches to the end of the other
  start_reaches : e.a ≡ g.a → IsOn e (in_plane g.b) ⊎ IsOn g (in_plane e.b)
  start_reaches same = by_width
      (λ we wg. let s = same_x in by_lt_z e.b.x g.b.x
      (λ lt. inr (on_wide g e.b wg over_e (omega linear) (omega linear)))
      (λ ge. inl (on_wide e g.b we over_g (omega linear) (omega linear))))
      (λ ue ug. let s = same_x in let t = same_y in
      by_lt_z e.b.y g.b.y (λ lt. inr (on_upright g e.b ug (omega linear) over_e (rise_up e forward_e ue same_y)
      (omega linear))) (λ ge. inl (on_upright e g.b ue (omega linear) over_g (rise_up g forward_g ug (sym same_y))
      ge)))
    where
      same_x : e.a.x ≡ g.a.x
      same_x = ap (λ (p : Point). p.x) same

      same_y : e.a.y ≡ g.a.y
      same_y = ap (λ (p : Point). p.y) same

      over_g : side e (in_plane g.b) ≡ pos 0
      over_g = let i = side-rises e g in
          let s = subst (λ (p : Point). side e (in_plane p) ≡ pos 0) same (side-start e) in let l = level in
          omega linear

      over_e : side g (in_plane e.b) ≡ pos 0
      over_e = let i = side-rises g e in let s = subst (λ (p : Point). side g (in_plane p) ≡ pos 0) (sym same)
          (side-start g) in let l = back in omega linear

      rise_up : (h : Edge) → IsForward h → h.a.x ≡ h.b.x → {y : ℤ} → h.a.y ≡ y → y ≤ℤ h.b.y
      rise_up h forward upright s = let r = rises_upright h forward (omega linear) in omega linear

  -- of two that end in one point, one reaches to the start of the other
  end_reaches : e.b ≡ g.b → IsOn e (in_plane g.a) ⊎ IsOn g (in_plane e.a)
  end_reaches same = by_width
      (λ we wg. let s = same_x in by_lt_z e.a.x g.a.x
      (λ lt. inl (on_wide e g.a we over_g (omega linear) (omega linear)))
      (λ ge. inr (on_wide g e.a wg over_e (omega linear) (omega linear))))
      (λ ue ug. let s = same_x in let t = same_y in
      by_lt_z e.a.y g.a.y (λ lt. inl (on_upright e g.a ue (omega linear) over_g (omega linear)
      (rise_up g forward_g ug (sym same_y))))
      (λ ge. inr (on_upright g e.a ug (omega linear) over_e ge (rise_up e forward_e ue same_y))))
    where
      same_x : e.b.x ≡ g.b.x
      same_x = ap (λ (p : Point). p.x) same

      same_y : e.b.y ≡ g.b.y
      same_y = ap (λ (p : Point). p.y) same

      over_g : side e (in_plane g.a) ≡ pos 0
      over_g = let i = side-rises e g in let s = subst (λ (p : Point). side e (in_plane p) ≡ pos 0) same (side-end e) in
          let l = level in omega linear

      over_e : side g (in_plane e.a) ≡ pos 0
      over_e = let i = side-rises g e in let s = subst (λ (p : Point). side g (in_plane p) ≡ pos 0) (sym same)
          (side-end g) in let l = back in omega linear

      rise_up : (h : Edge) → IsForward h → h.a.x ≡ h.b.x → {y : ℤ} → h.b.y ≡ y → h.a.y ≤ℤ y
      rise_up h forward upright s = let r = rises_upright h forward (omega linear) in omega linear

  module _ (meets : edge_eq e g ≡ false → MeetInEnds e g) where
    -- two that start in one point are equal
    pub same_from_start : e.a ≡ g.a → edge_eq e g ≡ true
    same_from_start same = by (edge_eq e g) refl
      where
        one : e.b ≡ g.b → edge_eq e g ≡ true
        one is = edge_eq-from_ends e g same is

        by : (s : Bool) → edge_eq e g ≡ s → edge_eq e g ≡ true
        by true is = is
        by false apart = ⊎_elim
            (λ on_e. ⊎_elim (λ at. absurd (ends_differ g forward_g (sym same ∙ at_whole e.a g.b at)))
            (λ at. one (at_whole e.b g.b at)) (meets apart (in_plane g.b) (on_e, end_on g)).0)
            (λ on_g. ⊎_elim (λ at. absurd (ends_differ e forward_e (same ∙ at_whole g.a e.b at)))
            (λ at. one (sym (at_whole g.b e.b at))) (meets apart (in_plane e.b) (end_on e, on_g)).1)
            (start_reaches same)

    -- two that end in one point are equal
    pub same_from_end : e.b ≡ g.b → edge_eq e g ≡ true
    same_from_end same = by (edge_eq e g) refl
      where
        one : e.a ≡ g.a → edge_eq e g ≡ true
        one is = edge_eq-from_ends e g is same

        by : (s : Bool) → edge_eq e g ≡ s → edge_eq e g ≡ true
        by true is = is
        by false apart = ⊎_elim
            (λ on_e. ⊎_elim (λ at. one (at_whole e.a g.a at))
            (λ at. absurd (ends_differ g forward_g (sym (at_whole e.b g.a at) ∙ same)))
            (meets apart (in_plane g.a) (on_e, start_on g)).0)
            (λ on_g. ⊎_elim (λ at. one (sym (at_whole g.a e.a at)))
            (λ at. absurd (ends_differ e forward_e (sym (at_whole g.b e.a at) ∙ sym same)))
            (meets apart (in_plane e.a) (start_on e, on_g)).1)
            (end_reaches same)
