-- The edges over the x-coordinate of an edge's start that are below that start, whether the edge is vertical or not.
use Rattle.std.proofs.Common.{◌≡◌, ⊎_elim, Bool, true, false, cond, not, ◌&&◌, ◌||◌, ℤ, pos, ◌+ℤ◌, ◌-ℤ◌, ◌*ℤ◌, ◌<ℤ◌}
use Rattle.std.proofs.Common.{◌≤ℤ◌, int_lt, int_le, refl, sym, ap, ap₂, ◌∙◌, subst, arith}
use Rattle.std.proofs.lemmas.Int.{ints}
use Rattle.std.proofs.lemmas.Bool.{and_parts, and_from, or_cases, or_left, or_right, false_from_ne_true, false≢true}
use Rattle.std.specs.Ordering.{int_eq}
use Rattle.overlay_geom.specs.Plane.{Point, Edge, edge_eq, side, in_plane, cross_at, point_lt, point_eq}
use Rattle.overlay_geom.specs.Plane.{is_strictly_below}
use Rattle.overlay_geom.specs.Settled.{MeetInEnds}
use Rattle.overlay_geom.proofs.Identities.{solve, ◌⊗◌, ◌⊕◌, ◌⊖◌, ◌≗◌}
use Rattle.overlay_geom.proofs.OneLine.{meet_in_ends_exchanged}
use Rattle.overlay_geom.proofs.Orders.{edge_eq-same, point_eq-same, point_eq-of_same}
use Rattle.overlay_geom.proofs.Signs.{linear, by_sign, mul-pos, mul-nonneg, mul-zero, pos_of_mul-pos}
use Rattle.overlay_geom.proofs.Signs.{nonneg_of_mul-nonneg}
use Rattle.overlay_plane.specs.Anchors.{is_below_anchor}
use Rattle.overlay_plane.specs.Heights.{width, gap, covers, is_under}
use Rattle.overlay_plane.specs.Nodes.{edge_turn, turns_left}
use Rattle.overlay_plane.proofs.EdgeTurns.{not_narrower}
use Rattle.overlay_plane.proofs.Ends.{start_on}
use Rattle.overlay_plane.proofs.LineForms.{side-start, gap-line_form, gap_exchanged}
use Rattle.overlay_plane.proofs.NearAbscissas.{end_where_level}
use Rattle.overlay_plane.proofs.NodeForms.{under_beside_a_node}
use Rattle.overlay_plane.proofs.Tests.{lt_from_test, test_from_lt, test_from_ge}
use Rattle.overlay_plane.proofs.Under.{covers_to, covers_wide, under_asymmetric}
use Rattle.overlay_plane.proofs.WhereEdgesStart.{covers_spans, under_from_gap}
use Rattle.overlay_scan.specs.Lists.{is_lower_at_start, is_lower}
use Rattle.overlay_scan.proofs.AtStarts.{tested, cross-side, starts_before}

-- left turns combine for vectors from one point: from f to the middle, and from the middle to e, gives from f to e
turns_on : (f g e : Edge) → pos 0 <ℤ width f → pos 0 <ℤ width g → pos 0 ≤ℤ width e → turns_left f g ≡ true →
    turns_left g e ≡ true → turns_left f e ≡ true
turns_on f g e wide_f wide_g not_back fg ge =
    let low = mul-nonneg (width e) (edge_turn f g) not_back (let turned = lt_from_test (pos 0) (edge_turn f g) fg in
    omega linear) in
    let high = mul-pos (width f) (edge_turn g e) wide_f (lt_from_test (pos 0) (edge_turn g e) ge) in
    let sum = through (width f) (width g) (width e) (f.b.y -ℤ f.a.y) (g.b.y -ℤ g.a.y) (e.b.y -ℤ e.a.y) in
    test_from_lt (pos 0) (edge_turn f e) (pos_of_mul-pos (width g) (edge_turn f e) wide_g (omega linear))
  where
    through : (u v w p q r : ℤ) → v *ℤ (u *ℤ r -ℤ p *ℤ w) ≡ w *ℤ (u *ℤ q -ℤ p *ℤ v) +ℤ u *ℤ (v *ℤ r -ℤ q *ℤ w)
    through = solve 6 (λ u v w p q r. v ⊗ (u ⊗ r ⊖ p ⊗ w) ≗ w ⊗ (u ⊗ q ⊖ p ⊗ v) ⊕ u ⊗ (v ⊗ r ⊖ q ⊗ w)) tt

module _ (e : Edge) (forward : point_lt e.a e.b ≡ true) where
  -- an edge over the start of e that is e or meets e in ends alone
  pub record IsBeside (f : Edge) : Type 0 where
    pub over : covers f e.a.x (pos 1) ≡ true
    pub meets : edge_eq e f ≡ false → MeetInEnds e f

  wide : (f : Edge) → IsBeside f → pos 0 <ℤ width f
  wide f at = covers_wide f e.a.x (pos 1) (omega linear) at.over

  -- where it goes through the start of e it starts there
  starts_there : (f : Edge) → IsBeside f → side f (in_plane e.a) ≡ pos 0 → f.a ≡ e.a
  starts_there f at level = by (edge_eq e f) refl
    where
      by : (b : Bool) → edge_eq e f ≡ b → f.a ≡ e.a
      by true same = sym (ap (λ (g : Edge). g.a) (edge_eq-same e f same))
      by false apart = ⊎_elim (λ start. point_eq-same f.a e.a start)
          (λ end. absurd (let last = covers_to f e.a.x (pos 1) at.over in
          let x = ap (λ (p : Point). p.x) (point_eq-same f.b e.a end) in omega (arith, ints)))
          (end_where_level e f e.a (wide f at) (at.meets apart) (start_on e) (covers_spans f e.a.x (pos 1) at.over)
          level)

  -- it is strictly below the start where that lies to the left of it
  strictly : (f : Edge) → IsBeside f → is_strictly_below f (in_plane e.a) ≡ int_lt (pos 0) (side f (in_plane e.a))
  strictly f at =
      let parts = and_parts (int_le (f.a.x *ℤ pos 1) e.a.x) (int_lt e.a.x (f.b.x *ℤ pos 1)) at.over in
      ap₂ (λ s t. s && t && int_lt (pos 0) (side f (in_plane e.a))) parts.0 parts.1

  -- the ways that the test compares
  turned : (f : Edge) → f.a ≡ e.a → turns_left f e ≡ int_lt (pos 0) (cross_at e.a f.b e.b)
  turned f same = subst (λ (p : Point). turns_left (record { a = p; b = f.b }) e ≡ int_lt (pos 0)
      (cross_at e.a f.b e.b)) (sym same) refl

  -- the test at the start of e says whether it is below
  pub lower_is_below : (f : Edge) → IsBeside f → is_lower f e ≡ is_below_anchor e f
  lower_is_below f at = ap (λ t. cond t (not (is_lower_at_start e f)) (is_lower_at_start f e))
      (test_from_ge e.a.x f.a.x (starts_before f e.a.x at.over))
      ∙ ap (λ z. int_lt (pos 0) z || (int_eq z (pos 0) && int_lt (pos 0) (cross_at e.a f.b e.b))) (cross-side f e.a)
      ∙ tested (side f (in_plane e.a)) (int_lt (pos 0) (cross_at e.a f.b e.b)) (is_below_anchor e f) low high level
    where
      starts : Bool
      starts = point_eq f.a e.a && turns_left f e

      low : pos 0 <ℤ side f (in_plane e.a) → is_below_anchor e f ≡ true
      low left = ap (λ b. b || starts) (strictly f at ∙ test_from_lt (pos 0) (side f (in_plane e.a)) left)

      not_strictly : side f (in_plane e.a) ≤ℤ pos 0 → is_below_anchor e f ≡ starts
      not_strictly right = ap (λ b. b || starts) (strictly f at ∙ test_from_ge (pos 0) (side f (in_plane e.a)) right)

      high : side f (in_plane e.a) <ℤ pos 0 → is_below_anchor e f ≡ false
      high right = not_strictly (omega linear) ∙ ap (λ b. b && turns_left f e) (false_from_ne_true (point_eq f.a e.a)
          (λ same. absurd (let level = subst (λ (p : Point). side f (in_plane p) ≡ pos 0) (point_eq-same f.a e.a same)
          (side-start f) in omega linear)))

      level : side f (in_plane e.a) ≡ pos 0 → is_below_anchor e f ≡ int_lt (pos 0) (cross_at e.a f.b e.b)
      level zero =
          let same = starts_there f at zero in
          not_strictly (omega linear) ∙ ap (λ b. b && turns_left f e) (point_eq-of_same f.a e.a same) ∙ turned f same

  -- an edge under an edge below the start of e is below that start too
  pub below_through : (f g : Edge) → IsBeside f → IsBeside g → MeetInEnds g f → is_under f g e.a.x (pos 1) ≡ true →
      is_below_anchor e g ≡ true →
      is_below_anchor e f ≡ true
  below_through f g at_f at_g meet under below = ⊎_elim
      (λ strict. found (pos_of_mul-pos (width g) (side f (in_plane e.a)) (wide g at_g)
      (let s = mul-pos (width f) (side g (in_plane e.a)) (wide f at_f)
      (lt_from_test (pos 0) (side g (in_plane e.a)) (sym (strictly g at_g) ∙ strict)) in
      let form = sides in let least = no_gap in omega linear)))
      (λ starts. from_start (and_parts (point_eq g.a e.a) (turns_left g e) starts))
      (or_cases (is_strictly_below g (in_plane e.a)) (point_eq g.a e.a && turns_left g e) below)
    where
      sides : width g *ℤ side f (in_plane e.a) ≡ gap f g e.a.x (pos 1) +ℤ width f *ℤ side g (in_plane e.a)
      sides = gap-line_form f g e.a.x e.a.y (pos 1)

      no_gap : pos 0 ≤ℤ gap f g e.a.x (pos 1)
      no_gap = by_sign (gap f g e.a.x (pos 1))
          (λ less. absurd (false≢true (sym (under_asymmetric f g e.a.x (pos 1) under)
          ∙ under_from_gap g f e.a.x (pos 1) (omega linear) (meet_in_ends_exchanged f g meet) at_g.over at_f.over
          (let turn = gap_exchanged g f e.a.x (pos 1) in omega linear))))
          (λ zero. omega linear) (λ more. omega linear)

      found : pos 0 <ℤ side f (in_plane e.a) → is_below_anchor e f ≡ true
      found left = or_left (is_strictly_below f (in_plane e.a)) (point_eq f.a e.a && turns_left f e)
          (strictly f at_f ∙ test_from_lt (pos 0) (side f (in_plane e.a)) left)

      from_start : (point_eq g.a e.a ≡ true) × (turns_left g e ≡ true) → is_below_anchor e f ≡ true
      from_start starts =
          let there = point_eq-same g.a e.a starts.0 in
          let none = mul-zero (width f) (side g (in_plane e.a))
          (subst (λ (p : Point). side g (in_plane p) ≡ pos 0) there (side-start g)) in
          let form = sides in
          let least = no_gap in
          by_sign (side f (in_plane e.a))
          (λ less. absurd (let at_least = nonneg_of_mul-nonneg (width g) (side f (in_plane e.a)) (wide g at_g)
          (omega linear) in omega linear))
          (λ level. through there (starts_there f at_f level))
          found
        where
          through : g.a ≡ e.a → f.a ≡ e.a → is_below_anchor e f ≡ true
          through there here = or_right (is_strictly_below f (in_plane e.a)) (point_eq f.a e.a && turns_left f e)
              (and_from (point_eq f.a e.a) (turns_left f e) (point_eq-of_same f.a e.a here)
              (turns_on f g e (wide f at_f) (wide g at_g) (not_narrower e forward)
              ((under_beside_a_node g f).start (here ∙ sym there) ∙ ap (λ (p : Point). is_under f g p.x (pos 1)) there
              ∙ under) starts.1))
