-- The edges strictly below the midpoint of a vertical edge: those strictly below its lower end, and those that start
-- there to its right; or those strictly below its upper end.
use Rattle.std.proofs.Common.{◌≡◌, inl, ⊎_elim, Bool, true, false, ◌&&◌, ℤ, pos, ◌+ℤ◌, ◌-ℤ◌, ◌*ℤ◌, neg_ℤ, ◌<ℤ◌, ◌≤ℤ◌}
use Rattle.std.proofs.Common.{int_lt, int_le, refl, sym, ap, ◌∙◌, subst, arith}
use Rattle.std.proofs.lemmas.Int.{ints, by_lt_z}
use Rattle.std.proofs.lemmas.Bool.{and_from, and_parts, and_right}
use lib.IntN.{+ℤ_idr, *ℤ_comm}
use Rattle.overlay_geom.specs.Plane.{Point, PlanePoint, Edge, side, in_plane, midpoint, point_lt, point_eq, edge_eq}
use Rattle.overlay_geom.specs.Plane.{is_strictly_below, IsAt, IsOn}
use Rattle.overlay_geom.specs.Settled.{MeetInEnds}
use Rattle.overlay_geom.proofs.Identities.{solve, number, ◌⊕◌, ◌⊗◌, ◌⊖◌, ◌≗◌}
use Rattle.overlay_geom.proofs.Signs.{linear, by_sign, mul-pos, mul-zero, mul-nonneg, pos_of_mul-pos}
use Rattle.overlay_geom.proofs.Orders.{point_eq-same, edge_eq-same}
use Rattle.overlay_plane.specs.Heights.{width, covers, Spans}
use Rattle.overlay_plane.specs.Regions.{one_if}
use Rattle.overlay_plane.specs.Nodes.{edge_turn, turns_left}
use Rattle.overlay_plane.proofs.LineForms.{formE, line_form_linear}
use Rattle.overlay_plane.proofs.Crossing.{between_on_line, spans_between, cancels}
use Rattle.overlay_plane.proofs.Ends.{mixed, mixed_on}
use Rattle.overlay_plane.proofs.Strip.{starts_first}
use Rattle.overlay_plane.proofs.Under.{covers_from, covers_to, covers_wide}
use Rattle.overlay_plane.proofs.Tests.{lt_from_test, test_from_lt, test_from_le, test_from_ge, same_tests}
use Rattle.overlay_plane.proofs.NodeStarts.{counted_besides, rises_upright, start_off, level_start}

-- the side of a midpoint is the sum of the ends' sides
side-of_midpoint : (f e : Edge) → side f (midpoint e) ≡ side f (in_plane e.a) +ℤ side f (in_plane e.b)
side-of_midpoint f e = solve 8
    (λ px py qx qy ax ay bx by. formE px py qx qy (ax ⊕ bx) (ay ⊕ by) (number (pos 2)) ≗ formE px py qx qy ax ay
    (number (pos 1)) ⊕ formE px py qx qy bx by (number (pos 1))) tt f.a.x f.a.y f.b.x f.b.y e.a.x e.a.y e.b.x e.b.y

-- from one end of e to the other the side rises by the turn from f to e
pub side-rises : (f e : Edge) → side f (in_plane e.b) ≡ side f (in_plane e.a) +ℤ edge_turn f e
side-rises f e = solve 8
    (λ px py qx qy ax ay bx by. formE px py qx qy bx by (number (pos 1)) ≗ formE px py qx qy ax ay (number (pos 1)) ⊕
    ((qx ⊖ px) ⊗ (by ⊖ ay) ⊖ (qy ⊖ py) ⊗ (bx ⊖ ax))) tt f.a.x f.a.y f.b.x f.b.y e.a.x e.a.y e.b.x e.b.y

-- a wide edge over the x-coordinate of a vertical one does not pass between its ends
not_between : (e f : Edge) → e.a.x ≡ e.b.x → pos 0 <ℤ (e.b.y -ℤ e.a.y) → MeetInEnds e f → pos 0 <ℤ width f →
    Spans f e.a.x (pos 1) →
    side f (in_plane e.a) <ℤ pos 0 → pos 0 <ℤ side f (in_plane e.b) → ⊥
not_between e f upright rises meet wide over low high = ⊎_elim at_start at_end (meet p (on_e, on_f)).0
  where
    s : ℤ
    s = side f (in_plane e.b)

    t : ℤ
    t = neg_ℤ (side f (in_plane e.a))

    pt : pos 0 <ℤ t
    pt = omega linear

    ps : pos 0 ≤ℤ s
    ps = omega linear

    p : PlanePoint
    p = mixed s t e.a e.b ps pt

    on_e : IsOn e p
    on_e = (mixed_on e s t ps pt).0

    spans : Spans f p.x p.d
    spans = spans_between f s e.a.x (pos 1) t e.b.x (pos 1) high pt over
        (subst (λ (x : ℤ). Spans f x (pos 1)) upright over)

    level : side f p ≡ pos 0
    level = line_form_linear f s e.a.x e.a.y (pos 1) t e.b.x e.b.y (pos 1) ∙ cancels s (side f (in_plane e.a))

    on_f : IsOn f p
    on_f = record {
      on_line = level;
      in_x = inl (spans.from, spans.to);
      in_y = between_on_line f p.x p.y p.d wide
          level spans;
    }

    above_start : s *ℤ e.a.y +ℤ t *ℤ e.b.y ≡ e.a.y *ℤ (s *ℤ pos 1 +ℤ t *ℤ pos 1) +ℤ t *ℤ (e.b.y -ℤ e.a.y)
    above_start = solve 4 (λ s t a b. s ⊗ a ⊕ t ⊗ b ≗ a ⊗ (s ⊗ number (pos 1) ⊕ t ⊗ number (pos 1)) ⊕ t ⊗ (b ⊖ a)) tt s
        t e.a.y e.b.y

    below_end : s *ℤ e.a.y +ℤ t *ℤ e.b.y ≡ e.b.y *ℤ (s *ℤ pos 1 +ℤ t *ℤ pos 1) -ℤ s *ℤ (e.b.y -ℤ e.a.y)
    below_end = solve 4 (λ s t a b. s ⊗ a ⊕ t ⊗ b ≗ b ⊗ (s ⊗ number (pos 1) ⊕ t ⊗ number (pos 1)) ⊖ s ⊗ (b ⊖ a)) tt s
        t e.a.y e.b.y

    at_start : IsAt e.a p → ⊥
    at_start at = let y = at.1 in let i = above_start in let more = mul-pos t (e.b.y -ℤ e.a.y) pt rises in omega linear

    at_end : IsAt e.b p → ⊥
    at_end at = let y = at.1 in let i = below_end in let more = mul-pos s (e.b.y -ℤ e.a.y) high rises in omega linear

module _ (e f : Edge) (forward_e : point_lt e.a e.b ≡ true) (narrow : width e ≤ℤ pos 0)
    (forward : point_lt f.a f.b ≡ true) (meets : edge_eq e f ≡ false → MeetInEnds e f) where
  -- a forward edge that is not wide is vertical
  upright : e.a.x ≡ e.b.x
  upright = let first = starts_first e forward_e in let n = narrow in omega linear

  -- the side rises
  rises : pos 0 <ℤ (e.b.y -ℤ e.a.y)
  rises = rises_upright e forward_e narrow

  -- the turn from f to e is f's width times e's height
  pub turn_is : edge_turn f e ≡ width f *ℤ (e.b.y -ℤ e.a.y)
  turn_is = let none = mul-zero (f.b.y -ℤ f.a.y) (width e) (let u = upright in omega linear) in omega linear

  -- the turn from e to f is the opposite
  pub turn_is_not : edge_turn e f ≡ neg_ℤ (width f *ℤ (e.b.y -ℤ e.a.y))
  turn_is_not =
      let none = mul-zero (f.b.y -ℤ f.a.y) (width e) (let u = upright in omega linear) in
      let exchanged = *ℤ_comm (f.b.y -ℤ f.a.y) (width e) in
      let exchanged_too = *ℤ_comm (e.b.y -ℤ e.a.y) (width f) in
      omega linear

  -- the midpoint is over the x-coordinate of both ends
  covers_midpoint : covers f (e.a.x +ℤ e.b.x) (pos 2) ≡ covers f e.a.x (pos 1)
  covers_midpoint = same_tests (covers f (e.a.x +ℤ e.b.x) (pos 2)) (covers f e.a.x (pos 1))
      (λ t. let u = upright in let l = covers_from f (e.a.x +ℤ e.b.x) (pos 2) t in
      let r = covers_to f (e.a.x +ℤ e.b.x) (pos 2) t in
      and_from (int_le (f.a.x *ℤ pos 1) e.a.x) (int_lt e.a.x (f.b.x *ℤ pos 1))
      (test_from_le (f.a.x *ℤ pos 1) e.a.x (omega (arith, ints)))
      (test_from_lt e.a.x (f.b.x *ℤ pos 1) (omega (arith, ints))))
      (λ t. let u = upright in let l = covers_from f e.a.x (pos 1) t in let r = covers_to f e.a.x (pos 1) t in
      and_from (int_le (f.a.x *ℤ pos 2) (e.a.x +ℤ e.b.x)) (int_lt (e.a.x +ℤ e.b.x) (f.b.x *ℤ pos 2))
      (test_from_le (f.a.x *ℤ pos 2) (e.a.x +ℤ e.b.x) (omega (arith, ints)))
      (test_from_lt (e.a.x +ℤ e.b.x) (f.b.x *ℤ pos 2) (omega (arith, ints))))

  -- a wide edge differs from e
  wide_meets : pos 0 <ℤ width f → MeetInEnds e f
  wide_meets wide = by (edge_eq e f) refl
    where
      by : (s : Bool) → edge_eq e f ≡ s → MeetInEnds e f
      by true same = absurd (let n = narrow in let w = ap (λ (g : Edge). width g) (edge_eq-same e f same) in
          omega linear)
      by false apart = meets apart

  -- where f is over e, it does not pass between the ends
  passes : covers f e.a.x (pos 1) ≡ true → side f (in_plane e.a) <ℤ pos 0 → side f (in_plane e.b) ≤ℤ pos 0
  passes over low = by_lt_z (pos 0) (side f (in_plane e.b))
      (λ high. absurd (not_between e f upright rises (wide_meets wide) wide
      (record { from = covers_from f e.a.x (pos 1) over; to = let r = covers_to f e.a.x (pos 1) over in omega linear })
      low high)) (λ ge. ge)
    where
      wide : pos 0 <ℤ width f
      wide = covers_wide f e.a.x (pos 1) (record { lt = tt }) over

  -- if f is over e, its side rises from one end of e to the other
  higher : covers f e.a.x (pos 1) ≡ true → side f (in_plane e.a) <ℤ side f (in_plane e.b)
  higher over = let i = side-rises f e in let t = turn_is in
      let more = mul-pos (width f) (e.b.y -ℤ e.a.y) (covers_wide f e.a.x (pos 1) (record { lt = tt }) over) rises in
      omega linear

  -- edges strictly below the midpoint are over the x-coordinate of the ends
  below_midpoint : is_strictly_below f (midpoint e) ≡ (covers f e.a.x (pos 1) && int_lt (pos 0) (side f (midpoint e)))
  below_midpoint = ap (λ c. c && int_lt (pos 0) (side f (midpoint e))) covers_midpoint

  -- beside a vertical edge that starts
  pub upright_from_start : one_if (is_strictly_below f (midpoint e)) ≡ one_if (is_strictly_below f (in_plane e.a))
      +ℤ one_if (point_eq f.a e.a && turns_left f e)
  upright_from_start = ap (λ z. one_if z) below_midpoint
      ∙ counted_besides (covers f e.a.x (pos 1)) (int_lt (pos 0) (side f (midpoint e)))
      (int_lt (pos 0) (side f (in_plane e.a))) (point_eq f.a e.a) (turns_left f e)
      (λ at. (
        test_from_ge (pos 0) (side f (in_plane e.a)) (let l = level_start e f forward meets at in omega linear),
        with_it at,
      )) beside
    where
      sum : side f (midpoint e) ≡ side f (in_plane e.a) +ℤ side f (in_plane e.b)
      sum = side-of_midpoint f e

      with_it : point_eq f.a e.a ≡ true →
          (covers f e.a.x (pos 1) && int_lt (pos 0) (side f (midpoint e))) ≡ turns_left f e
      with_it at = same_tests (covers f e.a.x (pos 1) && int_lt (pos 0) (side f (midpoint e))) (turns_left f e)
          (λ t. let both = and_parts (covers f e.a.x (pos 1)) (int_lt (pos 0) (side f (midpoint e))) t in
          test_from_lt (pos 0) (edge_turn f e) (let l = level_start e f forward meets at in
          let r = side-rises f e in let m = sum in let high = lt_from_test (pos 0) (side f (midpoint e)) both.1 in
          omega linear))
          (λ t. let turned = lt_from_test (pos 0) (edge_turn f e) t in
          and_from (covers f e.a.x (pos 1)) (int_lt (pos 0) (side f (midpoint e))) (over_it turned)
          (test_from_lt (pos 0) (side f (midpoint e)) (let l = level_start e f forward meets at in
          let r = side-rises f e in let m = sum in omega linear)))
        where
          over_it : pos 0 <ℤ edge_turn f e → covers f e.a.x (pos 1) ≡ true
          over_it turned =
              let same = ap (λ (p : Point). p.x) (point_eq-same f.a e.a at) in
              let t = turn_is in
              let exchanged = *ℤ_comm (width f) (e.b.y -ℤ e.a.y) in
              let w = pos_of_mul-pos (e.b.y -ℤ e.a.y) (width f) rises (omega linear) in
              and_from (int_le (f.a.x *ℤ pos 1) e.a.x) (int_lt e.a.x (f.b.x *ℤ pos 1))
              (test_from_le (f.a.x *ℤ pos 1) e.a.x (omega (arith, ints)))
              (test_from_lt e.a.x (f.b.x *ℤ pos 1) (omega (arith, ints)))

      beside : point_eq f.a e.a ≡ false → covers f e.a.x (pos 1) ≡ true → int_lt (pos 0) (side f (midpoint e)) ≡ int_lt
          (pos 0) (side f (in_plane e.a))
      beside other over = by_sign (side f (in_plane e.a))
          (λ low. let m = sum in let h = passes over low in test_from_ge (pos 0) (side f (midpoint e)) (omega linear)
          ∙ sym (test_from_ge (pos 0) (side f (in_plane e.a)) (omega linear)))
          (λ level. absurd (start_off e f forward meets other over level))
          (λ high. let m = sum in let h = higher over in test_from_lt (pos 0) (side f (midpoint e)) (omega linear)
          ∙ sym (test_from_lt (pos 0) (side f (in_plane e.a)) high))

  -- beside a vertical edge that ends
  pub upright_from_end : one_if (is_strictly_below f (midpoint e)) ≡ one_if (is_strictly_below f (in_plane e.b))
      +ℤ one_if (point_eq f.b e.b && turns_left e f)
  upright_from_end = ap (λ z. one_if z) (below_midpoint ∙ beside (covers f e.a.x (pos 1)) refl
      ∙ ap (λ (x : ℤ). covers f x (pos 1) && int_lt (pos 0) (side f (in_plane e.b))) upright)
      ∙ sym (ap (λ z. one_if (is_strictly_below f (in_plane e.b)) +ℤ one_if z)
      (and_right (point_eq f.b e.b) (turns_left e f) not_left)
      ∙ +ℤ_idr (one_if (is_strictly_below f (in_plane e.b))))
    where
      sum : side f (midpoint e) ≡ side f (in_plane e.a) +ℤ side f (in_plane e.b)
      sum = side-of_midpoint f e

      not_left : turns_left e f ≡ false
      not_left = test_from_ge (pos 0) (edge_turn e f) (let t = turn_is_not in let first = starts_first f forward in
          let r = rises in let more = mul-nonneg (width f) (e.b.y -ℤ e.a.y) (omega linear) (omega linear) in
          omega linear)

      beside : (c : Bool) → covers f e.a.x (pos 1) ≡ c →
          (c && int_lt (pos 0) (side f (midpoint e))) ≡ (c && int_lt (pos 0) (side f (in_plane e.b)))
      beside true over = by_lt_z (pos 0) (side f (in_plane e.b))
          (λ high. test_from_lt (pos 0) (side f (midpoint e)) (let m = sum in
          by_lt_z (side f (in_plane e.a)) (pos 0) (λ low. let p = passes over low in absurd (omega linear))
          (λ ge. omega linear)) ∙ sym (test_from_lt (pos 0) (side f (in_plane e.b)) high))
          (λ ge. test_from_ge (pos 0) (side f (midpoint e)) (let m = sum in let h = higher over in omega linear)
          ∙ sym (test_from_ge (pos 0) (side f (in_plane e.b)) ge))
      beside false over = refl
