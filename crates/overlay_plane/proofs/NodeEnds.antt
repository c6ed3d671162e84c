-- The edges under an edge at its end, just below it: those strictly below the end, and those that end there to its
-- right. Ends and starts on the vertical line below that end correct the count.
use Rattle.std.proofs.Common.{◌≡◌, ◌⊎◌, inl, inr, ⊎_elim, Bool, true, false, ◌&&◌, ℤ, pos, ◌+ℤ◌, ◌-ℤ◌, ◌*ℤ◌, ◌<ℤ◌, ◌≤ℤ◌}
use Rattle.std.proofs.Common.{int_lt, int_le, refl, sym, ap, ◌∙◌, subst, arith}
use Rattle.std.proofs.lemmas.Int.{ints, by_lt_z}
use Rattle.std.proofs.lemmas.Bool.{false≢true, and_from, and_left, and_right, false_from_ne_true}
use Rattle.std.proofs.lemmas.Bool.Decides.{Decides-int_eq}
use Rattle.std.specs.Ordering.{int_eq}
use lib.IntN.{*ℤ_comm}
use Rattle.overlay_geom.specs.Plane.{Point, Edge, side, in_plane, point_lt, point_eq, edge_eq, is_strictly_below, IsAt}
use Rattle.overlay_geom.specs.Settled.{MeetInEnds}
use Rattle.overlay_geom.proofs.Signs.{linear, mul-pos, mul-neg, mul-zero, mul-nonpos, zero_of_mul-zero}
use Rattle.overlay_geom.proofs.Orders.{point_eq-same, edge_eq-same, point_eq-of_same, same_point}
use Rattle.overlay_plane.specs.Heights.{width, gap, covers, is_under, Spans}
use Rattle.overlay_plane.specs.Regions.{one_if}
use Rattle.overlay_plane.specs.Nodes.{edge_turn, turns_left}
use Rattle.overlay_plane.proofs.Ends.{end_on}
use Rattle.overlay_plane.proofs.Strip.{starts_first}
use Rattle.overlay_plane.proofs.Under.{covers_just_left, shared_just_right}
use Rattle.overlay_plane.proofs.Tests.{test_from_lt, test_from_le, test_from_ge, test_from_gt}
use Rattle.overlay_plane.proofs.NearAbscissas.{near_same, gap-own_end, gap-left_of_end, side-over_start, side-over_end}
use Rattle.overlay_plane.proofs.NearAbscissas.{end_where_level, times_test}
use Rattle.overlay_plane.proofs.NodeStarts.{rises_upright}

-- the point is on the vertical line through v, below it
abbrev pub is_down_from : Point → Point → Bool
is_down_from v u = int_eq u.x v.x && int_lt u.y v.y

-- how the tests of one edge add up
abbrev AddUp : (cl u c s p t gb ga : Bool) → Type 0
AddUp cl u c s p t gb ga = one_if (cl && u) ≡ (one_if (c && s) +ℤ one_if (p && t)) +ℤ (one_if gb -ℤ one_if ga)

-- how tests add up is seen from their answers
known : (cl u c s p t gb ga cl' c' p' gb' ga' : Bool) → cl ≡ cl' → c ≡ c' → p ≡ p' → gb ≡ gb' → ga ≡ ga' →
    AddUp cl' u c' s p' t gb' ga' → AddUp cl u c s p t gb ga
known cl u c s p t gb ga cl' c' p' gb' ga' e1 e2 e3 e4 e5 h =
    subst (λ z. AddUp z u c s p t gb ga) (sym e1)
    (subst (λ z. AddUp cl' u z s p t gb ga) (sym e2) (subst (λ z. AddUp cl' u c' s z t gb ga) (sym e3)
    (subst (λ z. AddUp cl' u c' s p' t z ga) (sym e4) (subst (λ z. AddUp cl' u c' s p' t gb' z) (sym e5) h))))

-- different numbers fail the test
int_eq_false : (a b : ℤ) → ¬ (a ≡ b) → int_eq a b ≡ false
int_eq_false a b h = false_from_ne_true (int_eq a b) (λ e. h ((Decides-int_eq a b).0 e))

module _ (e f : Edge) (forward : point_lt f.a f.b ≡ true) (meets : edge_eq e f ≡ false → MeetInEnds e f)
    (wide : pos 0 <ℤ width e) where
  -- the x-coordinate of the end of e
  abbrev x : ℤ
  x = e.b.x

  -- the x-coordinate just left of the end
  abbrev left : ℤ
  left = x +ℤ x -ℤ pos 1

  -- how the tests of f add up
  abbrev Sum : Type 0
  Sum = AddUp (covers f left (pos 2)) (is_under f e left (pos 2)) (covers f x (pos 1))
      (int_lt (pos 0) (side f (in_plane e.b))) (point_eq f.b e.b) (turns_left e f) (is_down_from e.b f.b)
      (is_down_from e.b f.a)

  -- it is seen from their answers
  with_known : (cl c p gb ga : Bool) → covers f left (pos 2) ≡ cl → covers f x (pos 1) ≡ c → point_eq f.b e.b ≡ p →
      is_down_from e.b f.b ≡ gb → is_down_from e.b f.a ≡ ga →
      AddUp cl (is_under f e left (pos 2)) c (int_lt (pos 0) (side f (in_plane e.b))) p (turns_left e f) gb ga → Sum
  with_known cl c p gb ga = known (covers f left (pos 2)) (is_under f e left (pos 2)) (covers f x (pos 1))
      (int_lt (pos 0) (side f (in_plane e.b))) (point_eq f.b e.b) (turns_left e f) (is_down_from e.b f.b)
      (is_down_from e.b f.a) cl c p gb ga

  -- the tests, by where the ends of f lie
  not_over_left : (x ≤ℤ f.a.x) ⊎ (f.b.x <ℤ x) → covers f left (pos 2) ≡ false
  not_over_left h = ⊎_elim (λ l. and_left (int_le (f.a.x *ℤ pos 2) left) (int_lt left (f.b.x *ℤ pos 2))
      (test_from_gt (f.a.x *ℤ pos 2) left (omega (arith, ints))))
      (λ r. and_right (int_le (f.a.x *ℤ pos 2) left) (int_lt left (f.b.x *ℤ pos 2))
      (test_from_ge left (f.b.x *ℤ pos 2) (omega (arith, ints)))) h

  -- an edge that starts left of x and does not end there is over the x-coordinate just left of it
  over_left : f.a.x <ℤ x → x ≤ℤ f.b.x → covers f left (pos 2) ≡ true
  over_left l r = covers_just_left f x (pos 1) (omega (arith, ints)) (omega (arith, ints))

  -- an edge that starts right of x, or ends left of it or at it, is not over x
  not_over : (x <ℤ f.a.x) ⊎ (f.b.x ≤ℤ x) → covers f x (pos 1) ≡ false
  not_over h = ⊎_elim (λ l. and_left (int_le (f.a.x *ℤ pos 1) x) (int_lt x (f.b.x *ℤ pos 1))
      (test_from_gt (f.a.x *ℤ pos 1) x (omega (arith, ints))))
      (λ r. and_right (int_le (f.a.x *ℤ pos 1) x) (int_lt x (f.b.x *ℤ pos 1))
      (test_from_ge x (f.b.x *ℤ pos 1) (omega (arith, ints)))) h

  -- one between whose ends x lies is over it
  over : f.a.x ≤ℤ x → x <ℤ f.b.x → covers f x (pos 1) ≡ true
  over l r = and_from (int_le (f.a.x *ℤ pos 1) x) (int_lt x (f.b.x *ℤ pos 1))
      (test_from_le (f.a.x *ℤ pos 1) x (omega (arith, ints))) (test_from_lt x (f.b.x *ℤ pos 1) (omega (arith, ints)))

  -- a point with another x-coordinate is not the end of e
  other_place : (p : Point) → ¬ (p.x ≡ x) → point_eq p e.b ≡ false
  other_place p h = and_left (int_eq p.x x) (int_eq p.y e.b.y) (int_eq_false p.x x h)

  -- nor is one with another height
  other_height : (p : Point) → ¬ (p.y ≡ e.b.y) → point_eq p e.b ≡ false
  other_height p h = and_right (int_eq p.x x) (int_eq p.y e.b.y) (int_eq_false p.y e.b.y h)

  -- a point with another x-coordinate is not below the end of e on its vertical
  not_down : (p : Point) → ¬ (p.x ≡ x) → is_down_from e.b p ≡ false
  not_down p h = and_left (int_eq p.x x) (int_lt p.y e.b.y) (int_eq_false p.x x h)

  -- nor is one that is not lower
  up_from : (p : Point) → e.b.y ≤ℤ p.y → is_down_from e.b p ≡ false
  up_from p h = and_right (int_eq p.x x) (int_lt p.y e.b.y) (test_from_ge p.y e.b.y h)

  -- a lower point on the vertical is
  down_from : (p : Point) → p.x ≡ x → p.y <ℤ e.b.y → is_down_from e.b p ≡ true
  down_from p same low = and_from (int_eq p.x x) (int_lt p.y e.b.y) ((Decides-int_eq p.x x).1 same)
      (test_from_lt p.y e.b.y low)

  -- an edge that has no end in common with e at its end meets it in ends alone
  ends_elsewhere : point_eq f.b e.b ≡ false → MeetInEnds e f
  ends_elsewhere other = by (edge_eq e f) refl
    where
      by : (s : Bool) → edge_eq e f ≡ s → MeetInEnds e f
      by true same = let one = ap (λ (g : Edge). g.b) (edge_eq-same e f same) in
          absurd (false≢true (sym other ∙ point_eq-of_same f.b e.b (sym one)))
      by false apart = meets apart

  -- e itself is over the x-coordinate just left of its end
  own_left : covers e left (pos 2) ≡ true
  own_left = covers_just_left e x (pos 1) (let w = wide in omega (arith, ints)) (omega (arith, ints))

  -- the edge spans the x-coordinate of its end
  own_spans : Spans e x (pos 1)
  own_spans = record { from = let w = wide in omega (arith, ints); to = omega (arith, ints) }

  -- if f passes the end of e, or ends above or below it, it is under e just left of it as it is below that end
  under_by_side : f.a.x <ℤ x → x ≤ℤ f.b.x → MeetInEnds e f → ¬ (side f (in_plane e.b) ≡ pos 0) →
      is_under f e left (pos 2) ≡ int_lt (pos 0) (side f (in_plane e.b))
  under_by_side l r meet off = near_same f e x (pos 1) (left +ℤ left +ℤ pos 1) (pos 4) (omega linear) wide meet
      (record { lt = tt }) own_spans (record { from = omega (arith, ints); to = omega (arith, ints) })
      (shared_just_right f e left (pos 2) (record { lt = tt }) (over_left l r) own_left)
      (shared_just_right e f left (pos 2) (record { lt = tt }) own_left (over_left l r))
      (λ level. off (zero_of_mul-zero (width e) (side f (in_plane e.b)) wide (sym (gap-own_end f e) ∙ level)))
      ∙ times_test (width e) (side f (in_plane e.b)) (gap f e x (pos 1)) wide (gap-own_end f e)

  -- the end of e is off an edge that passes its x-coordinate
  passes_off : f.a.x <ℤ x → x <ℤ f.b.x → MeetInEnds e f → ¬ (side f (in_plane e.b) ≡ pos 0)
  passes_off l r meet level = ⊎_elim (λ at. let same = ap (λ (p : Point). p.x) (point_eq-same f.a e.b at) in
      omega linear) (λ at. let same = ap (λ (p : Point). p.x) (point_eq-same f.b e.b at) in omega linear)
      (end_where_level e f e.b (omega linear) meet (end_on e)
      (record { from = omega (arith, ints); to = omega (arith, ints) }) level)

  -- f ends left of the end of e, or starts right of it
  away : (f.b.x <ℤ x) ⊎ (x <ℤ f.a.x) → Sum
  away h = ⊎_elim
      (λ l. let first = starts_first f forward in
      with_known false false false false false (not_over_left (inr l)) (not_over (inr (omega linear)))
      (other_place f.b (λ s. omega linear)) (not_down f.b (λ s. omega linear))
      (not_down f.a (λ s. omega linear)) refl)
      (λ r. let first = starts_first f forward in
      with_known false false false false false (not_over_left (inl (omega linear))) (not_over (inl r))
      (other_place f.b (λ s. omega linear)) (not_down f.b (λ s. omega linear))
      (not_down f.a (λ s. omega linear)) refl) h

  -- f passes the x-coordinate of the end of e
  passing : f.a.x <ℤ x → x <ℤ f.b.x → Sum
  passing l r = with_known true true false false false (over_left l (omega linear)) (over (omega linear) r) elsewhere
      (not_down f.b (λ s. omega linear)) (not_down f.a (λ s. omega linear))
      (ap (λ z. one_if z) (under_by_side l (omega linear) (ends_elsewhere elsewhere)
      (passes_off l r (ends_elsewhere elsewhere))) ∙ alone (one_if (int_lt (pos 0) (side f (in_plane e.b)))))
    where
      elsewhere : point_eq f.b e.b ≡ false
      elsewhere = other_place f.b (λ s. omega linear)

      alone : (z : ℤ) → z ≡ (z +ℤ pos 0) +ℤ (pos 0 -ℤ pos 0)
      alone z = omega linear

  -- f ends over the end of e
  ending : f.a.x <ℤ x → f.b.x ≡ x → Sum
  ending l same = by_lt_z f.b.y e.b.y below (λ ge. by_lt_z e.b.y f.b.y above (λ le. at (omega linear)))
    where
      side_is : side f (in_plane e.b) ≡ width f *ℤ (e.b.y -ℤ f.b.y)
      side_is = let i = side-over_end f e.b in let none = mul-zero (f.b.y -ℤ f.a.y) (e.b.x -ℤ f.b.x) (omega linear) in
          omega linear

      below : f.b.y <ℤ e.b.y → Sum
      below low =
          let high = mul-pos (width f) (e.b.y -ℤ f.b.y) (omega linear) (omega linear) in
          let elsewhere = other_height f.b (λ s. omega linear) in
          let i = side_is in
          with_known true false false true false (over_left l (omega linear)) (not_over (inr (omega linear))) elsewhere
          (down_from f.b same low) (not_down f.a (λ s. omega linear))
          (ap (λ z. one_if z) (under_by_side l (omega linear) (ends_elsewhere elsewhere) (λ level. omega linear)
          ∙ test_from_lt (pos 0) (side f (in_plane e.b)) (omega linear)))

      above : e.b.y <ℤ f.b.y → Sum
      above high =
          let low = mul-neg (width f) (e.b.y -ℤ f.b.y) (omega linear) (omega linear) in
          let elsewhere = other_height f.b (λ s. omega linear) in
          let i = side_is in
          with_known true false false false false (over_left l (omega linear)) (not_over (inr (omega linear))) elsewhere
          (up_from f.b (omega linear)) (not_down f.a (λ s. omega linear))
          (ap (λ z. one_if z) (under_by_side l (omega linear) (ends_elsewhere elsewhere) (λ level. omega linear)
          ∙ test_from_ge (pos 0) (side f (in_plane e.b)) (omega linear)))

      at : f.b.y ≡ e.b.y → Sum
      at same_y = with_known true false true false false (over_left l (omega linear)) (not_over (inr (omega linear)))
          (point_eq-of_same f.b e.b (same_point f.b e.b same same_y)) (up_from f.b (omega linear))
          (not_down f.a (λ s. omega linear))
          (ap (λ z. one_if (int_lt (pos 0) z)) turned ∙ alone (one_if (turns_left e f)))
        where
          alone : (z : ℤ) → z ≡ (pos 0 +ℤ z) +ℤ (pos 0 -ℤ pos 0)
          alone z = omega linear

          turned : gap f e (left +ℤ left +ℤ pos 1) (pos 4) ≡ edge_turn e f
          turned =
              let i = gap-left_of_end f e in
              let s = side_is in
              let level = mul-zero (width f) (e.b.y -ℤ f.b.y) (omega linear) in
              let none = mul-zero (width e) (side f (in_plane e.b)) (omega linear) in
              let none_more = mul-zero (pos 4) (width e *ℤ side f (in_plane e.b)) none in
              omega linear

  -- f starts over the end of e
  starting : f.a.x ≡ x → x <ℤ f.b.x → Sum
  starting same r = with_known false true false false (is_down_from e.b f.a) (not_over_left (inl (omega linear)))
      (over (omega linear) r) (other_place f.b (λ s. omega linear)) (not_down f.b (λ s. omega linear)) refl
      (nothing_left (one_if (is_down_from e.b f.a))
      ∙ ap (λ z. (one_if z +ℤ pos 0) +ℤ (pos 0 -ℤ one_if (is_down_from e.b f.a))) (sym as_down))
    where
      nothing_left : (z : ℤ) → pos 0 ≡ (z +ℤ pos 0) +ℤ (pos 0 -ℤ z)
      nothing_left z = omega linear

      side_is : side f (in_plane e.b) ≡ width f *ℤ (e.b.y -ℤ f.a.y)
      side_is = let i = side-over_start f e.b in let none = mul-zero (f.b.y -ℤ f.a.y) (e.b.x -ℤ f.a.x) (omega linear) in
          omega linear

      as_down : int_lt (pos 0) (side f (in_plane e.b)) ≡ is_down_from e.b f.a
      as_down = by_lt_z f.a.y e.b.y
          (λ low. let i = side_is in let high = mul-pos (width f) (e.b.y -ℤ f.a.y) (omega linear) (omega linear) in
          test_from_lt (pos 0) (side f (in_plane e.b)) (omega linear) ∙ sym (down_from f.a same low))
          (λ ge. let i = side_is in let low = mul-nonpos (width f) (e.b.y -ℤ f.a.y) (omega linear) (omega linear) in
          test_from_ge (pos 0) (side f (in_plane e.b)) (omega linear) ∙ sym (up_from f.a ge))

  -- f is vertical over the end of e
  standing : f.a.x ≡ x → f.b.x ≡ x → Sum
  standing same_a same_b = by_lt_z f.b.y e.b.y below (λ ge. by_lt_z e.b.y f.b.y above (λ le. at (omega linear)))
    where
      rises : pos 0 <ℤ (f.b.y -ℤ f.a.y)
      rises = rises_upright f forward (omega linear)

      below : f.b.y <ℤ e.b.y → Sum
      below low = let r = rises in with_known false false false true true (not_over_left (inl (omega linear)))
          (not_over (inr (omega linear))) (other_height f.b (λ s. omega linear)) (down_from f.b same_b low)
          (down_from f.a same_a (omega linear)) refl

      above : e.b.y <ℤ f.b.y → Sum
      above high = with_known false false false false false (not_over_left (inl (omega linear)))
          (not_over (inr (omega linear))) elsewhere (up_from f.b (omega linear))
          (up_from f.a (by_lt_z f.a.y e.b.y (λ low. absurd (inside low)) (λ ge. ge))) refl
        where
          elsewhere : point_eq f.b e.b ≡ false
          elsewhere = other_height f.b (λ s. omega linear)

          inside : f.a.y <ℤ e.b.y → ⊥
          inside low = ⊎_elim (λ (at : IsAt f.a (in_plane e.b)). let y = at.1 in omega (arith, ints))
              (λ (at : IsAt f.b (in_plane e.b)). let y = at.1 in omega (arith, ints))
              (ends_elsewhere elsewhere (in_plane e.b) (
                end_on e,
                record {
                  on_line = level;
                  in_x = inl (omega (arith, ints), omega (arith, ints));
                  in_y = inl (omega (arith, ints), omega (arith, ints));
                },
              )).1
            where
              level : side f (in_plane e.b) ≡ pos 0
              level =
                  let i = side-over_start f e.b in
                  let none = mul-zero (f.b.y -ℤ f.a.y) (e.b.x -ℤ f.a.x) (omega linear) in
                  let exchanged = *ℤ_comm (width f) (e.b.y -ℤ f.a.y) in
                  let none_too = mul-zero (e.b.y -ℤ f.a.y) (width f) (omega linear) in
                  omega linear

      at : f.b.y ≡ e.b.y → Sum
      at same_y = with_known false false true false true (not_over_left (inl (omega linear)))
          (not_over (inr (omega linear))) (point_eq-of_same f.b e.b (same_point f.b e.b same_b same_y))
          (up_from f.b (omega linear)) (down_from f.a same_a (let r = rises in omega linear))
          (ap (λ z. (pos 0 +ℤ one_if z) +ℤ (pos 0 -ℤ pos 1)) (sym turned))
        where
          turned : turns_left e f ≡ true
          turned =
              let high = mul-pos (width e) (f.b.y -ℤ f.a.y) wide rises in
              let none = mul-zero (e.b.y -ℤ e.a.y) (width f) (omega linear) in
              test_from_lt (pos 0) (edge_turn e f) (omega linear)

  -- under an edge that is not vertical, just left of its end
  pub under_to_end : one_if (covers f left (pos 2) && is_under f e left (pos 2)) ≡
      (one_if (is_strictly_below f (in_plane e.b)) +ℤ one_if (point_eq f.b e.b && turns_left e f)) +ℤ
      (one_if (is_down_from e.b f.b) -ℤ one_if (is_down_from e.b f.a))
  under_to_end = by_lt_z f.a.x x
      (λ l. by_lt_z f.b.x x (λ b. away (inl b))
      (λ ge. by_lt_z x f.b.x (λ r. passing l r) (λ le. ending l (omega linear))))
      (λ ge. by_lt_z x f.a.x (λ a. away (inr a))
      (λ le. by_lt_z x f.b.x (λ r. starting (omega linear) r)
      (λ b. standing (omega linear) (let first = starts_first f forward in omega linear))))
