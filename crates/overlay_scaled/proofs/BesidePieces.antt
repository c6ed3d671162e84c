-- The windings beside a piece, from those at its ends: an edge across the line of the piece crosses it at one of them,
-- or outside the piece.
use Rattle.std.proofs.Common.{◌≡◌, inr, ⊎_elim, Bool, true, false, cond, ◌&&◌, ℤ, pos, negsuc, ◌+ℤ◌, ◌-ℤ◌, ◌*ℤ◌}
use Rattle.std.proofs.Common.{◌<ℤ◌, ◌≤ℤ◌, int_lt, List, Contains, refl, sym, ap, ap₂, ◌∙◌, subst}
use lib.IntN.{+ℤ_idr}
use Rattle.std.proofs.lemmas.Bool.{false_from_ne_true}
use Rattle.std.proofs.lemmas.Int.{by_lt_z}
use Rattle.std.proofs.lemmas.List.Elements.{All-contains}
use Rattle.overlay_geom.specs.Edges.{CountedEdge, ends_of, winding_by}
use Rattle.overlay_geom.specs.Placed.{IsAlong}
use Rattle.overlay_geom.specs.Plane.{PlanePoint, Edge, IsOn, IsAt, SamePlace, Point, side, cross_at, edge_eq}
use Rattle.overlay_geom.specs.Plane.{point_lt, total}
use Rattle.overlay_geom.proofs.Beside.{beside_meet_in_ends}
use Rattle.overlay_geom.proofs.Cross.{cross_at_same, cross_at_first}
use Rattle.overlay_geom.proofs.Identities.{solve, ◌⊕◌, ◌⊗◌, ◌≗◌}
use Rattle.overlay_geom.proofs.Orders.{edge_eq-same}
use Rattle.overlay_geom.proofs.PointOrder.{IsBefore}
use Rattle.overlay_geom.proofs.Signs.{linear, by_sign, mul-neg}
use Rattle.overlay_plane.specs.EdgeLists.{IsForwardBy, IsBalanced}
use Rattle.overlay_plane.specs.Regions.{one_if}
use Rattle.overlay_plane.specs.Rounds.{IsSmaller}
use Rattle.overlay_plane.proofs.CommonPoints.{one_on_both, common_is_meeting}
use Rattle.overlay_plane.proofs.NodeWindings.{count-times}
use Rattle.overlay_plane.proofs.PlaceOrder.{on_between, on_same_place, place_of_smaller}
use Rattle.overlay_plane.proofs.Tests.{lt_from_test, ge_from_test, test_from_lt, test_from_ge}
use Rattle.overlay_plane.proofs.Totals.{total-same, total-add}
use Rattle.overlay_plane.proofs.WholeOnEdges.{forward_from_test, side_at}
use Rattle.overlay_scaled.specs.BesidePieces.{is_right_of, crossing_before}
use Rattle.overlay_scaled.specs.BesidePieces.{WindsFromEnds, WindingsBesidePieces}
use Rattle.overlay_scaled.specs.Pieces.{IsPiece, IsWithinPiece}
use Rattle.overlay_scaled.specs.Through.{is_on}
use Rattle.overlay_scaled.proofs.AlongALine.{crossed, winding_along_a_line}
use Rattle.overlay_scaled.proofs.CrossedLines.{CrossesAt, crosses_down, crosses_up, by_smaller, left_after}
use Rattle.overlay_scaled.proofs.CrossedLines.{right_before, right_after, left_before}
use Rattle.overlay_scaled.proofs.OnTests.{test_from_on, test_from_off}

-- nothing added
add_none : (t : Bool) (z : ℤ) → z ≡ z +ℤ one_if (t && false)
add_none true z = sym (+ℤ_idr z)
add_none false z = sym (+ℤ_idr z)

-- the other way round
flipped : (p q : PlanePoint) → SamePlace p q → SamePlace q p
flipped p q (x, y) = (sym x, sym y)

module _ (es : List CountedEdge) (forward : IsForwardBy ends_of es) (e : CountedEdge) (l m : PlanePoint)
    (piece : IsPiece es e l m) where
  before_of : (g : CountedEdge) → Contains es g → IsBefore g.a g.b
  before_of g c = forward_from_test (ends_of g) (All-contains (λ h. point_lt h.a h.b ≡ true) es g forward c)

  e_before : IsBefore e.a e.b
  e_before = before_of e piece.entry

  -- an edge of the list
  module _ (f : CountedEdge) (has : Contains es f) where
    f_before : IsBefore f.a f.b
    f_before = before_of f has

    abbrev at_a : ℤ
    at_a = cross_at e.a e.b f.a

    abbrev at_b : ℤ
    at_b = cross_at e.a e.b f.b

    -- that leads across the line
    module _ (x : CrossesAt (ends_of e) (ends_of f)) (apart : ¬ (at_b -ℤ at_a ≡ pos 0)) where
      not_along : ¬ (IsAlong (ends_of e) (ends_of f))
      not_along (a, b) = apart (omega linear)

      other : edge_eq (ends_of e) (ends_of f) ≡ false
      other = false_from_ne_true (edge_eq (ends_of e) (ends_of f))
          (λ t. not_along (subst (λ (g : Edge). IsAlong (ends_of e) g) (edge_eq-same (ends_of e) (ends_of f) t)
          (cross_at_first e.a e.b, cross_at_same e.a e.b)))

      -- it does not cross inside the piece
      not_inside : IsSmaller l x.point → IsSmaller x.point m → ⊥
      not_inside after before = piece.clear x.point (record {
        on = on_e;
        stop = inr (f, has, other, common_is_meeting (ends_of e) (ends_of f) x.point f_before not_along (on_e, x.on));
      }) after before
        where
          on_e : IsOn (ends_of e) x.point
          on_e = on_between (ends_of e) e_before l m x.point piece.from.on piece.to.on x.level
              (place_of_smaller l x.point after) (place_of_smaller x.point m before)

      -- points on both lines are on it
      through : (u : PlanePoint) → side (ends_of e) u ≡ pos 0 → side (ends_of f) u ≡ pos 0 → IsOn (ends_of f) u
      through u on_e on_f = on_same_place (ends_of f) f_before x.point u
          (one_on_both (ends_of e) (ends_of f) u x.point apart on_e on_f x.level x.on.on_line) x.on

      -- and they are where it crosses
      at_crossing : (u : PlanePoint) → SamePlace x.point u → side (ends_of f) u ≡ pos 0
      at_crossing u same = (on_same_place (ends_of f) f_before x.point u same x.on).on_line

    -- both ends on the right
    beside : at_a <ℤ pos 0 → at_b <ℤ pos 0 → (u : PlanePoint) → IsOn (ends_of e) u → ¬ (IsOn (ends_of f) u)
    beside right_a right_b u on_e on_f = ⊎_elim (at_end f.a right_a) (at_end f.b right_b)
        (beside_meet_in_ends (ends_of e) (ends_of f) f_before (inr (right_a, right_b)) u (on_e, on_f)).1
      where
        at_end : (v : Point) → cross_at e.a e.b v <ℤ pos 0 → IsAt v u → ⊥
        at_end v right at =
            let is = side_at (ends_of e) v u at in
            let negative = mul-neg u.d (cross_at e.a e.b v) u.positive right in
            let zero = on_e.on_line in
            omega linear

    abbrev is_left : PlanePoint → Bool
    is_left u = int_lt (pos 0) (side (ends_of f) u)

    left : (u : PlanePoint) → pos 0 <ℤ side (ends_of f) u → is_left u ≡ true
    left u h = test_from_lt (pos 0) (side (ends_of f) u) h

    not_left : (u : PlanePoint) → side (ends_of f) u ≤ℤ pos 0 → is_left u ≡ false
    not_left u h = test_from_ge (pos 0) (side (ends_of f) u) h

    off : (u : PlanePoint) → ¬ (side (ends_of f) u ≡ pos 0) → is_on (ends_of f) u ≡ false
    off u some = test_from_off (ends_of f) u (λ on. some on.on_line)

    module _ (p : PlanePoint) (within : IsWithinPiece e l m p) where
      at_l : side (ends_of e) l ≡ pos 0
      at_l = piece.from.on.on_line

      at_m : side (ends_of e) m ≡ pos 0
      at_m = piece.to.on.on_line

      at_p : side (ends_of e) p ≡ pos 0
      at_p = within.on.on_line

      -- ---- that leads to the right

      module _ (a_left : pos 0 ≤ℤ at_a) (b_right : at_b <ℤ pos 0) where
        down : pos 0 <ℤ (at_a -ℤ at_b)
        down = omega linear

        x_down : CrossesAt (ends_of e) (ends_of f)
        x_down = crosses_down (ends_of e) (ends_of f) a_left b_right

        apart_down : ¬ (at_b -ℤ at_a ≡ pos 0)
        apart_down zero = omega linear

        clear_down : side (ends_of f) l <ℤ pos 0 → pos 0 <ℤ side (ends_of f) m → ⊥
        clear_down right_l left_m = not_inside x_down apart_down
            (by_smaller l x_down.point (λ less. less)
            (λ same. absurd (let zero = at_crossing x_down apart_down l (flipped l x_down.point same) in omega linear))
            (λ more. absurd (let pos_l = left_after (ends_of e) (ends_of f) e_before x_down.point l x_down.level at_l
            more down (let zero = x_down.on.on_line in omega linear) in omega linear)))
            (by_smaller x_down.point m (λ less. less)
            (λ same. absurd (let zero = at_crossing x_down apart_down m same in omega linear))
            (λ more. absurd (let neg_m = right_before (ends_of e) (ends_of f) e_before m x_down.point at_m x_down.level
            more down (let zero = x_down.on.on_line in omega linear) in omega linear)))

        from_l : pos 0 ≤ℤ side (ends_of f) l → pos 0 <ℤ side (ends_of f) p
        from_l = left_after (ends_of e) (ends_of f) e_before l p at_l at_p within.after down

        from_m : side (ends_of f) m ≤ℤ pos 0 → side (ends_of f) p <ℤ pos 0
        from_m = right_before (ends_of e) (ends_of f) e_before p m at_p at_m within.before down

        start_down : one_if (is_left p) ≡ one_if (is_left l) +ℤ one_if (is_on (ends_of f) l && true)
        start_down = by_sign (side (ends_of f) l)
            (λ right_l. told false false false
            (not_left p (let less = from_m (by_lt_z (pos 0) (side (ends_of f) m)
            (λ left_m. absurd (clear_down right_l left_m)) (λ le. le)) in omega linear))
            (not_left l (omega linear)) (off l (λ zero. omega linear)) refl)
            (λ zero. told true false true (left p (from_l (omega linear))) (not_left l (omega linear))
            (test_from_on (ends_of f) l (through x_down apart_down l at_l zero)) refl)
            (λ left_l. told true true false (left p (from_l (omega linear))) (left l left_l)
            (off l (λ zero. omega linear)) refl)
          where
            told : (s t o : Bool) → is_left p ≡ s → is_left l ≡ t → is_on (ends_of f) l ≡ o →
                one_if s ≡ one_if t +ℤ one_if (o && true) →
                one_if (is_left p) ≡ one_if (is_left l) +ℤ one_if (is_on (ends_of f) l && true)
            told s t o is_p is_l on_l is = ap one_if is_p ∙ is
                ∙ sym (ap₂ (λ t o. one_if t +ℤ one_if (o && true)) is_l on_l)

        end_down : is_left p ≡ is_left m
        end_down = by_lt_z (pos 0) (side (ends_of f) m)
            (λ left_m. left p (from_l (by_lt_z (side (ends_of f) l) (pos 0)
            (λ right_l. absurd (clear_down right_l left_m)) (λ ge. ge))) ∙ sym (left m left_m))
            (λ le. not_left p (let less = from_m le in omega linear) ∙ sym (not_left m le))

      -- ---- that comes from the right

      module _ (a_right : at_a <ℤ pos 0) (b_left : pos 0 ≤ℤ at_b) where
        up : (at_a -ℤ at_b) <ℤ pos 0
        up = omega linear

        x_up : CrossesAt (ends_of e) (ends_of f)
        x_up = crosses_up (ends_of e) (ends_of f) a_right b_left

        apart_up : ¬ (at_b -ℤ at_a ≡ pos 0)
        apart_up zero = omega linear

        clear_up : pos 0 <ℤ side (ends_of f) l → side (ends_of f) m <ℤ pos 0 → ⊥
        clear_up left_l right_m = not_inside x_up apart_up
            (by_smaller l x_up.point (λ less. less)
            (λ same. absurd (let zero = at_crossing x_up apart_up l (flipped l x_up.point same) in omega linear))
            (λ more. absurd (let neg_l = right_after (ends_of e) (ends_of f) e_before x_up.point l x_up.level at_l
            more up (let zero = x_up.on.on_line in omega linear) in omega linear)))
            (by_smaller x_up.point m (λ less. less)
            (λ same. absurd (let zero = at_crossing x_up apart_up m same in omega linear))
            (λ more. absurd (let pos_m = left_before (ends_of e) (ends_of f) e_before m x_up.point at_m x_up.level
            more up (let zero = x_up.on.on_line in omega linear) in omega linear)))

        past_l : side (ends_of f) l ≤ℤ pos 0 → side (ends_of f) p <ℤ pos 0
        past_l = right_after (ends_of e) (ends_of f) e_before l p at_l at_p within.after up

        up_to_m : pos 0 ≤ℤ side (ends_of f) m → pos 0 <ℤ side (ends_of f) p
        up_to_m = left_before (ends_of e) (ends_of f) e_before p m at_p at_m within.before up

        start_up : is_left p ≡ is_left l
        start_up = by_lt_z (pos 0) (side (ends_of f) l)
            (λ left_l. left p (up_to_m (by_lt_z (side (ends_of f) m) (pos 0)
            (λ right_m. absurd (clear_up left_l right_m)) (λ ge. ge))) ∙ sym (left l left_l))
            (λ le. not_left p (let less = past_l le in omega linear) ∙ sym (not_left l le))

        end_up : cond (is_left p) (pos 0) (negsuc 0) ≡
            cond (is_left m) (pos 0) (negsuc 0) +ℤ one_if (is_on (ends_of f) m && true)
        end_up = by_sign (side (ends_of f) m)
            (λ right_m. told false false false
            (not_left p (let less = past_l (by_lt_z (pos 0) (side (ends_of f) l)
            (λ left_l. absurd (clear_up left_l right_m)) (λ le. le)) in omega linear))
            (not_left m (omega linear)) (off m (λ zero. omega linear)) refl)
            (λ zero. told true false true (left p (up_to_m (omega linear))) (not_left m (omega linear))
            (test_from_on (ends_of f) m (through x_up apart_up m at_m zero)) refl)
            (λ left_m. told true true false (left p (up_to_m (omega linear))) (left m left_m)
            (off m (λ zero. omega linear)) refl)
          where
            told : (s t o : Bool) → is_left p ≡ s → is_left m ≡ t → is_on (ends_of f) m ≡ o →
                cond s (pos 0) (negsuc 0) ≡ cond t (pos 0) (negsuc 0) +ℤ one_if (o && true) →
                cond (is_left p) (pos 0) (negsuc 0) ≡
                cond (is_left m) (pos 0) (negsuc 0) +ℤ one_if (is_on (ends_of f) m && true)
            told s t o is_p is_m on_m is = ap (λ t. cond t (pos 0) (negsuc 0)) is_p ∙ is
                ∙ sym (ap₂ (λ t o. cond t (pos 0) (negsuc 0) +ℤ one_if (o && true)) is_m on_m)

      -- ---- any edge

      none_on : is_right_of (ends_of e) f.a ≡ true → is_right_of (ends_of e) f.b ≡ true → (u : PlanePoint) →
          IsOn (ends_of e) u → pos 0 ≡ pos 0 +ℤ one_if (is_on (ends_of f) u && true)
      none_on a b u on = sym (ap (λ t. pos 0 +ℤ one_if (t && true)) (test_from_off (ends_of f) u
          (beside (lt_from_test at_a (pos 0) a) (lt_from_test at_b (pos 0) b) u on)))

      from_start_by : (ra rb : Bool) → is_right_of (ends_of e) f.a ≡ ra → is_right_of (ends_of e) f.b ≡ rb →
          crossed (is_left p) ra rb ≡ crossed (is_left l) ra rb +ℤ one_if (is_on (ends_of f) l && rb)
      from_start_by false false a b = add_none (is_on (ends_of f) l) (pos 0)
      from_start_by true true a b = none_on a b l piece.from.on
      from_start_by false true a b = start_down (ge_from_test at_a (pos 0) a) (lt_from_test at_b (pos 0) b)
      from_start_by true false a b = ap (λ t. cond t (pos 0) (negsuc 0))
          (start_up (lt_from_test at_a (pos 0) a) (ge_from_test at_b (pos 0) b))
          ∙ add_none (is_on (ends_of f) l) (cond (is_left l) (pos 0) (negsuc 0))

      from_end_by : (ra rb : Bool) → is_right_of (ends_of e) f.a ≡ ra → is_right_of (ends_of e) f.b ≡ rb →
          crossed (is_left p) ra rb ≡ crossed (is_left m) ra rb +ℤ one_if (is_on (ends_of f) m && ra)
      from_end_by false false a b = add_none (is_on (ends_of f) m) (pos 0)
      from_end_by true true a b = none_on a b m piece.to.on
      from_end_by false true a b = ap one_if (end_down (ge_from_test at_a (pos 0) a) (lt_from_test at_b (pos 0) b))
          ∙ add_none (is_on (ends_of f) m) (one_if (is_left m))
      from_end_by true false a b = end_up (lt_from_test at_a (pos 0) a) (ge_from_test at_b (pos 0) b)

      pub from_start : crossing_before (ends_of e) p (ends_of f) ≡ crossing_before (ends_of e) l (ends_of f)
          +ℤ one_if (is_on (ends_of f) l && is_right_of (ends_of e) f.b)
      from_start = from_start_by (is_right_of (ends_of e) f.a) (is_right_of (ends_of e) f.b) refl refl

      pub from_end : crossing_before (ends_of e) p (ends_of f) ≡ crossing_before (ends_of e) m (ends_of f)
          +ℤ one_if (is_on (ends_of f) m && is_right_of (ends_of e) f.a)
      from_end = from_end_by (is_right_of (ends_of e) f.a) (is_right_of (ends_of e) f.b) refl refl

  -- ---- all edges

  module _ (count : CountedEdge → ℤ) (balanced : IsBalanced ends_of count es) (p : PlanePoint)
      (within : IsWithinPiece e l m p) where
    -- the windings at two points of the line differ by what each edge adds
    from_place : (u : PlanePoint) → side (ends_of e) u ≡ pos 0 → (adds : CountedEdge → Bool) →
        ((f : CountedEdge) → Contains es f → crossing_before (ends_of e) p (ends_of f) ≡
        crossing_before (ends_of e) u (ends_of f) +ℤ one_if (adds f)) →
        winding_by count es p ≡ winding_by count es u +ℤ total (λ f. cond (adds f) (count f) (pos 0)) es
    from_place u at_u adds is = at_line p within.on.on_line
        ∙ total-same (λ f. count f *ℤ crossing_before (ends_of e) p (ends_of f))
        (λ f. count f *ℤ crossing_before (ends_of e) u (ends_of f) +ℤ cond (adds f) (count f) (pos 0)) es
        (λ f c. ap (λ z. count f *ℤ z) (is f c)
        ∙ solve 3 (λ c s t. c ⊗ (s ⊕ t) ≗ c ⊗ s ⊕ c ⊗ t) tt (count f) (crossing_before (ends_of e) u (ends_of f))
        (one_if (adds f))
        ∙ ap (λ z. count f *ℤ crossing_before (ends_of e) u (ends_of f) +ℤ z) (sym (count-times (adds f) (count f))))
        ∙ total-add (λ f. count f *ℤ crossing_before (ends_of e) u (ends_of f))
        (λ f. cond (adds f) (count f) (pos 0)) es
        ∙ ap (λ z. z +ℤ total (λ f. cond (adds f) (count f) (pos 0)) es) (sym (at_line u at_u))
      where
        at_line : (v : PlanePoint) → side (ends_of e) v ≡ pos 0 →
            winding_by count es v ≡ total (λ f. count f *ℤ crossing_before (ends_of e) v (ends_of f)) es
        at_line v level = winding_along_a_line count es forward balanced (ends_of e)
            (All-contains (λ h. point_lt h.a h.b ≡ true) es e forward piece.entry) v level

    winds : WindsFromEnds count es e l m p
    winds = record {
      from_start = from_place l piece.from.on.on_line
          (λ f. is_on (ends_of f) l && is_right_of (ends_of e) f.b) (λ f c. from_start f c p within);
      from_end = from_place m piece.to.on.on_line
          (λ f. is_on (ends_of f) m && is_right_of (ends_of e) f.a) (λ f c. from_end f c p within);
    }

pub windings_beside_pieces : WindingsBesidePieces
windings_beside_pieces count es forward balanced e l m p piece within = winds es forward e l m piece count balanced p
    within
