-- The edges through a point of a piece run along it: from its start they lead on, and to its end they come up.
use Rattle.std.proofs.Common.{◌≡◌, inl, inr, ◌&&◌, pos, cond, not, List, Contains, sym, ap, ◌∙◌, subst, true}
use Rattle.std.specs.Bool.{Decides}
use Rattle.std.proofs.lemmas.Bool.{cases_Bool}
use Rattle.std.proofs.lemmas.Bool.Decides.{Decides-and, Decides-not}
use Rattle.std.proofs.lemmas.List.Elements.{All-contains}
use Rattle.overlay_geom.specs.Edges.{CountedEdge, ends_of}
use Rattle.overlay_geom.specs.Placed.{IsAlong}
use Rattle.overlay_geom.specs.Plane.{Point, PlanePoint, Edge, IsOn, IsEnd, IsAt, SamePlace, side, cross_at, edge_eq}
use Rattle.overlay_geom.specs.Plane.{in_plane, point_lt}
use Rattle.overlay_geom.proofs.OneLine.{along_exchanged}
use Rattle.overlay_geom.proofs.Cross.{cross_at_same, cross_at_first}
use Rattle.overlay_geom.proofs.Orders.{edge_eq-same}
use Rattle.overlay_geom.proofs.PointOrder.{IsBefore}
use Rattle.overlay_geom.proofs.Signs.{linear, mul-zero}
use Rattle.overlay_plane.specs.CutPoints.{are_along}
use Rattle.overlay_plane.specs.EdgeLists.{IsForwardBy}
use Rattle.overlay_plane.specs.Rounds.{IsSmaller}
use Rattle.overlay_plane.proofs.CommonPoints.{common_cases, end_is_meeting, Decides-are_along}
use Rattle.overlay_plane.proofs.Ends.{start_on, end_on}
use Rattle.overlay_plane.proofs.LinesWithin.{on_line_of}
use Rattle.overlay_plane.proofs.PlaceOrder.{IsUpToPlace, on_between, place_of_smaller, place_of_same}
use Rattle.overlay_plane.proofs.PlaceOrder.{place_up_to_through, start_up_to_place, place_up_to_end}
use Rattle.overlay_plane.proofs.SmallerPoints.{Decides-is_smaller, smaller-transitive}
use Rattle.overlay_plane.proofs.Tests.{same_tests}
use Rattle.overlay_plane.proofs.Totals.{total-same}
use Rattle.overlay_plane.proofs.WholeOnEdges.{forward_from_test, side_at, at_itself, same_place_at, Decides-is_at}
use Rattle.overlay_plane.proofs.WholePlaces.{at_moved}
use Rattle.overlay_scaled.specs.BesidePieces.{is_at, CountsAlongPieces}
use Rattle.overlay_scaled.specs.Pieces.{IsPlaceOn, IsPiece, IsWithinPiece}
use Rattle.overlay_scaled.specs.Through.{is_on}
use Rattle.overlay_scaled.proofs.CrossedLines.{by_smaller}
use Rattle.overlay_scaled.proofs.OnTests.{on_from_test, test_from_on}

-- ---- order

-- the other way round
flipped : (p q : PlanePoint) → SamePlace p q → SamePlace q p
flipped p q (x, y) = (sym x, sym y)

-- no point is smaller than one that is up to it
not_back : (p q : PlanePoint) → IsSmaller p q → IsUpToPlace q p → ⊥
not_back p q (inl lt) up = let le = up.x in omega linear
not_back p q (inr (same, lt)) up = let le = up.y (omega linear) in omega linear

-- `smaller` is transitive
through_smaller : (p q r : PlanePoint) → IsSmaller p q → IsSmaller q r → IsSmaller p r
through_smaller p q r first second = (Decides-is_smaller p r).0 (smaller-transitive p q r
    ((Decides-is_smaller p q).1 first) ((Decides-is_smaller q r).1 second))

-- ---- one edge

module _ (es : List CountedEdge) (forward : IsForwardBy ends_of es) (e : CountedEdge) (l m p : PlanePoint)
    (piece : IsPiece es e l m) (within : IsWithinPiece e l m p) (f : CountedEdge) (has : Contains es f) where
  before_of : (g : CountedEdge) → Contains es g → IsBefore g.a g.b
  before_of g c = forward_from_test (ends_of g) (All-contains (λ h. point_lt h.a h.b ≡ true) es g forward c)

  e_before : IsBefore e.a e.b
  e_before = before_of e piece.entry

  f_before : IsBefore f.a f.b
  f_before = before_of f has

  -- ---- no end of f is inside the piece

  end_is_place : (u : PlanePoint) → IsOn (ends_of e) u → IsOn (ends_of f) u → IsEnd (ends_of f) u → IsPlaceOn es e u
  end_is_place u on_e on_f end = record {
    on = on_e;
    stop = elim (cases_Bool (edge_eq (ends_of e) (ends_of f))) [
      | inl same ↦ inl (subst (λ (g : Edge). IsEnd g u) (sym (edge_eq-same (ends_of e) (ends_of f) same)) end)
      | inr other ↦ inr (f, has, other, end_is_meeting (ends_of e) (ends_of f) u (on_e, on_f) (inr end))
    ];
  }

  not_inside : (u : PlanePoint) → IsOn (ends_of e) u → IsOn (ends_of f) u → IsEnd (ends_of f) u → IsSmaller l u →
      IsSmaller u m → ⊥
  not_inside u on_e on_f end after before = piece.clear u (end_is_place u on_e on_f end) after before

  p_no_end : IsOn (ends_of f) p → ¬ (IsEnd (ends_of f) p)
  p_no_end on end = not_inside p within.on on end within.after within.before

  -- ---- f runs along e

  runs_along : IsOn (ends_of f) p → IsAlong (ends_of e) (ends_of f)
  runs_along on = elim (cases_Bool (edge_eq (ends_of e) (ends_of f))) [
    | inl same ↦ subst (λ (g : Edge). IsAlong (ends_of e) g) (edge_eq-same (ends_of e) (ends_of f) same)
        (cross_at_first e.a e.b, cross_at_same e.a e.b)
    | inr other ↦ elim (common_cases (ends_of e) (ends_of f) p f_before (within.on, on)) [
      | inl meeting ↦ absurd (piece.clear p (record { on = within.on; stop = inr (f, has, other, meeting) })
          within.after within.before)
      | inr along ↦ along.0
    ]
  ]

  module _ (along : IsAlong (ends_of e) (ends_of f)) where
    -- points of e's line are on f's line
    level : (u : PlanePoint) → side (ends_of e) u ≡ pos 0 → side (ends_of f) u ≡ pos 0
    level u = on_line_of (ends_of f) (ends_of e) u e_before
        (along_exchanged (ends_of e) (ends_of f) e_before along)

    level_at : (v : Point) → cross_at e.a e.b v ≡ pos 0 → side (ends_of e) (in_plane v) ≡ pos 0
    level_at v zero = side_at (ends_of e) v (in_plane v) (at_itself v) ∙ mul-zero (pos 1) (cross_at e.a e.b v) zero

    -- an end of f between two points of the piece is inside it
    no_start : (u w : PlanePoint) → IsOn (ends_of e) u → IsOn (ends_of e) w → IsSmaller l (in_plane f.a) →
        IsSmaller (in_plane f.a) m → IsSmaller u (in_plane f.a) → IsSmaller (in_plane f.a) w → ⊥
    no_start u w on_u on_w after before from to = not_inside (in_plane f.a)
        (on_between (ends_of e) e_before u w (in_plane f.a) on_u on_w (level_at f.a along.0)
        (place_of_smaller u (in_plane f.a) from) (place_of_smaller (in_plane f.a) w to))
        (start_on (ends_of f)) (inl (at_itself f.a)) after before

    no_stop : (u w : PlanePoint) → IsOn (ends_of e) u → IsOn (ends_of e) w → IsSmaller l (in_plane f.b) →
        IsSmaller (in_plane f.b) m → IsSmaller u (in_plane f.b) → IsSmaller (in_plane f.b) w → ⊥
    no_stop u w on_u on_w after before from to = not_inside (in_plane f.b)
        (on_between (ends_of e) e_before u w (in_plane f.b) on_u on_w (level_at f.b along.1)
        (place_of_smaller u (in_plane f.b) from) (place_of_smaller (in_plane f.b) w to))
        (end_on (ends_of f)) (inr (at_itself f.b)) after before

    at_start : (u : PlanePoint) → SamePlace (in_plane f.a) u → IsAt f.a u
    at_start u same = at_moved f.a (in_plane f.a) u same (at_itself f.a)

    at_stop : (u : PlanePoint) → SamePlace (in_plane f.b) u → IsAt f.b u
    at_stop u same = at_moved f.b (in_plane f.b) u same (at_itself f.b)

    -- ---- from the start of the piece

    start_before : IsOn (ends_of f) p → IsUpToPlace (in_plane f.a) l
    start_before on = by_smaller l (in_plane f.a)
        (λ after. absurd (by_smaller (in_plane f.a) p
        (λ less. no_start l p piece.from.on within.on after
        (through_smaller (in_plane f.a) p m less within.before) after less)
        (λ same. p_no_end on (inl (at_start p same)))
        (λ more. not_back p (in_plane f.a) more (start_up_to_place (ends_of f) f_before p on))))
        (λ same. place_of_same (in_plane f.a) l (flipped l (in_plane f.a) same))
        (λ less. place_of_smaller (in_plane f.a) l less)

    through_start : IsOn (ends_of f) p → IsOn (ends_of f) l
    through_start on = on_between (ends_of f) f_before (in_plane f.a) p l (start_on (ends_of f)) on
        (level l piece.from.on.on_line) (start_before on) (place_of_smaller l p within.after)

    leads_on : IsOn (ends_of f) p → ¬ (IsAt f.b l)
    leads_on on at = not_back l p within.after (place_up_to_through p (in_plane f.b) l
        (place_up_to_end (ends_of f) f_before p on)
        (place_of_same (in_plane f.b) l (same_place_at f.b (in_plane f.b) l (at_itself f.b) at)))

    on_from_start : IsOn (ends_of f) l → ¬ (IsAt f.b l) → IsOn (ends_of f) p
    on_from_start on_l goes_on = by_smaller p (in_plane f.b)
        (λ less. to_end (place_of_smaller p (in_plane f.b) less))
        (λ same. to_end (place_of_same p (in_plane f.b) same))
        (λ stops. absurd (by_smaller l (in_plane f.b)
        (λ after. no_stop l p piece.from.on within.on after
        (through_smaller (in_plane f.b) p m stops within.before) after stops)
        (λ same. goes_on (at_stop l (flipped l (in_plane f.b) same)))
        (λ less. not_back (in_plane f.b) l less (place_up_to_end (ends_of f) f_before l on_l))))
      where
        to_end : IsUpToPlace p (in_plane f.b) → IsOn (ends_of f) p
        to_end up = on_between (ends_of f) f_before l (in_plane f.b) p on_l (end_on (ends_of f))
            (level p within.on.on_line) (place_of_smaller l p within.after) up

    -- ---- from its end

    stop_after : IsOn (ends_of f) p → IsUpToPlace m (in_plane f.b)
    stop_after on = by_smaller (in_plane f.b) m
        (λ before. absurd (by_smaller p (in_plane f.b)
        (λ more. no_stop p m within.on piece.to.on (through_smaller l p (in_plane f.b) within.after more) before
        more before)
        (λ same. p_no_end on (inr (at_stop p (flipped p (in_plane f.b) same))))
        (λ less. not_back (in_plane f.b) p less (place_up_to_end (ends_of f) f_before p on))))
        (λ same. place_of_same m (in_plane f.b) (flipped (in_plane f.b) m same))
        (λ more. place_of_smaller m (in_plane f.b) more)

    through_end : IsOn (ends_of f) p → IsOn (ends_of f) m
    through_end on = on_between (ends_of f) f_before p (in_plane f.b) m on (end_on (ends_of f))
        (level m piece.to.on.on_line) (place_of_smaller p m within.before) (stop_after on)

    comes_up : IsOn (ends_of f) p → ¬ (IsAt f.a m)
    comes_up on at = not_back p m within.before (place_up_to_through m (in_plane f.a) p
        (place_of_same m (in_plane f.a) (same_place_at f.a m (in_plane f.a) at (at_itself f.a)))
        (start_up_to_place (ends_of f) f_before p on))

    on_from_end : IsOn (ends_of f) m → ¬ (IsAt f.a m) → IsOn (ends_of f) p
    on_from_end on_m comes = by_smaller (in_plane f.a) p
        (λ less. from_start (place_of_smaller (in_plane f.a) p less))
        (λ same. from_start (place_of_same (in_plane f.a) p same))
        (λ starts. absurd (by_smaller (in_plane f.a) m
        (λ before. no_start p m within.on piece.to.on (through_smaller l p (in_plane f.a) within.after starts) before
        starts before)
        (λ same. comes (at_start m same))
        (λ more. not_back m (in_plane f.a) more (start_up_to_place (ends_of f) f_before m on_m))))
      where
        from_start : IsUpToPlace (in_plane f.a) p → IsOn (ends_of f) p
        from_start up = on_between (ends_of f) f_before (in_plane f.a) m p (start_on (ends_of f)) on_m
            (level p within.on.on_line) up (place_of_smaller p m within.before)

  -- ---- by tests

  decides : (v : Point) (u : PlanePoint) → Decides (is_on (ends_of f) u && are_along (ends_of e) (ends_of f) && not
      (is_at v u)) ((IsOn (ends_of f) u × IsAlong (ends_of e) (ends_of f)) × (¬ (IsAt v u)))
  decides v u = Decides-and _ _ (Decides-and _ _ (on_from_test (ends_of f) u, test_from_on (ends_of f) u)
      (Decides-are_along (ends_of e) (ends_of f))) (Decides-not (is_at v u) (Decides-is_at v u))

  pub tested_from_start : is_on (ends_of f) p ≡
      is_on (ends_of f) l && are_along (ends_of e) (ends_of f) && not (is_at f.b l)
  tested_from_start = same_tests _ _
      (λ t. let on = on_from_test (ends_of f) p t in let along = runs_along on in
      (decides f.b l).1 ((through_start along on, along), leads_on along on))
      (λ t. let h = (decides f.b l).0 t in test_from_on (ends_of f) p (on_from_start h.0.1 h.0.0 h.1))

  pub tested_from_end : is_on (ends_of f) p ≡
      is_on (ends_of f) m && are_along (ends_of e) (ends_of f) && not (is_at f.a m)
  tested_from_end = same_tests _ _
      (λ t. let on = on_from_test (ends_of f) p t in let along = runs_along on in
      (decides f.a m).1 ((through_end along on, along), comes_up along on))
      (λ t. let h = (decides f.a m).0 t in test_from_on (ends_of f) p (on_from_end h.0.1 h.0.0 h.1))

-- ---- all edges

pub counts_along_pieces : CountsAlongPieces
counts_along_pieces count es forward e l m p piece within = record {
  from_start = total-same (λ f. cond (is_on (ends_of f) p) (count f) (pos 0))
      (λ f. cond (is_on (ends_of f) l && are_along (ends_of e) (ends_of f) && not (is_at f.b l)) (count f) (pos 0)) es
      (λ f c. ap (λ t. cond t (count f) (pos 0)) (tested_from_start es forward e l m p piece within f c));
  from_end = total-same (λ f. cond (is_on (ends_of f) p) (count f) (pos 0))
      (λ f. cond (is_on (ends_of f) m && are_along (ends_of e) (ends_of f) && not (is_at f.a m)) (count f) (pos 0)) es
      (λ f c. ap (λ t. cond t (count f) (pos 0)) (tested_from_end es forward e l m p piece within f c));
}
