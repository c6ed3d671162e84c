-- The winding is 0 up to the leftmost lowest point of the edges that count.
use Rattle.std.proofs.Common.{◌≡◌, ⊎_elim, Bool, true, false, cond, ◌&&◌, ℤ, pos, ◌+ℤ◌, ◌-ℤ◌, ◌<ℤ◌, int_lt, List}
use Rattle.std.proofs.Common.{Contains, refl, sym, ap, ap₂, ◌∙◌, subst, arith}
use Rattle.std.proofs.lemmas.Bool.{false≢true, false_from_ne_true, and_parts}
use Rattle.std.proofs.lemmas.Int.{ints}
use Rattle.overlay_geom.specs.Plane.{Point, Edge, point_lt, point_eq, edge_eq, in_plane, side, is_strictly_below}
use Rattle.overlay_geom.specs.Edges.{CountedEdge, ends_of, winding_by, winding_below, winding_above}
use Rattle.overlay_geom.proofs.Signs.{linear, by_sign, mul-zero, pos_of_mul-pos}
use Rattle.overlay_geom.proofs.Orders.{point_eq-same, edge_eq-same, point_eq-of_same, point_lt-itself, point_lt-order}
use Rattle.overlay_geom.proofs.PointOrder.{Decides-point_lt, point_lt-transitive, point_lt-before_up_to}
use Rattle.overlay_plane.specs.Heights.{width, covers}
use Rattle.overlay_plane.specs.Nodes.{IsBalancedArrangement, edge_turn, turns_left, total_starting}
use Rattle.overlay_plane.specs.Nodes.{total_starting_under}
use Rattle.overlay_plane.specs.Leftmost.{CountsNothingBefore, HasEndBefore, CountsNothingAbove, CountsNothingBelow}
use Rattle.overlay_plane.specs.Leftmost.{NothingBeforeTheLeftmost}
use Rattle.overlay_plane.proofs.Tests.{lt_from_test, test_from_lt, test_from_ge}
use Rattle.overlay_plane.proofs.Totals.{total-same, total-zero, total-add}
use Rattle.overlay_plane.proofs.Under.{covers_from, covers_wide}
use Rattle.overlay_plane.proofs.NearAbscissas.{side-over_start}
use Rattle.overlay_plane.proofs.NodeWindings.{winding_from_a_start, node_is_balanced}
use Rattle.overlay_plane.proofs.SameWay.{same_from_start}
use Rattle.overlay_plane.proofs.SingleEntries.{single_total}
use Rattle.overlay_plane.proofs.EdgeTurns.{edge_turn_exchanged, edge_turn_same}
use Rattle.overlay_plane.proofs.SpokeWindings.{forward_entry}

-- ---- where an edge below a point starts

-- an edge strictly below a point starts before it
pub below_starts_before : (f : Edge) (v : Point) → is_strictly_below f (in_plane v) ≡ true → point_lt f.a v ≡ true
below_starts_before f v t =
    let both = and_parts (covers f v.x (pos 1)) (int_lt (pos 0) (side f (in_plane v))) t in
    let from = covers_from f v.x (pos 1) both.0 in
    (Decides-point_lt f.a v).1 (record {
      x = omega (arith, ints);
      y = λ le. higher both.0 (lt_from_test (pos 0) (side f (in_plane v)) both.1) (omega (arith, ints));
    })
  where
    higher : covers f v.x (pos 1) ≡ true → pos 0 <ℤ side f (in_plane v) → f.a.x ≡ v.x → f.a.y <ℤ v.y
    higher over above same =
        let i = side-over_start f v in
        let none = mul-zero (f.b.y -ℤ f.a.y) (v.x -ℤ f.a.x) (omega linear) in
        let up = pos_of_mul-pos (width f) (v.y -ℤ f.a.y) (covers_wide f v.x (pos 1) (record { lt = tt }) over)
        (omega linear) in
        omega linear

-- ---- edges that count

-- a count that is 0 where it is read
cond_zero : (s : Bool) (c : ℤ) → (s ≡ true → c ≡ pos 0) → cond s c (pos 0) ≡ pos 0
cond_zero true c h = h refl
cond_zero false c h = refl

module _ (count : CountedEdge → ℤ) (es : List CountedEdge) (arranged : IsBalancedArrangement count es) (q : Point)
    (nothing : CountsNothingBefore count es q) where
  -- at points that are not after q the winding is 0
  at_points : (v : Point) → point_lt q v ≡ false → winding_by count es (in_plane v) ≡ pos 0
  at_points v not_later = total-zero (λ f. cond (is_strictly_below (ends_of f) (in_plane v)) (count f) (pos 0)) es
      (λ f at. cond_zero (is_strictly_below (ends_of f) (in_plane v)) (count f)
      (λ below. nothing f at (point_lt-before_up_to f.a v q (below_starts_before (ends_of f) v below) not_later)))

  -- an edge with an end before q starts before it
  starts_earlier : (e : CountedEdge) → Contains es e → HasEndBefore q e → point_lt e.a q ≡ true
  starts_earlier e at before = ⊎_elim (λ starts. starts)
      (λ ends. point_lt-transitive e.a e.b q (forward_entry count es arranged e at) ends) before

  -- below such an edge the winding is 0
  below_earlier : (e : CountedEdge) → Contains es e → HasEndBefore q e → winding_below count es e ≡ pos 0
  below_earlier e at before = winding_from_a_start count es arranged e at
      ∙ ap₂ (λ a b. a +ℤ b) (at_points e.a (point_lt-order.one_way e.a q (starts_earlier e at before)))
      (total-zero (λ f. cond (point_eq f.a e.a && turns_left (ends_of f) (ends_of e)) (count f) (pos 0)) es
      (λ f is. cond_zero (point_eq f.a e.a && turns_left (ends_of f) (ends_of e)) (count f)
      (λ both. nothing f is (subst (λ (p : Point). point_lt p q ≡ true)
      (sym (point_eq-same f.a e.a (and_parts (point_eq f.a e.a) (turns_left (ends_of f) (ends_of e)) both).0))
      (starts_earlier e at before)))))

  -- the winding is 0 above it
  above_earlier : (e : CountedEdge) → Contains es e → HasEndBefore q e → winding_above count es e ≡ pos 0
  above_earlier e at before = ap₂ (λ a b. a +ℤ b) (below_earlier e at before)
      (nothing e at (starts_earlier e at before))

  -- at q itself
  at_q : winding_by count es (in_plane q) ≡ pos 0
  at_q = at_points q (point_lt-itself q)

  -- the winding is 0 below the edge that starts lowest in q
  below_lowest : (e : CountedEdge) → Contains es e → e.a ≡ q → CountsNothingBelow count es q e →
      winding_below count es e ≡ pos 0
  below_lowest e at same none = winding_from_a_start count es arranged e at
      ∙ ap₂ (λ a b. a +ℤ b) (subst (λ (p : Point). winding_by count es (in_plane p) ≡ pos 0) (sym same) at_q)
      (total-zero (λ f. cond (point_eq f.a e.a && turns_left (ends_of f) (ends_of e)) (count f) (pos 0)) es
      (λ f is. cond_zero (point_eq f.a e.a && turns_left (ends_of f) (ends_of e)) (count f)
      (λ both. let tests = and_parts (point_eq f.a e.a) (turns_left (ends_of f) (ends_of e)) both in
      none f is (point_eq-same f.a e.a tests.0 ∙ same) tests.1)))

  -- no counts start in q, all in all
  none_starting : total_starting count es q ≡ pos 0
  none_starting = node_is_balanced count es arranged.balanced q
      ∙ total-zero (λ f. cond (point_eq f.b q) (count f) (pos 0)) es
      (λ f at. cond_zero (point_eq f.b q) (count f)
      (λ ends. nothing f at (subst (λ (p : Point). point_lt f.a p ≡ true) (point_eq-same f.b q ends)
      (forward_entry count es arranged f at))))

  -- the winding is 0 above the edge that starts topmost in q
  above_top : (e : CountedEdge) → Contains es e → e.a ≡ q → CountsNothingAbove count es q e →
      winding_above count es e ≡ pos 0
  above_top e at same none = together (winding_below count es e) (winding_by count es (in_plane e.a))
      (total_starting_under count es e) (count e) (total_starting count es q)
      (winding_from_a_start count es arranged e at) (subst (λ (p : Point). winding_by count es (in_plane p) ≡ pos 0)
      (sym same) at_q)
      (total-same (λ f. cond (point_eq f.a q) (count f) (pos 0)) (λ f. under f +ℤ itself f) es each
      ∙ total-add under itself es ∙ ap (λ z. total_starting_under count es e +ℤ z)
      (single_total es arranged.planar.distinct count e at))
      none_starting
    where
      together : (b w u c s : ℤ) → b ≡ w +ℤ u → w ≡ pos 0 → s ≡ u +ℤ c → s ≡ pos 0 → b +ℤ c ≡ pos 0
      together b w u c s h i j k = omega linear

      under : CountedEdge → ℤ
      under f = cond (point_eq f.a e.a && turns_left (ends_of f) (ends_of e)) (count f) (pos 0)

      itself : CountedEdge → ℤ
      itself f = cond (edge_eq (ends_of f) (ends_of e)) (count f) (pos 0)

      each : (f : CountedEdge) → Contains es f → cond (point_eq f.a q) (count f) (pos 0) ≡ under f +ℤ itself f
      each f is = by (point_eq f.a q) refl
        where
          tests : (s s' : Bool) (t t' i i' : Bool) → s ≡ s' → t ≡ t' → i ≡ i' →
              (c : ℤ) → cond s' c (pos 0) ≡ cond (s' && t') c (pos 0) +ℤ cond i' c (pos 0) →
              cond s c (pos 0) ≡ cond (s && t) c (pos 0) +ℤ cond i c (pos 0)
          tests s s' t t' i i' es et ei c h = subst (λ z. cond z c (pos 0) ≡ cond (z && t) c (pos 0) +ℤ cond i c
              (pos 0)) (sym es) (subst (λ z. cond s' c (pos 0) ≡ cond (s' && z) c (pos 0) +ℤ cond i c (pos 0)) (sym et)
              (subst (λ z. cond s' c (pos 0) ≡ cond (s' && t') c (pos 0) +ℤ cond z c (pos 0)) (sym ei) h))

          alike : point_eq f.a q ≡ point_eq f.a e.a
          alike = ap (λ (p : Point). point_eq f.a p) (sym same)

          to_one : cond (point_eq f.a e.a) (count f) (pos 0) ≡ under f +ℤ itself f →
              cond (point_eq f.a q) (count f) (pos 0) ≡ under f +ℤ itself f
          to_one h = ap (λ t. cond t (count f) (pos 0)) alike ∙ h

          not_itself : ¬ (edge_turn (ends_of f) (ends_of e) ≡ pos 0) → edge_eq (ends_of f) (ends_of e) ≡ false
          not_itself off = false_from_ne_true (edge_eq (ends_of f) (ends_of e))
              (λ one. off (subst (λ (h : Edge). edge_turn h (ends_of e) ≡ pos 0)
              (sym (edge_eq-same (ends_of f) (ends_of e) one)) (edge_turn_same (ends_of e))))

          l : Bool
          l = turns_left (ends_of f) (ends_of e)

          i : Bool
          i = edge_eq (ends_of f) (ends_of e)

          first : (c : ℤ) → c ≡ c +ℤ pos 0
          first c = omega linear

          second : (c : ℤ) → c ≡ pos 0 +ℤ c
          second c = omega linear

          by : (s : Bool) → point_eq f.a q ≡ s → cond (point_eq f.a q) (count f) (pos 0) ≡ under f +ℤ itself f
          by true starts = to_one (by_sign (edge_turn (ends_of f) (ends_of e))
              (λ low. tests (point_eq f.a e.a) true l false i false (sym alike ∙ starts)
              (test_from_ge (pos 0) (edge_turn (ends_of f) (ends_of e)) (omega linear))
              (not_itself (λ z. omega linear)) (count f)
              (none f is (point_eq-same f.a q starts) (test_from_lt (pos 0) (edge_turn (ends_of e) (ends_of f))
              (let o = edge_turn_exchanged (ends_of e) (ends_of f) in omega linear))))
              (λ level. tests (point_eq f.a e.a) true l false i true (sym alike ∙ starts)
              (test_from_ge (pos 0) (edge_turn (ends_of f) (ends_of e)) (omega linear))
              (same_from_start (ends_of f) (ends_of e) (forward_entry count es arranged f is)
              (forward_entry count es arranged e at) level (arranged.planar.settled f e is at)
              (point_eq-same f.a q starts
              ∙ sym same)) (count f) (second (count f)))
              (λ high. tests (point_eq f.a e.a) true l true i false (sym alike ∙ starts)
              (test_from_lt (pos 0) (edge_turn (ends_of f) (ends_of e)) high) (not_itself (λ z. omega linear))
              (count f) (first (count f))))
          by false other = to_one (tests (point_eq f.a e.a) false l l i false (sym alike ∙ other) refl
              (false_from_ne_true i (λ one. false≢true
              (sym other ∙ point_eq-of_same f.a q (ap (λ (h : Edge). h.a) (edge_eq-same (ends_of f) (ends_of e) one)
              ∙ same)))) (count f) refl)

-- up to q the winding is 0
pub nothing_before_the_leftmost : NothingBeforeTheLeftmost
nothing_before_the_leftmost count es arranged q nothing = record {
  at_points = at_points count es arranged q nothing;
  below_earlier = below_earlier count es arranged q nothing;
  above_earlier = above_earlier count es arranged q nothing;
  above_top = above_top count es arranged q nothing;
  below_lowest = below_lowest count es arranged q nothing;
}
