-- Of the steps of a chain along an edge's line, those that pass a point back and forth cancel out. Their signs add up
-- to 1 for a point of the edge, else to 0, where no stop of the chain is at the point.
use lib.IntN.{+ℤ_idr}
use Rattle.std.proofs.Common.{◌≡◌, Bool, true, false, cond, ℤ, pos, negsuc, ◌-ℤ◌, List, [], ◌∷◌, ◌++◌, refl, sym, ap}
use Rattle.std.proofs.Common.{ap₂}
use Rattle.std.proofs.Common.{◌∙◌, arith, Contains}
use Rattle.std.specs.List.{All}
use Rattle.std.specs.Ordering.{int_eq}
use Rattle.std.proofs.lemmas.Bool.{false_from_ne_true}
use Rattle.std.proofs.lemmas.Bool.Decides.{Decides-int_eq}
use Rattle.std.proofs.lemmas.Int.{ints}
use Rattle.std.proofs.lemmas.List.Elements.{Contains-append_right}
use Rattle.overlay_geom.specs.Plane.{Point, PlanePoint, Step, Edge, IsOn, IsAt, side, cross_at, point_eq, point_lt}
use Rattle.overlay_geom.specs.Plane.{edge_of, sign_of, steps_between, steps_through, total}
use Rattle.overlay_geom.proofs.AlongEdge.{over, place_of, on_of_order, order_of_on, over_up_to}
use Rattle.overlay_geom.proofs.OneLine.{along_exchanged}
use Rattle.overlay_geom.proofs.Orders.{point_eq-same, point_lt-back}
use Rattle.overlay_geom.proofs.PointOrder.{IsBefore, Decides-point_lt, by_order, before_up_to, up_to_both}
use Rattle.overlay_geom.proofs.PointOrder.{up_to_through, not_before_up_to}
use Rattle.overlay_plane.specs.Regions.{one_if}
use Rattle.overlay_plane.proofs.AlongLines.{nothing_left}
use Rattle.overlay_plane.proofs.Entries.{all_of_entries}
use Rattle.overlay_plane.proofs.LinesWithin.{on_line_of}
use Rattle.overlay_plane.proofs.Telescopes.{rises_along, last_from-append}
use Rattle.overlay_plane.proofs.Totals.{Contains-head, Contains-later}
use Rattle.overlay_plane.proofs.WholeOnEdges.{by_test}
use Rattle.overlay_scaled.specs.Through.{is_on}
use Rattle.overlay_scaled.proofs.OnTests.{test_from_on, test_from_off}

-- the sign of a step through q, and 0 for other steps
abbrev pub passing : PlanePoint → Step → ℤ
passing q s = cond (is_on (edge_of s) q) (sign_of s) (pos 0)

-- what holds of the edge of a step forward, and of that of a step back with the other sign, holds of the steps between
-- two points
steps_pass : (q : PlanePoint) (u v : Point) (gu gv : ℤ) → (u ≡ v → gu ≡ gv) →
    (IsBefore u v → one_if (is_on (record { a = u; b = v }) q) ≡ gv -ℤ gu) →
    (IsBefore v u → one_if (is_on (record { a = v; b = u }) q) ≡ gu -ℤ gv) →
    total (passing q) (steps_between u v) ≡ gv -ℤ gu
steps_pass q u v gu gv same on back = by (point_eq u v) refl
  where
    way : Bool → Edge
    way t = cond t (record { a = u; b = v }) (record { a = v; b = u })

    turned : (t : Bool) → one_if t ≡ gu -ℤ gv → cond t (negsuc 0) (pos 0) ≡ gv -ℤ gu
    turned true is = omega (arith, ints)
    turned false is = omega (arith, ints)

    step : (t : Bool) → point_lt u v ≡ t → point_eq u v ≡ false →
        cond (is_on (way t) q) (cond t (pos 1) (negsuc 0)) (pos 0) ≡ gv -ℤ gu
    step true is apart = on ((Decides-point_lt u v).0 is)
    step false is apart = turned (is_on (record { a = v; b = u }) q)
        (back ((Decides-point_lt v u).0 (point_lt-back u v apart is)))

    by : (t : Bool) → point_eq u v ≡ t →
        total (passing q) (cond t [] (record { from = u; to = v } ∷ [])) ≡ gv -ℤ gu
    by true is = nothing_left gv ∙ ap (λ z. gv -ℤ z) (sym (same (point_eq-same u v is)))
    by false is = +ℤ_idr (passing q (record { from = u; to = v })) ∙ step (point_lt u v) refl is

module _ (f : Edge) (forward : IsBefore f.a f.b) (q : PlanePoint) where
  -- v is on the edge's line
  abbrev OnLine : Point → Type 0
  OnLine v = cross_at f.a f.b v ≡ pos 0

  -- ---- a point on the line

  module _ (level : side f q ≡ pos 0) where
    -- v is on the line, and not at q
    abbrev Good : Point → Type 0
    Good v = OnLine v × (¬ (IsAt v q))

    by_place : {P : Type 0} (v : Point) → Good v → (IsBefore (place_of q) (over v q.d) → P) →
        (IsBefore (over v q.d) (place_of q) → P) → P
    by_place v good after before = by_order (place_of q) (over v q.d)
        (λ up. by_order (over v q.d) (place_of q)
        (λ down. absurd (let same = up_to_both (place_of q) (over v q.d) up down in
        good.1 (ap (λ (w : Point). w.x) same, ap (λ (w : Point). w.y) same)))
        after)
        before

    -- q comes before v along the line
    abbrev is_after : Point → Bool
    is_after v = point_lt (place_of q) (over v q.d)

    is_after_from : (v : Point) → IsBefore (place_of q) (over v q.d) → is_after v ≡ true
    is_after_from v h = (Decides-point_lt (place_of q) (over v q.d)).1 h

    not_after_from : (v : Point) → IsBefore (over v q.d) (place_of q) → is_after v ≡ false
    not_after_from v h = false_from_ne_true (is_after v) (λ t.
        not_before_up_to (place_of q) (over v q.d) ((Decides-point_lt (place_of q) (over v q.d)).0 t)
        (before_up_to (over v q.d) (place_of q) h))

    abbrev g : Point → ℤ
    g v = one_if (is_after v)

    -- an edge along the line has q on it exactly where q comes after its start and before its end
    on_rise : (u v : Point) → Good u → Good v → IsBefore u v →
        one_if (is_on (record { a = u; b = v }) q) ≡ g v -ℤ g u
    on_rise u v good_u good_v before = by_place u good_u
        (λ q_u. by_place v good_v
        (λ q_v. told false true true (off (λ on.
        not_before_up_to (place_of q) (over u q.d) q_u (order_of_on k q before on).0))
        (is_after_from v q_v) (is_after_from u q_u) refl)
        (λ v_q. absurd (not_before_up_to (over v q.d) (place_of q) v_q
        (up_to_through (place_of q) (over u q.d) (over v q.d) (before_up_to (place_of q) (over u q.d) q_u)
        (over_up_to u v q.d q.positive (before_up_to u v before))))))
        (λ u_q. by_place v good_v
        (λ q_v. told true true false (test_from_on k q (on_of_order k q before level_k
        (before_up_to (over u q.d) (place_of q) u_q) (before_up_to (place_of q) (over v q.d) q_v)))
        (is_after_from v q_v) (not_after_from u u_q) refl)
        (λ v_q. told false false false (off (λ on.
        not_before_up_to (over v q.d) (place_of q) v_q (order_of_on k q before on).1))
        (not_after_from v v_q) (not_after_from u u_q) refl))
      where
        k : Edge
        k = record { a = u; b = v }

        level_k : side (record { a = u; b = v }) q ≡ pos 0
        level_k = on_line_of (record { a = u; b = v }) f q forward
            (along_exchanged f (record { a = u; b = v }) forward (good_u.0, good_v.0)) level

        off : ¬ (IsOn (record { a = u; b = v }) q) → is_on (record { a = u; b = v }) q ≡ false
        off none = test_from_off (record { a = u; b = v }) q none

        told : (s t r : Bool) → is_on (record { a = u; b = v }) q ≡ s → is_after v ≡ t → is_after u ≡ r →
            one_if s ≡ one_if t -ℤ one_if r → one_if (is_on (record { a = u; b = v }) q) ≡ g v -ℤ g u
        told s t r on at_v at_u is = ap one_if on ∙ is ∙ sym (ap₂ (λ a b. one_if a -ℤ one_if b) at_v at_u)

    between : (u v : Point) → Good u → Good v → total (passing q) (steps_between u v) ≡ g v -ℤ g u
    between u v good_u good_v = steps_pass q u v (g u) (g v) (λ is. ap g is) (on_rise u v good_u good_v)
        (on_rise v u good_v good_u)

    on_line_chain : (vs : List Point) → Good f.a → All Good (vs ++ f.b ∷ []) → Good f.b →
        total (passing q) (steps_through f.a (vs ++ f.b ∷ [])) ≡ one_if (is_on f q)
    on_line_chain vs good_a good good_b = rises_along (passing q) g Good between f.a (vs ++ f.b ∷ []) good_a good
        ∙ ap (λ z. g z -ℤ g f.a) (last_from-append f.a vs f.b) ∙ sym (on_rise f.a f.b good_a good_b forward)

  -- ---- a point off the line

  module _ (apart : ¬ (side f q ≡ pos 0)) where
    none_on : (u v : Point) → OnLine u → OnLine v → IsBefore u v →
        one_if (is_on (record { a = u; b = v }) q) ≡ pos 0 -ℤ pos 0
    none_on u v on_u on_v before = ap one_if (test_from_off (record { a = u; b = v }) q
        (λ on. apart (on_line_of f (record { a = u; b = v }) q before (on_u, on_v) on.on_line)))

    off_line_chain : (vs : List Point) → OnLine f.a → All OnLine (vs ++ f.b ∷ []) →
        total (passing q) (steps_through f.a (vs ++ f.b ∷ [])) ≡ one_if (is_on f q)
    off_line_chain vs on_a on = rises_along (passing q) (λ v. pos 0) OnLine
        (λ u v on_u on_v. steps_pass q u v (pos 0) (pos 0) (λ is. refl) (none_on u v on_u on_v) (none_on v u on_v on_u))
        f.a (vs ++ f.b ∷ []) on_a on
        ∙ sym (ap one_if (test_from_off f q (λ h. apart h.on_line)))

  -- ---- any point

  -- no stop of the chain, each of which is on the line, is at q
  pub chain_passes : (vs : List Point) → ((v : Point) → Contains (f.a ∷ (vs ++ f.b ∷ [])) v → OnLine v) →
      ((v : Point) → Contains (f.a ∷ (vs ++ f.b ∷ [])) v → ¬ (IsAt v q)) →
      total (passing q) (steps_through f.a (vs ++ f.b ∷ [])) ≡ one_if (is_on f q)
  chain_passes vs on not_at = by_test (int_eq (side f q) (pos 0)) (Decides-int_eq (side f q) (pos 0))
      (λ level. on_line_chain level vs (good f.a first)
      (all_of_entries (Good level) (vs ++ f.b ∷ []) (λ v c. good v (Contains-later f.a (vs ++ f.b ∷ []) v c)))
      (good f.b last))
      (λ apart. off_line_chain apart vs (on f.a first)
      (all_of_entries OnLine (vs ++ f.b ∷ []) (λ v c. on v (Contains-later f.a (vs ++ f.b ∷ []) v c))))
    where
      first : Contains (f.a ∷ (vs ++ f.b ∷ [])) f.a
      first = Contains-head f.a (vs ++ f.b ∷ [])

      last : Contains (f.a ∷ (vs ++ f.b ∷ [])) f.b
      last = Contains-later f.a (vs ++ f.b ∷ []) f.b
          (Contains-append_right vs (f.b ∷ []) f.b (Contains-head f.b []))

      good : (v : Point) → Contains (f.a ∷ (vs ++ f.b ∷ [])) v → OnLine v × (¬ (IsAt v q))
      good v c = (on v c, not_at v c)
