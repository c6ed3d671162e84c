-- The edges under an edge at its start, just below it: those strictly below the start, and those that start there to
-- its right.
use Rattle.std.proofs.Common.{◌≡◌, ⊎_elim, Bool, true, false, ◌&&◌, pos, ◌+ℤ◌, ◌-ℤ◌, ◌*ℤ◌, ◌<ℤ◌, ◌≤ℤ◌, int_lt, int_le}
use Rattle.std.proofs.Common.{refl, sym, ap, ◌∙◌, subst, arith}
use Rattle.std.proofs.lemmas.Int.{ints, by_lt_z}
use Rattle.std.proofs.lemmas.Bool.{false≢true, and_from, and_parts, and_right, or_cases}
use Rattle.std.specs.Ordering.{int_eq}
use lib.IntN.{+ℤ_idl, +ℤ_idr, *ℤ_comm}
use Rattle.overlay_geom.specs.Plane.{Point, Edge, side, in_plane, point_lt, point_eq, edge_eq, is_strictly_below}
use Rattle.overlay_geom.specs.Settled.{MeetInEnds}
use Rattle.overlay_geom.proofs.Signs.{linear, mul-pos, mul-zero, zero_of_mul-zero}
use Rattle.overlay_geom.proofs.Orders.{point_eq-same, edge_eq-same, edge_eq-itself}
use Rattle.overlay_plane.specs.Heights.{width, gap, covers, is_under}
use Rattle.overlay_plane.specs.Regions.{one_if}
use Rattle.overlay_plane.specs.Nodes.{edge_turn, turns_left}
use Rattle.overlay_plane.proofs.LineForms.{side-start}
use Rattle.overlay_plane.proofs.Ends.{start_on}
use Rattle.overlay_plane.proofs.Strip.{starts_first}
use Rattle.overlay_plane.proofs.Under.{covers_from, covers_to, covers_wide, shared_just_right}
use Rattle.overlay_plane.proofs.Tests.{lt_from_test, test_from_lt, test_from_le, test_from_ge, same_tests}
use Rattle.overlay_plane.proofs.NearAbscissas.{near_same, gap-own_start, gap-right_of_start, end_where_level}
use Rattle.overlay_plane.proofs.NearAbscissas.{times_test}
use Rattle.overlay_plane.proofs.WhereEdgesStart.{covers_spans, covers_start}

-- the count of an entry by two tests: c where it passes the first, and p or the second
pub counted_besides : (c u s p t : Bool) → (p ≡ true → (s ≡ false) × ((c && u) ≡ t)) → (p ≡ false → c ≡ true → u ≡ s) →
    one_if (c && u) ≡ one_if (c && s) +ℤ one_if (p && t)
counted_besides c u s true t h k = ap (λ z. one_if z) (h refl).1
    ∙ sym (ap (λ z. one_if z +ℤ one_if t) (and_right c s (h refl).0) ∙ +ℤ_idl (one_if t))
counted_besides true u s false t h k = ap (λ z. one_if z) (k refl refl) ∙ sym (+ℤ_idr (one_if s))
counted_besides false u s false t h k = refl

-- a forward edge without width rises
pub rises_upright : (f : Edge) → point_lt f.a f.b ≡ true → width f ≤ℤ pos 0 → pos 0 <ℤ (f.b.y -ℤ f.a.y)
rises_upright f t narrow = ⊎_elim (λ l. absurd (let less = lt_from_test f.a.x f.b.x l in omega linear))
    (λ r. let less = lt_from_test f.a.y f.b.y (and_parts (int_eq f.a.x f.b.x) (int_lt f.a.y f.b.y) r).1 in omega linear)
    (or_cases (int_lt f.a.x f.b.x) (int_eq f.a.x f.b.x && int_lt f.a.y f.b.y) t)

-- an edge to the right of a wide one that starts in the same point is wide
pub right_is_wide : (e f : Edge) → point_lt f.a f.b ≡ true → pos 0 <ℤ width e → pos 0 <ℤ edge_turn f e →
    pos 0 <ℤ width f
right_is_wide e f forward wide turned = by_lt_z (pos 0) (width f) (λ lt. lt) (λ ge. absurd (against ge))
  where
    against : width f ≤ℤ pos 0 → ⊥
    against narrow =
        let first = starts_first f forward in
        let high = mul-pos (f.b.y -ℤ f.a.y) (width e) (rises_upright f forward narrow) wide in
        let none = mul-zero (e.b.y -ℤ e.a.y) (width f) (omega linear) in
        let exchanged = *ℤ_comm (e.b.y -ℤ e.a.y) (width f) in
        omega linear

module _ (e f : Edge) (forward : point_lt f.a f.b ≡ true) (meets : edge_eq e f ≡ false → MeetInEnds e f) where
  -- an edge that starts elsewhere is not e
  pub elsewhere_meets : point_eq f.a e.a ≡ false → MeetInEnds e f
  elsewhere_meets other = by (edge_eq e f) refl
    where
      by : (s : Bool) → edge_eq e f ≡ s → MeetInEnds e f
      by true same = absurd (false≢true
          (sym other ∙ (and_parts (point_eq f.a e.a) (point_eq f.b e.b)
          (subst (λ (g : Edge). edge_eq g e ≡ true) (edge_eq-same e f same) (edge_eq-itself e))).0))
      by false apart = meets apart

  -- where f starts elsewhere and is over the start of e, that is not on its line
  pub start_off : point_eq f.a e.a ≡ false → covers f e.a.x (pos 1) ≡ true → ¬ (side f (in_plane e.a) ≡ pos 0)
  start_off other over level = ⊎_elim (λ at. false≢true (sym other ∙ at)) (λ at. before_end at)
      (end_where_level e f e.a (covers_wide f e.a.x (pos 1) (record { lt = tt }) over) (elsewhere_meets other)
      (start_on e)
      (record { from = covers_from f e.a.x (pos 1) over; to = let r = covers_to f e.a.x (pos 1) over in omega linear })
      level)
    where
      before_end : point_eq f.b e.a ≡ true → ⊥
      before_end at = let same = ap (λ (p : Point). p.x) (point_eq-same f.b e.a at) in
          let r = covers_to f e.a.x (pos 1) over in omega (arith, ints)

  -- an edge that starts with e has its start on its line
  pub level_start : point_eq f.a e.a ≡ true → side f (in_plane e.a) ≡ pos 0
  level_start at = subst (λ (p : Point). side f (in_plane p) ≡ pos 0) (point_eq-same f.a e.a at) (side-start f)

  -- under an edge that is not vertical
  pub under_from_start : pos 0 <ℤ width e → one_if (covers f e.a.x (pos 1) && is_under f e e.a.x (pos 1)) ≡ one_if
      (is_strictly_below f (in_plane e.a)) +ℤ one_if (point_eq f.a e.a && turns_left f e)
  under_from_start wide = counted_besides (covers f e.a.x (pos 1)) (is_under f e e.a.x (pos 1))
      (int_lt (pos 0) (side f (in_plane e.a))) (point_eq f.a e.a) (turns_left f e)
      (λ at. (test_from_ge (pos 0) (side f (in_plane e.a)) (let l = level_start at in omega linear), with_it at)) beside
    where
      form : gap f e (e.a.x +ℤ e.a.x +ℤ pos 1) (pos 1 +ℤ pos 1) ≡ pos 2 *ℤ (width e *ℤ side f (in_plane e.a))
          +ℤ edge_turn f e
      form = gap-right_of_start f e

      over_own : covers e e.a.x (pos 1) ≡ true
      over_own = covers_start e (let w = wide in omega linear)

      gap_is_turn : point_eq f.a e.a ≡ true → gap f e (e.a.x +ℤ e.a.x +ℤ pos 1) (pos 1 +ℤ pos 1) ≡ edge_turn f e
      gap_is_turn at =
          let i = form in
          let none = mul-zero (width e) (side f (in_plane e.a)) (level_start at) in
          let none_twice = mul-zero (pos 2) (width e *ℤ side f (in_plane e.a)) none in
          omega linear

      with_it : point_eq f.a e.a ≡ true → (covers f e.a.x (pos 1) && is_under f e e.a.x (pos 1)) ≡ turns_left f e
      with_it at = same_tests (covers f e.a.x (pos 1) && is_under f e e.a.x (pos 1)) (turns_left f e)
          (λ t. ap (λ z. int_lt (pos 0) z) (sym (gap_is_turn at))
          ∙ (and_parts (covers f e.a.x (pos 1)) (is_under f e e.a.x (pos 1)) t).1)
          (λ t. and_from (covers f e.a.x (pos 1)) (is_under f e e.a.x (pos 1)) (over_it t)
          (ap (λ z. int_lt (pos 0) z) (gap_is_turn at) ∙ t))
        where
          same_x : f.a.x ≡ e.a.x
          same_x = ap (λ (p : Point). p.x) (point_eq-same f.a e.a at)

          over_it : turns_left f e ≡ true → covers f e.a.x (pos 1) ≡ true
          over_it t = let s = same_x in let w = right_is_wide e f forward wide
              (lt_from_test (pos 0) (edge_turn f e) t) in
              and_from (int_le (f.a.x *ℤ pos 1) e.a.x) (int_lt e.a.x (f.b.x *ℤ pos 1))
              (test_from_le (f.a.x *ℤ pos 1) e.a.x (omega (arith, ints)))
              (test_from_lt e.a.x (f.b.x *ℤ pos 1) (omega (arith, ints)))

      beside : point_eq f.a e.a ≡ false → covers f e.a.x (pos 1) ≡ true → is_under f e e.a.x (pos 1) ≡ int_lt (pos 0)
          (side f (in_plane e.a))
      beside other over = near_same f e e.a.x (pos 1) (e.a.x +ℤ e.a.x +ℤ pos 1) (pos 1 +ℤ pos 1)
          (covers_wide f e.a.x (pos 1) (record { lt = tt }) over) wide (elsewhere_meets other) (record { lt = tt })
          (covers_spans e e.a.x (pos 1) over_own) (covers_spans f e.a.x (pos 1) over)
          (shared_just_right f e e.a.x (pos 1) (record { lt = tt }) over over_own)
          (shared_just_right e f e.a.x (pos 1) (record { lt = tt }) over_own over)
          (λ level. start_off other over (zero_side level))
          ∙ times_test (width e) (side f (in_plane e.a)) (gap f e e.a.x (pos 1)) wide (gap-own_start f e)
        where
          zero_side : gap f e e.a.x (pos 1) ≡ pos 0 → side f (in_plane e.a) ≡ pos 0
          zero_side level = zero_of_mul-zero (width e) (side f (in_plane e.a)) wide (sym (gap-own_start f e) ∙ level)
