-- The ends of an edge seen from another edge: both on one side over its inside, and below it exactly where the edge is
-- lower.
use Rattle.std.proofs.Common.{◌≡◌, inl, inr, ⊎_elim, ℤ, pos, ◌+ℤ◌, ◌*ℤ◌, neg_ℤ, ◌<ℤ◌, ◌≤ℤ◌, int_lt, sym, ap₂, ◌∙◌}
use Rattle.std.proofs.Common.{arith}
use Rattle.std.proofs.lemmas.Int.{ints, by_lt_z}
use Rattle.overlay_geom.specs.Plane.{Point, Edge, PlanePoint, side, in_plane, IsAt, IsBetween, IsOn}
use Rattle.overlay_geom.specs.Settled.{MeetInEnds}
use Rattle.overlay_geom.proofs.Identities.{solve, number, ◌⊕◌, ◌⊗◌, ◌≗◌}
use Rattle.overlay_geom.proofs.Signs.{linear, by_sign, mul-le, neg_of_mul-neg, mul-neg}
use Rattle.overlay_plane.specs.Heights.{width, gap, IsInner}
use Rattle.overlay_plane.specs.Order.{AreOnOneSide}
use Rattle.overlay_plane.proofs.LineForms.{line_form_linear, side-start, side-end, gap-at_start, gap-at_end}
use Rattle.overlay_plane.proofs.Crossing.{inner_between, inner_spans, between_on_line, cancels}
use Rattle.overlay_plane.proofs.Tests.{lt_from_test, test_from_lt, test_from_ge, same_tests}

-- the point between two points: s times the first plus t times the second
abbrev pub mixed : (s t : ℤ) → Point → Point → pos 0 ≤ℤ s → pos 0 <ℤ t → PlanePoint
mixed s t p q not_below positive = record {
  x = s *ℤ p.x +ℤ t *ℤ q.x;
  y = s *ℤ p.y +ℤ t *ℤ q.y;
  d = s *ℤ pos 1 +ℤ t *ℤ pos 1;
  positive = omega (arith, ints);
}

mixed_between : (s t u v : ℤ) → pos 0 ≤ℤ s → pos 0 <ℤ t →
    IsBetween (s *ℤ u +ℤ t *ℤ v) (u *ℤ (s *ℤ pos 1 +ℤ t *ℤ pos 1)) (v *ℤ (s *ℤ pos 1 +ℤ t *ℤ pos 1))
mixed_between s t u v ps pt = by_lt_z u v (λ lt. inl (up lt)) (λ ge. inr (down ge))
  where
    at_u : u *ℤ (s *ℤ pos 1 +ℤ t *ℤ pos 1) ≡ s *ℤ u +ℤ t *ℤ u
    at_u = solve 3 (λ s t u. u ⊗ (s ⊗ number (pos 1) ⊕ t ⊗ number (pos 1)) ≗ s ⊗ u ⊕ t ⊗ u) tt s t u

    at_v : v *ℤ (s *ℤ pos 1 +ℤ t *ℤ pos 1) ≡ s *ℤ v +ℤ t *ℤ v
    at_v = solve 3 (λ s t u. u ⊗ (s ⊗ number (pos 1) ⊕ t ⊗ number (pos 1)) ≗ s ⊗ u ⊕ t ⊗ u) tt s t v

    up : u <ℤ v → ((u *ℤ (s *ℤ pos 1 +ℤ t *ℤ pos 1)) ≤ℤ (s *ℤ u +ℤ t *ℤ v))
        × ((s *ℤ u +ℤ t *ℤ v) ≤ℤ (v *ℤ (s *ℤ pos 1 +ℤ t *ℤ pos 1)))
    up lt =
        let first = mul-le s u v ps (omega linear) in
        let second = mul-le t u v (omega linear) (omega linear) in
        let eu = at_u in
        let ev = at_v in
        (omega linear, omega linear)

    down : v ≤ℤ u → ((v *ℤ (s *ℤ pos 1 +ℤ t *ℤ pos 1)) ≤ℤ (s *ℤ u +ℤ t *ℤ v))
        × ((s *ℤ u +ℤ t *ℤ v) ≤ℤ (u *ℤ (s *ℤ pos 1 +ℤ t *ℤ pos 1)))
    down ge =
        let first = mul-le s v u ps ge in
        let second = mul-le t v u (omega linear) ge in
        let eu = at_u in
        let ev = at_v in
        (omega linear, omega linear)

swapped : {z u v : ℤ} → IsBetween z u v → IsBetween z v u
swapped b = ⊎_elim (λ l. inr l) (λ r. inl r) b

both_zero : (s t : ℤ) → s *ℤ pos 0 +ℤ t *ℤ pos 0 ≡ pos 0
both_zero = solve 2 (λ s t. s ⊗ number (pos 0) ⊕ t ⊗ number (pos 0) ≗ number (pos 0)) tt

-- a point between the ends of f, in either order, is on f
pub mixed_on : (f : Edge) (s t : ℤ) (ps : pos 0 ≤ℤ s) (pt : pos 0 <ℤ t) → IsOn f (mixed s t f.a f.b ps pt) × IsOn f
    (mixed s t f.b f.a ps pt)
mixed_on f s t ps pt = (
  record {
    on_line = forward;
    in_x = mixed_between s t f.a.x f.b.x ps pt;
    in_y = mixed_between s t f.a.y f.b.y ps
        pt;
  },
  record {
    on_line = backward;
    in_x = swapped (mixed_between s t f.b.x f.a.x ps pt);
    in_y = swapped (mixed_between s t f.b.y f.a.y ps pt);
  },
)
  where
    forward : side f (mixed s t f.a f.b ps pt) ≡ pos 0
    forward = line_form_linear f s f.a.x f.a.y (pos 1) t f.b.x f.b.y (pos 1)
        ∙ ap₂ (λ y z. s *ℤ y +ℤ t *ℤ z) (side-start f) (side-end f)
        ∙ both_zero s t

    backward : side f (mixed s t f.b f.a ps pt) ≡ pos 0
    backward = line_form_linear f s f.b.x f.b.y (pos 1) t f.a.x f.a.y (pos 1)
        ∙ ap₂ (λ y z. s *ℤ y +ℤ t *ℤ z) (side-end f) (side-start f)
        ∙ both_zero s t

-- on an edge that e meets in ends alone no point over the inside of e is on the line of e
pub off_inside : (e f : Edge) (p : PlanePoint) → pos 0 <ℤ width e → MeetInEnds e f → IsOn f p → IsInner e p.x p.d →
    ¬ (side e p ≡ pos 0)
off_inside e f p wide meet on_f inner zero =
    let spans = inner_spans e p.x p.d inner in
    let on_e : IsOn e p = record {
      on_line = zero;
      in_x = inl (spans.from, spans.to);
      in_y = between_on_line e p.x p.y
          p.d wide zero spans;
    } in
    let left = inner.after in
    let right = inner.before in
    ⊎_elim (λ (a : IsAt e.a p). let is = a.0 in absurd (omega linear)) (λ (b : IsAt e.b p). let is = b.0 in
    absurd (omega linear)) (meet p (on_e, on_f)).0

-- a point q over the inside of e is below e if a point p over it is, and if each mixture of both is on an edge that e
-- meets in ends alone
pub below_with : (e f : Edge) (p q : Point) → pos 0 <ℤ width e → MeetInEnds e f →
    ((s t : ℤ) (ps : pos 0 ≤ℤ s) (pt : pos 0 <ℤ t) → IsOn f (mixed s t p q ps pt)) → IsInner e p.x (pos 1) →
    IsInner e q.x (pos 1) →
    side e (in_plane p) <ℤ pos 0 → side e (in_plane q) <ℤ pos 0
below_with e f p q wide meet on ip iq low = by_lt_z (side e (in_plane q)) (pos 0) (λ lt. lt) (λ ge. absurd (against ge))
  where
    against : pos 0 ≤ℤ side e (in_plane q) → ⊥
    against ge =
        let s = side e (in_plane q) in
        let t = neg_ℤ (side e (in_plane p)) in
        let pt : pos 0 <ℤ t = omega linear in
        off_inside e f (mixed s t p q ge pt) wide meet (on s t ge pt)
        (inner_between e s p.x (pos 1) t q.x (pos 1) ge pt (inner_spans e p.x (pos 1) ip) iq)
        (line_form_linear e s p.x p.y (pos 1) t q.x q.y (pos 1) ∙ cancels s (side e (in_plane p)))

between_from_ends : (u v : ℤ) → IsBetween u (u *ℤ pos 1) (v *ℤ pos 1) × IsBetween v (u *ℤ pos 1) (v *ℤ pos 1)
between_from_ends u v = by_lt_z u v
    (λ lt. (inl (omega (arith, ints), omega (arith, ints)), inl (omega (arith, ints), omega (arith, ints))))
    (λ ge. (inr (omega (arith, ints), omega (arith, ints)), inr (omega (arith, ints), omega (arith, ints))))

-- the smaller end is on the edge
pub start_on : (f : Edge) → IsOn f (in_plane f.a)
start_on f = record {
  on_line = side-start f;
  in_x = (between_from_ends f.a.x f.b.x).0;
  in_y =
      (between_from_ends f.a.y f.b.y).0;
}

-- the larger end is on the edge
pub end_on : (f : Edge) → IsOn f (in_plane f.b)
end_on f = record {
  on_line = side-end f;
  in_x = (between_from_ends f.a.x f.b.x).1;
  in_y =
      (between_from_ends f.a.y f.b.y).1;
}

-- of an edge over the inside of e, both ends are strictly below e, or both are strictly above
pub ends_on_side : (e f : Edge) → pos 0 <ℤ width e → MeetInEnds e f → IsInner e f.a.x (pos 1) →
    IsInner e f.b.x (pos 1) → AreOnOneSide e f.a f.b
ends_on_side e f wide meet ia ib = by_sign (side e (in_plane f.a))
    (λ low. inl (low, below_with e f f.a f.b wide meet (λ s t ps pt. (mixed_on f s t ps pt).0) ia ib low))
    (λ level. absurd (off_inside e f (in_plane f.a) wide meet (start_on f) ia level))
    (λ high. by_sign (side e (in_plane f.b)) (λ low. absurd (crossed high low))
    (λ level. absurd (off_inside e f (in_plane f.b) wide meet (end_on f) ib level)) (λ both. inr (high, both)))
  where
    crossed : pos 0 <ℤ side e (in_plane f.a) → side e (in_plane f.b) <ℤ pos 0 → ⊥
    crossed high low = let other = below_with e f f.b f.a wide meet (λ s t ps pt. (mixed_on f s t ps pt).1) ib ia low in
        omega linear

-- the test for being below e has one answer at both ends
pub ends_alike : (e f : Edge) → pos 0 <ℤ width e → MeetInEnds e f → IsInner e f.a.x (pos 1) → IsInner e f.b.x (pos 1) →
    int_lt (side e (in_plane f.a)) (pos 0) ≡ int_lt (side e (in_plane f.b)) (pos 0)
ends_alike e f wide meet ia ib = ⊎_elim below above (ends_on_side e f wide meet ia ib)
  where
    below : (side e (in_plane f.a) <ℤ pos 0) × (side e (in_plane f.b) <ℤ pos 0) →
        int_lt (side e (in_plane f.a)) (pos 0) ≡ int_lt (side e (in_plane f.b)) (pos 0)
    below b = test_from_lt (side e (in_plane f.a)) (pos 0) b.0 ∙ sym (test_from_lt (side e (in_plane f.b)) (pos 0) b.1)

    above : (pos 0 <ℤ side e (in_plane f.a)) × (pos 0 <ℤ side e (in_plane f.b)) →
        int_lt (side e (in_plane f.a)) (pos 0) ≡ int_lt (side e (in_plane f.b)) (pos 0)
    above h = let start = h.0 in let end = h.1 in test_from_ge (side e (in_plane f.a)) (pos 0) (omega linear)
        ∙ sym (test_from_ge (side e (in_plane f.b)) (pos 0) (omega linear))

-- w times z and g are opposite: g is above 0 where z is below
opposite_test : (g w z : ℤ) → pos 0 <ℤ w → g ≡ neg_ℤ (w *ℤ z) → int_lt (pos 0) g ≡ int_lt z (pos 0)
opposite_test g w z positive e = same_tests (int_lt (pos 0) g) (int_lt z (pos 0))
    (λ t. test_from_lt z (pos 0) (neg_of_mul-neg w z positive (let above = lt_from_test (pos 0) g t in omega linear)))
    (λ t. test_from_lt (pos 0) g (let low = mul-neg w z positive (lt_from_test z (pos 0) t) in omega linear))

-- an end of f is below e exactly where f is lower than e at its x-coordinate
pub low_at_start : (f e : Edge) → pos 0 <ℤ width f → int_lt (pos 0) (gap f e f.a.x (pos 1)) ≡ int_lt
    (side e (in_plane f.a)) (pos 0)
low_at_start f e wide = opposite_test (gap f e f.a.x (pos 1)) (width f) (side e (in_plane f.a)) wide (gap-at_start f e)

-- its larger end is so too
pub low_at_end : (f e : Edge) → pos 0 <ℤ width f → int_lt (pos 0) (gap f e f.b.x (pos 1)) ≡ int_lt
    (side e (in_plane f.b)) (pos 0)
low_at_end f e wide = opposite_test (gap f e f.b.x (pos 1)) (width f) (side e (in_plane f.b)) wide (gap-at_end f e)
