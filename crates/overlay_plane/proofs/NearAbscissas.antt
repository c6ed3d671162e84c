-- Two edges beside an x-coordinate are in the order of their heights at it, where these differ. Where they start, or
-- end, in one point there, their turn decides.
use Rattle.std.proofs.Common.{◌≡◌, ◌⊎◌, inl, inr, ⊎_elim, true, ℤ, pos, ◌+ℤ◌, ◌-ℤ◌, ◌*ℤ◌, neg_ℤ, ◌<ℤ◌, int_lt, sym, ◌∙◌}
use Rattle.std.proofs.Common.{arith}
use Rattle.std.proofs.lemmas.Int.{ints}
use Rattle.overlay_geom.specs.Plane.{Point, Edge, side, in_plane, point_eq, IsOn, IsAt}
use Rattle.overlay_geom.specs.Settled.{MeetInEnds}
use Rattle.overlay_geom.proofs.Identities.{solve, number, ◌⊕◌, ◌⊗◌, ◌⊖◌, ◌≗◌}
use Rattle.overlay_geom.proofs.OneLine.{meet_in_ends_exchanged}
use Rattle.overlay_geom.proofs.Signs.{linear, by_sign, mul-pos, pos_of_mul-pos}
use Rattle.overlay_geom.proofs.Orders.{point_eq-of_same, same_point}
use Rattle.overlay_plane.specs.Heights.{width, gap, Spans}
use Rattle.overlay_plane.specs.Nodes.{edge_turn}
use Rattle.overlay_plane.proofs.LineForms.{formE, gapE, gap_exchanged}
use Rattle.overlay_plane.proofs.Crossing.{IsShared, apart_inside, no_crossing, between_on_line}
use Rattle.overlay_plane.proofs.Tests.{lt_from_test, test_from_lt, test_from_ge, same_tests}

-- the gap beside an x-coordinate has the sign that it has there, where this is not 0
pub near_same : (f e : Edge) (x d x' d' : ℤ) → pos 0 <ℤ width f → pos 0 <ℤ width e → MeetInEnds e f → pos 0 <ℤ d →
    Spans e x d → Spans f x d →
    IsShared f e x' d' → IsShared e f x' d' → ¬ (gap f e x d ≡ pos 0) → int_lt (pos 0) (gap f e x' d') ≡ int_lt (pos 0)
    (gap f e x d)
near_same f e x d x' d' wide_f wide meet positive over_e over_f shared shared_back off = by_sign (gap f e x d) below
    (λ level. absurd (off level)) above
  where
    here : gap e f x d ≡ neg_ℤ (gap f e x d)
    here = gap_exchanged e f x d

    beside : gap e f x' d' ≡ neg_ℤ (gap f e x' d')
    beside = gap_exchanged e f x' d'

    not_level : ¬ (gap f e x' d' ≡ pos 0)
    not_level level = apart_inside f e x' d' shared.positive wide_f wide meet shared.inner shared.spans level

    above : pos 0 <ℤ gap f e x d → int_lt (pos 0) (gap f e x' d') ≡ int_lt (pos 0) (gap f e x d)
    above high = by_sign (gap f e x' d')
        (λ low. absurd (let h = here in let b = beside in
        no_crossing e f x' d' x d wide wide_f (meet_in_ends_exchanged f e meet) shared_back positive over_f over_e
        (omega linear) (omega linear)))
        (λ level. absurd (not_level level))
        (λ both. test_from_lt (pos 0) (gap f e x' d') both ∙ sym (test_from_lt (pos 0) (gap f e x d) high))

    below : gap f e x d <ℤ pos 0 → int_lt (pos 0) (gap f e x' d') ≡ int_lt (pos 0) (gap f e x d)
    below low = by_sign (gap f e x' d')
        (λ both. test_from_ge (pos 0) (gap f e x' d') (omega linear)
        ∙ sym (test_from_ge (pos 0) (gap f e x d) (omega linear)))
        (λ level. absurd (not_level level))
        (λ high. absurd (no_crossing f e x' d' x d wide_f wide meet shared positive over_e over_f high low))

-- at the ends of e the gap is e's width times the side of that end
pub gap-own_start : (f e : Edge) → gap f e e.a.x (pos 1) ≡ width e *ℤ side f (in_plane e.a)
gap-own_start f e = solve 8
    (λ px py qx qy ax ay bx by. gapE px py qx qy ax ay bx by ax (number (pos 1)) ≗ (bx ⊖ ax) ⊗ formE px py qx qy ax ay
    (number (pos 1))) tt f.a.x f.a.y f.b.x f.b.y e.a.x e.a.y e.b.x e.b.y

pub gap-own_end : (f e : Edge) → gap f e e.b.x (pos 1) ≡ width e *ℤ side f (in_plane e.b)
gap-own_end f e = solve 8
    (λ px py qx qy ax ay bx by. gapE px py qx qy ax ay bx by bx (number (pos 1)) ≗ (bx ⊖ ax) ⊗ formE px py qx qy bx by
    (number (pos 1))) tt f.a.x f.a.y f.b.x f.b.y e.a.x e.a.y e.b.x e.b.y

-- just right of the start of e, and just left of its end, the gap is that there and the turn
pub gap-right_of_start : (f e : Edge) →
    gap f e (e.a.x +ℤ e.a.x +ℤ pos 1) (pos 1 +ℤ pos 1) ≡ pos 2 *ℤ (width e *ℤ side f (in_plane e.a)) +ℤ edge_turn f e
gap-right_of_start f e = solve 8
    (λ px py qx qy ax ay bx by. gapE px py qx qy ax ay bx by (ax ⊕ ax ⊕ number (pos 1)) (number (pos 2)) ≗ number
    (pos 2) ⊗ ((bx ⊖ ax) ⊗ formE px py qx qy ax ay (number (pos 1))) ⊕
    ((qx ⊖ px) ⊗ (by ⊖ ay) ⊖ (qy ⊖ py) ⊗ (bx ⊖ ax))) tt f.a.x f.a.y f.b.x f.b.y e.a.x e.a.y e.b.x e.b.y

pub gap-left_of_end : (f e : Edge) →
    gap f e ((e.b.x +ℤ e.b.x -ℤ pos 1) +ℤ (e.b.x +ℤ e.b.x -ℤ pos 1) +ℤ pos 1) (pos 2 +ℤ pos 2) ≡ pos 4 *ℤ
    (width e *ℤ side f (in_plane e.b)) +ℤ edge_turn e f
gap-left_of_end f e = solve 8
    (λ px py qx qy ax ay bx by. gapE px py qx qy ax ay bx by
    ((bx ⊕ bx ⊖ number (pos 1)) ⊕ (bx ⊕ bx ⊖ number (pos 1)) ⊕ number (pos 1)) (number (pos 4)) ≗ number (pos 4) ⊗
    ((bx ⊖ ax) ⊗ formE px py qx qy bx by (number (pos 1))) ⊕ ((bx ⊖ ax) ⊗ (qy ⊖ py) ⊖ (by ⊖ ay) ⊗ (qx ⊖ px))) tt
    f.a.x f.a.y f.b.x f.b.y e.a.x e.a.y e.b.x e.b.y

-- the side of a point over an end of f
pub side-over_start : (f : Edge) (v : Point) → side f (in_plane v) ≡ width f *ℤ (v.y -ℤ f.a.y) -ℤ (f.b.y -ℤ f.a.y) *ℤ
    (v.x -ℤ f.a.x)
side-over_start f v = solve 6 (λ px py qx qy x y. formE px py qx qy x y (number (pos 1)) ≗ (qx ⊖ px) ⊗ (y ⊖ py) ⊖
    (qy ⊖ py) ⊗ (x ⊖ px)) tt f.a.x f.a.y f.b.x f.b.y v.x v.y

pub side-over_end : (f : Edge) (v : Point) → side f (in_plane v) ≡ width f *ℤ (v.y -ℤ f.b.y) -ℤ (f.b.y -ℤ f.a.y) *ℤ
    (v.x -ℤ f.b.x)
side-over_end f v = solve 6 (λ px py qx qy x y. formE px py qx qy x y (number (pos 1)) ≗ (qx ⊖ px) ⊗ (y ⊖ qy) ⊖
    (qy ⊖ py) ⊗ (x ⊖ qx)) tt f.a.x f.a.y f.b.x f.b.y v.x v.y

-- a point of e on the line of f, in f's span, is an end of f
pub end_where_level : (e f : Edge) (v : Point) → pos 0 <ℤ width f → MeetInEnds e f → IsOn e (in_plane v) →
    Spans f v.x (pos 1) →
    side f (in_plane v) ≡ pos 0 → (point_eq f.a v ≡ true) ⊎ (point_eq f.b v ≡ true)
end_where_level e f v wide_f meet on_e over_f level = ⊎_elim (λ (at : IsAt f.a (in_plane v)). inl (is f.a at))
    (λ (at : IsAt f.b (in_plane v)). inr (is f.b at))
    (meet (in_plane v) (
      on_e,
      record {
        on_line = level;
        in_x = inl (over_f.from, over_f.to);
        in_y = between_on_line f v.x v.y (pos 1) wide_f level over_f;
      },
    )).1
  where
    is : (p : Point) → IsAt p (in_plane v) → point_eq p v ≡ true
    is p at = let x = at.0 in let y = at.1 in
        point_eq-of_same p v (same_point p v (omega (arith, ints)) (omega (arith, ints)))

-- a number that is w times z, for a w above 0, has its test
pub times_test : (w z g : ℤ) → pos 0 <ℤ w → g ≡ w *ℤ z → int_lt (pos 0) g ≡ int_lt (pos 0) z
times_test w z g positive e = same_tests (int_lt (pos 0) g) (int_lt (pos 0) z)
    (λ t. test_from_lt (pos 0) z (pos_of_mul-pos w z positive (let more = lt_from_test (pos 0) g t in omega linear)))
    (λ t. test_from_lt (pos 0) g (let more = mul-pos w z positive (lt_from_test (pos 0) z t) in omega linear))
