-- Two edges that meet in ends alone do not cross: the gap between them keeps its sign where one of them reaches further
-- on both sides.
use Rattle.std.proofs.Common.{◌≡◌, inl, inr, ⊎_elim, ℤ, pos, ◌+ℤ◌, ◌-ℤ◌, ◌*ℤ◌, neg_ℤ, ◌<ℤ◌, ◌≤ℤ◌, int_lt, sym, ◌∙◌}
use Rattle.std.proofs.lemmas.Int.{by_lt_z}
use Rattle.overlay_geom.specs.Plane.{Edge, PlanePoint, side, IsAt, IsBetween, IsOn, IsEnd, line_form}
use Rattle.overlay_geom.specs.Settled.{MeetInEnds}
use Rattle.overlay_geom.proofs.Crossing.{at_one_point}
use Rattle.overlay_geom.proofs.Identities.{solve, number, ◌⊕◌, ◌⊗◌, ◌⊖◌, ⊝◌, ◌≗◌}
use Rattle.overlay_geom.proofs.Signs.{linear, by_sign, mul-pos, mul-nonneg, mul-le, mul-lt, eq_of_mul-eq}
use Rattle.overlay_geom.proofs.Signs.{nonneg_of_mul-nonneg}
use Rattle.overlay_plane.specs.Heights.{width, gap, Spans, IsInner}
use Rattle.overlay_plane.proofs.Tests.{lt_from_test, test_from_lt, same_tests}
use Rattle.overlay_plane.proofs.LineForms.{formE, gapE, gap_linear}

-- inside is in the span
pub inner_spans : (e : Edge) (x d : ℤ) → IsInner e x d → Spans e x d
inner_spans e x d i = let l = i.after in let r = i.before in record { from = omega linear; to = omega linear }

-- a point of the line over the edge's span lies between the ends in height too
pub between_on_line : (e : Edge) (x y d : ℤ) → pos 0 <ℤ width e → line_form e x y d ≡ pos 0 → Spans e x d →
    IsBetween y (e.a.y *ℤ d) (e.b.y *ℤ d)
between_on_line e x y d wide on s = by_lt_z (e.b.y -ℤ e.a.y) (pos 0) falls rises
  where
    from_start : width e *ℤ (y -ℤ e.a.y *ℤ d) ≡ line_form e x y d +ℤ (e.b.y -ℤ e.a.y) *ℤ (x -ℤ e.a.x *ℤ d)
    from_start = solve 7 (λ ax ay bx by x y d. (bx ⊖ ax) ⊗ (y ⊖ ay ⊗ d) ≗ formE ax ay bx by x y d ⊕ (by ⊖ ay) ⊗
        (x ⊖ ax ⊗ d)) tt e.a.x e.a.y e.b.x e.b.y x y d

    to_end : width e *ℤ (e.b.y *ℤ d -ℤ y) ≡ (e.b.y -ℤ e.a.y) *ℤ (e.b.x *ℤ d -ℤ x) -ℤ line_form e x y d
    to_end = solve 7 (λ ax ay bx by x y d. (bx ⊖ ax) ⊗ (by ⊗ d ⊖ y) ≗ (by ⊖ ay) ⊗ (bx ⊗ d ⊖ x) ⊖ formE ax ay bx by x y
        d) tt e.a.x e.a.y e.b.x e.b.y x y d

    rises : pos 0 ≤ℤ (e.b.y -ℤ e.a.y) → IsBetween y (e.a.y *ℤ d) (e.b.y *ℤ d)
    rises up =
        let first = mul-nonneg (e.b.y -ℤ e.a.y) (x -ℤ e.a.x *ℤ d) up (let l = s.from in omega linear) in
        let second = mul-nonneg (e.b.y -ℤ e.a.y) (e.b.x *ℤ d -ℤ x) up (let r = s.to in omega linear) in
        let above = nonneg_of_mul-nonneg (width e) (y -ℤ e.a.y *ℤ d) wide (let i = from_start in omega linear) in
        let below = nonneg_of_mul-nonneg (width e) (e.b.y *ℤ d -ℤ y) wide (let i = to_end in omega linear) in
        inl (omega linear, omega linear)

    under_start : width e *ℤ (e.a.y *ℤ d -ℤ y) ≡ (e.a.y -ℤ e.b.y) *ℤ (x -ℤ e.a.x *ℤ d) -ℤ line_form e x y d
    under_start = solve 7 (λ ax ay bx by x y d. (bx ⊖ ax) ⊗ (ay ⊗ d ⊖ y) ≗ (ay ⊖ by) ⊗ (x ⊖ ax ⊗ d) ⊖ formE ax ay bx by
        x y d) tt e.a.x e.a.y e.b.x e.b.y x y d

    over_end : width e *ℤ (y -ℤ e.b.y *ℤ d) ≡ (e.a.y -ℤ e.b.y) *ℤ (e.b.x *ℤ d -ℤ x) +ℤ line_form e x y d
    over_end = solve 7 (λ ax ay bx by x y d. (bx ⊖ ax) ⊗ (y ⊖ by ⊗ d) ≗ (ay ⊖ by) ⊗ (bx ⊗ d ⊖ x) ⊕ formE ax ay bx by x y
        d) tt e.a.x e.a.y e.b.x e.b.y x y d

    falls : (e.b.y -ℤ e.a.y) <ℤ pos 0 → IsBetween y (e.a.y *ℤ d) (e.b.y *ℤ d)
    falls down =
        let first = mul-nonneg (e.a.y -ℤ e.b.y) (x -ℤ e.a.x *ℤ d) (omega linear) (let l = s.from in omega linear) in
        let second = mul-nonneg (e.a.y -ℤ e.b.y) (e.b.x *ℤ d -ℤ x) (omega linear) (let r = s.to in omega linear) in
        let below = nonneg_of_mul-nonneg (width e) (e.a.y *ℤ d -ℤ y) wide (let i = under_start in omega linear) in
        let above = nonneg_of_mul-nonneg (width e) (y -ℤ e.b.y *ℤ d) wide (let i = over_end in omega linear) in
        inr (omega linear, omega linear)

-- the point over the x-coordinate on the line of e
abbrev pub point_over : (e : Edge) (x d : ℤ) → pos 0 <ℤ width e → pos 0 <ℤ d → PlanePoint
point_over e x d wide positive = record {
  x = width e *ℤ x;
  y = neg_ℤ (line_form e x (pos 0) d);
  d = width e *ℤ d;
  positive = mul-pos (width e) d wide positive;
}

times_through : (w a d : ℤ) → w *ℤ (a *ℤ d) ≡ a *ℤ (w *ℤ d)
times_through = solve 3 (λ w a d. w ⊗ (a ⊗ d) ≗ a ⊗ (w ⊗ d)) tt

-- an x-coordinate over the span, with both its numbers multiplied
pub spans_times : (e : Edge) (w x d : ℤ) → pos 0 ≤ℤ w → Spans e x d → Spans e (w *ℤ x) (w *ℤ d)
spans_times e w x d positive s = record {
  from = let l = mul-le w (e.a.x *ℤ d) x positive s.from in let i = times_through w e.a.x d in omega linear;
  to = let r = mul-le w x (e.b.x *ℤ d) positive s.to in let i = times_through w e.b.x d in omega linear;
}

-- where the gap is 0 at an x-coordinate that both edges span, they have the point over it in common
pub meets_over : (f e : Edge) (x d : ℤ) (wide : pos 0 <ℤ width e) (positive : pos 0 <ℤ d) → pos 0 <ℤ width f →
    Spans e x d → Spans f x d →
    gap f e x d ≡ pos 0 → IsOn e (point_over e x d wide positive) × IsOn f (point_over e x d wide positive)
meets_over f e x d wide positive wide_f over_e over_f level = (
  on e wide on_e (spans_times e (width e) x d (omega linear) over_e),
  on f wide_f (on_f ∙ level) (spans_times f (width e) x d (omega linear) over_f),
)
  where
    on_e : side e (point_over e x d wide positive) ≡ pos 0
    on_e = solve 6 (λ ax ay bx by x d. formE ax ay bx by ((bx ⊖ ax) ⊗ x) (⊝ formE ax ay bx by x (number (pos 0)) d)
        ((bx ⊖ ax) ⊗ d) ≗ number (pos 0)) tt e.a.x e.a.y e.b.x e.b.y x d

    on_f : side f (point_over e x d wide positive) ≡ gap f e x d
    on_f = solve 10
        (λ px py qx qy ax ay bx by x d. formE px py qx qy ((bx ⊖ ax) ⊗ x) (⊝ formE ax ay bx by x (number (pos 0)) d)
        ((bx ⊖ ax) ⊗ d) ≗ gapE px py qx qy ax ay bx by x d) tt f.a.x f.a.y f.b.x f.b.y e.a.x e.a.y e.b.x e.b.y x d

    on : (g : Edge) → pos 0 <ℤ width g → side g (point_over e x d wide positive) ≡ pos 0 →
        Spans g (width e *ℤ x) (width e *ℤ d) →
        IsOn g (point_over e x d wide positive)
    on g wide_g zero s = record {
      on_line = zero;
      in_x = inl (s.from, s.to);
      in_y = between_on_line g (width e *ℤ x) (neg_ℤ (line_form e x (pos 0) d)) (width e *ℤ d) wide_g zero s;
    }

-- over the inside of e the two do not meet
pub apart_inside : (f e : Edge) (x d : ℤ) → pos 0 <ℤ d → pos 0 <ℤ width f → pos 0 <ℤ width e → MeetInEnds e f →
    IsInner e x d → Spans f x d →
    ¬ (gap f e x d ≡ pos 0)
apart_inside f e x d positive wide_f wide meet i over_f level = ⊎_elim (λ at. absurd (left at))
    (λ at. absurd (right at))
    (meet (point_over e x d wide positive)
    (meets_over f e x d wide positive wide_f (inner_spans e x d i) over_f level)).0
  where
    left : IsAt e.a (point_over e x d wide positive) → ⊥
    left at = let l = i.after in let same = eq_of_mul-eq (width e) x (e.a.x *ℤ d) wide
        (at.0 ∙ sym (times_through (width e) e.a.x d)) in omega linear

    right : IsAt e.b (point_over e x d wide positive) → ⊥
    right at = let r = i.before in
        let same = eq_of_mul-eq (width e) x (e.b.x *ℤ d) wide (at.0 ∙ sym (times_through (width e) e.b.x d)) in
        omega linear

-- where the gap is 0 before both edges end, they start in one point
pub same_starts : (f e : Edge) (x d : ℤ) → pos 0 <ℤ d → pos 0 <ℤ width f → pos 0 <ℤ width e → MeetInEnds e f →
    Spans e x d → Spans f x d →
    gap f e x d ≡ pos 0 → x <ℤ (e.b.x *ℤ d) → x <ℤ (f.b.x *ℤ d) → e.a ≡ f.a
same_starts f e x d positive wide_f wide meet over_e over_f level before_e before_f =
    let p = point_over e x d wide positive in
    let ends = meet p (meets_over f e x d wide positive wide_f over_e over_f level) in
    at_one_point e.a f.a p (start e before_e ends.0) (start f before_f ends.1)
  where
    start : (g : Edge) → x <ℤ (g.b.x *ℤ d) → IsEnd g (point_over e x d wide positive) →
        IsAt g.a (point_over e x d wide positive)
    start g before is = ⊎_elim (λ a. a)
        (λ b. absurd (let same = eq_of_mul-eq (width e) x (g.b.x *ℤ d) wide
        (b.0 ∙ sym (times_through (width e) g.b.x d)) in omega linear)) is

-- ---- one order

sum_times : (s x t x' a d d' : ℤ) → a *ℤ (s *ℤ d +ℤ t *ℤ d') ≡ s *ℤ (a *ℤ d) +ℤ t *ℤ (a *ℤ d')
sum_times = solve 7 (λ s x t x' a d d'. a ⊗ (s ⊗ d ⊕ t ⊗ d') ≗ s ⊗ (a ⊗ d) ⊕ t ⊗ (a ⊗ d')) tt

-- an x-coordinate between two of the span is inside if the second is inside
pub inner_between : (e : Edge) (s x d t x' d' : ℤ) → pos 0 ≤ℤ s → pos 0 <ℤ t → Spans e x d → IsInner e x' d' →
    IsInner e (s *ℤ x +ℤ t *ℤ x') (s *ℤ d +ℤ t *ℤ d')
inner_between e s x d t x' d' ps pt i j = record {
  after = let l = mul-le s (e.a.x *ℤ d) x ps i.from in let r = mul-lt t (e.a.x *ℤ d') x' pt j.after in
      let k = sum_times s x t x' e.a.x d d' in omega linear;
  before = let l = mul-le s x (e.b.x *ℤ d) ps i.to in let r = mul-lt t x' (e.b.x *ℤ d') pt j.before in
      let k = sum_times s x t x' e.b.x d d' in omega linear;
}

-- an x-coordinate between two of the span is in the span
pub spans_between : (e : Edge) (s x d t x' d' : ℤ) → pos 0 <ℤ s → pos 0 <ℤ t → Spans e x d → Spans e x' d' →
    Spans e (s *ℤ x +ℤ t *ℤ x') (s *ℤ d +ℤ t *ℤ d')
spans_between e s x d t x' d' ps pt i j = record {
  from = let l = mul-le s (e.a.x *ℤ d) x (omega linear) i.from in
      let r = mul-le t (e.a.x *ℤ d') x' (omega linear) j.from in let k = sum_times s x t x' e.a.x d d' in omega linear;
  to = let l = mul-le s x (e.b.x *ℤ d) (omega linear) i.to in let r = mul-le t x' (e.b.x *ℤ d') (omega linear) j.to in
      let k = sum_times s x t x' e.b.x d d' in omega linear;
}

-- an x-coordinate inside e that f spans
pub record IsShared (f e : Edge) (x d : ℤ) : Type 0 where
  pub positive : pos 0 <ℤ d
  pub inner : IsInner e x d
  pub spans : Spans f x d

-- two opposite products
pub cancels : (g h : ℤ) → g *ℤ h +ℤ neg_ℤ h *ℤ g ≡ pos 0
cancels = solve 2 (λ g h. g ⊗ h ⊕ ⊝ h ⊗ g ≗ number (pos 0)) tt

-- the gap is not above 0 at a shared x-coordinate and below 0 at another
pub no_crossing : (f e : Edge) (x d x' d' : ℤ) → pos 0 <ℤ width f → pos 0 <ℤ width e → MeetInEnds e f →
    IsShared f e x d → pos 0 <ℤ d' →
    Spans e x' d' → Spans f x' d' → pos 0 <ℤ gap f e x d → gap f e x' d' <ℤ pos 0 → ⊥
no_crossing f e x d x' d' wide_f wide meet p positive' over_e over_f above below =
    let s = gap f e x d in
    let t = neg_ℤ (gap f e x' d') in
    let pt : pos 0 <ℤ t = omega linear in
    let one = mul-pos s d' above positive' in
    let two = mul-pos t d pt p.positive in
    apart_inside f e (s *ℤ x' +ℤ t *ℤ x) (s *ℤ d' +ℤ t *ℤ d) (omega linear) wide_f wide meet
    (inner_between e s x' d' t x d (omega linear) pt over_e p.inner)
    (spans_between f s x' d' t x d above pt over_f p.spans)
    (gap_linear f e s x' d' t x d ∙ cancels s (gap f e x' d'))

-- an edge lower at one shared x-coordinate is lower at each
pub gap_keeps_sign : (f e : Edge) (x d x' d' : ℤ) → pos 0 <ℤ width f → pos 0 <ℤ width e → MeetInEnds e f →
    IsShared f e x d → IsShared f e x' d' →
    pos 0 <ℤ gap f e x d → pos 0 <ℤ gap f e x' d'
gap_keeps_sign f e x d x' d' wide_f wide meet p q above = by_sign (gap f e x' d')
    (λ below. absurd (no_crossing f e x d x' d' wide_f wide meet p q.positive (inner_spans e x' d' q.inner) q.spans
    above below))
    (λ level. absurd (apart_inside f e x' d' q.positive wide_f wide meet q.inner q.spans level)) (λ up. up)

-- the test below has equal answers at both
pub same_low : (f e : Edge) (x d x' d' : ℤ) → pos 0 <ℤ width f → pos 0 <ℤ width e → MeetInEnds e f → IsShared f e x d →
    IsShared f e x' d' →
    int_lt (pos 0) (gap f e x d) ≡ int_lt (pos 0) (gap f e x' d')
same_low f e x d x' d' wide_f wide meet p q = same_tests (int_lt (pos 0) (gap f e x d)) (int_lt (pos 0) (gap f e x' d'))
    (λ t. test_from_lt (pos 0) (gap f e x' d')
    (gap_keeps_sign f e x d x' d' wide_f wide meet p q (lt_from_test (pos 0) (gap f e x d) t)))
    (λ t. test_from_lt (pos 0) (gap f e x d)
    (gap_keeps_sign f e x' d' x d wide_f wide meet q p (lt_from_test (pos 0) (gap f e x' d') t)))
