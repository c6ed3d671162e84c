-- The order of edges over an x-coordinate: strict, total among edges that meet in ends alone, and equal wherever both
-- cover.
use Rattle.std.proofs.Common.{◌≡◌, ◌⊎◌, inl, inr, true, false, ℤ, pos, ◌+ℤ◌, ◌-ℤ◌, ◌*ℤ◌, ◌<ℤ◌, ◌≤ℤ◌, int_lt, int_le}
use Rattle.std.proofs.lemmas.Bool.{and_parts, and_from}
use lib.IntN.{*ℤ_comm}
use Rattle.overlay_geom.specs.Plane.{Edge}
use Rattle.overlay_geom.specs.Settled.{MeetInEnds}
use Rattle.overlay_geom.proofs.Products.{mul-add}
use Rattle.overlay_geom.proofs.Signs.{linear, by_sign, mul-pos, lt_of_mul-lt, pos_of_mul-pos}
use Rattle.overlay_plane.specs.Heights.{width, gap, covers, is_under, IsInner}
use Rattle.overlay_plane.proofs.LineForms.{gap-same, gap_exchanged, gap_through}
use Rattle.overlay_plane.proofs.Crossing.{IsShared, inner_spans, apart_inside, same_low}
use Rattle.overlay_plane.proofs.Tests.{lt_from_test, le_from_test, test_from_lt, test_from_le, test_from_ge}

-- ---- the meaning of covering an x-coordinate

-- an edge starts at or before an x-coordinate that it covers
pub covers_from : (e : Edge) (x d : ℤ) → covers e x d ≡ true → (e.a.x *ℤ d) ≤ℤ x
covers_from e x d c = le_from_test (e.a.x *ℤ d) x (and_parts (int_le (e.a.x *ℤ d) x) (int_lt x (e.b.x *ℤ d)) c).0

-- an edge ends after an x-coordinate that it covers
pub covers_to : (e : Edge) (x d : ℤ) → covers e x d ≡ true → x <ℤ (e.b.x *ℤ d)
covers_to e x d c = lt_from_test x (e.b.x *ℤ d) (and_parts (int_le (e.a.x *ℤ d) x) (int_lt x (e.b.x *ℤ d)) c).1

-- an edge that covers an x-coordinate is not vertical
pub covers_wide : (e : Edge) (x d : ℤ) → pos 0 <ℤ d → covers e x d ≡ true → pos 0 <ℤ width e
covers_wide e x d positive c =
    let from = covers_from e x d c in
    let to = covers_to e x d c in
    let left = *ℤ_comm e.a.x d in
    let right = *ℤ_comm e.b.x d in
    let less = lt_of_mul-lt d e.a.x e.b.x positive (omega linear) in
    omega linear

-- just right of the x-coordinate is inside
pub inner_just_right : (e : Edge) (x d : ℤ) → covers e x d ≡ true → IsInner e (x +ℤ x +ℤ pos 1) (d +ℤ d)
inner_just_right e x d c = record {
  after = let from = covers_from e x d c in let sum = mul-add e.a.x d d in omega linear;
  before = let to = covers_to e x d c in let sum = mul-add e.b.x d d in omega linear;
}

-- just right of an x-coordinate that both cover is inside both
pub shared_just_right : (f e : Edge) (x d : ℤ) → pos 0 <ℤ d → covers f x d ≡ true → covers e x d ≡ true →
    IsShared f e (x +ℤ x +ℤ pos 1) (d +ℤ d)
shared_just_right f e x d positive over_f over_e = record {
  positive = omega linear;
  inner = inner_just_right e x d over_e;
  spans = inner_spans f (x +ℤ x +ℤ pos 1) (d +ℤ d) (inner_just_right f x d over_f);
}

-- just left of the x-coordinate, at (2x - 1) / 2d, every edge covers that goes on to the left of it
pub covers_just_left : (e : Edge) (x d : ℤ) → (e.a.x *ℤ d) <ℤ x → x ≤ℤ (e.b.x *ℤ d) →
    covers e (x +ℤ x -ℤ pos 1) (d +ℤ d) ≡ true
covers_just_left e x d from to = and_from (int_le (e.a.x *ℤ (d +ℤ d)) (x +ℤ x -ℤ pos 1))
    (int_lt (x +ℤ x -ℤ pos 1) (e.b.x *ℤ (d +ℤ d)))
    (test_from_le (e.a.x *ℤ (d +ℤ d)) (x +ℤ x -ℤ pos 1) (let sum = mul-add e.a.x d d in omega linear))
    (test_from_lt (x +ℤ x -ℤ pos 1) (e.b.x *ℤ (d +ℤ d)) (let sum = mul-add e.b.x d d in omega linear))

-- ---- the order over an x-coordinate

-- no edge is under itself
pub under_irreflexive : (e : Edge) (x d : ℤ) → is_under e e x d ≡ false
under_irreflexive e x d = test_from_ge (pos 0) (gap e e (x +ℤ x +ℤ pos 1) (d +ℤ d))
    (let level = gap-same e (x +ℤ x +ℤ pos 1) (d +ℤ d) in omega linear)

-- of two edges at most one is under the other
pub under_asymmetric : (f e : Edge) (x d : ℤ) → is_under f e x d ≡ true → is_under e f x d ≡ false
under_asymmetric f e x d t =
    let above = lt_from_test (pos 0) (gap f e (x +ℤ x +ℤ pos 1) (d +ℤ d)) t in
    let opposite = gap_exchanged f e (x +ℤ x +ℤ pos 1) (d +ℤ d) in
    test_from_ge (pos 0) (gap e f (x +ℤ x +ℤ pos 1) (d +ℤ d)) (omega linear)

-- the order under edges is transitive
pub under_transitive : (f g h : Edge) (x d : ℤ) → pos 0 <ℤ d → covers f x d ≡ true → covers g x d ≡ true →
    covers h x d ≡ true →
    is_under f g x d ≡ true → is_under g h x d ≡ true → is_under f h x d ≡ true
under_transitive f g h x d positive over_f over_g over_h fg gh =
    let low = mul-pos (width h) (gap f g (x +ℤ x +ℤ pos 1) (d +ℤ d)) (covers_wide h x d positive over_h)
    (lt_from_test (pos 0) (gap f g (x +ℤ x +ℤ pos 1) (d +ℤ d)) fg) in
    let high = mul-pos (width f) (gap g h (x +ℤ x +ℤ pos 1) (d +ℤ d)) (covers_wide f x d positive over_f)
    (lt_from_test (pos 0) (gap g h (x +ℤ x +ℤ pos 1) (d +ℤ d)) gh) in
    let sum = gap_through f g h (x +ℤ x +ℤ pos 1) (d +ℤ d) in
    test_from_lt (pos 0) (gap f h (x +ℤ x +ℤ pos 1) (d +ℤ d))
    (pos_of_mul-pos (width g) (gap f h (x +ℤ x +ℤ pos 1) (d +ℤ d)) (covers_wide g x d positive over_g)
    (omega linear))

-- of two edges that meet in ends alone, one is under the other
pub under_total : (f e : Edge) (x d : ℤ) → pos 0 <ℤ d → MeetInEnds e f → covers f x d ≡ true → covers e x d ≡ true →
    (is_under f e x d ≡ true) ⊎ (is_under e f x d ≡ true)
under_total f e x d positive meet over_f over_e = by_sign (gap f e (x +ℤ x +ℤ pos 1) (d +ℤ d)) above
    (λ level. absurd (apart level))
    (λ low. inl (test_from_lt (pos 0) (gap f e (x +ℤ x +ℤ pos 1) (d +ℤ d)) low))
  where
    above : gap f e (x +ℤ x +ℤ pos 1) (d +ℤ d) <ℤ pos 0 → (is_under f e x d ≡ true) ⊎ (is_under e f x d ≡ true)
    above high = inr (test_from_lt (pos 0) (gap e f (x +ℤ x +ℤ pos 1) (d +ℤ d))
        (let opposite = gap_exchanged f e (x +ℤ x +ℤ pos 1) (d +ℤ d) in omega linear))

    apart : ¬ (gap f e (x +ℤ x +ℤ pos 1) (d +ℤ d) ≡ pos 0)
    apart = let at = shared_just_right f e x d positive over_f over_e in
        apart_inside f e (x +ℤ x +ℤ pos 1) (d +ℤ d) at.positive
        (covers_wide f x d positive over_f) (covers_wide e x d positive over_e) meet at.inner at.spans

-- the order is one wherever both cover
pub same_under : (f e : Edge) (x d x' d' : ℤ) → pos 0 <ℤ d → pos 0 <ℤ d' → MeetInEnds e f → covers f x d ≡ true →
    covers e x d ≡ true →
    covers f x' d' ≡ true → covers e x' d' ≡ true → is_under f e x d ≡ is_under f e x' d'
same_under f e x d x' d' positive positive' meet over_f over_e over_f' over_e' = same_low f e (x +ℤ x +ℤ pos 1) (d +ℤ d)
    (x' +ℤ x' +ℤ pos 1)
    (d' +ℤ d') (covers_wide f x d positive over_f) (covers_wide e x d positive over_e) meet
    (shared_just_right f e x d positive over_f over_e)
    (shared_just_right f e x' d' positive' over_f' over_e')
