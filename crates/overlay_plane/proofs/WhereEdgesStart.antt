-- The lower of two edges just right of an x-coordinate, from the gap at the x-coordinate, and from the start of one of
-- them.
use Rattle.std.proofs.Common.{◌≡◌, true, false, ℤ, pos, ◌+ℤ◌, ◌*ℤ◌, neg_ℤ, ◌<ℤ◌, int_lt, int_le, ap, ◌∙◌, arith}
use Rattle.std.proofs.lemmas.Int.{ints}
use Rattle.std.proofs.lemmas.Bool.{and_from}
use Rattle.overlay_geom.specs.Plane.{Edge, side, in_plane}
use Rattle.overlay_geom.specs.Settled.{MeetInEnds}
use Rattle.overlay_geom.proofs.Identities.{solve, number, ◌⊗◌, ⊝◌, ◌≗◌}
use Rattle.overlay_geom.proofs.OneLine.{meet_in_ends_exchanged}
use Rattle.overlay_geom.proofs.Signs.{linear, by_sign, mul-pos, mul-neg}
use Rattle.overlay_plane.specs.Heights.{width, gap, covers, is_under, Spans}
use Rattle.overlay_plane.proofs.LineForms.{gap-at_start, gap_exchanged}
use Rattle.overlay_plane.proofs.Crossing.{IsShared, no_crossing, apart_inside, same_starts}
use Rattle.overlay_plane.proofs.Under.{covers_from, covers_to, covers_wide, shared_just_right, under_asymmetric}
use Rattle.overlay_plane.proofs.Tests.{test_from_lt, test_from_le}

-- an edge spans an x-coordinate that it covers
pub covers_spans : (e : Edge) (x d : ℤ) → covers e x d ≡ true → Spans e x d
covers_spans e x d c = record { from = covers_from e x d c; to = let less = covers_to e x d c in omega linear }

-- the edge that is lower at an x-coordinate which both cover is under the other
pub under_from_gap : (f e : Edge) (x d : ℤ) → pos 0 <ℤ d → MeetInEnds e f → covers f x d ≡ true → covers e x d ≡ true →
    pos 0 <ℤ gap f e x d →
    is_under f e x d ≡ true
under_from_gap f e x d positive meet over_f over_e low = by_sign (gap f e (x +ℤ x +ℤ pos 1) (d +ℤ d))
    (λ high. absurd (crossed high))
    (λ level. absurd (apart_inside f e (x +ℤ x +ℤ pos 1) (d +ℤ d) shared.positive wide_f wide_e meet shared.inner
    shared.spans level))
    (λ above. test_from_lt (pos 0) (gap f e (x +ℤ x +ℤ pos 1) (d +ℤ d)) above)
  where
    wide_f : pos 0 <ℤ width f
    wide_f = covers_wide f x d positive over_f

    wide_e : pos 0 <ℤ width e
    wide_e = covers_wide e x d positive over_e

    shared : IsShared f e (x +ℤ x +ℤ pos 1) (d +ℤ d)
    shared = shared_just_right f e x d positive over_f over_e

    crossed : gap f e (x +ℤ x +ℤ pos 1) (d +ℤ d) <ℤ pos 0 → ⊥
    crossed high = no_crossing e f (x +ℤ x +ℤ pos 1) (d +ℤ d) x d wide_e wide_f (meet_in_ends_exchanged f e meet)
        (shared_just_right e f x d positive over_e over_f) positive (covers_spans f x d over_f)
        (covers_spans e x d over_e)
        (let there = gap_exchanged e f (x +ℤ x +ℤ pos 1) (d +ℤ d) in omega linear) (let here = gap_exchanged e f x d in
        omega linear)

-- an edge strictly below the start of an edge is under that edge
pub at_start_low : (f e : Edge) → MeetInEnds e f → pos 0 <ℤ width e → covers f e.a.x (pos 1) ≡ true →
    covers e e.a.x (pos 1) ≡ true →
    pos 0 <ℤ side f (in_plane e.a) → is_under f e e.a.x (pos 1) ≡ true
at_start_low f e meet wide over_f over_e left = under_from_gap f e e.a.x (pos 1) (omega linear) meet over_f over_e
    (let product = mul-pos (width e) (side f (in_plane e.a)) wide left in
    let start = gap-at_start e f in
    let opposite = gap_exchanged f e e.a.x (pos 1) in
    omega linear)

-- an edge strictly above the start is not under it
pub at_start_high : (f e : Edge) → MeetInEnds e f → pos 0 <ℤ width e → covers f e.a.x (pos 1) ≡ true →
    covers e e.a.x (pos 1) ≡ true →
    side f (in_plane e.a) <ℤ pos 0 → is_under f e e.a.x (pos 1) ≡ false
at_start_high f e meet wide over_f over_e right = under_asymmetric e f e.a.x (pos 1)
    (under_from_gap e f e.a.x (pos 1) (omega linear) (meet_in_ends_exchanged f e meet) over_e over_f
    (let product = mul-neg (width e) (side f (in_plane e.a)) wide right in
    let start = gap-at_start e f in
    omega linear))

-- an edge through the start starts there too
pub at_start_level : (f e : Edge) → MeetInEnds e f → pos 0 <ℤ width e → covers f e.a.x (pos 1) ≡ true →
    covers e e.a.x (pos 1) ≡ true →
    side f (in_plane e.a) ≡ pos 0 → e.a ≡ f.a
at_start_level f e meet wide over_f over_e level = same_starts f e e.a.x (pos 1) (omega linear)
    (covers_wide f e.a.x (pos 1) (omega linear) over_f) wide meet
    (covers_spans e e.a.x (pos 1) over_e) (covers_spans f e.a.x (pos 1) over_f)
    (gap_exchanged f e e.a.x (pos 1) ∙ ap neg_ℤ (gap-at_start e f ∙ ap (λ z. neg_ℤ (width e *ℤ z)) level)
    ∙ none (width e))
    (covers_to e e.a.x (pos 1) over_e) (covers_to f e.a.x (pos 1) over_f)
  where
    none : (w : ℤ) → neg_ℤ (neg_ℤ (w *ℤ pos 0)) ≡ pos 0
    none = solve 1 (λ w. ⊝ (⊝ (w ⊗ number (pos 0))) ≗ number (pos 0)) tt

-- an edge that is not vertical covers its start
pub covers_start : (e : Edge) → e.a.x <ℤ e.b.x → covers e e.a.x (pos 1) ≡ true
covers_start e wide = and_from (int_le (e.a.x *ℤ pos 1) e.a.x) (int_lt e.a.x (e.b.x *ℤ pos 1))
    (test_from_le (e.a.x *ℤ pos 1) e.a.x (omega (arith, ints)))
    (test_from_lt e.a.x (e.b.x *ℤ pos 1) (omega (arith, ints)))
