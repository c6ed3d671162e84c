-- The strip below an edge between two x-coordinates: ends and starts of an edge in it tell where that edge is lower at
-- one x-coordinate and not at the other.
use Rattle.std.proofs.Common.{◌≡◌, ⊎_elim, Bool, true, false, not, ◌&&◌, ℤ, pos, ◌+ℤ◌, ◌-ℤ◌, ◌*ℤ◌, ◌<ℤ◌, ◌≤ℤ◌, int_lt}
use Rattle.std.proofs.Common.{int_le, refl, sym, ap, ap₂, ◌∙◌, subst, arith}
use Rattle.std.proofs.lemmas.Bool.{and_from, or_cases, and_parts, false≢true}
use Rattle.std.proofs.lemmas.Bool.Decides.{Decides-int_eq}
use Rattle.std.proofs.lemmas.Int.{ints}
use Rattle.std.specs.Ordering.{int_eq}
use lib.IntN.{*ℤ_comm}
use Rattle.overlay_geom.specs.Plane.{Point, Edge, side, in_plane, point_lt, edge_eq}
use Rattle.overlay_geom.specs.Settled.{MeetInEnds}
use Rattle.overlay_geom.proofs.Identities.{solve, number, ◌⊗◌, ◌⊖◌, ◌≗◌}
use Rattle.overlay_geom.proofs.Signs.{linear, mul-lt, mul-le, lt_of_mul-lt}
use Rattle.overlay_geom.proofs.Orders.{edge_eq-same}
use Rattle.overlay_plane.specs.Heights.{width, covers, is_under, IsInner}
use Rattle.overlay_plane.specs.Regions.{one_if}
use Rattle.overlay_plane.proofs.Crossing.{IsShared, same_low}
use Rattle.overlay_plane.proofs.Ends.{ends_alike, low_at_start, low_at_end}
use Rattle.overlay_plane.proofs.Under.{covers_from, covers_to, covers_wide, shared_just_right, same_under}
use Rattle.overlay_plane.proofs.Under.{under_irreflexive}
use Rattle.overlay_plane.proofs.Tests.{lt_from_test, ge_from_test, test_from_lt, test_from_ge, test_from_le, int_le-not}

-- the point lies right of x / d and not right of x' / d', below the line of e
abbrev pub is_in_strip : Edge → ℤ → ℤ → ℤ → ℤ → Point → Bool
is_in_strip e x d x' d' v = int_lt x (v.x *ℤ d) && int_le (v.x *ℤ d') x' && int_lt (side e (in_plane v)) (pos 0)

-- ---- tests alone

-- a and b tell whether an edge starts, and ends, right of the first x-coordinate, a' and b' whether right of the
-- second. u and u' tell whether it is lower at the first, and at the second; v and w whether its start, and its end, is
-- lower
record Agrees (a b a' b' u u' v w : Bool) : Type 0 where
  start_kept : a' ≡ true → a ≡ true
  end_kept : b' ≡ true → b ≡ true
  first_order : a ≡ true → b ≡ true
  second_order : a' ≡ true → b' ≡ true
  both : a ≡ false → b ≡ true → a' ≡ false → b' ≡ true → u ≡ u'
  starts : a ≡ true → a' ≡ false → b' ≡ true → u' ≡ v
  inside : a ≡ true → a' ≡ false → b ≡ true → b' ≡ false → v ≡ w
  ends : a ≡ false → b ≡ true → b' ≡ false → u ≡ w

nothing_left : (z : ℤ) → z -ℤ z ≡ pos 0
nothing_left = solve 1 (λ z. z ⊖ z ≗ number (pos 0)) tt

telescopes : (a b a' b' u u' v w : Bool) → Agrees a b a' b' u u' v w →
    one_if (not a && b && u) -ℤ one_if (not a' && b' && u') ≡ one_if (b && not b' && w) -ℤ one_if (a && not a' && v)
telescopes true true true true u u' v w h = refl
telescopes true true true false u u' v w h = absurd (false≢true (h.second_order refl))
telescopes true true false true u u' v w h = ap (λ t. pos 0 -ℤ one_if t) (h.starts refl refl refl)
telescopes true true false false u u' v w h = sym (ap (λ t. one_if w -ℤ one_if t) (h.inside refl refl refl refl)
    ∙ nothing_left (one_if w))
telescopes true false a' b' u u' v w h = absurd (false≢true (h.first_order refl))
telescopes false b true b' u u' v w h = absurd (false≢true (h.start_kept refl))
telescopes false true false true u u' v w h = ap (λ t. one_if t -ℤ one_if u') (h.both refl refl refl refl)
    ∙ nothing_left (one_if u')
telescopes false true false false u u' v w h = ap (λ t. one_if t -ℤ pos 0) (h.ends refl refl refl)
telescopes false false false true u u' v w h = absurd (false≢true (h.end_kept refl))
telescopes false false false false u u' v w h = refl

-- ---- x-coordinates in order

-- a number right of the later x-coordinate is right of the earlier
right_of_both : (v x d x' d' : ℤ) → pos 0 <ℤ d → pos 0 <ℤ d' → (x *ℤ d') ≤ℤ (x' *ℤ d) → x' <ℤ (v *ℤ d') → x <ℤ (v *ℤ d)
right_of_both v x d x' d' positive positive' order right =
    let more = mul-lt d x' (v *ℤ d') positive right in
    let left = *ℤ_comm x d' in
    let middle = *ℤ_comm x' d in
    let same = exchanged d v d' in
    lt_of_mul-lt d' x (v *ℤ d) positive' (omega linear)
  where
    exchanged : (d v d' : ℤ) → d *ℤ (v *ℤ d') ≡ d' *ℤ (v *ℤ d)
    exchanged = solve 3 (λ d v d'. d ⊗ (v ⊗ d') ≗ d' ⊗ (v ⊗ d)) tt

-- a number right of an x-coordinate is right of each further left
right_further : (u v x d : ℤ) → pos 0 <ℤ d → u ≤ℤ v → x <ℤ (u *ℤ d) → x <ℤ (v *ℤ d)
right_further u v x d positive order right =
    let more = mul-le d u v (omega linear) order in
    let left = *ℤ_comm d u in
    let middle = *ℤ_comm d v in
    omega linear

-- a forward edge does not start right of its end
pub starts_first : (f : Edge) → point_lt f.a f.b ≡ true → f.a.x ≤ℤ f.b.x
starts_first f t = ⊎_elim (λ l. let less = lt_from_test f.a.x f.b.x l in omega linear)
    (λ r. let same = (Decides-int_eq f.a.x f.b.x).0 (and_parts (int_eq f.a.x f.b.x) (int_lt f.a.y f.b.y) r).0 in
    omega linear)
    (or_cases (int_lt f.a.x f.b.x) (int_eq f.a.x f.b.x && int_lt f.a.y f.b.y) t)

-- a whole x-coordinate between two that e covers is inside e
pub inner_in_strip : (e : Edge) (v x d x' d' : ℤ) → pos 0 <ℤ d → pos 0 <ℤ d' → covers e x d ≡ true →
    covers e x' d' ≡ true →
    int_lt x (v *ℤ d) ≡ true → int_lt x' (v *ℤ d') ≡ false → IsInner e v (pos 1)
inner_in_strip e v x d x' d' positive positive' over over' right not_right = record {
  after = let from = covers_from e x d over in let l = lt_from_test x
      (v *ℤ d) right in let c = *ℤ_comm e.a.x d in let k = *ℤ_comm v d in
      let less = lt_of_mul-lt d e.a.x v positive (omega linear) in omega
      (arith, ints);
  before = let to = covers_to e x' d' over' in let r = ge_from_test x'
      (v *ℤ d') not_right in let c = *ℤ_comm e.b.x d' in let k = *ℤ_comm v d' in
      let less = lt_of_mul-lt d' v e.b.x positive' (omega linear) in omega
      (arith, ints);
}

-- ---- one edge

-- the telescoping sum of f, seen from e between two x-coordinates
abbrev AgreesAt : (e f : Edge) (x d x' d' : ℤ) → Type 0
AgreesAt e f x d x' d' = Agrees (int_lt x (f.a.x *ℤ d)) (int_lt x (f.b.x *ℤ d)) (int_lt x' (f.a.x *ℤ d'))
    (int_lt x' (f.b.x *ℤ d')) (is_under f e x d)
    (is_under f e x' d') (int_lt (side e (in_plane f.a)) (pos 0)) (int_lt (side e (in_plane f.b)) (pos 0))

covers_by : (f : Edge) (x d : ℤ) → int_lt x (f.a.x *ℤ d) ≡ false → int_lt x (f.b.x *ℤ d) ≡ true → covers f x d ≡ true
covers_by f x d not_before before_end = and_from (int_le (f.a.x *ℤ d) x) (int_lt x (f.b.x *ℤ d))
    (test_from_le (f.a.x *ℤ d) x (ge_from_test x (f.a.x *ℤ d) not_before)) before_end

module _ (e f : Edge) (x d x' d' : ℤ) (positive : pos 0 <ℤ d) (positive' : pos 0 <ℤ d') (order : (x *ℤ d') ≤ℤ (x' *ℤ d))
    (over : covers e x d ≡ true) (over' : covers e x' d' ≡ true) (forward : point_lt f.a f.b ≡ true) where
  start_kept : (v : ℤ) → int_lt x' (v *ℤ d') ≡ true → int_lt x (v *ℤ d) ≡ true
  start_kept v t = test_from_lt x (v *ℤ d)
      (right_of_both v x d x' d' positive positive' order (lt_from_test x' (v *ℤ d') t))

  end_later : (z c : ℤ) → pos 0 <ℤ c → int_lt z (f.a.x *ℤ c) ≡ true → int_lt z (f.b.x *ℤ c) ≡ true
  end_later z c pc t = test_from_lt z (f.b.x *ℤ c) (right_further f.a.x f.b.x z c pc (starts_first f forward)
      (lt_from_test z (f.a.x *ℤ c) t))

  -- of an edge that is not vertical
  agrees_slanted : pos 0 <ℤ width f → MeetInEnds e f → AgreesAt e f x d x' d'
  agrees_slanted wide_f meet = record {
    start_kept = start_kept f.a.x;
    end_kept = start_kept f.b.x;
    first_order = end_later x d positive;
    second_order = end_later x' d' positive';
    both = λ p q r s. same_under f e x d x' d' positive positive' meet (covers_by f x d p q) over
        (covers_by f x' d' r s) over';
    starts = λ p q r. same_low f e (x' +ℤ x' +ℤ pos 1) (d' +ℤ d') f.a.x (pos 1) wide_f wide meet
        (shared_just_right f e x' d' positive' (covers_by f x' d' q r) over') (at_start p q)
        ∙ low_at_start f e wide_f;
    inside = λ p q r s. sym (low_at_start f e wide_f) ∙ same_low f e f.a.x (pos 1) f.b.x (pos 1) wide_f wide meet
        (at_start p q) (at_end r s)
        ∙ low_at_end f e wide_f;
    ends = λ p q r. same_low f e (x +ℤ x +ℤ pos 1) (d +ℤ d) f.b.x (pos 1) wide_f wide meet
        (shared_just_right f e x d positive (covers_by f x d p q) over) (at_end q r)
        ∙ low_at_end f e wide_f;
  }
    where
      wide : pos 0 <ℤ width e
      wide = covers_wide e x d positive over

      at_start : int_lt x (f.a.x *ℤ d) ≡ true → int_lt x' (f.a.x *ℤ d') ≡ false → IsShared f e f.a.x (pos 1)
      at_start p q = record {
        positive = record { lt = tt };
        inner = inner_in_strip e f.a.x x d x' d' positive positive'
            over over' p q;
        spans = record { from = omega (arith, ints); to = omega (arith, ints) };
      }

      at_end : int_lt x (f.b.x *ℤ d) ≡ true → int_lt x' (f.b.x *ℤ d') ≡ false → IsShared f e f.b.x (pos 1)
      at_end p q = record {
        positive = record { lt = tt };
        inner = inner_in_strip e f.b.x x d x' d' positive positive'
            over over' p q;
        spans = record { from = omega (arith, ints); to = omega (arith, ints) };
      }

  -- of a vertical one
  agrees_vertical : f.a.x ≡ f.b.x → MeetInEnds e f → AgreesAt e f x d x' d'
  agrees_vertical upright meet = record {
    start_kept = start_kept f.a.x;
    end_kept = start_kept f.b.x;
    first_order = end_later x d positive;
    second_order = end_later x' d' positive';
    both = λ p q r s. absurd (split x d p q);
    starts = λ p q r. absurd (split x' d' q r);
    inside = λ p q r s. ends_alike e f (covers_wide e x d positive over) meet
        (inner_in_strip e f.a.x x d x' d' positive positive' over over' p q)
        (inner_in_strip e f.b.x x d x' d' positive positive' over over' r s);
    ends = λ p q r. absurd (split x d p q);
  }
    where
      split : (z c : ℤ) → int_lt z (f.a.x *ℤ c) ≡ false → int_lt z (f.b.x *ℤ c) ≡ true → ⊥
      split z c p q = false≢true (sym p ∙ ap (λ v. int_lt z (v *ℤ c)) upright ∙ q)

  -- of the edge itself
  agrees_same : edge_eq e f ≡ true → AgreesAt e f x d x' d'
  agrees_same same = record {
    start_kept = start_kept f.a.x;
    end_kept = start_kept f.b.x;
    first_order = end_later x d positive;
    second_order = end_later x' d' positive';
    both = λ p q r s. level x d ∙ sym (level x' d');
    starts = λ p q r. absurd (false≢true (sym not_right ∙ p));
    inside = λ p q r s. absurd (false≢true (sym not_right ∙ p));
    ends = λ p q r. absurd (false≢true (sym r ∙ ends_right));
  }
    where
      one : e ≡ f
      one = edge_eq-same e f same

      level : (z c : ℤ) → is_under f e z c ≡ false
      level z c = subst (λ (g : Edge). is_under g e z c ≡ false) one (under_irreflexive e z c)

      not_right : int_lt x (f.a.x *ℤ d) ≡ false
      not_right = subst (λ (g : Edge). int_lt x (g.a.x *ℤ d) ≡ false) one
          (test_from_ge x (e.a.x *ℤ d) (covers_from e x d over))

      ends_right : int_lt x' (f.b.x *ℤ d') ≡ true
      ends_right = subst (λ (g : Edge). int_lt x' (g.b.x *ℤ d') ≡ true) one
          (test_from_lt x' (e.b.x *ℤ d') (covers_to e x' d' over'))

  agrees : (edge_eq e f ≡ false → MeetInEnds e f) → AgreesAt e f x d x' d'
  agrees meets = by (edge_eq e f) refl (int_lt f.a.x f.b.x) refl
    where
      by : (s : Bool) → edge_eq e f ≡ s → (t : Bool) → int_lt f.a.x f.b.x ≡ t → AgreesAt e f x d x' d'
      by true same t slanted = agrees_same same
      by false apart true slanted = agrees_slanted (let less = lt_from_test f.a.x f.b.x slanted in omega linear)
          (meets apart)
      by false apart false upright = agrees_vertical (let most = starts_first f forward in
          let least = ge_from_test f.a.x f.b.x upright in omega linear) (meets apart)

  -- an edge is lower than e at the first x-coordinate, less at the second, as often as its end is in the strip, less
  -- its start
  pub strip : (edge_eq e f ≡ false → MeetInEnds e f) →
      one_if (covers f x d && is_under f e x d) -ℤ one_if (covers f x' d' && is_under f e x' d') ≡ one_if
      (is_in_strip e x d x' d' f.b) -ℤ one_if (is_in_strip e x d x' d' f.a)
  strip meets = ap₂ (λ s t. one_if s -ℤ one_if t) (lower x d) (lower x' d')
      ∙ telescopes a b a' b' (is_under f e x d) (is_under f e x' d') v w (agrees meets)
      ∙ sym (ap₂ (λ s t. one_if s -ℤ one_if t) (within f.b) (within f.a))
    where
      a : Bool
      a = int_lt x (f.a.x *ℤ d)

      b : Bool
      b = int_lt x (f.b.x *ℤ d)

      a' : Bool
      a' = int_lt x' (f.a.x *ℤ d')

      b' : Bool
      b' = int_lt x' (f.b.x *ℤ d')

      v : Bool
      v = int_lt (side e (in_plane f.a)) (pos 0)

      w : Bool
      w = int_lt (side e (in_plane f.b)) (pos 0)

      lower : (z c : ℤ) → (covers f z c && is_under f e z c) ≡ (not (int_lt z (f.a.x *ℤ c)) && int_lt z
          (f.b.x *ℤ c) && is_under f e z c)
      lower z c = ap (λ p. p && int_lt z (f.b.x *ℤ c) && is_under f e z c) (int_le-not (f.a.x *ℤ c) z)

      within : (p : Point) → is_in_strip e x d x' d' p ≡ (int_lt x (p.x *ℤ d) && not (int_lt x' (p.x *ℤ d')) && int_lt
          (side e (in_plane p)) (pos 0))
      within p = ap (λ t. int_lt x (p.x *ℤ d) && t && int_lt (side e (in_plane p)) (pos 0)) (int_le-not (p.x *ℤ d') x')
