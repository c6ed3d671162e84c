-- The winding along the lower side of an edge is constant, in a balanced list that meets it in ends alone.
use Rattle.std.proofs.Common.{◌≡◌, Bool, true, false, cond, ◌&&◌, ℤ, pos, ◌+ℤ◌, ◌-ℤ◌, ◌*ℤ◌, ◌<ℤ◌, ◌≤ℤ◌, int_lt, int_le}
use Rattle.std.proofs.Common.{List, Contains, refl, sym, ap, ◌∙◌, subst, arith}
use Rattle.std.proofs.lemmas.Bool.{and_from}
use Rattle.std.proofs.lemmas.List.Elements.{All-contains}
use Rattle.std.proofs.lemmas.Int.{ints, by_lt_z}
use lib.IntN.{+ℤ_idr}
use Rattle.overlay_geom.specs.Plane.{point_lt, Point, PlanePoint, Edge, side, midpoint, is_strictly_below, edge_eq}
use Rattle.overlay_geom.specs.Plane.{total_below}
use Rattle.overlay_geom.specs.Edges.{ends_of}
use Rattle.overlay_geom.specs.Settled.{MeetInEnds}
use Rattle.overlay_geom.proofs.Signs.{linear, mul-pos, pos_of_mul-pos, mul-zero}
use Rattle.overlay_geom.proofs.Orders.{edge_eq-same}
use Rattle.overlay_plane.specs.Heights.{width, gap, covers, is_under, IsInner}
use Rattle.overlay_plane.specs.EdgeLists.{IsForwardBy, MeetsAll, IsBalanced}
use Rattle.overlay_plane.specs.Regions.{one_if}
use Rattle.overlay_plane.specs.Windings.{total_under, OneWindingAlongASide, OneWindingAtInnerPoints}
use Rattle.overlay_plane.proofs.LineForms.{gap-line_form, side-midpoint}
use Rattle.overlay_plane.proofs.Crossing.{same_low}
use Rattle.overlay_plane.proofs.Tests.{lt_from_test, test_from_lt, test_from_ge, test_from_le, same_tests}
use Rattle.overlay_plane.proofs.Totals.{total-same, total-sub}
use Rattle.overlay_plane.proofs.Under.{covers_from, covers_to, covers_wide, shared_just_right, under_irreflexive}
use Rattle.overlay_plane.proofs.Strip.{is_in_strip, strip}

-- a count where a test passes, less the same where another does
counted : (c : ℤ) (s t : Bool) → cond s c (pos 0) -ℤ cond t c (pos 0) ≡ c *ℤ (one_if s -ℤ one_if t)
counted c true true = omega (arith, ints)
counted c true false = omega (arith, ints)
counted c false true = omega (arith, ints)
counted c false false = omega (arith, ints)

equal : (a b : ℤ) → a -ℤ b ≡ pos 0 → a ≡ b
equal a b e = omega linear

module _ {X : Type 0} (ends : X → Edge) (count : X → ℤ) (xs : List X) (e : Edge) (forward : IsForwardBy ends xs)
    (meets : MeetsAll ends xs e) where
  -- from an x-coordinate on to a later one
  under_onwards : IsBalanced ends count xs → (x d x' d' : ℤ) → pos 0 <ℤ d → pos 0 <ℤ d' → covers e x d ≡ true →
      covers e x' d' ≡ true →
      (x *ℤ d') ≤ℤ (x' *ℤ d) → total_under ends count xs e x d ≡ total_under ends count xs e x' d'
  under_onwards balanced x d x' d' positive positive' over over' order = equal (total_under ends count xs e x d)
      (total_under ends count xs e x' d')
      (sym (total-sub (lower x d) (lower x' d') xs) ∙ total-same (λ f. lower x d f -ℤ lower x' d' f)
      (λ f. count f *ℤ (g (ends f).b -ℤ g (ends f).a)) xs each ∙ balanced g)
    where
      g : Point → ℤ
      g v = one_if (is_in_strip e x d x' d' v)

      lower : ℤ → ℤ → X → ℤ
      lower z c f = cond (covers (ends f) z c && is_under (ends f) e z c) (count f) (pos 0)

      each : (f : X) → Contains xs f → lower x d f -ℤ lower x' d' f ≡ count f *ℤ (g (ends f).b -ℤ g (ends f).a)
      each f at = counted (count f) (covers (ends f) x d && is_under (ends f) e x d)
          (covers (ends f) x' d' && is_under (ends f) e x' d')
          ∙ ap (λ z. count f *ℤ z) (strip e (ends f) x d x' d' positive positive' order over over'
          (All-contains (λ h. point_lt (ends h).a (ends h).b ≡ true) xs f forward at) (meets f at))

  -- the counts of the edges under e have one sum at every x-coordinate that e covers
  pub under_along : IsBalanced ends count xs → (x d x' d' : ℤ) → pos 0 <ℤ d → pos 0 <ℤ d' → covers e x d ≡ true →
      covers e x' d' ≡ true →
      total_under ends count xs e x d ≡ total_under ends count xs e x' d'
  under_along balanced x d x' d' positive positive' over over' = by_lt_z (x' *ℤ d) (x *ℤ d')
      (λ lt. sym (under_onwards balanced x' d' x d positive' positive over' over (omega linear)))
      (λ ge. under_onwards balanced x d x' d' positive positive' over over' ge)

-- a number that is w times z has its test
times_test : (w z g : ℤ) → pos 0 <ℤ w → w *ℤ z ≡ g → int_lt (pos 0) z ≡ int_lt (pos 0) g
times_test w z g positive e = same_tests (int_lt (pos 0) z) (int_lt (pos 0) g)
    (λ t. test_from_lt (pos 0) g (let more = mul-pos w z positive (lt_from_test (pos 0) z t) in omega linear))
    (λ t. test_from_lt (pos 0) z (pos_of_mul-pos w z positive (let more = lt_from_test (pos 0) g t in omega linear)))

module _ (e : Edge) (p : PlanePoint) (on : side e p ≡ pos 0) (inner : IsInner e p.x p.d) where
  pub inner_covers : covers e p.x p.d ≡ true
  inner_covers = let l = inner.after in let r = inner.before in
      and_from (int_le (e.a.x *ℤ p.d) p.x) (int_lt p.x (e.b.x *ℤ p.d))
      (test_from_le (e.a.x *ℤ p.d) p.x (omega linear)) (test_from_lt p.x (e.b.x *ℤ p.d) r)

  -- the edges strictly below an inner point of e are those that cover it and are under e
  pub below_point : (f : Edge) → (edge_eq e f ≡ false → MeetInEnds e f) →
      is_strictly_below f p ≡ (covers f p.x p.d && is_under f e p.x p.d)
  below_point f meets = by (covers f p.x p.d) refl
    where
      wide : pos 0 <ℤ width e
      wide = covers_wide e p.x p.d p.positive inner_covers

      level : width e *ℤ side f p ≡ gap f e p.x p.d
      level = gap-line_form f e p.x p.y p.d ∙ ap (λ z. gap f e p.x p.d +ℤ z) (mul-zero (width f) (side e p) on)
          ∙ +ℤ_idr (gap f e p.x p.d)

      itself : e ≡ f → int_lt (pos 0) (side f p) ≡ is_under f e p.x p.d
      itself one = subst (λ (g : Edge). int_lt (pos 0) (side g p) ≡ is_under g e p.x p.d) one
          (test_from_ge (pos 0) (side e p) (omega linear) ∙ sym (under_irreflexive e p.x p.d))

      other : covers f p.x p.d ≡ true → MeetInEnds e f → int_lt (pos 0) (side f p) ≡ is_under f e p.x p.d
      other over meet = times_test (width e) (side f p) (gap f e p.x p.d) wide level
          ∙ same_low f e p.x p.d (p.x +ℤ p.x +ℤ pos 1) (p.d +ℤ p.d) (covers_wide f p.x p.d p.positive over) wide meet
          (record {
            positive = p.positive;
            inner = inner;
            spans = record {
              from = covers_from f p.x p.d over;
              to = let r = covers_to f p.x p.d over in
                  omega linear;
            };
          })
          (shared_just_right f e p.x p.d p.positive over inner_covers)

      tests : (s : Bool) → edge_eq e f ≡ s → covers f p.x p.d ≡ true → int_lt (pos 0) (side f p) ≡ is_under f e p.x p.d
      tests true same over = itself (edge_eq-same e f same)
      tests false apart over = other over (meets apart)

      by : (c : Bool) → covers f p.x p.d ≡ c → (c && int_lt (pos 0) (side f p)) ≡ (c && is_under f e p.x p.d)
      by true over = tests (edge_eq e f) refl over
      by false over = refl

  -- the winding there is the sum of the counts under e
  pub total_below-inner : {X : Type 0} (ends : X → Edge) (count : X → ℤ) (xs : List X) → MeetsAll ends xs e →
      total_below ends count xs p ≡ total_under ends count xs e p.x p.d
  total_below-inner ends count xs meets = total-same (λ f. cond (is_strictly_below (ends f) p) (count f) (pos 0))
      (λ f. cond (covers (ends f) p.x p.d && is_under (ends f) e p.x p.d) (count f) (pos 0)) xs
      (λ f at. ap (λ t. cond t (count f) (pos 0)) (below_point (ends f) (meets f at)))

-- the midpoint is inside
pub inner_midpoint : (e : Edge) → pos 0 <ℤ width e → IsInner e (e.a.x +ℤ e.b.x) (pos 2)
inner_midpoint e wide = record { after = omega (arith, ints); before = omega (arith, ints) }

-- one winding along a side: the sum of the counts under e at an x-coordinate that it covers is the winding at its
-- midpoint
pub one_winding_along : {X : Type 0} (ends : X → Edge) (count : X → ℤ) (xs : List X) (e : Edge) → IsForwardBy ends xs →
    MeetsAll ends xs e →
    IsBalanced ends count xs → (x d : ℤ) → pos 0 <ℤ d → covers e x d ≡ true →
    total_under ends count xs e x d ≡ total_below ends count xs (midpoint e)
one_winding_along ends count xs e forward meets balanced x d positive over =
    let inner = inner_midpoint e (covers_wide e x d positive over) in
    under_along ends count xs e forward meets balanced x d (e.a.x +ℤ e.b.x) (pos 2) positive (record { lt = tt }) over
    (inner_covers e (midpoint e) (side-midpoint e) inner)
    ∙ sym (total_below-inner e (midpoint e) (side-midpoint e) inner ends count xs meets)

-- the sum of the counts under an edge is the winding below it
pub one_winding_along_a_side : OneWindingAlongASide
one_winding_along_a_side es count forward settled balanced e at x d positive over = one_winding_along ends_of count es
    (ends_of e) forward (λ f is. settled e f at is) balanced x d positive over

-- the winding at an inner point is that sum too
pub one_winding_at_inner_points : OneWindingAtInnerPoints
one_winding_at_inner_points es count forward settled balanced e at p on inner = total_below-inner (ends_of e) p on inner
    ends_of count es (λ f is. settled e f at is)
    ∙ one_winding_along ends_of count es (ends_of e) forward (λ f is. settled e f at is) balanced p.x p.d p.positive
    (inner_covers (ends_of e) p on inner)
