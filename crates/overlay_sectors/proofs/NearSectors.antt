-- Points near p, left of it or right of it: the edges below them are those that pass below p, and of those that lead
-- from p the ones below these points.
use Rattle.std.proofs.Common.{◌≡◌, true, cond, ◌&&◌, ◌||◌, ℕ, ℤ, pos, ◌+ℤ◌, ◌-ℤ◌, ◌*ℤ◌, ◌<ℤ◌, ◌≤ℤ◌}
use Rattle.std.proofs.Common.{int_lt, int_le, List, Contains, sym, ap, ap₂, ◌∙◌}
use Rattle.std.specs.Ordering.{int_eq}
use Rattle.std.proofs.lemmas.Bool.{and_parts, and_from, false_from_ne_true}
use Rattle.std.proofs.lemmas.Bool.Decides.{Decides-int_eq}
use Rattle.std.proofs.lemmas.Int.{by_lt_z}
use Rattle.overlay_geom.specs.Edges.{CountedEdge, ends_of, winding_by}
use Rattle.overlay_geom.specs.Plane.{PlanePoint, Edge, side, is_strictly_below}
use Rattle.overlay_geom.proofs.Identities.{solve, ◌⊕◌, ◌⊗◌, ◌⊖◌, ◌≗◌}
use Rattle.overlay_geom.proofs.Signs.{linear, by_sign, mul-lt, mul-le}
use Rattle.overlay_plane.specs.Heights.{covers}
use Rattle.overlay_plane.proofs.Tests.{lt_from_test, le_from_test, test_from_lt, test_from_le, test_from_ge, same_tests}
use Rattle.overlay_plane.proofs.Totals.{total-same}
use Rattle.overlay_plane.proofs.Under.{covers_from, covers_to}
use Rattle.overlay_relate.specs.Closures.{AreWithinPart}
use Rattle.overlay_relate.proofs.NearPoints.{size, after_x, before_x, above_there, below_there}
use Rattle.overlay_sectors.specs.Sectors.{spans_beside, is_below_near, winding_near}
use Rattle.overlay_sectors.specs.declared.flank.Flank.{Flank}
use Rattle.overlay_sectors.specs.declared.flank.Flank.TheVariants.{Left, Right}

-- how far q is right of p, over both denominators
abbrev pub across : PlanePoint → PlanePoint → ℤ
across p q = q.x *ℤ p.d -ℤ p.x *ℤ q.d

-- q is on this flank of p
abbrev pub IsOnFlank : Flank → PlanePoint → PlanePoint → Type 0
IsOnFlank Right p q = pos 0 ≤ℤ across p q
IsOnFlank Left p q = across p q <ℤ pos 0

module _ (n : ℕ) (p q : PlanePoint) (near : AreWithinPart n q p) (f : Edge) (fits : (size f *ℤ p.d) <ℤ pos n) where
  from_x : (z : ℤ) → (z *ℤ q.d) ≤ℤ q.x → (z *ℤ p.d) ≤ℤ p.x
  from_x z le = by_lt_z p.x (z *ℤ p.d)
      (λ less. absurd (let lt = before_x n p q near f fits z less in omega linear)) (λ ge. ge)

  to_x : (z : ℤ) → q.x ≤ℤ (z *ℤ q.d) → p.x ≤ℤ (z *ℤ p.d)
  to_x z le = by_lt_z (z *ℤ p.d) p.x
      (λ less. absurd (let lt = after_x n p q near f fits z less in omega linear)) (λ ge. ge)

  scaled : (z : ℤ) → p.d *ℤ (z *ℤ q.d) ≡ q.d *ℤ (z *ℤ p.d)
  scaled z = solve 3 (λ z d c. d ⊗ (z ⊗ c) ≗ c ⊗ (z ⊗ d)) tt z p.d q.d

  level_x : p.d *ℤ q.x ≡ q.d *ℤ p.x +ℤ across p q
  level_x = solve 4 (λ x d u c. d ⊗ u ≗ c ⊗ x ⊕ (u ⊗ d ⊖ x ⊗ c)) tt p.x p.d q.x q.d

  -- right of p a whole number up to p.x is up to q.x
  up_to : pos 0 ≤ℤ across p q → (z : ℤ) → (z *ℤ p.d) ≤ℤ p.x → (z *ℤ q.d) ≤ℤ q.x
  up_to right z le = by_lt_z q.x (z *ℤ q.d) (λ less. absurd (
      let lt = mul-lt p.d q.x (z *ℤ q.d) p.positive less in
      let ge = mul-le q.d (z *ℤ p.d) p.x (let c = q.positive in omega linear) le in
      let is = scaled z in
      let x = level_x in
      omega linear)) (λ ge. ge)

  -- left of p one from p.x on is after q.x
  after : across p q <ℤ pos 0 → (z : ℤ) → p.x ≤ℤ (z *ℤ p.d) → q.x <ℤ (z *ℤ q.d)
  after left z le = by_lt_z q.x (z *ℤ q.d) (λ less. less) (λ ge. absurd (
      let more = mul-le p.d (z *ℤ q.d) q.x (let d = p.positive in omega linear) ge in
      let least = mul-le q.d p.x (z *ℤ p.d) (let c = q.positive in omega linear) le in
      let is = scaled z in
      let x = level_x in
      omega linear))

  -- the edges over q are those with points on the flank
  right_span : pos 0 ≤ℤ across p q → covers f q.x q.d ≡ spans_beside Right f p
  right_span right = same_tests (covers f q.x q.d) (covers f p.x p.d) back forth
    where
      back : covers f q.x q.d ≡ true → covers f p.x p.d ≡ true
      back t = and_from (int_le (f.a.x *ℤ p.d) p.x) (int_lt p.x (f.b.x *ℤ p.d))
          (test_from_le (f.a.x *ℤ p.d) p.x (from_x f.a.x (covers_from f q.x q.d t)))
          (test_from_lt p.x (f.b.x *ℤ p.d) (by_lt_z p.x (f.b.x *ℤ p.d) (λ less. less)
          (λ ge. absurd (let le = up_to right f.b.x ge in let to = covers_to f q.x q.d t in omega linear))))

      forth : covers f p.x p.d ≡ true → covers f q.x q.d ≡ true
      forth t = and_from (int_le (f.a.x *ℤ q.d) q.x) (int_lt q.x (f.b.x *ℤ q.d))
          (test_from_le (f.a.x *ℤ q.d) q.x (up_to right f.a.x (covers_from f p.x p.d t)))
          (test_from_lt q.x (f.b.x *ℤ q.d) (before_x n p q near f fits f.b.x (covers_to f p.x p.d t)))

  left_span : across p q <ℤ pos 0 → covers f q.x q.d ≡ spans_beside Left f p
  left_span left = same_tests (covers f q.x q.d) (spans_beside Left f p) back forth
    where
      back : covers f q.x q.d ≡ true → spans_beside Left f p ≡ true
      back t = and_from (int_lt (f.a.x *ℤ p.d) p.x) (int_le p.x (f.b.x *ℤ p.d))
          (test_from_lt (f.a.x *ℤ p.d) p.x (by_lt_z (f.a.x *ℤ p.d) p.x (λ less. less)
          (λ ge. absurd (let lt = after left f.a.x ge in let from = covers_from f q.x q.d t in omega linear))))
          (test_from_le p.x (f.b.x *ℤ p.d) (to_x f.b.x (let to = covers_to f q.x q.d t in omega linear)))

      forth : spans_beside Left f p ≡ true → covers f q.x q.d ≡ true
      forth t =
          let over = and_parts (int_lt (f.a.x *ℤ p.d) p.x) (int_le p.x (f.b.x *ℤ p.d)) t in
          and_from (int_le (f.a.x *ℤ q.d) q.x) (int_lt q.x (f.b.x *ℤ q.d))
          (test_from_le (f.a.x *ℤ q.d) q.x
          (let less = after_x n p q near f fits f.a.x (lt_from_test (f.a.x *ℤ p.d) p.x over.0) in omega linear))
          (test_from_lt q.x (f.b.x *ℤ q.d) (after left f.b.x (le_from_test p.x (f.b.x *ℤ p.d) over.1)))

  span : (h : Flank) → IsOnFlank h p q → covers f q.x q.d ≡ spans_beside h f p
  span Right on = right_span on
  span Left on = left_span on

  -- q is above the line of an edge where p is, and where p is on the line and q above it
  over_line : int_lt (pos 0) (side f q) ≡
      (int_lt (pos 0) (side f p) || (int_eq (side f p) (pos 0) && int_lt (pos 0) (side f q)))
  over_line = by_sign (side f p)
      (λ low.
      let there = below_there n p q near f fits low in
      test_from_ge (pos 0) (side f q) (omega linear)
      ∙ sym (ap₂ (λ s t. s || (t && int_lt (pos 0) (side f q))) (test_from_ge (pos 0) (side f p) (omega linear))
      (false_from_ne_true (int_eq (side f p) (pos 0))
      (λ t. let is = (Decides-int_eq (side f p) (pos 0)).0 t in omega linear))))
      (λ level. sym (ap₂ (λ s t. s || (t && int_lt (pos 0) (side f q)))
      (test_from_ge (pos 0) (side f p) (omega linear)) ((Decides-int_eq (side f p) (pos 0)).1 level)))
      (λ high. test_from_lt (pos 0) (side f q) (above_there n p q near f fits high)
      ∙ sym (ap (λ s. s || (int_eq (side f p) (pos 0) && int_lt (pos 0) (side f q)))
      (test_from_lt (pos 0) (side f p) high)))

  pub below_near : (h : Flank) → IsOnFlank h p q →
      is_strictly_below f q ≡ is_below_near h f p (int_lt (pos 0) (side f q))
  below_near h on = ap₂ (λ s t. s && t) (span h on) over_line

-- so the winding at q is one of the flank
pub near_winding : (n : ℕ) (p q : PlanePoint) → AreWithinPart n q p → (h : Flank) → IsOnFlank h p q →
    (count : CountedEdge → ℤ) (es : List CountedEdge) →
    ((e : CountedEdge) → Contains es e → (size (ends_of e) *ℤ p.d) <ℤ pos n) →
    winding_by count es q ≡ winding_near h count es p (λ f. int_lt (pos 0) (side f q))
near_winding n p q near h on count es fits = total-same
    (λ e. cond (is_strictly_below (ends_of e) q) (count e) (pos 0))
    (λ e. cond (is_below_near h (ends_of e) p (int_lt (pos 0) (side (ends_of e) q))) (count e) (pos 0)) es
    (λ e c. ap (λ t. cond t (count e) (pos 0)) (below_near n p q near (ends_of e) (fits e c) h on))
