-- In an arrangement the closure of a shape's interior is its closed region.
use Rattle.std.proofs.Common.{◌≡◌, ◌⊎◌, ◌↔◌, inl, inr, ⊎_elim, Bool, true, false, cond, ◌+◌, ℕ, ℤ, pos}
use Rattle.std.proofs.Common.{◌+ℤ◌, ◌-ℤ◌, ◌*ℤ◌, ◌<ℤ◌, ◌≤ℤ◌, List, [], Contains, refl, sym, ap, ap₂, ◌∙◌, subst}
use Rattle.std.proofs.Common.{arith}
use Rattle.std.proofs.lemmas.Bool.{or_cases, or_left, or_right}
use Rattle.std.proofs.lemmas.Int.{ints, by_lt_z}
use Rattle.std.proofs.lemmas.List.Elements.{All-contains}
use Rattle.overlay_geom.specs.Edges.{CountedEdge, ends_of}
use Rattle.overlay_geom.specs.Plane.{PlanePoint, IsOn, point_lt, total, is_strictly_below}
use Rattle.overlay_geom.proofs.Identities.{solve, number, ◌⊕◌, ◌⊗◌, ◌⊖◌, ◌≗◌}
use Rattle.overlay_geom.proofs.Signs.{linear, mul-le, le_of_mul-le}
use Rattle.overlay_plane.specs.Nodes.{IsBalancedArrangement}
use Rattle.overlay_plane.specs.Predicates.{fills_at, fills_above, fills_below, IsBesideShape}
use Rattle.overlay_plane.specs.Predicates.{IsInClosedRegion}
use Rattle.overlay_plane.specs.Regions.{one_if, selected_sign, IsRuled}
use Rattle.overlay_plane.proofs.BalancedSigns.{arranged_by_signs}
use Rattle.overlay_plane.proofs.InnerPoints.{winding_inside}
use Rattle.overlay_plane.proofs.NodeWindings.{count-times}
use Rattle.overlay_plane.proofs.RegionBelow.{region_from_selected_signs}
use Rattle.overlay_plane.proofs.RisesRound.{some_positive}
use Rattle.overlay_plane.proofs.SelectedLists.{arranged_by_subject}
use Rattle.overlay_plane.proofs.Totals.{total-sub, total-zero}
use Rattle.overlay_relate.specs.Closures.{AreWithinPart, IsInClosure, IsInInterior}
use Rattle.overlay_relate.proofs.InsideNear.{inner, inner_inside, inner_near, no_end_inside, above, winds_above}
use Rattle.overlay_relate.proofs.InsideNear.{above_near, off_above, IsStrictlyInside}
use Rattle.overlay_relate.proofs.LeftWalls.{wall, left_rise}
use Rattle.overlay_relate.proofs.NearPoints.{on_or_off, right_below, left_below}
use Rattle.overlay_relate.proofs.SteepPoints.{point_near, closeness, fits_closeness}

-- points within half of 1/n each are within 1/n
pub within_twice : (n : ℕ) (p q r : PlanePoint) → AreWithinPart (n + n) p q → AreWithinPart (n + n) q r →
    AreWithinPart n p r
within_twice n p q r first second = record {
  right = joined p.x p.d q.x q.d r.x r.d p.positive q.positive r.positive first.right second.right;
  left = turned (joined r.x r.d q.x q.d p.x p.d r.positive q.positive p.positive (back q r second.left)
      (back p q first.left));
  up = joined p.y p.d q.y q.d r.y r.d p.positive q.positive r.positive first.up second.up;
  down = turned (joined r.y r.d q.y q.d p.y p.d r.positive q.positive p.positive (back q r second.down)
      (back p q first.down));
}
  where
    back : (u v : PlanePoint) {z : ℤ} → z ≤ℤ (u.d *ℤ v.d) → z ≤ℤ (v.d *ℤ u.d)
    back u v le = let is = solve 2 (λ c d. c ⊗ d ≗ d ⊗ c) tt u.d v.d in omega linear

    turned : {z : ℤ} → z ≤ℤ (r.d *ℤ p.d) → z ≤ℤ (p.d *ℤ r.d)
    turned le = let is = solve 2 (λ c d. c ⊗ d ≗ d ⊗ c) tt r.d p.d in omega linear

    joined : (x a y b z c : ℤ) → pos 0 <ℤ a → pos 0 <ℤ b → pos 0 <ℤ c →
        (pos (n + n) *ℤ (x *ℤ b -ℤ y *ℤ a)) ≤ℤ (a *ℤ b) → (pos (n + n) *ℤ (y *ℤ c -ℤ z *ℤ b)) ≤ℤ (b *ℤ c) →
        (pos n *ℤ (x *ℤ c -ℤ z *ℤ a)) ≤ℤ (a *ℤ c)
    joined x a y b z c a_pos b_pos c_pos one two =
        let of_c = mul-le c (pos (n + n) *ℤ (x *ℤ b -ℤ y *ℤ a)) (a *ℤ b) (omega linear) one in
        let of_a = mul-le a (pos (n + n) *ℤ (y *ℤ c -ℤ z *ℤ b)) (b *ℤ c) (omega linear) two in
        let twice : pos (n + n) ≡ pos n +ℤ pos n = omega (arith, ints) in
        let left_c = ap (λ m. c *ℤ (m *ℤ (x *ℤ b -ℤ y *ℤ a))) twice in
        let left_a = ap (λ m. a *ℤ (m *ℤ (y *ℤ c -ℤ z *ℤ b))) twice in
        let sum = solve 7 (λ n x a y b z c. c ⊗ ((n ⊕ n) ⊗ (x ⊗ b ⊖ y ⊗ a)) ⊕ a ⊗ ((n ⊕ n) ⊗ (y ⊗ c ⊖ z ⊗ b)) ≗
        b ⊗ (n ⊗ (x ⊗ c ⊖ z ⊗ a)) ⊕ b ⊗ (n ⊗ (x ⊗ c ⊖ z ⊗ a))) tt (pos n) x a y b z c in
        let both = solve 3 (λ a b c. c ⊗ (a ⊗ b) ⊕ a ⊗ (b ⊗ c) ≗ b ⊗ (a ⊗ c) ⊕ b ⊗ (a ⊗ c)) tt a b c in
        le_of_mul-le b (pos n *ℤ (x *ℤ c -ℤ z *ℤ a)) (a *ℤ c) b_pos (omega linear)

-- a point is in the closure where points of the closure are as near as one likes
pub closure_of_near : (points : PlanePoint → Type 0) (p : PlanePoint) →
    ((n : ℕ) → (q : PlanePoint) × IsInClosure points q × AreWithinPart n q p) → IsInClosure points p
closure_of_near points p close n =
    let first = close (n + n) in
    let second = first.1 (n + n) in
    (second.0, second.1, within_twice n second.0 first.0 p second.2 first.2)

module _ (filled : ℤ → Bool) (es : List CountedEdge) (shape : CountedEdge → ℤ) where
  abbrev Inside : PlanePoint → Type 0
  Inside p = IsInInterior filled es shape p

  -- a point that the shape fills is in the closure, even if it is on an edge
  pub filled_in_closure : (p : PlanePoint) → fills_at filled es shape p ≡ true → IsInClosure Inside p
  filled_in_closure p fills n =
      let at = point_near n es [] p in
      (at.near, (at.off, ap filled (at.same shape) ∙ fills), at.close)

  module _ (ruled : IsRuled (λ w z. filled w) shape shape es) where
    arranged : IsBalancedArrangement shape es
    arranged = arranged_by_subject (λ w z. filled w) shape shape es ruled

    forward_at : (f : CountedEdge) → Contains es f → point_lt f.a f.b ≡ true
    forward_at f c = All-contains (λ g. point_lt g.a g.b ≡ true) es f ruled.planar.forward c

    -- points of an edge with a filled side are in the closure
    module _ (p : PlanePoint) (at : IsBesideShape filled es shape p) where
      forward : point_lt at.edge.a at.edge.b ≡ true
      forward = forward_at at.edge at.entry

      abbrev at_inner : ℕ → PlanePoint
      at_inner n = inner n (ends_of at.edge) forward p at.on

      strictly : (n : ℕ) → IsStrictlyInside (ends_of at.edge) (at_inner n)
      strictly n = inner_inside n (ends_of at.edge) forward p at.on

      low : (n : ℕ) → fills_below filled es shape at.edge ≡ true → IsInClosure Inside (at_inner n)
      low n fills = filled_in_closure (at_inner n) (ap filled (winding_inside shape es arranged at.edge at.entry
          (at_inner n) (strictly n).on (no_end_inside (ends_of at.edge) (at_inner n) (strictly n))) ∙ fills)

      high : (n : ℕ) → fills_above filled es shape at.edge ≡ true → IsInClosure Inside (at_inner n)
      high n fills m = (
        above shape es arranged at.edge at.entry (at_inner n) (strictly n) m,
        (
          off_above shape es arranged at.edge at.entry (at_inner n) (strictly n) m,
          ap filled (winds_above shape es arranged at.edge at.entry (at_inner n) (strictly n) m) ∙ fills,
        ),
        above_near shape es arranged at.edge at.entry (at_inner n) (strictly n) m,
      )

      pub beside_in_closure : IsInClosure Inside p
      beside_in_closure = closure_of_near Inside p (λ n. (
        at_inner n,
        ⊎_elim (high n) (low n) (or_cases (fills_above filled es shape at.edge) (fills_below filled es shape at.edge)
            at.fills),
        inner_near n (ends_of at.edge) forward p at.on,
      ))

    -- ---- a point near which the shape fills others

    abbrev sign : CountedEdge → ℤ
    sign e = selected_sign (λ w z. filled w) shape shape es e

    signed : IsBalancedArrangement sign es
    signed = arranged_by_signs (λ w z. filled w) shape shape es ruled

    module _ (p : PlanePoint) (none : fills_at filled es shape p ≡ false) (q : PlanePoint)
        (fills : fills_at filled es shape q ≡ true) (near : AreWithinPart (closeness 0 es p) q p) where
      -- how the truth that an edge is below differs between the two
      abbrev term : CountedEdge → ℤ
      term f = cond (is_strictly_below (ends_of f) q) (sign f) (pos 0) -ℤ
          cond (is_strictly_below (ends_of f) p) (sign f) (pos 0)

      all_terms : total term es ≡ pos 1
      all_terms = total-sub (λ f. cond (is_strictly_below (ends_of f) q) (sign f) (pos 0))
          (λ f. cond (is_strictly_below (ends_of f) p) (sign f) (pos 0)) es
          ∙ ap₂ (λ u v. u -ℤ v) (region_from_selected_signs (λ w z. filled w) shape shape es ruled q ∙ ap one_if fills)
          (region_from_selected_signs (λ w z. filled w) shape shape es ruled p ∙ ap one_if none)

      -- the term of an edge that p is not on: by its ends on the wall to the left of p, and 0 elsewhere
      abbrev rise : Bool → CountedEdge → ℤ
      rise left f = cond left (sign f *ℤ (wall p f.b -ℤ wall p f.a)) (pos 0)

      abbrev Beside : Type 0
      Beside = IsBesideShape filled es shape p

      -- an edge with p and a sign has a filled side
      beside : (f : CountedEdge) → Contains es f → IsOn (ends_of f) p → ¬ (sign f ≡ pos 0) → Beside
      beside f c on counts = by (fills_above filled es shape f) (fills_below filled es shape f) refl refl
        where
          by : (s t : Bool) → fills_above filled es shape f ≡ s → fills_below filled es shape f ≡ t → Beside
          by true t is_s is_t = record {
            edge = f;
            entry = c;
            on = on;
            fills = or_left (fills_above filled es shape f) (fills_below filled es shape f) is_s;
          }
          by false true is_s is_t = record {
            edge = f;
            entry = c;
            on = on;
            fills = or_right (fills_above filled es shape f) (fills_below filled es shape f) is_t;
          }
          by false false is_s is_t = absurd (counts (ap₂ (λ s t. one_if s -ℤ one_if t) is_s is_t))

      -- some edge has p on it where the terms are not those of edges off p
      from_terms : (left : Bool) →
          ((f : CountedEdge) → Contains es f → ¬ (IsOn (ends_of f) p) → term f ≡ rise left f) →
          total (rise left) es ≡ pos 0 → Beside
      from_terms left apart balanced =
          let found = some_positive (λ f. term f -ℤ rise left f) es
          (subst (λ z. pos 0 <ℤ z) (sym (total-sub term (rise left) es ∙ ap₂ (λ u v. u -ℤ v) all_terms balanced))
          (record { lt = tt })) in
          at_entry found.0 found.1 found.2 (on_or_off (ends_of found.0) p)
        where
          at_entry : (f : CountedEdge) → Contains es f → pos 0 <ℤ (term f -ℤ rise left f) →
              IsOn (ends_of f) p ⊎ (¬ (IsOn (ends_of f) p)) → Beside
          at_entry f c more (inr off) = absurd (let is = apart f c off in omega linear)
          at_entry f c more (inl on) = beside f c on (λ zero. let is = nothing (is_strictly_below (ends_of f) q)
              (is_strictly_below (ends_of f) p) left (sign f) (wall p f.b -ℤ wall p f.a) zero in omega linear)
            where
              nothing : (s t l : Bool) (z w : ℤ) → z ≡ pos 0 →
                  (cond s z (pos 0) -ℤ cond t z (pos 0)) -ℤ cond l (z *ℤ w) (pos 0) ≡ pos 0
              nothing s t l z w is = subst (λ (y : ℤ).
                  (cond s y (pos 0) -ℤ cond t y (pos 0)) -ℤ cond l (y *ℤ w) (pos 0) ≡ pos 0) (sym is) (at_zero s t l)
                where
                  nothing_taken : (pos 0 -ℤ pos 0) -ℤ pos 0 *ℤ w ≡ pos 0
                  nothing_taken = solve 1 (λ w. (number (pos 0) ⊖ number (pos 0)) ⊖ number (pos 0) ⊗ w ≗
                      number (pos 0)) tt w

                  at_zero : (s t l : Bool) →
                      (cond s (pos 0) (pos 0) -ℤ cond t (pos 0) (pos 0)) -ℤ cond l (pos 0 *ℤ w) (pos 0) ≡ pos 0
                  at_zero true true true = nothing_taken
                  at_zero true false true = nothing_taken
                  at_zero false true true = nothing_taken
                  at_zero false false true = nothing_taken
                  at_zero true true false = refl
                  at_zero true false false = refl
                  at_zero false true false = refl
                  at_zero false false false = refl

      beside_by_near : Beside
      beside_by_near = by_lt_z (q.x *ℤ p.d -ℤ p.x *ℤ q.d) (pos 0)
          (λ left. from_terms true
          (λ f c off. ap₂ (λ u v. u -ℤ v) (count-times (is_strictly_below (ends_of f) q) (sign f))
          (count-times (is_strictly_below (ends_of f) p) (sign f))
          ∙ solve 3 (λ c s t. c ⊗ s ⊖ c ⊗ t ≗ c ⊗ (s ⊖ t)) tt (sign f) (one_if (is_strictly_below (ends_of f) q))
          (one_if (is_strictly_below (ends_of f) p))
          ∙ ap (λ z. sign f *ℤ z) (ap (λ t. one_if t -ℤ one_if (is_strictly_below (ends_of f) p))
          (left_below (closeness 0 es p) p q near (ends_of f) (fits_closeness 0 es p f c) off left)
          ∙ left_rise p (ends_of f) (forward_at f c) off))
          (signed.balanced (wall p)))
          (λ right. from_terms false
          (λ f c off. ap (λ t. cond t (sign f) (pos 0) -ℤ cond (is_strictly_below (ends_of f) p) (sign f) (pos 0))
          (right_below (closeness 0 es p) p q near (ends_of f) (fits_closeness 0 es p f c) off right)
          ∙ solve 1 (λ z. z ⊖ z ≗ number (pos 0)) tt (cond (is_strictly_below (ends_of f) p) (sign f) (pos 0)))
          (total-nothing es))
        where
          total-nothing : (fs : List CountedEdge) → total (λ f. pos 0) fs ≡ pos 0
          total-nothing fs = total-zero (λ f. pos 0) fs (λ f c. refl)

    -- a point of the closure is in the closed region
    pub closure_in_region : (p : PlanePoint) → IsInClosure Inside p → IsInClosedRegion filled es shape p
    closure_in_region p close = by (fills_at filled es shape p) refl
      where
        by : (t : Bool) → fills_at filled es shape p ≡ t → IsInClosedRegion filled es shape p
        by true is = inl is
        by false is = let at = close (closeness 0 es p) in inr (beside_by_near p is at.0 at.1.1 at.2)

    pub region_in_closure : (p : PlanePoint) → IsInClosedRegion filled es shape p → IsInClosure Inside p
    region_in_closure p (inl fills) = filled_in_closure p fills
    region_in_closure p (inr beside) = beside_in_closure p beside

    pub closed_region : (p : PlanePoint) → IsInClosure Inside p ↔ IsInClosedRegion filled es shape p
    closed_region p = (closure_in_region p, region_in_closure p)
