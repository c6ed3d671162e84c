-- Points in their order: those between two ranks, those that lie left of a line, and those right of it.
use Rattle.std.proofs.Common.{◌≡◌, ⊎_elim, ℕ, ◌+◌, ◌<◌, ◌≤◌, true, ℤ, ◌<ℤ◌, ◌≤ℤ◌}
use Rattle.std.proofs.Common.{List, length, get_or, sym, ◌∙◌, subst, arith}
use Rattle.std.proofs.lemmas.List.{get_or-map, length-map}
use Rattle.std.proofs.Math.Nat.{eq-or-lt_of_le}
use Rattle.overlay_geom.specs.Plane.{Point, point_lt}
use Rattle.overlay_geom.specs.Points.{plain_point, plain_points}
use Rattle.overlay_geom.specs.declared.point.IntPoint.{IntPoint}
use Rattle.overlay_geom.proofs.Mapped.{AllPairs-unmap}
use Rattle.overlay_geom.proofs.PointOrder.{Decides-point_lt}
use Rattle.overlay_geom.proofs.Signs.{linear}
use Rattle.overlay_pairs.specs.Places.{IsAt}
use Rattle.overlay_arrange.specs.HotPoints.{AreLeftBefore, ArePointsAscending, AreRightFrom}

-- ---- points by x

module _ {I : Type 0} (whole : I → ℤ) (vs : List (IntPoint I)) (up : ArePointsAscending (plain_points whole vs)) where
  -- no later point lies further left
  no_less : (j k : ℕ) (d : IntPoint I) → j ≤ k → k < length vs →
      whole (get_or vs j d).x ≤ℤ whole (get_or vs k d).x
  no_less j k d le within =
      ⊎_elim (λ (same : j ≡ k). subst (λ n. whole (get_or vs j d).x ≤ℤ whole (get_or vs n d).x) same (omega linear))
      (λ (less : j < k).
      ((Decides-point_lt (plain_point whole (get_or vs j d)) (plain_point whole (get_or vs k d))).0
      (AllPairs-unmap (λ v w. point_lt v w ≡ true) (plain_point whole) vs up j k d less within)).x)
      (eq-or-lt_of_le le)

  -- the entry at a rank
  entry : (k : ℕ) (d : IntPoint I) (v : Point) → k < length vs → IsAt (plain_points whole vs) k v →
      plain_point whole (get_or vs k d) ≡ v
  entry k d v inside at_v = sym (get_or-map (plain_point whole) vs k d v inside) ∙ at_v.1

  -- a later point does not lie further left
  not_left_of : (from k : ℕ) (a : IntPoint I) (v : Point) → from ≤ k → k < length vs → a ≡ get_or vs from a →
      IsAt (plain_points whole vs) k v → whole a.x ≤ℤ v.x
  not_left_of from k a v past within a_is at_v = subst (λ (u : Point). whole a.x ≤ℤ u.x) (entry k a v within at_v)
      (subst (λ (u : IntPoint I). whole u.x ≤ℤ whole (get_or vs k a).x) (sym a_is) (no_less from k a past within))

  -- an earlier one does not lie further right
  not_right_of : (k to : ℕ) (b : IntPoint I) (v : Point) → k ≤ to → to < length vs → b ≡ get_or vs to b →
      IsAt (plain_points whole vs) k v → v.x ≤ℤ whole b.x
  not_right_of k to b v up_to within b_is at_v =
      subst (λ (u : Point). u.x ≤ℤ whole b.x) (entry k b v (omega (arith, up_to, within)) at_v)
      (subst (λ (u : IntPoint I). whole (get_or vs k b).x ≤ℤ whole u.x) (sym b_is) (no_less k to b up_to within))

  -- a point between two places lies between the points there
  pub amid_points : (from k to : ℕ) (a b : IntPoint I) (v : Point) → from ≤ k → k ≤ to → to < length vs →
      a ≡ get_or vs from a → b ≡ get_or vs to b → IsAt (plain_points whole vs) k v →
      (whole a.x ≤ℤ v.x) × (v.x ≤ℤ whole b.x)
  amid_points from k to a b v past up_to within a_is b_is at_v = (
    not_left_of from k a v past (omega (arith, up_to, within)) a_is at_v,
    not_right_of k to b v up_to within b_is at_v,
  )

  module _ (x : ℤ) (k : ℕ) where
    -- no points lie left of x
    pub none_left : k ≡ 0 → AreLeftBefore (plain_points whole vs) x k
    none_left none = record {
      within = omega (arith, none);
      left = λ j v less at_v. absurd (omega (arith, less, none));
    }

    -- all up to a point left of x do
    pub left_up_to : (a : IntPoint I) → k < length vs → a ≡ get_or vs k a → whole a.x <ℤ x →
        AreLeftBefore (plain_points whole vs) x (k + 1)
    left_up_to a within a_is less = record {
      within = let l = length-map vs (plain_point whole) in omega (arith, l, within);
      left = λ j v lt at_v.
          let le = not_right_of j k a v (omega (arith, lt)) within a_is at_v in omega (linear, le, less);
    }

    -- all from a point right of x on lie there, and there are none behind the last
    pub right_from : (a : IntPoint I) → a ≡ get_or vs k a → x <ℤ whole a.x → AreRightFrom (plain_points whole vs) x k
    right_from a a_is more j v past at_v =
        let inside : j < length vs = (let l = length-map vs (plain_point whole) in
        let lt = at_v.0 in omega (arith, l, lt)) in
        let le = not_left_of k j a v past inside a_is at_v in omega (linear, more, le)

    pub none_right : length vs ≤ k → AreRightFrom (plain_points whole vs) x k
    none_right all j v past at_v =
        absurd (let l = length-map vs (plain_point whole) in let lt = at_v.0 in omega (arith, l, lt, all, past))
