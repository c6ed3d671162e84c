-- The order of fans: any two steps compare in it, and sorted places have it.
use Rattle.std.proofs.Common.{◌≡◌, ⊎_elim, ℕ, ◌<◌, Bool, true, false, ◌&&◌, ◌||◌, pos, ◌+ℤ◌, List, length, get_or}
use Rattle.std.proofs.Common.{All, refl, sym, ap, ap₂, ◌∙◌, subst, arith}
use Rattle.std.specs.Cmp.{IsStrictWeakOrder}
use Rattle.std.specs.List.Sorted.{IsSortedBy}
use Rattle.std.specs.Prelude.{AllPairs}
use Rattle.std.proofs.lemmas.Bool.{both_ways, false_from_ne_true, or_cases, or_left, or_right, and_parts, and_from}
use Rattle.std.proofs.lemmas.Int.{ints}
use Rattle.std.proofs.lemmas.List.Sorted.{sorted_far}
use Rattle.overlay_geom.specs.Plane.{Point, Step, point_lt, point_eq}
use Rattle.overlay_geom.proofs.Orders.{point_eq-same, point_eq-of_same, point_lt-back, point_lt-itself, point_lt-order}
use Rattle.overlay_geom.proofs.PointOrder.{point_lt-after_up_to}
use Rattle.overlay_plane.specs.Turn.{Hand}
use Rattle.overlay_plane.proofs.TurnOrder.{met_irreflexive, met_asymmetric}
use Rattle.overlay_walk.specs.Places.{step_at}
use Rattle.overlay_walk.specs.Fans.{right_of, is_met_from_right, stands_before}
use Rattle.overlay_walk.specs.Steps.{IsLong}
use Rattle.overlay_walk.proofs.RayOrder.{met_chain}
use Rattle.overlay_walk.proofs.StartOrder.{or_no}
use Rattle.overlay_walk.proofs.StartsCompared.{long_or, same_step}

-- the point on the right of v is another one
pub right_apart : (v : Point) → ¬ (right_of v ≡ v)
right_apart v same = let x : v.x +ℤ pos 1 ≡ v.x = ap (λ (p : Point). p.x) same in omega (arith, ints)

module _ (hand : Hand) where
  -- the steps leave one point, and the first is met there before the second
  abbrev is_met_at_start : Step → Step → Bool
  is_met_at_start s t = point_eq s.from t.from && is_met_from_right hand s.from s.to t.to

  module _ (s t : Step) where
    -- by its point a step stands before another, or by its direction
    pub stands_by_points : point_lt s.from t.from ≡ true → stands_before hand s t ≡ true
    stands_by_points less = or_left (point_lt s.from t.from) (is_met_at_start s t) less

    pub stands_by_rays : s.from ≡ t.from → is_met_from_right hand s.from s.to t.to ≡ true →
        stands_before hand s t ≡ true
    stands_by_rays same met = or_right (point_lt s.from t.from) (is_met_at_start s t)
        (and_from (point_eq s.from t.from) (is_met_from_right hand s.from s.to t.to)
        (point_eq-of_same s.from t.from same) met)

    -- and only so
    pub by_points_or_rays : {P : Type 0} → stands_before hand s t ≡ true → (point_lt s.from t.from ≡ true → P) →
        (s.from ≡ t.from → is_met_from_right hand s.from s.to t.to ≡ true → P) → P
    by_points_or_rays e points rays = ⊎_elim points
        (λ both. let parts = and_parts (point_eq s.from t.from) (is_met_from_right hand s.from s.to t.to) both in
        rays (point_eq-same s.from t.from parts.0) parts.1)
        (or_cases (point_lt s.from t.from) (is_met_at_start s t) e)

    -- a step that does not stand before another leaves no smaller point, and is met at one point no earlier
    pub not_by_points : stands_before hand s t ≡ false → point_lt s.from t.from ≡ false
    not_by_points later = false_from_ne_true (point_lt s.from t.from)
        (λ less. both_ways (stands_before hand s t) later (stands_by_points less))

    pub not_by_rays : stands_before hand s t ≡ false → s.from ≡ t.from →
        is_met_from_right hand s.from s.to t.to ≡ false
    not_by_rays later same = false_from_ne_true (is_met_from_right hand s.from s.to t.to)
        (λ met. both_ways (stands_before hand s t) later (stands_by_rays same met))

    -- at one point the directions tell it, and else the points
    pub at_one_point : point_eq s.from t.from ≡ true →
        is_met_from_right hand s.from s.to t.to ≡ stands_before hand s t
    at_one_point same = sym (ap₂ (λ a b. a || (b && is_met_from_right hand s.from s.to t.to)) level same)
      where
        level : point_lt s.from t.from ≡ false
        level = subst (λ (p : Point). point_lt s.from p ≡ false) (point_eq-same s.from t.from same)
            (point_lt-itself s.from)

    pub at_other_points : point_eq s.from t.from ≡ false → point_lt s.from t.from ≡ stands_before hand s t
    at_other_points apart = or_no (point_lt s.from t.from)
        ∙ ap (λ b. point_lt s.from t.from || (b && is_met_from_right hand s.from s.to t.to)) (sym apart)

  -- no step stands before itself
  pub stands_before-itself : (s : Step) → stands_before hand s s ≡ false
  stands_before-itself s = false_from_ne_true (stands_before hand s s) (λ e. by_points_or_rays s s e
      (λ less. both_ways (point_lt s.from s.from) (point_lt-itself s.from) less)
      (λ same met. both_ways (is_met_from_right hand s.from s.to s.to)
      (met_irreflexive hand s.from (right_of s.from) s.to) met))

  -- of two steps one at most stands before the other
  pub stands_before-one_way : (s t : Step) → stands_before hand s t ≡ true → stands_before hand t s ≡ false
  stands_before-one_way s t st = false_from_ne_true (stands_before hand t s) (λ ts. by_points_or_rays s t st
      (λ less. by_points_or_rays t s ts
      (λ back. both_ways (point_lt t.from s.from) (point_lt-order.one_way s.from t.from less) back)
      (λ same met. both_ways (point_lt s.from s.from) (point_lt-itself s.from)
      (subst (λ (p : Point). point_lt s.from p ≡ true) same less)))
      (λ same met. by_points_or_rays t s ts
      (λ back. both_ways (point_lt s.from s.from) (point_lt-itself s.from)
      (subst (λ (p : Point). point_lt p s.from ≡ true) (sym same) back))
      (λ again met_back. both_ways (is_met_from_right hand s.from t.to s.to)
      (met_asymmetric hand s.from (right_of s.from) s.to t.to (right_apart s.from) met)
      (subst (λ (p : Point). is_met_from_right hand p t.to s.to ≡ true) again met_back))))

  -- steps of which none stands before the next chain
  pub stands_before-chain : (s t w : Step) → ¬ (s.from ≡ s.to) → ¬ (t.from ≡ t.to) → stands_before hand s t ≡ false →
      stands_before hand t w ≡ false → stands_before hand s w ≡ false
  stands_before-chain s t w long_s long_t st tw = false_from_ne_true (stands_before hand s w)
      (λ sw. by_points_or_rays s w sw by_points by_rays)
    where
      by_points : point_lt s.from w.from ≡ true → ⊥
      by_points less = both_ways (point_lt t.from w.from) (not_by_points t w tw)
          (point_lt-after_up_to t.from s.from w.from (not_by_points s t st) less)

      by_rays : s.from ≡ w.from → is_met_from_right hand s.from s.to w.to ≡ true → ⊥
      by_rays same met = at (point_eq s.from t.from) refl
        where
          at : (b : Bool) → point_eq s.from t.from ≡ b → ⊥
          at true is =
              let here = point_eq-same s.from t.from is in
              both_ways (is_met_from_right hand s.from s.to w.to)
              (met_chain hand s.from (right_of s.from) (right_apart s.from) s.to t.to w.to (λ e. long_s (sym e))
              (λ e. long_t (sym (e ∙ here))) (not_by_rays s t st here)
              (subst (λ (p : Point). is_met_from_right hand p t.to w.to ≡ false) (sym here)
              (not_by_rays t w tw (sym here ∙ same)))) met
          at false apart = both_ways (point_lt t.from w.from) (not_by_points t w tw)
              (subst (λ (p : Point). point_lt t.from p ≡ true) same
              (point_lt-back s.from t.from apart (not_by_points s t st)))

  module _ (limit : ℕ) (ss : List Step) (behind : Step) (long : All (IsLong limit) ss) (last : IsLong limit behind)
    where
      -- the step at the first place stands before that at the second
      abbrev pub fanned_before : ℕ → ℕ → Bool
      fanned_before j k = stands_before hand (get_or ss j behind) (get_or ss k behind)

      -- any two compare
      pub fanned_before-order : IsStrictWeakOrder fanned_before
      fanned_before-order = record {
        one_way = λ j k. stands_before-one_way (get_or ss j behind) (get_or ss k behind);
        chain = λ j k m. stands_before-chain (get_or ss j behind) (get_or ss k behind) (get_or ss m behind)
            (long_or limit ss behind long last j).apart (long_or limit ss behind long last k).apart;
      }

      -- sorted places are in this order
      pub fanned_from_sorted : (places : List ℕ) → All (λ k. k < length ss) places → IsSortedBy fanned_before places →
          AllPairs (λ j k. stands_before hand (step_at ss k) (step_at ss j) ≡ false) places
      fanned_from_sorted places within up i j d less m =
          let inside = λ (p : ℕ). λ (h : p < length places). within p d h in
          subst (λ (s : Step). stands_before hand (step_at ss (get_or places j d)) s ≡ false)
          (same_step limit ss behind long last (get_or places i d) (inside i (omega arith)))
          (subst (λ (s : Step). stands_before hand s (get_or ss (get_or places i d) behind) ≡ false)
          (same_step limit ss behind long last (get_or places j d) (inside j m))
          (sorted_far fanned_before fanned_before-order places up i j d (omega arith) m))
