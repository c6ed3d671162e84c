-- Places in the order of the fans: a point parts them, and so does a step.
use Rattle.std.proofs.Common.{◌≡◌, ⊎_elim, ℕ, ◌≤◌, ◌<◌, Bool, true, false, not, List, length, get_or, All, refl}
use Rattle.std.proofs.Common.{sym, subst, arith}
use Rattle.std.specs.List.Sorted.{IsPartitionedBy, IsPartitionPoint}
use Rattle.std.proofs.lemmas.Bool.{both_ways, cases_lt, not_from_false}
use Rattle.std.proofs.lemmas.List.{get_or_default}
use Rattle.overlay_geom.specs.Plane.{Point, Step, point_lt}
use Rattle.overlay_geom.proofs.PointOrder.{point_lt-after_up_to}
use Rattle.overlay_plane.specs.Turn.{Hand, no_step}
use Rattle.overlay_walk.specs.Places.{step_at}
use Rattle.overlay_walk.specs.Fans.{stands_before, AreFanned}
use Rattle.overlay_walk.specs.Steps.{IsLong}
use Rattle.overlay_walk.proofs.FannedSteps.{not_by_points, stands_before-itself, stands_before-chain}

-- a test whose contrary holds fails, and holds where the contrary fails
failed_by : (b : Bool) → not b ≡ true → b ≡ false
failed_by true e = absurd (both_ways false refl e)
failed_by false e = refl

held_by : (b : Bool) → not b ≡ false → b ≡ true
held_by true e = refl
held_by false e = absurd (both_ways true e refl)

-- a test parts a list where its contrary does
pub parted_by_not : (test : ℕ → Bool) (xs : List ℕ) (n : ℕ) →
    IsPartitionPoint (λ k. not (test k) ≡ true) (λ k. not (test k) ≡ false) xs n →
    IsPartitionPoint (λ k. test k ≡ false) (λ k. test k ≡ true) xs n
parted_by_not test xs n parted = (
  λ i d from below. failed_by (test (get_or xs i d)) (parted.0 i d from below),
  λ i d from below. held_by (test (get_or xs i d)) (parted.1 i d from below),
)

module _ (hand : Hand) (ss : List Step) (fanned : List ℕ) (placed : AreFanned hand ss fanned) where
  -- a later step does not stand before an earlier one
  pub in_order : (i j d : ℕ) → i ≤ j → j < length fanned →
      stands_before hand (step_at ss (get_or fanned j d)) (step_at ss (get_or fanned i d)) ≡ false
  in_order i j d up h = ⊎_elim (λ less. placed.order i j d less h)
      (λ back. let same : i ≡ j = omega arith in
      subst (λ m. stands_before hand (step_at ss (get_or fanned m d)) (step_at ss (get_or fanned i d)) ≡ false) same
      (stands_before-itself hand (step_at ss (get_or fanned i d))))
      (cases_lt i j)

  module _ (behind : Step) where
    -- the step at a place, read with another default
    pub read_or : (i d : ℕ) → i < length fanned →
        get_or ss (get_or fanned i d) behind ≡ step_at ss (get_or fanned i d)
    read_or i d h = get_or_default ss (get_or fanned i d) behind no_step (placed.within i d h)

    in_order_or : (i j d : ℕ) → i ≤ j → j < length fanned →
        stands_before hand (get_or ss (get_or fanned j d) behind) (get_or ss (get_or fanned i d) behind) ≡ false
    in_order_or i j d up h =
        subst (λ (s : Step). stands_before hand (get_or ss (get_or fanned j d) behind) s ≡ false)
        (sym (read_or i d (omega arith)))
        (subst (λ (s : Step). stands_before hand s (step_at ss (get_or fanned i d)) ≡ false) (sym (read_or j d h))
        (in_order i j d up h))

    -- steps that leave a point below p stand in the front alone
    pub below-parted : (p : Point) → IsPartitionedBy (λ k. point_lt (get_or ss k behind).from p) fanned
    below-parted p i j d up h less =
        let s = get_or ss (get_or fanned i d) behind in
        let t = get_or ss (get_or fanned j d) behind in
        point_lt-after_up_to s.from t.from p (not_by_points hand t s (in_order_or i j d up h)) less

    -- steps that do not stand behind a step stand in the front alone
    pub up_to-parted : (limit : ℕ) → All (IsLong limit) ss → IsLong limit behind →
        IsPartitionedBy (λ k. not (stands_before hand behind (get_or ss k behind))) fanned
    up_to-parted limit long last i j d up h up_to =
        let s = get_or ss (get_or fanned i d) behind in
        let t = get_or ss (get_or fanned j d) behind in
        not_from_false (stands_before hand behind s) (stands_before-chain hand behind t s last.apart
        (subst (λ (w : Step). ¬ (w.from ≡ w.to)) (sym (read_or j d h))
        (long (get_or fanned j d) no_step (placed.within j d h)).apart)
        (failed_by (stands_before hand behind t) up_to) (in_order_or i j d up h))
