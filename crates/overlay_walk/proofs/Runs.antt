-- Steps sorted by the points that they leave: the comparison is an order, and the steps that leave a point stand side
-- by side.
use Rattle.std.proofs.Common.{◌≡◌, ⊎_elim, ℕ, ◌+◌, ◌-◌, ◌<◌, ◌≤◌, Bool, true, false, ℤ, List, length, get_or, ap, sym}
use Rattle.std.proofs.Common.{◌∙◌, subst, arith}
use Rattle.std.specs.Cmp.{IsStrictWeakOrder}
use Rattle.std.specs.List.Sorted.{IsSortedBy, IsPartitionedBy, IsPartitionPoint}
use Rattle.std.proofs.lemmas.Bool.{both_ways, false_from_ne_true, cases_lt}
use Rattle.std.proofs.lemmas.List.{length-map, get_or-map}
use Rattle.std.proofs.lemmas.List.Sorted.{sorted_far}
use Rattle.overlay_geom.specs.Plane.{Point, Step, point_lt, point_eq}
use Rattle.overlay_geom.proofs.Entries.{some_entry}
use Rattle.overlay_geom.proofs.Mapped.{AllPairs-map, read_mapped}
use Rattle.overlay_geom.proofs.Orders.{point_eq-same, point_lt-back, point_lt-itself, point_lt-order}
pub use Rattle.overlay_geom.proofs.PointComparisons.{point_cmp-is_less, point_cmp-is_tie}
use Rattle.overlay_geom.proofs.PointOrder.{point_lt-after_up_to}
use Rattle.overlay_plane.specs.Turn.{no_step}
use Rattle.overlay_walk.specs.Places.{step_at}
use Rattle.overlay_walk.specs.Steps.{plain_step, plain_steps, IsByFrom}
use Rattle.overlay_walk.specs.declared.step.Step.{Step as StepTaken}

-- the steps that leave the point have the places from low up to high
pub record IsRun (ss : List Step) (p : Point) (low high : ℕ) : Type 0 where
  pub ordered : low ≤ high
  pub within : high ≤ length ss
  pub leave : (k : ℕ) → low ≤ k → k < high → (step_at ss k).from ≡ p
  pub all : (k : ℕ) → k < length ss → (step_at ss k).from ≡ p → (low ≤ k) × (k < high)

-- the steps from low up to high leave p; if there is a step at high, it does not
pub record LeaveAlike (ss : List Step) (p : Point) (low high : ℕ) : Type 0 where
  pub ordered : low ≤ high
  pub within : high ≤ length ss
  pub leave : (k : ℕ) → low ≤ k → k < high → (step_at ss k).from ≡ p
  pub ends : high < length ss → point_eq (step_at ss high).from p ≡ false

module _ {I : Type 0} (whole : I → ℤ) where
  -- steps by the points that they leave
  abbrev pub leaves_smaller : StepTaken I → StepTaken I → Bool
  leaves_smaller s t = point_lt (plain_step whole s).from (plain_step whole t).from

  -- that is an order in which any two steps compare
  pub leaves_smaller-order : IsStrictWeakOrder leaves_smaller
  leaves_smaller-order = record {
    one_way = λ s t. point_lt-order.one_way (plain_step whole s).from (plain_step whole t).from;
    chain = λ s t u. point_lt-order.chain (plain_step whole s).from (plain_step whole t).from (plain_step whole u).from;
  }

  -- steps sorted by it are in order
  pub IsByFrom-from_sorted : (ss : List (StepTaken I)) → IsSortedBy leaves_smaller ss → IsByFrom (plain_steps whole ss)
  IsByFrom-from_sorted ss up =
      AllPairs-map (λ (s t : Step). point_lt t.from s.from ≡ false) (plain_step whole) ss
      (λ i j d l m. sorted_far leaves_smaller leaves_smaller-order ss up i j d (omega arith) m)

  -- the step leaves a point smaller than p
  abbrev pub leaves_below : Point → StepTaken I → Bool
  leaves_below p s = point_lt (plain_step whole s).from p

  module _ (ss : List (StepTaken I)) (by_start : IsByFrom (plain_steps whole ss)) (p : Point) where
    -- the numbers of the step at a place
    plain_at : (k : ℕ) (d : StepTaken I) (e : Step) → k < length ss →
        get_or (plain_steps whole ss) k e ≡ plain_step whole (get_or ss k d)
    plain_at k d e h = get_or-map (plain_step whole) ss k d e h

    -- of two places the later one holds no step that leaves a smaller point
    later_leaves : (i j : ℕ) (d : StepTaken I) → i ≤ j → j < length ss →
        point_lt (plain_step whole (get_or ss j d)).from (plain_step whole (get_or ss i d)).from ≡ false
    later_leaves i j d up h = ⊎_elim
        (λ less. subst (λ s. point_lt s.from (plain_step whole (get_or ss i d)).from ≡ false)
        (plain_at j d (plain_step whole d) h)
        (subst (λ s. point_lt (get_or (plain_steps whole ss) j (plain_step whole d)).from s.from ≡ false)
        (plain_at i d (plain_step whole d) (omega arith))
        (by_start i j (plain_step whole d) less (let l = length-map ss (plain_step whole) in omega arith))))
        (λ back. let same : j ≡ i = omega arith in
        subst (λ k. point_lt (plain_step whole (get_or ss k d)).from (plain_step whole (get_or ss i d)).from ≡ false)
        (sym same)
        (point_lt-itself (plain_step whole (get_or ss i d)).from))
        (cases_lt i j)

    -- steps that leave smaller points stand in the front of the list alone
    pub below-parted : IsPartitionedBy (leaves_below p) ss
    below-parted i j d up h less =
        point_lt-after_up_to (plain_step whole (get_or ss i d)).from (plain_step whole (get_or ss j d)).from p
        (later_leaves i j d up h) less

    -- a place parts the steps if its step leaves no smaller point, and the step right before it does
    pub parted_at : (n : ℕ) → n < length ss → point_lt (step_at (plain_steps whole ss) n).from p ≡ false →
        ((k : ℕ) → k + 1 ≡ n → point_lt (step_at (plain_steps whole ss) k).from p ≡ true) →
        IsPartitionPoint (λ s. leaves_below p s ≡ true) (λ s. leaves_below p s ≡ false) ss n
    parted_at n inside at before = (front, back)
      where
        front : (k : ℕ) (d : StepTaken I) → 0 ≤ k → k < n → leaves_below p (get_or ss k d) ≡ true
        front k d from less =
            let last : (n - 1) + 1 ≡ n = omega arith in
            below-parted k (n - 1) d (omega arith) (omega arith)
            (subst (λ s. point_lt s.from p ≡ true) (plain_at (n - 1) d no_step (omega arith)) (before (n - 1) last))

        back : (k : ℕ) (d : StepTaken I) → n ≤ k → k < length ss → leaves_below p (get_or ss k d) ≡ false
        back k d from within = false_from_ne_true (leaves_below p (get_or ss k d))
            (λ less. both_ways (leaves_below p (get_or ss n d))
            (subst (λ s. point_lt s.from p ≡ false) (plain_at n d no_step inside) at)
            (below-parted n k d from within less))

    -- the steps that leave p stand behind those that leave smaller points
    pub run_until : (low high : ℕ) →
        IsPartitionPoint (λ s. leaves_below p s ≡ true) (λ s. leaves_below p s ≡ false) ss low →
        LeaveAlike (plain_steps whole ss) p low high → IsRun (plain_steps whole ss) p low high
    run_until low high smaller alike = record {
      ordered = alike.ordered;
      within = alike.within;
      leave = alike.leave;
      all = λ k h at. let inside : k < length ss = omega (arith, h, count) in
          (from_low k inside at, below_high k inside at);
    }
      where
        count : length (plain_steps whole ss) ≡ length ss
        count = length-map ss (plain_step whole)

        -- what the step at a place leaves
        left_at : (k : ℕ) (d : StepTaken I) → k < length ss → (step_at (plain_steps whole ss) k).from ≡ p →
            (plain_step whole (get_or ss k d)).from ≡ p
        left_at k d h at = ap (λ (s : Step). s.from) (sym (plain_at k d no_step h)) ∙ at

        from_low : (k : ℕ) → k < length ss → (step_at (plain_steps whole ss) k).from ≡ p → low ≤ k
        from_low k h at =
            let d = some_entry ss k h in
            ⊎_elim (λ less. absurd (both_ways (leaves_below p (get_or ss k d))
            (ap (λ q. point_lt q p) (left_at k d h at) ∙ point_lt-itself p) (smaller.0 k d (omega arith) less)))
            (λ up. up) (cases_lt k low)

        -- the step behind the run leaves a point that is not p, nor smaller
        behind : (d : StepTaken I) → high < length ss → point_lt p (plain_step whole (get_or ss high d)).from ≡ true
        behind d h =
            let from = (plain_step whole (get_or ss high d)).from in
            let up = alike.ordered in
            point_lt-back from p
            (subst (λ s. point_eq s.from p ≡ false) (plain_at high d no_step h) (alike.ends (omega (arith, h, count))))
            (smaller.1 high d (omega (arith, up)) h)

        below_high : (k : ℕ) → k < length ss → (step_at (plain_steps whole ss) k).from ≡ p → k < high
        below_high k h at =
            let d = some_entry ss k h in
            ⊎_elim (λ less. less) (λ up. absurd (both_ways
            (point_lt (plain_step whole (get_or ss k d)).from (plain_step whole (get_or ss high d)).from)
            (later_leaves high k d up h)
            (subst (λ q. point_lt q (plain_step whole (get_or ss high d)).from ≡ true) (sym (left_at k d h at))
            (behind d (omega (arith, up, h)))))) (cases_lt k high)

    -- one step more leaves p
    pub leave_on : (low i : ℕ) → i < length ss →
        ((k : ℕ) → low ≤ k → k < i → (step_at (plain_steps whole ss) k).from ≡ p) → (s : StepTaken I) →
        s ≡ get_or ss i s → point_eq (plain_step whole s).from p ≡ true →
        (k : ℕ) → low ≤ k → k < i + 1 → (step_at (plain_steps whole ss) k).from ≡ p
    leave_on low i within before s read at k from below = ⊎_elim (before k from)
        (λ late. subst (λ n. (step_at (plain_steps whole ss) n).from ≡ p) (let same : i ≡ k = omega arith in same)
        (ap (λ (t : Step). t.from) (read_mapped (plain_step whole) ss i s no_step within read)
        ∙ point_eq-same (plain_step whole s).from p at)) (cases_lt k i)
