-- Sums over ends sorted by their points. Each end counts times a number of its point. If the counts at each point
-- before the last cancel out, the sum so far is that at the last point.
use Rattle.std.proofs.Common.{◌≡◌, ℕ, zero, suc, ◌+◌, ◌^◌, ◌<◌, ◌≤◌, Bool, true, false, cond, ℤ, pos, ◌+ℤ◌, ◌*ℤ◌, List}
use Rattle.std.proofs.Common.{[], ◌∷◌, ◌++◌, length, take, drop, get_or, refl, sym, ap, ap₂, ◌∙◌, subst, arith}
use Rattle.std.specs.Prelude.{sum_by}
use Rattle.std.specs.List.{All, AllPairs}
use Rattle.std.proofs.lemmas.Bool.{both_ways}
use Rattle.std.proofs.lemmas.Int.{ints}
use Rattle.std.proofs.lemmas.List.{get_or_default, get_or-drop, length-drop, take_more, take_all, take-append-drop}
use Rattle.std.proofs.lemmas.List.Elements.{All-contains}
use Rattle.std.proofs.lemmas.List.Sums.{sum_by-take-le}
use Rattle.overlay_geom.specs.Numbers.{Within}
use Rattle.overlay_geom.specs.Plane.{Point, point_lt, point_eq, total}
use Rattle.overlay_geom.proofs.Identities.{solve, number, ◌⊕◌, ◌⊗◌, ◌≗◌}
use Rattle.overlay_geom.proofs.Orders.{point_eq-same, point_lt-itself, point_lt-back}
use Rattle.overlay_geom.proofs.PointOrder.{point_lt-before_up_to}
use Rattle.overlay_geom.proofs.Signs.{linear}
use Rattle.overlay_geom.proofs.Totals.{total-append, total-within}
use Rattle.overlay_geom.proofs.WindingSums.{within_abs}
use Rattle.overlay_plane.proofs.Totals.{total-zero}
use Rattle.overlay_scan.proofs.EntriesByStart.{at_front}
use Rattle.overlay_graph.specs.Ends.{CountedEnd, end_weight}

-- two points are equal if neither is before the other
pub neither_before : (p q : Point) → point_lt p q ≡ false → point_lt q p ≡ false → p ≡ q
neither_before p q one other = by (point_eq p q) refl
  where
    by : (t : Bool) → point_eq p q ≡ t → p ≡ q
    by true same = point_eq-same p q same
    by false apart = absurd (both_ways (point_lt q p) other (point_lt-back p q apart one))

times_one : (z : ℤ) → z *ℤ pos 1 ≡ z
times_one z = solve 1 (λ z. z ⊗ number (pos 1) ≗ z) tt z

no_times : (z : ℤ) → pos 0 *ℤ z ≡ pos 0
no_times z = solve 1 (λ z. number (pos 0) ⊗ z ≗ number (pos 0)) tt z

times_none : (z : ℤ) → z *ℤ pos 0 ≡ pos 0
times_none z = solve 1 (λ z. z ⊗ number (pos 0) ≗ number (pos 0)) tt z

both_times : (s c z : ℤ) → s *ℤ z +ℤ c *ℤ z ≡ (s +ℤ c) *ℤ z
both_times s c z = solve 3 (λ s c z. s ⊗ z ⊕ c ⊗ z ≗ (s ⊕ c) ⊗ z) tt s c z

-- each count is within the weight
pub subj_near : (n : CountedEnd) → Within (end_weight n) n.subj
subj_near n = let near = within_abs n.subj in record { low = omega (arith, ints); high = omega (arith, ints) }

pub clip_near : (n : CountedEnd) → Within (end_weight n) n.clip
clip_near n = let near = within_abs n.clip in record { low = omega (arith, ints); high = omega (arith, ints) }

-- ends by their points
abbrev pub AreByPoint : List CountedEnd → Type 0
AreByPoint ns = AllPairs (λ m n. point_lt n.point m.point ≡ false) ns

-- from an end's place on none is at a smaller point
pub none_before : (ns : List CountedEnd) → AreByPoint ns → (i : ℕ) (n : CountedEnd) → i < length ns →
    get_or ns i n ≡ n →
    All (λ m. point_lt m.point n.point ≡ false) (drop i ns)
none_before ns order i n lt is k d h = subst (λ (m : CountedEnd). point_lt m.point n.point ≡ false)
    (sym (get_or-drop i ns k d)) (by k h)
  where
    by : (k : ℕ) → k < length (drop i ns) → point_lt (get_or ns (i + k) d).point n.point ≡ false
    by zero h = let here : i ≡ i + 0 = omega arith in
        subst (λ (m : CountedEnd). point_lt m.point n.point ≡ false) (sym is ∙ get_or_default ns i n d lt
        ∙ ap (λ j. get_or ns j d) here) (point_lt-itself n.point)
    by (suc k) h = let l = length-drop i ns in
        subst (λ (m : CountedEnd). point_lt (get_or ns (i + suc k) d).point m.point ≡ false)
        (get_or_default ns i d n lt ∙ is)
        (order i (i + suc k) d (omega arith) (omega arith))

-- the list from an end on, if no end in it is at a smaller point
pub first_here : (ns : List CountedEnd) (i : ℕ) (n : CountedEnd) → i < length ns → get_or ns i n ≡ n →
    (p : Point) → All (λ m. point_lt m.point p ≡ false) (drop i ns) →
    point_lt n.point p ≡ false
first_here ns i n lt is p least = at_front (λ (m : CountedEnd). point_lt m.point p ≡ false) ns i n lt (sym is) least

-- nor after it
pub none_before_after : (ns : List CountedEnd) → AreByPoint ns → (i : ℕ) (n : CountedEnd) → i < length ns →
    get_or ns i n ≡ n →
    All (λ m. point_lt m.point n.point ≡ false) (drop (i + 1) ns)
none_before_after ns order i n lt is k d h =
    let l = length-drop (i + 1) ns in
    subst (λ (m : CountedEnd). point_lt m.point n.point ≡ false) (sym (get_or-drop (i + 1) ns k d))
    (subst (λ (m : CountedEnd). point_lt (get_or ns (i + 1 + k) d).point m.point ≡ false)
    (get_or_default ns i d n lt ∙ is)
    (order i (i + 1 + k) d (omega arith) (omega arith)))

module _ (count : CountedEnd → ℤ) (ns : List CountedEnd) where
  -- the count of an end times the number of its point
  abbrev weighed : (Point → ℤ) → CountedEnd → ℤ
  weighed f n = count n *ℤ f n.point

  -- the first i ends sum up to the sum times the number of p
  abbrev pub SumsUpAt : ℕ → Point → ℤ → Type 0
  SumsUpAt i p sum = (f : Point → ℤ) → total (weighed f) (take i ns) ≡ sum *ℤ f p

  -- all of them sum up to 0
  abbrev pub SumsUpToNone : Type 0
  SumsUpToNone = (f : Point → ℤ) → total (weighed f) ns ≡ pos 0

  -- before the first end there is nothing
  pub nothing_summed : (p : Point) → SumsUpAt 0 p (pos 0)
  nothing_summed p f = sym (no_times (f p))

  module _ (i : ℕ) (p : Point) (sum : ℤ) (so_far : SumsUpAt i p sum) where
    module _ (n : CountedEnd) (lt : i < length ns) (is : get_or ns i n ≡ n) where
      more : (f : Point → ℤ) → total (weighed f) (take (i + 1) ns) ≡ sum *ℤ f p +ℤ count n *ℤ f n.point
      more f = ap (total (weighed f)) (take_more ns i n lt ∙ ap (λ m. take i ns ++ m ∷ []) is)
          ∙ total-append (weighed f) (take i ns) (n ∷ [])
          ∙ ap₂ (λ a b. a +ℤ b) (so_far f) (last (weighed f n))
        where
          last : (z : ℤ) → z +ℤ pos 0 ≡ z
          last z = omega linear

      -- one end more at the same point
      pub same_point : p ≡ n.point → SumsUpAt (i + 1) n.point (sum +ℤ count n)
      same_point same f = more f ∙ ap (λ q. sum *ℤ f q +ℤ count n *ℤ f n.point) same
          ∙ both_times sum (count n) (f n.point)

      -- one at another point, where those before cancel out
      pub next_point : sum ≡ pos 0 → SumsUpAt (i + 1) n.point (sum +ℤ count n)
      next_point none f = more f ∙ ap (λ s. s *ℤ f p +ℤ count n *ℤ f n.point) none ∙ ap (λ z. z +ℤ count n *ℤ f n.point)
          (no_times (f p) ∙ sym (no_times (f n.point)))
          ∙ ap (λ s. s *ℤ f n.point +ℤ count n *ℤ f n.point) (sym none) ∙ both_times sum (count n) (f n.point)

      -- it stays near 0
      pub sum_within : ((m : CountedEnd) → Within (end_weight m) (count m)) → sum_by end_weight ns < 2 ^ 33 →
          Within (2 ^ 33) (sum +ℤ count n)
      sum_within near light =
          let part = sum_by-take-le end_weight ns (i + 1) in
          let all = total-within (weighed (λ q. pos 1)) end_weight
          (λ m. subst (Within (end_weight m)) (sym (times_one (count m))) (near m)) (take (i + 1) ns) in
          let is_sum : total (weighed (λ q. pos 1)) (take (i + 1) ns) ≡ sum +ℤ count n = more (λ q. pos 1)
          ∙ ap₂ (λ a b. a +ℤ b) (times_one sum) (times_one (count n)) in
          let near_sum = subst (Within (sum_by end_weight (take (i + 1) ns))) is_sum all in
          record { low = omega (arith, ints); high = omega (arith, ints) }

      -- where all cancel out, so do those before another point
      pub none_so_far : AreByPoint ns → point_lt p n.point ≡ true → SumsUpToNone → sum ≡ pos 0
      none_so_far order before none =
          sym (times_one sum) ∙ ap (λ t. sum *ℤ cond t (pos 0) (pos 1)) (sym (point_lt-itself p)) ∙ sym (so_far up_to)
          ∙ sym (without (total (weighed up_to) (take i ns)) (total (weighed up_to) (drop i ns)) rest)
          ∙ sym (total-append (weighed up_to) (take i ns) (drop i ns))
          ∙ ap (total (weighed up_to)) (take-append-drop i ns) ∙ none up_to
        where
          up_to : Point → ℤ
          up_to q = cond (point_lt p q) (pos 0) (pos 1)

          without : (a b : ℤ) → b ≡ pos 0 → a +ℤ b ≡ a
          without a b none_left = omega linear

          rest : total (weighed up_to) (drop i ns) ≡ pos 0
          rest = total-zero (weighed up_to) (drop i ns) (λ m c.
              ap (λ t. count m *ℤ cond t (pos 0) (pos 1)) (point_lt-before_up_to p n.point m.point before
              (All-contains (λ (k : CountedEnd). point_lt k.point n.point ≡ false) (drop i ns) m
              (none_before ns order i n lt is) c))
              ∙ times_none (count m))

    -- in the end all cancel out where the sum is 0
    pub all_cancel : length ns ≤ i → sum ≡ pos 0 → SumsUpToNone
    all_cancel past none f = ap (total (weighed f)) (sym (take_all i ns past)) ∙ so_far f ∙ ap (λ s. s *ℤ f p) none
        ∙ no_times (f p)

    -- the sum is 0 if the counts cancel out
    pub sum_cancels : length ns ≤ i → SumsUpToNone → sum ≡ pos 0
    sum_cancels past none = sym (times_one sum) ∙ sym (so_far (λ q. pos 1))
        ∙ ap (total (weighed (λ q. pos 1))) (take_all i ns past) ∙ none (λ q. pos 1)
