-- The steps of the walk of the program along an edge.
use Rattle.std.proofs.Common.{◌≡◌, ⊎_elim, ℕ, ◌+◌, ◌-◌, ◌<◌, ◌≤◌, Bool, ℤ, List, [], ◌∷◌, ◌++◌, length, drop}
use Rattle.std.proofs.Common.{slice_range, get_or, sym, ap, subst, ◌∙◌, append_assoc, arith}
use Rattle.std.specs.List.{All}
use Rattle.std.proofs.lemmas.List.{length-take-le, length-drop, get_or_default}
use Rattle.std.proofs.lemmas.List.Elements.{All-weaker}
use Rattle.std.proofs.Math.Nat.{eq-or-lt_of_le}
use Rattle.overlay_geom.specs.Edges.{CountedEdge}
use Rattle.overlay_geom.specs.Plane.{in_plane}
use Rattle.overlay_pairs.proofs.Entries.{one_entry}
use Rattle.overlay_plane.specs.Balance.{HasBalancedCounts}
use Rattle.overlay_pairs.specs.Places.{IsAt}
use Rattle.overlay_exact.specs.AllMet.{IsMetBefore, AreMetOf, AreMetByStarts}
use Rattle.overlay_exact.specs.Along.{Met}
use Rattle.overlay_exact.specs.Groups.{IsGroup}
use Rattle.overlay_exact.specs.Parts.{start_part, AreEqual}
use Rattle.overlay_exact.specs.PlacesAlong.{AreMetIn, IsPlaceWith}
use Rattle.overlay_exact.proofs.PlacesTold.{tell_places}
use Rattle.overlay_given.specs.Beside.{filled_beside}
use Rattle.overlay_given.specs.Walk.{IsFirstEnd, WindsFromStart}
use Rattle.overlay_given.specs.declared.beside.Beside.{Beside}
use Rattle.overlay_given.proofs.Walked.{Walked, walk_begun}
use Rattle.overlay_given.proofs.Winds.{winds_from_start}

-- the first meeting points are some of all
pub first_within : (ms : List Met) (end : ℕ) → IsFirstEnd ms end → end ≤ length ms
first_within ms end first = ⊎_elim
    (λ (group : (m : Met) × IsAt ms 0 m × AreEqual m.part start_part × IsGroup ms 0 end). within group.3)
    (λ (none : (end ≡ 0) × ((m : Met) → IsAt ms 0 m → ¬ (AreEqual m.part start_part))).
    let zero = none.0 in omega (arith, zero)) first
  where
    within : IsGroup ms 0 end → end ≤ length ms
    within group = group.within

-- each tells of an edge of the list
pub others_of : (es : List CountedEdge) (i n : ℕ) (e : CountedEdge) (ms : List Met) → length es ≡ n →
    AreMetOf es i e ms → All (λ m. m.other < n) ms
others_of es i n e ms count of = All-weaker (IsMetBefore es (length es) i e) (λ m. m.other < n)
    (λ m met. let less = met.before in omega (arith, less, count)) ms of.all.each

-- a part of a list is so long
pub range_count : {X : Type 0} (xs : List X) (from end : ℕ) → from ≤ end → end ≤ length xs →
    length (slice_range xs from end) + from ≡ end
range_count xs from end up within =
    let all = length-drop from xs in
    let part = length-take-le (end - from) (drop from xs) (omega (arith, all, up, within)) in
    omega (arith, all, part, up, within)

module _ (filled : ℤ → Bool) (es : List CountedEdge) (i : ℕ) (e : CountedEdge) (ms : List Met)
    (given : AreMetIn es i e ms) (balanced : HasBalancedCounts es) where
  -- the edge's start is its first place
  pub first_place : (first : ℕ) → IsFirstEnd ms first → IsPlaceWith es e ms 0 first (in_plane e.a)
  first_place first is = ⊎_elim
      (λ (group : (m : Met) × IsAt ms 0 m × AreEqual m.part start_part × IsGroup ms 0 first).
      (tell_places es i e ms given).start.met group.0 first group.1 group.2 group.3)
      (λ (none : (first ≡ 0) × ((m : Met) → IsAt ms 0 m → ¬ (AreEqual m.part start_part))).
      subst (λ n. IsPlaceWith es e ms 0 n (in_plane e.a)) (sym none.0)
      ((tell_places es i e ms given).start.alone none.1)) is

  -- the walk begins
  pub walk_starts : (first : ℕ) → IsFirstEnd ms first → (b : Beside) →
      WindsFromStart es e (slice_range ms 0 first) b → Walked filled es e ms first b (filled_beside filled b ∷ [])
  walk_starts first is b sums = walk_begun filled es i e ms given first b (first_place first is)
      (winds_from_start es i e ms given balanced first (first_place first is) b sums)

-- one more item is pushed behind those added
pub pushed_more : {X : Type 0} (before old new added : List X) (x y : X) → old ≡ before ++ added → new ≡ old ++ x ∷ [] →
    x ≡ y → new ≡ before ++ (added ++ y ∷ [])
pushed_more before old new added x y so_far pushed is =
    pushed ∙ ap (λ z. old ++ z ∷ []) is ∙ ap (λ zs. zs ++ y ∷ []) so_far ∙ append_assoc before added (y ∷ [])

-- ---- where the meeting points of an edge stand

module _ (es : List CountedEdge) (n : ℕ) (starts : List ℕ) (ms : List Met) (by : AreMetByStarts es n starts ms)
    (i : ℕ) (less : i < n) (s t : ℕ) (s_is : s ≡ get_or starts i s) (t_is : t ≡ get_or starts (i + 1) t) where
  pub at_start : IsAt starts i s
  at_start = (let count = by.count in omega (arith, count, less), sym s_is)

  pub at_next : IsAt starts (i + 1) t
  at_next = (let count = by.count in omega (arith, count, less), sym t_is)

  pub starts_rise : s ≤ t
  starts_rise =
      let up = by.rises i (i + 1) s (omega arith) at_next.0 in
      let next = get_or_default starts (i + 1) s t at_next.0 ∙ at_next.1 in
      let first = at_start.1 in
      omega (arith, up, next, first)

  pub start_within : t ≤ length ms
  start_within = ⊎_elim
      (λ (same : i + 1 ≡ n).
      let is = one_entry starts n t (length ms) (subst (λ k. IsAt starts k t) same at_next) by.last in
      omega (arith, is))
      (λ (more : i + 1 < n).
      let up = by.rises (i + 1) n t more by.last.0 in
      let here = at_next.1 in
      let last = get_or_default starts n t (length ms) by.last.0 ∙ by.last.1 in
      omega (arith, up, here, last))
      (eq-or-lt_of_le (let le : i + 1 ≤ n = omega (arith, less) in le))
