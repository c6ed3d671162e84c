-- Places of steps compared by where the edges of the steps start.
use Rattle.std.proofs.Common.{◌≡◌, ⊎_elim, ℕ, ◌<◌, Bool, true, false, cond, List, length, get_or, All, refl, sym}
use Rattle.std.proofs.Common.{subst, arith}
use Rattle.std.specs.Cmp.{IsStrictWeakOrder}
use Rattle.std.specs.Prelude.{AllPairs}
use Rattle.std.specs.List.Sorted.{IsSortedBy}
use Rattle.std.proofs.Math.ListN.{get_or-eq_default}
use Rattle.std.proofs.lemmas.Bool.{false_from_ne_true, cases_lt}
use Rattle.std.proofs.lemmas.List.{get_or_default}
use Rattle.std.proofs.lemmas.List.Elements.{All-get_or}
use Rattle.std.proofs.lemmas.List.Sorted.{sorted_far}
use Rattle.overlay_geom.specs.Plane.{Step, Edge, edge_of, point_lt, point_eq}
use Rattle.overlay_geom.specs.Points.{InRange}
use Rattle.overlay_geom.specs.Resolved.{IsLongEdge}
use Rattle.overlay_geom.proofs.Orders.{point_eq-same, point_lt-back}
use Rattle.overlay_plane.specs.Turn.{no_step}
use Rattle.overlay_plane.proofs.EdgeTurns.{IsForward}
use Rattle.overlay_walk.specs.Places.{step_at, comes_top_first, is_place_top_first}
use Rattle.overlay_walk.specs.Steps.{IsLong}
use Rattle.overlay_walk.proofs.StartOrder.{comes_top_first-one_way, comes_top_first-chain}

-- the edge of a long step leads forward
forward_by : (s : Step) → ¬ (s.from ≡ s.to) → (t : Bool) → t ≡ point_lt s.from s.to →
    IsForward (cond t (record { a = s.from; b = s.to }) (record { a = s.to; b = s.from }))
forward_by s apart true is = sym is
forward_by s apart false is = point_lt-back s.from s.to
    (false_from_ne_true (point_eq s.from s.to) (λ same. apart (point_eq-same s.from s.to same))) (sym is)

pub long_is_forward : (limit : ℕ) (s : Step) → IsLong limit s → IsForward (edge_of s)
long_is_forward limit s long = forward_by s long.apart (point_lt s.from s.to) refl

-- its ends are in range
ends_by : (limit : ℕ) (s : Step) → IsLong limit s → (t : Bool) →
    let e : Edge = cond t (record { a = s.from; b = s.to }) (record { a = s.to; b = s.from }) in
    InRange limit e.a × InRange limit e.b
ends_by limit s long true = (long.from_in_range, long.to_in_range)
ends_by limit s long false = (long.to_in_range, long.from_in_range)

pub ends_in_range : (limit : ℕ) (s : Step) → IsLong limit s →
    InRange limit (edge_of s).a × InRange limit (edge_of s).b
ends_in_range limit s long = ends_by limit s long (point_lt s.from s.to)

-- it is long
pub long_edge : (limit : ℕ) (s : Step) → IsLong limit s → IsLongEdge limit (edge_of s)
long_edge limit s long = record {
  forward = long_is_forward limit s long;
  a_in_range = (ends_in_range limit s long).0;
  b_in_range = (ends_in_range limit s long).1;
}

module _ (limit : ℕ) (ss : List Step) (behind : Step) (long : All (IsLong limit) ss) (last : IsLong limit behind) where
  -- the step at a place, or one step behind all
  pub long_or : (k : ℕ) → IsLong limit (get_or ss k behind)
  long_or k = ⊎_elim (λ within. All-get_or (IsLong limit) ss k behind within long)
      (λ past. subst (IsLong limit) (sym (get_or-eq_default ss behind past)) last) (cases_lt k (length ss))

  -- the edge of the first starts before that of the second
  abbrev pub place_before : ℕ → ℕ → Bool
  place_before j k = comes_top_first (edge_of (get_or ss j behind)) (edge_of (get_or ss k behind))

  -- any two compare
  pub place_before-order : IsStrictWeakOrder place_before
  place_before-order = record {
    one_way = λ j k. comes_top_first-one_way (edge_of (get_or ss j behind)) (edge_of (get_or ss k behind))
        (long_is_forward limit (get_or ss j behind) (long_or j))
        (long_is_forward limit (get_or ss k behind) (long_or k));
    chain = λ j k m. comes_top_first-chain (edge_of (get_or ss j behind)) (edge_of (get_or ss k behind))
        (edge_of (get_or ss m behind)) (long_is_forward limit (get_or ss j behind) (long_or j))
        (long_is_forward limit (get_or ss k behind) (long_or k))
        (long_is_forward limit (get_or ss m behind) (long_or m));
  }

  -- a place of a step has the step at it
  pub same_step : (k : ℕ) → k < length ss → get_or ss k behind ≡ step_at ss k
  same_step k within = get_or_default ss k behind no_step within

  -- sorted places are in the order of the starts
  pub top_first_from_sorted : (places : List ℕ) → All (λ k. k < length ss) places → IsSortedBy place_before places →
      AllPairs (λ j k. is_place_top_first ss k j ≡ false) places
  top_first_from_sorted places within up i j d less m =
      let inside = λ (p : ℕ). λ (h : p < length places). within p d h in
      subst (λ (s : Step). comes_top_first (edge_of (step_at ss (get_or places j d))) (edge_of s) ≡ false)
      (same_step (get_or places i d) (inside i (omega arith)))
      (subst (λ (s : Step). comes_top_first (edge_of s) (edge_of (get_or ss (get_or places i d) behind)) ≡ false)
      (same_step (get_or places j d) (inside j m))
      (sorted_far place_before place_before-order places up i j d (omega arith) m))
