-- Alternating steps have one start. Two edges that start in one point without a turn between them lead one way, and no
-- two of the steps there run along one ray.
use Rattle.std.proofs.Common.{◌≡◌, Bool, true, false, pos, ◌-ℤ◌, ◌*ℤ◌, ◌+ℤ◌, ◌<ℤ◌, List, Contains}
use Rattle.std.proofs.Common.{sym, subst}
use Rattle.std.proofs.lemmas.Bool.{false_from_ne_true}
use Rattle.overlay_geom.specs.Plane.{Point, Step, Edge, point_lt, is_forward, edge_of}
use Rattle.overlay_geom.proofs.Orders.{neither_smaller}
use Rattle.overlay_geom.proofs.Signs.{linear}
use Rattle.overlay_plane.specs.Alternates.{Alternates, AreOneWay}
use Rattle.overlay_plane.specs.Contours.{IsStart}
use Rattle.overlay_plane.specs.Nodes.{edge_turn}
use Rattle.overlay_plane.proofs.EdgesOfSteps.{edge_by}
use Rattle.overlay_plane.proofs.EdgeTurns.{IsForward, edge_turn_exchanged, level_ahead}
use Rattle.overlay_plane.proofs.LongSteps.{long_leads_forward}
use Rattle.overlay_plane.proofs.NextAnchors.{end_before}
use Rattle.overlay_plane.proofs.Tests.{ge_from_test}

-- forward edges that start in one point and do not turn lead one way
ways_alike : (e f : Edge) → IsForward e → IsForward f → e.a ≡ f.a → edge_turn e f ≡ pos 0 → AreOneWay e.a e.b f.b
ways_alike e f forward_e forward_f same level = record {
  on_line = subst (λ (v : Point). (e.b.x -ℤ e.a.x) *ℤ (f.b.y -ℤ v.y) -ℤ (e.b.y -ℤ e.a.y) *ℤ (f.b.x -ℤ v.x) ≡ pos 0)
      (sym same) level;
  ahead = subst
      (λ (v : Point). pos 0 <ℤ ((e.b.x -ℤ e.a.x) *ℤ (f.b.x -ℤ v.x) +ℤ (e.b.y -ℤ e.a.y) *ℤ (f.b.y -ℤ v.y)))
      (sym same) (level_ahead e f forward_e forward_f level);
}

module _ (steps : List Step) (alternates : Alternates steps) where
  -- the edge of each leads forward
  forward : (s : Step) → Contains steps s → IsForward (edge_of s)
  forward s c = long_leads_forward s (alternates.long s c)

  -- two along edges that lead one way from one point are equal
  one_along : (s t : Step) → Contains steps s → Contains steps t → (edge_of s).a ≡ (edge_of t).a →
      AreOneWay (edge_of s).a (edge_of s).b (edge_of t).b → AreOneWay (edge_of t).a (edge_of t).b (edge_of s).b → s ≡ t
  one_along s t c d = by (is_forward s) (is_forward t)
    where
      by : (a b : Bool) → (edge_by a s).a ≡ (edge_by b t).a →
          AreOneWay (edge_by a s).a (edge_by a s).b (edge_by b t).b →
          AreOneWay (edge_by b t).a (edge_by b t).b (edge_by a s).b → s ≡ t
      by true true same way back = alternates.one_leaves s t c d same way
      by true false same way back = absurd (alternates.none_both t s d c (sym same) back)
      by false true same way back = absurd (alternates.none_both s t c d same way)
      by false false same way back = alternates.one_arrives s t c d same way

  -- the start is unique
  pub one_start : (s t : Step) → IsStart steps s → IsStart steps t → s ≡ t
  one_start s t first second = one_along s t first.among second.among same
      (ways_alike (edge_of s) (edge_of t) (forward s first.among) (forward t second.among) same level)
      (ways_alike (edge_of t) (edge_of s) (forward t second.among) (forward s first.among) (sym same) back)
    where
      same : (edge_of s).a ≡ (edge_of t).a
      same = neither_smaller (edge_of s).a (edge_of t).a
          (false_from_ne_true (point_lt (edge_of s).a (edge_of t).a)
          (λ lt. second.lowest s first.among (end_before s (edge_of t).a lt)))
          (false_from_ne_true (point_lt (edge_of t).a (edge_of s).a)
          (λ lt. first.lowest t second.among (end_before t (edge_of s).a lt)))

      level : edge_turn (edge_of s) (edge_of t) ≡ pos 0
      level =
          let left = ge_from_test (pos 0) (edge_turn (edge_of s) (edge_of t)) (first.top t second.among (sym same)) in
          let right = ge_from_test (pos 0) (edge_turn (edge_of t) (edge_of s)) (second.top s first.among same) in
          let opposite = edge_turn_exchanged (edge_of s) (edge_of t) in
          omega linear

      back : edge_turn (edge_of t) (edge_of s) ≡ pos 0
      back = let opposite = edge_turn_exchanged (edge_of t) (edge_of s) in let l = level in omega linear
