-- The turns between edges at a node as their order beside it, and the windings beside vertical edges.
use Rattle.std.proofs.Common.{◌≡◌, false, cond, ◌&&◌, ℤ, pos, ◌+ℤ◌, ◌-ℤ◌, ◌*ℤ◌, ◌<ℤ◌, ◌≤ℤ◌, int_lt, List, Contains, ap}
use Rattle.std.proofs.Common.{◌∙◌, subst}
use Rattle.std.proofs.lemmas.Bool.{and_right}
use lib.IntN.{+ℤ_idr, *ℤ_comm}
use Rattle.overlay_geom.specs.Plane.{Point, side, in_plane, point_eq}
use Rattle.overlay_geom.specs.Edges.{CountedEdge, ends_of, winding_by}
use Rattle.overlay_geom.proofs.Signs.{linear, mul-pos, mul-zero, mul-nonneg, pos_of_mul-pos}
use Rattle.overlay_plane.specs.Heights.{width, gap}
use Rattle.overlay_plane.specs.Nodes.{IsBalancedArrangement, edge_turn, turns_left, UnderBesideANode}
use Rattle.overlay_plane.specs.Nodes.{WindingBesideUprights}
use Rattle.overlay_plane.proofs.LineForms.{side-start, side-end}
use Rattle.overlay_plane.proofs.Tests.{lt_from_test, test_from_lt, test_from_ge, same_tests}
use Rattle.overlay_plane.proofs.Totals.{total-same, total-zero}
use Rattle.overlay_plane.proofs.NearAbscissas.{gap-right_of_start, gap-left_of_end}
use Rattle.overlay_plane.proofs.NodeStarts.{rises_upright}
use Rattle.overlay_plane.proofs.NodeUprights.{turn_is, turn_is_not}
use Rattle.overlay_plane.proofs.NodeWindings.{winding_from_a_start, winding_from_an_end}
use Rattle.overlay_plane.proofs.EdgeTurns.{IsForward, not_narrower}
use Rattle.overlay_plane.proofs.SpokeWindings.{forward_entry}

-- edges that start, or end, in one node are in the order of their turns beside it
pub under_beside_a_node : UnderBesideANode
under_beside_a_node e f = record {
  start = λ same.
      let form = gap-right_of_start f e in
      let none = mul-zero (width e) (side f (in_plane e.a)) (subst (λ (p : Point). side f (in_plane p) ≡ pos 0) same
      (side-start f)) in
      let none_twice = mul-zero (pos 2) (width e *ℤ side f (in_plane e.a)) none in
      let is : edge_turn f e ≡ gap f e (e.a.x +ℤ e.a.x +ℤ pos 1) (pos 1 +ℤ pos 1) = omega linear in
      ap (λ z. int_lt (pos 0) z) is;
  end = λ same.
      let form = gap-left_of_end f e in
      let none = mul-zero (width e) (side f (in_plane e.b)) (subst (λ (p : Point). side f (in_plane p) ≡ pos 0) same
      (side-end f)) in
      let none_more = mul-zero (pos 4) (width e *ℤ side f (in_plane e.b)) none in
      let is : edge_turn e f ≡ gap f e ((e.b.x +ℤ e.b.x -ℤ pos 1) +ℤ (e.b.x +ℤ e.b.x -ℤ pos 1) +ℤ pos 1)
      (pos 2 +ℤ pos 2) = omega linear in
      ap (λ z. int_lt (pos 0) z) is;
}

module _ (count : CountedEdge → ℤ) (es : List CountedEdge) (arranged : IsBalancedArrangement count es) (e : CountedEdge)
    (at : Contains es e) (upright : e.a.x ≡ e.b.x) where
  -- the vertical edge leads forward
  forward : IsForward (ends_of e)
  forward = forward_entry count es arranged e at

  -- it has no width
  narrow : width (ends_of e) ≤ℤ pos 0
  narrow = let u = upright in omega linear

  -- it rises
  rises : pos 0 <ℤ (e.b.y -ℤ e.a.y)
  rises = rises_upright (ends_of e) forward narrow

  -- an edge is to the right of a vertical one where it is not vertical
  right_of_upright : (f : CountedEdge) → Contains es f → turns_left (ends_of f) (ends_of e) ≡ int_lt f.a.x f.b.x
  right_of_upright f is = same_tests (turns_left (ends_of f) (ends_of e)) (int_lt f.a.x f.b.x)
      (λ t. test_from_lt f.a.x f.b.x (let turned = lt_from_test (pos 0) (edge_turn (ends_of f) (ends_of e)) t in
      let i = form in let exchanged = *ℤ_comm (width (ends_of f)) (e.b.y -ℤ e.a.y) in
      let w = pos_of_mul-pos (e.b.y -ℤ e.a.y) (width (ends_of f)) rises (omega linear) in omega linear))
      (λ t. test_from_lt (pos 0) (edge_turn (ends_of f) (ends_of e)) (let less = lt_from_test f.a.x f.b.x t in
      let i = form in let high = mul-pos (width (ends_of f)) (e.b.y -ℤ e.a.y) (omega linear) rises in omega linear))
    where
      form : edge_turn (ends_of f) (ends_of e) ≡ width (ends_of f) *ℤ (e.b.y -ℤ e.a.y)
      form = turn_is (ends_of e) (ends_of f) forward narrow (forward_entry count es arranged f is)
          (arranged.planar.settled e f at is)

  -- nothing is to the left of a vertical edge
  none_left : (f : CountedEdge) → Contains es f → turns_left (ends_of e) (ends_of f) ≡ false
  none_left f is = test_from_ge (pos 0) (edge_turn (ends_of e) (ends_of f))
      (let i = turn_is_not (ends_of e) (ends_of f) forward narrow (forward_entry count es arranged f is)
      (arranged.planar.settled e f at is) in
      let r = rises in
      let high = mul-nonneg (width (ends_of f)) (e.b.y -ℤ e.a.y)
      (not_narrower (ends_of f) (forward_entry count es arranged f is)) (omega linear) in
      omega linear)

-- the winding below a vertical edge, from either end
pub winding_beside_uprights : WindingBesideUprights
winding_beside_uprights count es arranged e at upright = record {
  from_start = winding_from_a_start count es arranged e at
      ∙ ap (λ z. winding_by count es (in_plane e.a) +ℤ z)
      (total-same (λ f. cond (point_eq f.a e.a && turns_left (ends_of f) (ends_of e)) (count f) (pos 0))
      (λ f. cond (point_eq f.a e.a && int_lt f.a.x f.b.x) (count f) (pos 0)) es
      (λ f is. ap (λ t. cond (point_eq f.a e.a && t) (count f) (pos 0))
      (right_of_upright count es arranged e at upright f is)));
  from_end = winding_from_an_end count es arranged e at
      ∙ ap (λ z. winding_by count es (in_plane e.b) +ℤ z)
      (total-zero (λ f. cond (point_eq f.b e.b && turns_left (ends_of e) (ends_of f)) (count f) (pos 0)) es
      (λ f is. ap (λ t. cond t (count f) (pos 0)) (and_right (point_eq f.b e.b) (turns_left (ends_of e) (ends_of f))
      (none_left count es arranged e at upright f is))))
      ∙ +ℤ_idr (winding_by count es (in_plane e.b));
}
