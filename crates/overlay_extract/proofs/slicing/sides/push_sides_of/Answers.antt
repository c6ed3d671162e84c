-- The masks test the bits of the two sides.
use Rattle.std.proofs.Common.{true, ◌++◌, ap, ap₂, ◌∙◌}
use Rattle.std.proofs.lemmas.List.{append_assoc}
use Rattle.overlay_plane.specs.SelectedSteps.{step_with_left}
use Rattle.overlay_order.specs.Vectors.{plain_vector}
use Rattle.overlay_order.proofs.DirectionBits.{has_bit-masked}
use Rattle.overlay_extract.specs.SidesByBits.{step_if}
use Rattle.overlay_walk.specs.Selection.{ends}
use Rattle.overlay_walk.specs.Steps.{plain_steps}
use Rattle.overlay_extract.proofs.slicing.sides.push_sides_of.Goals as goal

pub returns : goal.returns
returns g c = record {
  ok = let whole = g.I.IntNumber.whole in
      let old = plain_steps whole c.args.steps.now.items in
      let edge = ends (plain_vector whole c.args.edge) in
      let forth = ap (λ t. step_if t (step_with_left true edge)) (has_bit-masked c.args.edge.fill 0) in
      let back = ap₂ step_if (has_bit-masked c.args.edge.fill 1) c.step_back.ensures in
      c.in_ok-push_if-2.ensures.ok
      ∙ ap₂ (λ xs ys. xs ++ ys) (c.in_ok-push_if.ensures.ok ∙ ap (λ xs. old ++ xs) forth) back
      ∙ append_assoc old _ _;
}
