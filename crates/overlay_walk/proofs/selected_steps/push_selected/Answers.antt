-- The next edge moves from the edges to come to those done, and its step has its number.
use Rattle.std.proofs.Common.{◌≡◌, ◌+◌, Some, map, drop, refl, ap, ◌∙◌}
use Rattle.std.specs.List.{slice_get}
use Rattle.std.specs.Option.{option_map}
use Rattle.std.proofs.lemmas.Option.{slice_get-map, slice_get_read}
use Rattle.overlay_geom.proofs.Mapped.{mapped_rest}
use Rattle.overlay_order.specs.Vectors.{plain_vector}
use Rattle.overlay_order.proofs.Appended.{next_appended}
use Rattle.overlay_walk.specs.Steps.{filled_hand, plain_steps}
use Rattle.overlay_walk.specs.Selection.{ends, steps_by_bits}
use Rattle.overlay_walk.proofs.selected_steps.push_selected.Goals as goal

pub loop-number-preserved : goal.loop-number-preserved
loop-number-preserved g c =
    let vector = plain_vector g.I.IntNumber.whole in
    let edges = c.args.edges.now in
    let edge = c.index-edges-number.result in
    let stands : slice_get (map (λ v. ends (vector v)) edges) c.loop-number.number ≡ Some (ends (vector edge)) =
    slice_get-map (λ v. ends (vector v)) edges c.loop-number.number
    ∙ ap (option_map (λ v. ends (vector v)))
    (slice_get_read edges _ c.loop-number.number edge refl c.loop-number-test.true c.index-edges-number.is) in (
      next_appended (steps_by_bits c.args.rule (filled_hand c.args.direction))
          (plain_steps g.I.IntNumber.whole c.loop-number.steps.items) _
          (vector edge) (map vector (drop (c.loop-number.number + 1) edges)) _ _
          (mapped_rest vector edges c.loop-number.number edge c.loop-number-test.true c.index-edges-number.is)
          c.loop-number.invariant.0 c.in_ok-push_step.ensures.ok,
      λ stood. c.in_ok-push_step.ensures.along (map (λ v. ends (vector v)) edges) stands
          (c.loop-number.invariant.1 stood),
    )
