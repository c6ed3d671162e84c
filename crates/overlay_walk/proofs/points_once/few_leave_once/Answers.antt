-- Each pair tells.
use Rattle.std.proofs.Common.{◌<◌, length, refl, sym, ◌∙◌, arith}
use Rattle.std.proofs.lemmas.Bool.{both_ways, false≢true}
use Rattle.std.proofs.lemmas.List.{length-map, get_or-map}
use Rattle.overlay_geom.specs.Plane.{Step, point_eq}
use Rattle.overlay_geom.proofs.Orders.{point_eq-of_same}
use Rattle.overlay_plane.specs.Turn.{no_step}
use Rattle.overlay_walk.specs.Places.{step_at}
use Rattle.overlay_walk.specs.Steps.{plain_step, plain_steps}
use Rattle.overlay_walk.proofs.points_once.few_leave_once.Goals as goal

pub returns-then-is_left_before : goal.returns-then-is_left_before
returns-then-is_left_before g c =
    let whole = g.I.IntNumber.whole in
    let steps = c.args.steps.now in
    let ss = plain_steps whole steps in
    let place = c.loop-place.place in
    let found = c.is_left_before.ensures.found c.if-is_left_before.true in
    let k = found.0 in
    let d = (step_at ss k).from in
    let count = length-map steps (plain_step whole) in
    let within_k : k < length ss = omega (arith, found.1, count, c.loop-place-test.true) in
    let within : place < length ss = omega (arith, count, c.loop-place-test.true) in
    let many = length-map ss (λ (s : Step). s.from) in (
      λ t. absurd (false≢true t),
      λ once. absurd (both_ways (point_eq (step_at ss k).from (step_at ss place).from)
          ((λ i. point_eq (sym (get_or-map (λ (s : Step). s.from) ss k no_step d within_k) i)
          (sym (get_or-map (λ (s : Step). s.from) ss place no_step d within) i))
          ∙ once k place d found.1 (omega (arith, many, within)))
          (point_eq-of_same (step_at ss k).from (step_at ss place).from found.2)),
    )

pub returns : goal.returns
returns g c =
    let whole = g.I.IntNumber.whole in
    let steps = c.args.steps.now in
    let ss = plain_steps whole steps in
    let count = length-map steps (plain_step whole) in
    let many = length-map ss (λ (s : Step). s.from) in
    let past = c.loop-place-test.false in (
      λ t i j d less within.
          let within_j : j < length ss = omega (arith, many, within) in
          let within_i : i < length ss = omega (arith, less, within_j) in
          (λ n. point_eq (get_or-map (λ (s : Step). s.from) ss i no_step d within_i n)
          (get_or-map (λ (s : Step). s.from) ss j no_step d within_j n))
          ∙ c.loop-place.invariant i j less (omega (arith, count, past, within_j)),
      λ once. refl,
    )
