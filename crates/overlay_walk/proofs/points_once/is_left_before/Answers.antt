-- The next step leaves another point.
use Rattle.std.proofs.Common.{◌≡◌, false, sym, ◌∙◌, below_more, arith}
use Rattle.std.proofs.lemmas.List.{get_or-map}
use Rattle.overlay_geom.specs.Plane.{point_eq}
use Rattle.overlay_plane.specs.Turn.{no_step}
use Rattle.overlay_walk.specs.Places.{step_at}
use Rattle.overlay_walk.specs.Steps.{plain_step, plain_steps}
use Rattle.overlay_walk.proofs.points_once.is_left_before.Goals as goal

pub loop-k-preserved : goal.loop-k-preserved
loop-k-preserved g c =
    let whole = g.I.IntNumber.whole in
    let steps = c.args.steps.now in
    let ss = plain_steps whole steps in
    let l = c.loop-k in
    let s = c.index-steps-k.result in
    let t = c.index-steps-place.result in
    let at_k = get_or-map (plain_step whole) steps l.k s no_step
    (omega (arith, l.auto.k-end, c.requires, c.loop-k-test.true)) in
    let at_place = get_or-map (plain_step whole) steps c.args.place t no_step c.requires in
    below_more (λ j. point_eq (step_at ss j).from (step_at ss c.args.place).from ≡ false) l.k l.invariant
    ((λ i. point_eq (at_k i).from (at_place i).from)
    ∙ sym c.is_same.ensures ∙ c.if-is_same.false)
