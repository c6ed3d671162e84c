-- The next step moves from the steps to come to those done.
use Rattle.std.proofs.Common.{◌+◌, ◌++◌, [], ◌∷◌, map, drop, cond}
use Rattle.overlay_geom.specs.Plane.{steps_between}
use Rattle.overlay_geom.specs.Points.{plain_point, plain_points, InRange}
use Rattle.overlay_geom.proofs.Mapped.{mapped_rest, All-mapped_at}
use Rattle.overlay_arrange.proofs.Adding.{front-trans, push-next}
use Rattle.overlay_builder.specs.Paths.{passed_edge}
use Rattle.overlay_builder.proofs.Fronts.{begins_with}
use Rattle.overlay_builder.proofs.path.push_through.Goals as goal

pub push_step-requires-clause-to : goal.push_step-requires-clause-to
push_step-requires-clause-to g c =
    All-mapped_at (InRange g.I.IntNumber.limit) (plain_point g.I.IntNumber.whole) c.args.points.now c.loop-to.to-index
    c.to-item.result
    c.loop-to-test.true c.to-item.is c.requires.points

pub loop-to-preserved : goal.loop-to-preserved
loop-to-preserved g c =
    let at = plain_point g.I.IntNumber.whole in
    let edge = passed_edge g.C.EdgeCount.counts c.args.passing in
    let end = cond c.args.is_closed (at c.args.first ∷ []) [] in
    let rest = plain_points g.I.IntNumber.whole (drop (c.loop-to.to-index + 1) c.args.points.now) ++ end in
    let next = mapped_rest at c.args.points.now c.loop-to.to-index c.to-item.result c.loop-to-test.true c.to-item.is in
    let added = c.in_ok-push_step.ensures.ok in (
      push-next edge (at c.loop-to.from) (at c.to-item.result) rest c.loop-to.content
          c.push_step.new.content _ (rw next at c.loop-to.invariant.0) added,
      All-mapped_at (InRange g.I.IntNumber.limit) at c.args.points.now c.loop-to.to-index c.to-item.result
          c.loop-to-test.true c.to-item.is
          c.requires.points,
      front-trans c.args.content.now c.loop-to.content c.push_step.new.content c.loop-to.invariant.2
          (begins_with c.loop-to.content (map edge (steps_between (at c.loop-to.from) (at c.to-item.result)))
          c.push_step.new.content added),
      λ before. c.in_ok-push_step.ensures.limits (c.loop-to.invariant.3 before),
    )
