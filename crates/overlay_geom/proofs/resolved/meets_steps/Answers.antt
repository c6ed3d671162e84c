-- The edge meets each step so far in ends alone, or the answer is no.
use Rattle.std.proofs.Common.{subst, ◌↔◌, ◌+◌, ◌++◌, ◌∷◌, [], All, drop}
use Rattle.std.proofs.lemmas.Bool.{iff_false, false≢true}
use Rattle.std.proofs.lemmas.List.{drop_all}
use Rattle.overlay_geom.specs.Points.{plain_point, plain_points, InRange}
use Rattle.overlay_geom.specs.Resolved.{plain_edge, edges_through}
use Rattle.overlay_geom.specs.Settled.{MeetInEnds}
use Rattle.overlay_geom.proofs.Mapped.{All-mapped_at, mapped_rest}
use Rattle.overlay_geom.proofs.ResolvedSteps.{step_passes, step_fails, last_step}
use Rattle.overlay_geom.proofs.resolved.meets_steps.Goals as goal

pub meets_step-requires-clause-from : goal.meets_step-requires-clause-from
meets_step-requires-clause-from g c = c.loop-to.invariant.0

pub meets_step-requires-clause-to : goal.meets_step-requires-clause-to
meets_step-requires-clause-to g c =
    All-mapped_at (InRange g.I.IntNumber.limit) (plain_point g.I.IntNumber.whole) c.args.points.now c.loop-to.to-index
    c.to-item.result
    c.loop-to-test.true c.to-item.is c.requires.points

pub returns-then-not-meets_step : goal.returns-then-not-meets_step
returns-then-not-meets_step g c =
    let whole = g.I.IntNumber.whole in
    let P = MeetInEnds (plain_edge whole c.args.e) in
    let from = plain_point whole c.loop-to.from in
    let to = plain_point whole c.to-item.result in
    let rest = plain_points whole (drop (c.loop-to.to-index + 1) c.args.points.now) ++ plain_point whole
    c.args.last ∷ [] in
    let next = mapped_rest (plain_point whole) c.args.points.now c.loop-to.to-index c.to-item.result c.loop-to-test.true
    c.to-item.is in
    let all : All P (edges_through from (to ∷ rest)) ↔ All P
    (edges_through (plain_point whole c.args.start)
    (plain_points whole c.args.points.now ++ plain_point whole c.args.last ∷ []))
    = rw next at c.loop-to.invariant.1 in (
      λ no. absurd (false≢true no),
      λ all_of. absurd (step_fails P from to rest all
          (iff_false c.meets_step.ensures c.if-not-meets_step.true) all_of),
    )

pub loop-to-preserved : goal.loop-to-preserved
loop-to-preserved g c =
    let whole = g.I.IntNumber.whole in
    let P = MeetInEnds (plain_edge whole c.args.e) in
    let from = plain_point whole c.loop-to.from in
    let to = plain_point whole c.to-item.result in
    let rest = plain_points whole (drop (c.loop-to.to-index + 1) c.args.points.now) ++ plain_point whole
    c.args.last ∷ [] in
    let next = mapped_rest (plain_point whole) c.args.points.now c.loop-to.to-index c.to-item.result c.loop-to-test.true
    c.to-item.is in
    let all : All P (edges_through from (to ∷ rest)) ↔ All P
    (edges_through (plain_point whole c.args.start)
    (plain_points whole c.args.points.now ++ plain_point whole c.args.last ∷ []))
    = rw next at c.loop-to.invariant.1 in (
      All-mapped_at (InRange g.I.IntNumber.limit) (plain_point g.I.IntNumber.whole) c.args.points.now c.loop-to.to-index
          c.to-item.result
          c.loop-to-test.true c.to-item.is c.requires.points,
      step_passes P from to rest all
          (c.meets_step.ensures.0 c.if-not-meets_step.false),
    )

pub returns : goal.returns
returns g c =
    let whole = g.I.IntNumber.whole in
    let P = MeetInEnds (plain_edge whole c.args.e) in
    let last = plain_point whole c.args.last in
    last_step P (plain_point whole c.loop-to.from) last
    (subst (λ ps. All P (edges_through (plain_point whole c.loop-to.from) (plain_points whole ps ++ last ∷ []))
    ↔ All P (edges_through (plain_point whole c.args.start) (plain_points whole c.args.points.now ++ last ∷ [])))
    (drop_all c.loop-to.to-index c.args.points.now c.loop-to-test.false) c.loop-to.invariant.1)
    c.meets_step-2.ensures
