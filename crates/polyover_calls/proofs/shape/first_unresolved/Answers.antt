-- A contour that is not resolved, one more that is, and all of them.
use Rattle.std.proofs.Common.{◌≤◌, All, sym, subst, ◌∙◌}
use Rattle.std.proofs.lemmas.Bool.{false≢true}
use Rattle.std.proofs.lemmas.List.{take_all}
use Rattle.overlay_geom.proofs.ReadInOrder.{All-take_read}
use Rattle.overlay_geom.specs.Flat.{paths_in}
use Rattle.overlay_geom.specs.Points.{plain_points}
use Rattle.overlay_geom.specs.Resolved.{IsResolved}
use Rattle.polyover_calls.proofs.shape.first_unresolved.Goals as goal

pub returns-then-not-is_resolved-clause-first : goal.returns-then-not-is_resolved-clause-first
returns-then-not-is_resolved-clause-first g c = record {
  path = plain_points g.I.IntNumber.whole c.path-points.result.now;
  here = c.path-points.ensures;
  before = c.loop-index.invariant;
  unresolved = λ is. false≢true (sym c.if-not-is_resolved.true ∙ c.in_ok-is_resolved.ensures.ok.1 is);
}

pub loop-index-preserved : goal.loop-index-preserved
loop-index-preserved g c =
    let whole = g.I.IntNumber.whole in
    let paths = paths_in whole c.args.contours.now.points.items c.args.contours.now.ranges.items in
    All-take_read paths c.loop-index.index (plain_points whole c.path-points.result.now) c.path-points.ensures
    IsResolved c.loop-index.invariant (c.in_ok-is_resolved.ensures.ok.0 c.if-not-is_resolved.false)

pub returns-clause-none : goal.returns-clause-none
returns-clause-none g c =
    let whole = g.I.IntNumber.whole in
    let paths = paths_in whole c.args.contours.now.points.items c.args.contours.now.ranges.items in
    subst (All IsResolved) (take_all c.loop-index.index paths
    (subst (λ n. n ≤ c.loop-index.index) c.path_count-index-end.ensures c.loop-index-test.false))
    c.loop-index.invariant
