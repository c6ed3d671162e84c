-- The points of the run are asked; the others lie outside the shape, which leaves where they lie.
use Rattle.std.proofs.Common.{◌≤ℤ◌, length, sym, subst}
use Rattle.overlay_geom.specs.Paths.{paths_of_shape}
use Rattle.overlay_geom.specs.Plane.{Point}
use Rattle.overlay_geom.specs.Points.{plain_point, plain_points, InRange}
use Rattle.overlay_geom.proofs.Mapped.{mapped_range, All-mapped_range}
use Rattle.overlay_relate.specs.Answers.{AnswersWhere}
use Rattle.overlay_relate.specs.Joined.{joined_by, AreJoined}
use Rattle.overlay_relate.specs.Locations.{IsLocatedIn}
use Rattle.overlay_relate.specs.Runs.{AreByX}
use Rattle.overlay_relate.specs.declared.joined.Parts.TheVariants.{Shapes}
use Rattle.overlay_relate.proofs.JoinedParts.{shape_joined, shape_apart}
use Rattle.overlay_relate.proofs.JoinedRuns.{run_in_order}
use Rattle.overlay_relate.proofs.in_shapes.join_shape.Goals as goal

pub returns-then-start-end-clause-joined : goal.returns-then-start-end-clause-joined
returns-then-start-end-clause-joined g c seen so_far =
    let whole = g.I.IntNumber.whole in
    shape_apart (paths_of_shape whole c.args.shape.now) (plain_points whole c.args.points.now)
    c.run_over_all-start.result.0
    c.run_over_all-start.result.1 c.run_over_all-start.ensures seen c.args.located.now.items so_far c.if-start-end.true

pub located_in_shape-requires-clause-points : goal.located_in_shape-requires-clause-points
located_in_shape-requires-clause-points g c =
    All-mapped_range (InRange g.I.IntNumber.limit) (plain_point g.I.IntNumber.whole) c.args.points.now
    c.run_over_all-start.result.0 c.run_over_all-start.result.1 c.requires.points

pub located_in_shape-requires-clause-order : goal.located_in_shape-requires-clause-order
located_in_shape-requires-clause-order g c =
    let whole = g.I.IntNumber.whole in
    let points = c.args.points.now in
    let run = c.run_over_all-start.ensures in
    subst AreByX (sym (mapped_range (plain_point whole) points c.run_over_all-start.result.0
    c.run_over_all-start.result.1))
    (run_in_order (λ (p q : Point). p.x ≤ℤ q.x) (plain_points whole points) c.run_over_all-start.result.0
    c.run_over_all-start.result.1 run.ordered run.within c.requires.order)

pub returns-clause-joined : goal.returns-clause-joined
returns-clause-joined g c seen so_far =
    let whole = g.I.IntNumber.whole in
    let points = c.args.points.now in
    let start = c.run_over_all-start.result.0 in
    let end = c.run_over_all-start.result.1 in
    let old = c.args.located.now.items in
    let new = c.join_from.new.locations.items in
    let here = c.in_ok-here.here.items in
    let part = paths_of_shape whole c.args.shape.now in
    shape_joined part (plain_points whole points) start end c.run_over_all-start.ensures seen old so_far new here
    (subst (λ qs. AnswersWhere (IsLocatedIn part) qs here) (mapped_range (plain_point whole) points start end)
    c.in_ok-here.ensures.located)
    (subst (λ ls. AreJoined (joined_by Shapes) start (length ls) ls old new) c.deref.ensures.value c.join_from.ensures)
