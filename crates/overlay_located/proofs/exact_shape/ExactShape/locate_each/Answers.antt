-- One point more is told.
use Rattle.std.proofs.Common.{arith}
use Rattle.std.proofs.lemmas.List.{length-map}
use Rattle.overlay_geom.specs.Plane.{in_plane}
use Rattle.overlay_geom.specs.Points.{plain_point, plain_points}
use Rattle.overlay_geom.proofs.Mapped.{read_mapped}
use Rattle.overlay_located.specs.GivenShapes.{TellsLocation}
use Rattle.overlay_located.proofs.ToldEach.{told_more}
use Rattle.overlay_located.proofs.exact_shape.ExactShape.locate_each.Goals as goal

pub loop-i-preserved : goal.loop-i-preserved
loop-i-preserved g c =
    let whole = g.I.IntNumber.whole in
    let points = c.args.points.now in
    let i = c.loop-i.i in
    let lt = c.loop-i-test.true in
    let kept = c.loop-i.auto.out in
    let counted = c.requires.counted in
    told_more (λ v l. TellsLocation c.args.self.now (in_plane v) l) (plain_points whole points) c.loop-i.out i
    (plain_point whole c.index-points-i.result) c.locate_with.result (omega (arith, lt, kept, counted))
    (λ d. read_mapped (plain_point whole) points i c.index-points-i.result d lt c.index-points-i.is)
    c.locate_with.ensures c.loop-i.invariant

pub returns : goal.returns
returns g c =
    let whole = g.I.IntNumber.whole in
    let points = c.args.points.now in
    let past = c.loop-i-test.false in
    let kept = c.loop-i.auto.out in
    let counted = c.requires.counted in
    let mapped = length-map points (plain_point whole) in
    record {
      counted = omega (arith, kept, counted, mapped);
      each = λ n d e lt. c.loop-i.invariant n d e (omega (arith, lt, past, mapped));
    }
