-- The spans of x and of y are each of one number more.
use Rattle.std.proofs.Common.{subst}
use Rattle.overlay_geom.specs.Points.{plain_point}
use Rattle.overlay_tiles.specs.Spans.{IsBoxFound, plain_bounds}
use Rattle.overlay_tiles.proofs.Boxes.{box_of_more}
use Rattle.overlay_tiles.proofs.span.IntBounds.with.Goals as goal

pub returns-in-Some : goal.returns-in-Some
returns-in-Some g c = λ seen box.
    let whole = g.I.IntNumber.whole in
    box_of_more seen (plain_bounds whole c.in-Some.b)
    (plain_bounds whole (record { x = c.with.result; y = c.with-in-Some.result })) (plain_point whole c.args.point)
    (subst (IsBoxFound whole seen) c.in-Some.is box) c.with.ensures c.with-in-Some.ensures
