-- The spans of x and of y are each of one number more.
use Rattle.std.proofs.Common.{subst}
use Rattle.overlay_tiles.specs.Spans.{IsBoxFound, plain_bounds}
use Rattle.overlay_tiles.proofs.Boxes.{box_of_more}
use Rattle.polyover_calls.proofs.grid.with_point.Goals as goal

pub returns-in-Some : goal.returns-in-Some
returns-in-Some g c = λ seen box.
    let whole = g.I.IntNumber.whole in
    box_of_more seen (plain_bounds whole c.in-Some.b)
    (plain_bounds whole (record { x = c.with_number.result; y = c.with_number-in-Some.result }))
    (record { x = whole c.args.x; y = whole c.args.y }) (subst (IsBoxFound whole seen) c.in-Some.is box)
    c.with_number.ensures c.with_number-in-Some.ensures
