-- Counterclockwise nothing changes, and clockwise each contour is turned.
use Rattle.std.proofs.Common.{map, sym, ap, ◌∙◌}
use Rattle.overlay_geom.specs.Paths.{plain_shapes}
use Rattle.overlay_extract.specs.Sliced.{in_direction}
use Rattle.overlay_extract.proofs.TurnedPoints.{all_same, all_reversed}
use Rattle.overlay_extract.proofs.slicing.direction.bring_in_direction.Goals as goal

pub returns-in-CounterClockwise : goal.returns-in-CounterClockwise
returns-in-CounterClockwise g c =
    let old = plain_shapes g.I.IntNumber.whole c.args.shapes.now.items in
    sym (all_same old) ∙ ap (λ d. map (map (in_direction d)) old) (sym c.in-CounterClockwise.is)

pub returns-in-Clockwise : goal.returns-in-Clockwise
returns-in-Clockwise g c =
    let old = plain_shapes g.I.IntNumber.whole c.args.shapes.now.items in
    c.turn_shapes.ensures ∙ sym (all_reversed old)
    ∙ ap (λ d. map (map (in_direction d)) old) (sym c.in-Clockwise.is)
