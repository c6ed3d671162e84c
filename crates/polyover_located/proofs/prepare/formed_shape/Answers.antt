-- The forms are those of the parts of the shape.
use Rattle.std.proofs.Common.{map, ◌∙◌, ap}
use Rattle.overlay_geom.specs.Flat.{paths_in}
use Rattle.overlay_order.specs.Content.{plain_edges}
use Rattle.overlay_order.specs.Counts.{boolean_counts}
use Rattle.polyover_calls.specs.Given.{contours_of}
use Rattle.polyover_located.proofs.Endings.{parts_formed}
use Rattle.polyover_located.proofs.prepare.formed_shape.Goals as goal

pub returns : goal.returns
returns g c =
    let whole = g.I.IntNumber.whole in
    let parts = c.parts-parts.result in
    let contours = c.in_ok-contours.contours in
    parts_formed whole g.I.IntNumber.limit c.args.fill
    (contours_of c.args.given.now.coordinates.now c.args.given.now.ends.now)
    (paths_in whole contours.points.items contours.ranges.items) _
    parts.edges.now (map g.E.FormOf.meant c.in_ok-edges.edges.items)
    parts.blocks.now (map g.B.FormOf.meant c.in_ok-blocks.blocks.items)
    parts.groups.now (map g.B.FormOf.meant c.in_ok-groups.groups.items)
    c.in_ok-rule.ensures.0 c.in_ok-contours.ensures.read c.in_ok-contours.ensures.contours
    c.in_ok-shape.ensures.ok.holds c.parts-parts.ensures.edges c.parts-parts.ensures.content
    c.parts-parts.ensures.blocked c.in_ok-edges.ensures.formed c.in_ok-blocks.ensures.formed
    c.in_ok-groups.ensures.formed
