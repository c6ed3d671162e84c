-- The edge at the start is read off the first step and the last one.
use Rattle.std.proofs.Common.{sym, ap, cond, ◌∙◌}
use Rattle.overlay_geom.specs.Points.{plain_point}
use Rattle.overlay_extract.specs.TourOrder.{edge_between}
use Rattle.overlay_extract.proofs.TourRanks.{found_read}
use Rattle.overlay_extract.proofs.slicing.tour_order.found_at.Goals as goal

pub returns-else-is_walked_along : goal.returns-else-is_walked_along
returns-else-is_walked_along g c s ss is =
    let whole = g.I.IntNumber.whole in
    let first = c.index-tour-0.result in
    let last = c.index-tour-tour.result in
    ap (λ t. edge_between (plain_point whole first.from) (cond t (plain_point whole first.to)
    (plain_point whole last.from))) (sym c.if-is_walked_along.false ∙ c.is_walked_along.ensures)
    ∙ found_read whole c.args.tour.now first last c.index-tour-0.is c.index-tour-tour.is s ss is
