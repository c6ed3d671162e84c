-- The tour is walked along where the end of its first step does not come after the point from which it comes back.
use Rattle.std.proofs.Common.{sym, ap, ◌∙◌, rules}
use Rattle.std.specs.Ordering.{is_le}
use Rattle.overlay_geom.specs.Points.{plain_point}
use Rattle.overlay_extract.proofs.TourRanks.{along_read, at_most}
use Rattle.overlay_extract.proofs.slicing.tour_order.is_walked_along.Goals as goal

pub returns : goal.returns
returns g c =
    let whole = g.I.IntNumber.whole in
    let first = c.index-tour-0.result in
    let last = c.index-tour-tour.result in
    c.is_le.ensures ∙ ap is_le c.compare_points.ensures
    ∙ at_most (plain_point whole first.to) (plain_point whole last.from)
    ∙ sym (along_read whole c.args.tour.now first last (search rules) c.index-tour-0.is c.index-tour-tour.is)
