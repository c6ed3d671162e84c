-- Points at one x-coordinate compare by their heights.
use Rattle.std.proofs.Common.{sym, ◌∙◌}
use Rattle.overlay_geom.specs.Points.{plain_point}
use Rattle.overlay_geom.proofs.PointComparisons.{tied_at_abscissa}
use Rattle.overlay_geom.proofs.edge.compare_points.Goals as goal

pub returns-in-Equal : goal.returns-in-Equal
returns-in-Equal g c =
    let whole = g.I.IntNumber.whole in
    c.compare-in-Equal.ensures ∙ tied_at_abscissa (plain_point whole c.args.p) (plain_point whole c.args.q)
    (sym c.compare.ensures ∙ c.in-Equal.is)
