-- The cross product with a vector turned is the product of the vectors.
use Rattle.std.proofs.Common.{◌∙◌}
use Rattle.overlay_geom.specs.Points.{plain_point}
use Rattle.overlay_geom.specs.Resolved.{plain_edge}
use Rattle.overlay_exact.proofs.WholeParts.{turned_product}
use Rattle.overlay_exact.proofs.place.way_to.Goals as goal

pub returns : goal.returns
returns g c = c.cross.ensures.value ∙ turned_product (plain_edge g.I.IntNumber.whole c.args.e)
    (plain_point g.I.IntNumber.whole c.args.v) _ _ _ _ c.sub-along.ensures.x c.sub-along.ensures.y c.sub-back.ensures.y
    c.sub-way.ensures.x
