-- The cross product with the second way turned to the left is the inner product.
use Rattle.std.proofs.Common.{◌∙◌}
use Rattle.overlay_geom.specs.Points.{plain_point}
use Rattle.overlay_walk.proofs.InnerProducts.{cross_with_turned}
use Rattle.overlay_walk.proofs.nearest.Ray.inner_product.Goals as goal

pub returns : goal.returns
returns g c =
    c.cross.ensures.value
    ∙ cross_with_turned
    (plain_point g.I.IntNumber.whole c.args.self.node) (plain_point g.I.IntNumber.whole c.args.p)
    (plain_point g.I.IntNumber.whole c.args.q)
    _ _ _ _ c.sub-to_p.ensures.x c.sub-to_p.ensures.y c.minus-back_y.ensures c.sub-to_q.ensures.x
