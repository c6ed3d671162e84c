-- The next edge moves from what is to come to what stands.
use Rattle.std.proofs.Common.{◌+◌, map, drop}
use Rattle.overlay_geom.proofs.Mapped.{mapped_rest}
use Rattle.overlay_order.specs.Vectors.{plain_vector}
use Rattle.overlay_order.proofs.Appended.{next_appended}
use Rattle.overlay_extract.specs.SidesByBits.{sides_by_bits}
use Rattle.overlay_walk.specs.Steps.{plain_steps}
use Rattle.overlay_extract.proofs.slicing.sides.push_sides.Goals as goal

pub loop-number-preserved : goal.loop-number-preserved
loop-number-preserved g c =
    let vector = plain_vector g.I.IntNumber.whole in
    let edges = c.args.edges.now in
    let edge = c.index-edges-number.result in
    next_appended sides_by_bits (plain_steps g.I.IntNumber.whole c.loop-number.steps.items) _ (vector edge)
    (map vector (drop (c.loop-number.number + 1) edges)) _ _
    (mapped_rest vector edges c.loop-number.number edge c.loop-number-test.true c.index-edges-number.is)
    c.loop-number.invariant c.in_ok-push_sides_of.ensures.ok
