-- The masks test the bits of the two sides.
use Rattle.std.proofs.Common.{ap₂, ◌∙◌}
use Rattle.overlay_order.proofs.DirectionBits.{has_bit-masked}
use Rattle.overlay_relate.specs.Locations.{differ}
use Rattle.overlay_relate.proofs.boundary.fills_one_side.Goals as goal

pub returns : goal.returns
returns c =
    let n = c.args.fill in
    c.differ.ensures ∙ ap₂ differ (has_bit-masked n 0) (has_bit-masked n 1)
