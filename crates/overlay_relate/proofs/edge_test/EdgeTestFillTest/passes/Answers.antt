-- The masks test the bits of the four sides.
use Rattle.std.proofs.Common.{◌∙◌}
use Rattle.overlay_order.proofs.DirectionBits.{has_bit-masked}
use Rattle.overlay_relate.specs.EdgeTests.{sides_pass}
use Rattle.overlay_relate.proofs.edge_test.EdgeTestFillTest.passes.Goals as goal

pub returns : goal.returns
returns c =
    let n = c.args.fill in
    c.sides_pass.ensures
    ∙ (λ i. sides_pass c.args.self (has_bit-masked n 0 i) (has_bit-masked n 1 i) (has_bit-masked n 2 i)
    (has_bit-masked n 3 i))
