-- The masks test the bits of the four sides.
use Rattle.std.proofs.Common.{◌+◌, ap, ap₂, ◌∙◌}
use Rattle.overlay_geom.specs.Rules.{bit}
use Rattle.overlay_order.proofs.DirectionBits.{has_bit-masked}
use Rattle.overlay_vector.proofs.side_fill.SideFillReverse.reverse.Goals as goal

pub returns : goal.returns
returns c =
    let n = c.args.self in
    ap₂ (λ s t. s + t)
    (ap₂ (λ s t. s + t)
    (ap₂ (λ s t. s + t) (c.bit_if.ensures.value ∙ ap (λ b. bit b 1) (has_bit-masked n 1))
    (c.bit_if-2.ensures.value ∙ ap (λ b. bit b 2) (has_bit-masked n 0)))
    (c.bit_if-3.ensures.value ∙ ap (λ b. bit b 4) (has_bit-masked n 3)))
    (c.bit_if-4.ensures.value ∙ ap (λ b. bit b 8) (has_bit-masked n 2))
