-- The masks test the bits of the sides above and below.
use Rattle.std.proofs.Common.{◌≡◌, Bool, true, false, cond, not, refl, ap₂, ◌∙◌}
use Rattle.overlay_geom.specs.Rules.{rule_holds}
use Rattle.overlay_order.proofs.DirectionBits.{has_bit-masked}
use Rattle.overlay_vector.proofs.selected_vectors.is_selected.Goals as goal

differ : (a b : Bool) → not (mathlib.Core.Bool.beq a b) ≡ cond a (not b) b
differ true true = refl
differ true false = refl
differ false true = refl
differ false false = refl

pub returns : goal.returns
returns c =
    let n = c.args.fill in
    let holds = rule_holds c.args.rule in
    differ c.holds-above.result c.holds-below.result
    ∙ ap₂ (λ a b. cond a (not b) b)
    (c.holds-above.ensures ∙ ap₂ holds (has_bit-masked n 0) (has_bit-masked n 2))
    (c.holds-below.ensures ∙ ap₂ holds (has_bit-masked n 1) (has_bit-masked n 3))
