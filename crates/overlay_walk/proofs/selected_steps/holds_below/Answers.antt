-- The masks test the bits of the sides below.
use Rattle.std.proofs.Common.{ap₂, ◌∙◌}
use Rattle.overlay_geom.specs.Rules.{rule_holds}
use Rattle.overlay_order.proofs.DirectionBits.{has_bit-masked}
use Rattle.overlay_walk.proofs.selected_steps.holds_below.Goals as goal

pub returns : goal.returns
returns c = c.holds.ensures ∙ ap₂ (rule_holds c.args.rule) (has_bit-masked c.args.fill 1) (has_bit-masked c.args.fill 3)
