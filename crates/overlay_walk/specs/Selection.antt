-- The selected step of an edge, by its fill bits.
use Rattle.std.specs.Prelude.{ℕ, Bool, not, cond, List, [], ◌∷◌}
use Rattle.overlay_geom.specs.Plane.{Step, Edge}
use Rattle.overlay_geom.specs.Rules.{rule_holds}
use Rattle.overlay_geom.specs.declared.overlay_rule.OverlayRule.{OverlayRule}
use Rattle.overlay_plane.specs.SelectedSteps.{step_with_left}
use Rattle.overlay_plane.specs.Turn.{Hand, is_left_hand}
use Rattle.overlay_order.specs.Counts.{has_bit}
use Rattle.overlay_order.specs.Vectors.{Vector}

-- the rule holds above an edge with these fill bits, and below it
abbrev pub bits_hold_above : OverlayRule → ℕ → Bool
bits_hold_above rule fill = rule_holds rule (has_bit fill 0) (has_bit fill 2)

abbrev pub bits_hold_below : OverlayRule → ℕ → Bool
bits_hold_below rule fill = rule_holds rule (has_bit fill 1) (has_bit fill 3)

-- the rule holds on exactly one side
abbrev pub bits_select : OverlayRule → ℕ → Bool
bits_select rule fill = cond (bits_hold_above rule fill) (not (bits_hold_below rule fill)) (bits_hold_below rule fill)

-- the edge of a vector, without its bits
abbrev pub ends : Vector → Edge
ends v = record { a = v.a; b = v.b }

-- the step along the edge with that side on its left, or on its right, if there is such a side
abbrev pub steps_by_bits : OverlayRule → Hand → Vector → List Step
steps_by_bits rule filled v =
    cond (bits_select rule v.fill)
    (step_with_left (cond (is_left_hand filled) (bits_hold_above rule v.fill) (bits_hold_below rule v.fill)) (ends v)
    ∷ [])
    []
