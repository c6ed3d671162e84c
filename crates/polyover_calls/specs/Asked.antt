-- For what the numbers of rules and options stand.
use Rattle.std.specs.Prelude.{◌==◌, ◌≤◌, ◌<◌, ◌%◌, ℕ, Bool, leb, [], ◌∷◌, get_or, if◌then◌else◌}
use Rattle.overlay_geom.specs.declared.fill_rule.FillRule.{FillRule}
use Rattle.overlay_geom.specs.declared.fill_rule.FillRule.TheVariants.{EvenOdd, NonZero, Positive, Negative}
use Rattle.overlay_geom.specs.declared.options.ContourDirection.TheVariants.{CounterClockwise, Clockwise}
use Rattle.overlay_geom.specs.declared.options.IntOverlayOptions.{IntOverlayOptions}
use Rattle.overlay_geom.specs.declared.overlay_rule.OverlayRule.{OverlayRule}
use Rattle.overlay_geom.specs.declared.overlay_rule.OverlayRule.TheVariants as rule
use Rattle.overlay_geom.specs.declared.solver.Solver.{Solver}
use Rattle.overlay_geom.specs.declared.solver.Solver.TheVariants.{Rounds, Snapping}
use Rattle.polyover_calls.specs.declared.numbers.OptionNumbers.{OptionNumbers}
use Rattle.polyover_calls.specs.declared.status.Status.{Status}
use Rattle.polyover_calls.specs.declared.status.Status.TheVariants.{Done, Memory, BadEnds, OutOfRange}
use Rattle.polyover_calls.specs.declared.status.Status.TheVariants.{NotResolved, BadRule, BadFill, BadOption}
use Rattle.polyover_calls.specs.declared.status.Status.TheVariants.{NotSettled, TooManyEdges, TooSmall}

-- the overlay rule with the number, where it is below 7
abbrev pub rule_of : ℕ → OverlayRule
rule_of n = get_or
    (rule.Subject ∷ rule.Clip ∷ rule.Intersect ∷ rule.Union ∷ rule.Difference ∷ rule.InverseDifference ∷ []) n rule.Xor

-- the fill rule with the number, where it is below 4
abbrev pub fill_of : ℕ → FillRule
fill_of n = get_or (EvenOdd ∷ NonZero ∷ Positive ∷ []) n Negative

-- the solver with the number, where it is below 2: snap rounding has 0
abbrev pub solver_of : ℕ → Solver
solver_of n = get_or (Snapping ∷ []) n Rounds

-- given points on one line are kept; the number `keep` is a sum, of 1 for output points, and of 2 for these
abbrev pub keeps_given : {U : Type 0} → OptionNumbers U → Bool
keeps_given n = leb 2 n.keep

-- the options with the numbers, where these are known
abbrev pub options_of : {U : Type 0} → OptionNumbers U → IntOverlayOptions U
options_of n = record {
  preserve_input_collinear = keeps_given n;
  output_direction = if n.direction == 0 then CounterClockwise else Clockwise;
  preserve_output_collinear = n.keep % 2 == 1;
  min_output_area = n.min_area;
  ogc = n.touching == 0;
}

-- each choice has a number below 2, and the sum of two one below 4
pub record AreChoices {U : Type 0} (n : OptionNumbers U) : Type 0 where
  pub direction : n.direction < 2
  pub keep : n.keep < 4
  pub touching : n.touching < 2
  pub solver : n.solver < 2

-- the numbers of an overlay all stand for something
abbrev pub AreKnown : {U : Type 0} → ℕ → ℕ → OptionNumbers U → Type 0
AreKnown rule fill options = (rule < 7) × ((fill < 4) × AreChoices options)

-- the first number that stands for nothing is told by the status
abbrev pub IsUnknown : {U : Type 0} → ℕ → ℕ → OptionNumbers U → Status → Type 0
IsUnknown rule fill options Done = ⊥
IsUnknown rule fill options Memory = ⊥
IsUnknown rule fill options BadEnds = ⊥
IsUnknown rule fill options OutOfRange = ⊥
IsUnknown rule fill options NotResolved = ⊥
IsUnknown rule fill options BadRule = 7 ≤ rule
IsUnknown rule fill options BadFill = (rule < 7) × (4 ≤ fill)
IsUnknown rule fill options BadOption = (rule < 7) × ((fill < 4) × ¬ (AreChoices options))
IsUnknown rule fill options NotSettled = ⊥
IsUnknown rule fill options TooManyEdges = ⊥
IsUnknown rule fill options TooSmall = ⊥
