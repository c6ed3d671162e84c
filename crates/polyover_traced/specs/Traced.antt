-- How a call ends that traces edges in arrays.
use Rattle.std.specs.Prelude.{◌==◌, ◌<◌, ◌≤◌, ℕ, ℤ, if◌then◌else◌, Option, None, Some}
use Rattle.overlay_geom.specs.declared.error.OverlayError.TheVariants as error
use Rattle.overlay_geom.specs.declared.overlay_rule.OverlayRule.{OverlayRule}
use Rattle.overlay_traced.specs.Told.{TracedArrays}
use Rattle.overlay_traced.specs.Traced.{AreTraced, MayRefuseTracing}
use Rattle.polyover_calls.specs.Asked.{rule_of, fill_of, solver_of}
use Rattle.polyover_calls.specs.declared.status.Status.{Status}
use Rattle.polyover_calls.specs.declared.status.Status.TheVariants.{Done, Memory, BadEnds, OutOfRange}
use Rattle.polyover_calls.specs.declared.status.Status.TheVariants.{NotResolved, BadRule, BadFill, BadOption}
use Rattle.polyover_calls.specs.declared.status.Status.TheVariants.{NotSettled, TooManyEdges, TooSmall}
use Rattle.polyover_traced.specs.EdgeLists.{EdgeList, AreEdges, AreSides, HaveFault, sided_edges}
use Rattle.polyover_traced.specs.Held.{EndsTraced}

-- the overlay rule with the number, where it is below 7; 7 wants all edges
abbrev pub wanted_of : ℕ → Option OverlayRule
wanted_of n = if n == 7 then None else Some (rule_of n)

-- the solver and the sides stand for something
pub record AreTraceChoices (solver : ℕ) {I : Type 0} (edges : EdgeList I) : Type 0 where
  pub known_solver : solver < 2
  pub known_sides : AreSides edges.sides

-- all numbers stand for something
pub record AreTraceNumbers (rule fill solver : ℕ) {I : Type 0} (edges : EdgeList I) : Type 0 where
  pub known_rule : rule < 8
  pub known_fill : fill < 4
  pub choices : AreTraceChoices solver edges

-- all is given rightly
pub record IsTraceAsked {I : Type 0} (whole : I → ℤ) (limit rule fill solver : ℕ) (edges : EdgeList I) : Type 0 where
  pub known : AreTraceNumbers rule fill solver edges
  pub given : AreEdges whole limit edges

-- all is given rightly, and in the arrays stand the edges of some arrangement of the given edges that are asked for,
-- each with the given edges that it is derived from
pub record IsTrace {I : Type 0} (whole : I → ℤ) (limit rule fill solver : ℕ) (edges : EdgeList I)
    (arrays : TracedArrays I) : Type 0 where
  pub asked : IsTraceAsked whole limit rule fill solver edges
  pub traced : AreTraced whole (solver_of solver) (fill_of fill) (wanted_of rule) (sided_edges whole edges) arrays

-- it is refused so: a number stands for nothing, the rule's first; else the arrays have a fault; else the edges weigh
-- too much, cannot be split, or memory is wanting
abbrev pub IsTraceRefused : {I : Type 0} → (I → ℤ) → ℕ → ℕ → ℕ → ℕ → EdgeList I → Status → Type 0
IsTraceRefused whole limit rule fill solver edges Done = ⊥
IsTraceRefused whole limit rule fill solver edges Memory = IsTraceAsked whole limit rule fill solver edges
IsTraceRefused whole limit rule fill solver edges BadEnds =
    AreTraceNumbers rule fill solver edges × HaveFault whole limit edges BadEnds
IsTraceRefused whole limit rule fill solver edges OutOfRange =
    AreTraceNumbers rule fill solver edges × HaveFault whole limit edges OutOfRange
IsTraceRefused whole limit rule fill solver edges NotResolved = ⊥
IsTraceRefused whole limit rule fill solver edges BadRule = 8 ≤ rule
IsTraceRefused whole limit rule fill solver edges BadFill = (rule < 8) × (4 ≤ fill)
IsTraceRefused whole limit rule fill solver edges BadOption =
    (rule < 8) × ((fill < 4) × ¬ (AreTraceChoices solver edges))
IsTraceRefused whole limit rule fill solver edges NotSettled = IsTraceAsked whole limit rule fill solver edges
    × MayRefuseTracing (solver_of solver) (sided_edges whole edges) error.NotSettled
IsTraceRefused whole limit rule fill solver edges TooManyEdges = IsTraceAsked whole limit rule fill solver edges
    × MayRefuseTracing (solver_of solver) (sided_edges whole edges) error.TooManyEdges
IsTraceRefused whole limit rule fill solver edges TooSmall = ⊥

-- how it ends
abbrev pub TraceIsHeld : {I : Type 0} → (I → ℤ) → ℕ → ℕ → ℕ → ℕ → EdgeList I → TracedArrays I → Status → Type 0
TraceIsHeld whole limit rule fill solver edges = EndsTraced (IsTrace whole limit rule fill solver edges)
    (IsTraceRefused whole limit rule fill solver edges)
