-- Graphs answer as the calls do that are given the contours, and each answer is the only one.
use Rattle.std.specs.Prelude.{◌≡◌, ℕ, ℤ}
use Rattle.std.specs.Int.{Width}
use Rattle.polyover_calls.specs.Asked.{keeps_given}
use Rattle.polyover_calls.specs.EndsOnce.{HandsOnce}
use Rattle.polyover_calls.specs.Given.{Contours}
use Rattle.polyover_calls.specs.Held.{HeldArrays}
use Rattle.polyover_calls.specs.Holding.{OverlayIsHeld, HierarchyIsHeld, EdgesAreHeld}
use Rattle.polyover_calls.specs.declared.numbers.OptionNumbers.{OptionNumbers}
use Rattle.polyover_calls.specs.declared.status.Status.{Status}
use Rattle.polyover_views.specs.Asked.{GraphOverlayIsHeld, GraphHierarchyIsHeld, GraphEdgesAreHeld}
use Rattle.polyover_views.specs.Held.{HeldArrangement, keeps_points}
use Rattle.polyover_views.specs.Made.{IsGraphOf, MakingEnds}

-- what a graph of the contours hands out, and the status with which it does, are those of a call on the contours, where
-- the options have the choices of the graph; so are its edges, where given points on one line are not kept
pub record AnswersAsCalls {I U : Type 0} (whole : I → ℤ) (limit : ℕ) (width : Width) (natural : U → ℕ)
    (fill solver keep_given : ℕ) (subject clip : Contours I) (g : HeldArrangement) : Type 0 where
  pub overlay : (rule : ℕ) (options : OptionNumbers U) (arrays : HeldArrays I) (s : Status) →
      options.solver ≡ solver → keeps_given options ≡ keeps_points keep_given →
      GraphOverlayIsHeld whole width natural g rule options arrays s →
      OverlayIsHeld whole limit width natural rule fill options subject clip arrays s
  pub hierarchy : (rule : ℕ) (options : OptionNumbers U) (arrays : HeldArrays I) (s : Status) →
      options.solver ≡ solver → keeps_given options ≡ keeps_points keep_given →
      GraphHierarchyIsHeld whole width natural g rule options arrays s →
      HierarchyIsHeld whole limit width natural rule fill options subject clip arrays s
  pub edges : (arrays : HeldArrays I) (s : Status) → keep_given ≡ 0 → GraphEdgesAreHeld whole g arrays s →
      EdgesAreHeld whole limit fill solver subject clip arrays s

-- so it is with each graph of contours
abbrev pub GraphsAnswerAsCalls : {I U : Type 0} → (I → ℤ) → ℕ → Width → (U → ℕ) → Type 0
GraphsAnswerAsCalls {I = I} whole limit width natural = (fill solver keep_given : ℕ) (subject clip : Contours I)
    (g : HeldArrangement) → IsGraphOf whole limit fill solver keep_given subject clip g →
    AnswersAsCalls whole limit width natural fill solver keep_given subject clip g

-- ---- one answer

-- two runs of a question of the graph hand out the same, unless memory is refused
pub record AnswersOnce {I U : Type 0} (whole : I → ℤ) (width : Width) (natural : U → ℕ) (g : HeldArrangement) : Type 0
  where
    pub overlay : (rule : ℕ) (options : OptionNumbers U) →
        HandsOnce (GraphOverlayIsHeld whole width natural g rule options)
    pub hierarchy : (rule : ℕ) (options : OptionNumbers U) →
        HandsOnce (GraphHierarchyIsHeld whole width natural g rule options)
    pub edges : HandsOnce (GraphEdgesAreHeld whole g)

-- so it is with each graph of contours
abbrev pub GraphsAnswerOnce : {I U : Type 0} → (I → ℤ) → ℕ → Width → (U → ℕ) → Type 0
GraphsAnswerOnce {I = I} whole limit width natural = (fill solver keep_given : ℕ) (subject clip : Contours I)
    (g : HeldArrangement) → IsGraphOf whole limit fill solver keep_given subject clip g →
    AnswersOnce whole width natural g

-- by snap rounding two graphs of the same contours are one, and so are the statuses, unless memory is refused
abbrev pub GraphsAreMadeOnce : {I : Type 0} → (I → ℤ) → ℕ → Type 0
GraphsAreMadeOnce {I = I} whole limit = (fill keep_given : ℕ) (subject clip : Contours I) →
    HandsOnce (MakingEnds whole limit fill 0 keep_given subject clip)
