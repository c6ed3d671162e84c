-- How a graph is asked: for the shapes of an overlay, with their links, and for its edges.
use Rattle.std.specs.Prelude.{◌≡◌, ◌≤◌, ◌<◌, ◌⊎◌, ℕ, ℤ, List, map}
use Rattle.std.specs.Int.{Width}
use Rattle.overlay_extract.specs.PlacedResults.{IsHierarchy}
use Rattle.overlay_extract.specs.Results.{Asked, IsResult, asked}
use Rattle.overlay_geom.specs.Plane.{Point}
use Rattle.overlay_order.specs.Vectors.{vector_of}
use Rattle.overlay_plane.specs.Islands.{ChildLink}
use Rattle.polyover_calls.specs.Asked.{rule_of, fill_of, options_of, keeps_given, AreChoices}
use Rattle.polyover_calls.specs.Held.{HeldArrays, EndsHeld, shape_arrays, linked_arrays, edge_arrays}
use Rattle.polyover_calls.specs.Linked.{AreFlatLinked}
use Rattle.polyover_calls.specs.Listed.{EdgeArrays, AreListed}
use Rattle.polyover_calls.specs.Written.{IsFlat}
use Rattle.polyover_calls.specs.declared.numbers.OptionNumbers.{OptionNumbers}
use Rattle.polyover_calls.specs.declared.status.Status.{Status}
use Rattle.polyover_calls.specs.declared.status.Status.TheVariants.{Memory, BadRule, BadOption}
use Rattle.polyover_views.specs.Held.{HeldArrangement, keeps_points}

-- the choices stand for something, and those of how the graph was made are its own
pub record AreGraphOptions {U : Type 0} (solver keep_given : ℕ) (options : OptionNumbers U) : Type 0 where
  pub choices : AreChoices options
  pub same_solver : options.solver ≡ solver
  pub same_points : keeps_given options ≡ keeps_points keep_given

-- so do the numbers of an overlay of a graph
abbrev pub AreGraphNumbers : {U : Type 0} → HeldArrangement → ℕ → OptionNumbers U → Type 0
AreGraphNumbers g rule options = (rule < 7) × AreGraphOptions g.solver g.keep_given options

-- what the numbers ask for, by the graph's fill rule
abbrev pub asked_of_graph : {U : Type 0} → Width → (U → ℕ) → HeldArrangement → ℕ → OptionNumbers U → Asked
asked_of_graph width natural g rule options =
    asked width natural (fill_of g.fill) (rule_of rule) (options_of options)

-- the numbers are known, and the shapes are the result over the graph's edges that they ask for
pub record IsOverlayOfGraph {U : Type 0} (width : Width) (natural : U → ℕ) (g : HeldArrangement) (rule : ℕ)
    (options : OptionNumbers U) (shapes : List (List (List Point))) : Type 0 where
  pub known : AreGraphNumbers g rule options
  pub is_result : IsResult (asked_of_graph width natural g rule options) g.edges shapes

-- so are the shapes and their links
pub record IsHierarchyOfGraph {U : Type 0} (width : Width) (natural : U → ℕ) (g : HeldArrangement) (rule : ℕ)
    (options : OptionNumbers U) (shapes : List (List (List Point))) (links : List ChildLink) : Type 0 where
  pub known : AreGraphNumbers g rule options
  pub is_hierarchy : IsHierarchy (asked_of_graph width natural g rule options) g.edges shapes links

-- the graph's edges stand in the arrays, with the sides that are filled
abbrev pub AreEdgesOfGraph : {I : Type 0} → (I → ℤ) → HeldArrangement → EdgeArrays I → Type 0
AreEdgesOfGraph whole g = AreListed whole (map (vector_of (fill_of g.fill) g.edges) g.edges)

-- an overlay of a graph is refused so: a number stands for nothing, the rule's first, or a choice is not that of the
-- graph; else memory is wanting
abbrev pub IsAskingRefused : {U : Type 0} → HeldArrangement → ℕ → OptionNumbers U → Status → Type 0
IsAskingRefused g rule options s = ((s ≡ BadRule) × (7 ≤ rule))
    ⊎ (((s ≡ BadOption) × ((rule < 7) × ¬ (AreGraphOptions g.solver g.keep_given options)))
    ⊎ ((s ≡ Memory) × AreGraphNumbers g rule options))

-- ---- how it ends

abbrev pub GraphOverlayIsHeld : {I U : Type 0} → (I → ℤ) → Width → (U → ℕ) → HeldArrangement → ℕ → OptionNumbers U →
    HeldArrays I → Status → Type 0
GraphOverlayIsHeld whole width natural g rule options =
    EndsHeld (IsFlat (IsOverlayOfGraph width natural g rule options) whole) shape_arrays
    (IsAskingRefused g rule options)

abbrev pub GraphHierarchyIsHeld : {I U : Type 0} → (I → ℤ) → Width → (U → ℕ) → HeldArrangement → ℕ →
    OptionNumbers U → HeldArrays I → Status → Type 0
GraphHierarchyIsHeld whole width natural g rule options =
    EndsHeld (AreFlatLinked (IsHierarchyOfGraph width natural g rule options) whole) linked_arrays
    (IsAskingRefused g rule options)

-- edges are refused for want of memory alone
abbrev pub GraphEdgesAreHeld : {I : Type 0} → (I → ℤ) → HeldArrangement → HeldArrays I → Status → Type 0
GraphEdgesAreHeld whole g = EndsHeld (AreEdgesOfGraph whole g) edge_arrays (λ s. s ≡ Memory)
