-- How calls end whose answers are handed out.
use Rattle.std.specs.Prelude.{ℕ, ℤ}
use Rattle.std.specs.Int.{Width}
use Rattle.polyover_calls.specs.Clipped.{AreClips, IsClipRefused}
use Rattle.polyover_calls.specs.Given.{Contours}
use Rattle.polyover_calls.specs.Held.{HeldArrays, EndsHeld, shape_arrays, linked_arrays, path_arrays, edge_arrays}
use Rattle.polyover_calls.specs.Hierarchies.{IsLinkedOverlay}
use Rattle.polyover_calls.specs.Linked.{AreFlatLinked}
use Rattle.polyover_calls.specs.Listed.{AreEdgesIn, IsListingRefused}
use Rattle.polyover_calls.specs.Overlays.{IsOverlay, IsOverlayRefused}
use Rattle.polyover_calls.specs.Simplified.{IsSimplification, IsSimplifyingRefused}
use Rattle.polyover_calls.specs.Sliced.{AreSlices, IsSlicingRefused}
use Rattle.polyover_calls.specs.Written.{IsFlat}
use Rattle.polyover_calls.specs.WrittenPaths.{AreFlatPaths}
use Rattle.polyover_calls.specs.declared.clip_options.ClipOptions.{ClipOptions}
use Rattle.polyover_calls.specs.declared.numbers.OptionNumbers.{OptionNumbers}
use Rattle.polyover_calls.specs.declared.status.Status.{Status}

-- each is the answer, or the refusal, of the call that writes into arrays of a caller
abbrev pub OverlayIsHeld : {I U : Type 0} → (I → ℤ) → ℕ → Width → (U → ℕ) → ℕ → ℕ → OptionNumbers U → Contours I →
    Contours I → HeldArrays I → Status → Type 0
OverlayIsHeld whole limit width natural rule fill options subject clip =
    EndsHeld (IsFlat (IsOverlay whole limit width natural rule fill options subject clip) whole) shape_arrays
    (IsOverlayRefused whole limit rule fill options subject clip)

abbrev pub SimplificationIsHeld : {I U : Type 0} → (I → ℤ) → ℕ → Width → (U → ℕ) → ℕ → OptionNumbers U → Contours I →
    HeldArrays I → Status → Type 0
SimplificationIsHeld whole limit width natural fill options given =
    EndsHeld (IsFlat (IsSimplification whole limit width natural fill options given) whole) shape_arrays
    (IsSimplifyingRefused whole limit fill options given)

abbrev pub HierarchyIsHeld : {I U : Type 0} → (I → ℤ) → ℕ → Width → (U → ℕ) → ℕ → ℕ → OptionNumbers U → Contours I →
    Contours I → HeldArrays I → Status → Type 0
HierarchyIsHeld whole limit width natural rule fill options subject clip =
    EndsHeld (AreFlatLinked (IsLinkedOverlay whole limit width natural rule fill options subject clip) whole)
    linked_arrays (IsOverlayRefused whole limit rule fill options subject clip)

abbrev pub SlicesAreHeld : {I : Type 0} → (I → ℤ) → ℕ → Width → ℕ → ℕ → Contours I → Contours I → HeldArrays I →
    Status → Type 0
SlicesAreHeld whole limit width fill solver subject lines =
    EndsHeld (IsFlat (AreSlices whole limit width fill solver subject lines) whole) shape_arrays
    (IsSlicingRefused whole limit fill solver subject lines)

abbrev pub ClipsAreHeld : {I : Type 0} → (I → ℤ) → ℕ → ℕ → ClipOptions → Contours I → Contours I → HeldArrays I →
    Status → Type 0
ClipsAreHeld whole limit fill options shape lines =
    EndsHeld (AreFlatPaths (AreClips whole limit fill options shape lines) whole) path_arrays
    (IsClipRefused whole limit fill options shape lines)

abbrev pub EdgesAreHeld : {I : Type 0} → (I → ℤ) → ℕ → ℕ → ℕ → Contours I → Contours I → HeldArrays I → Status → Type 0
EdgesAreHeld whole limit fill solver subject clip = EndsHeld (AreEdgesIn whole limit fill solver subject clip)
    edge_arrays (IsListingRefused whole limit fill solver subject clip)
