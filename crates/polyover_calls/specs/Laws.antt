-- What no call answers that splits edges by snap rounding, the solver with the number 0.
use Rattle.std.specs.Prelude.{◌≡◌, ℕ, ℤ}
use Rattle.std.specs.Int.{Width}
use Rattle.polyover_calls.specs.Clipped.{ClipEnds}
use Rattle.polyover_calls.specs.Given.{Contours}
use Rattle.polyover_calls.specs.Held.{HeldArrays}
use Rattle.polyover_calls.specs.Hierarchies.{HierarchyEnds}
use Rattle.polyover_calls.specs.Holding.{OverlayIsHeld, SimplificationIsHeld, HierarchyIsHeld, SlicesAreHeld}
use Rattle.polyover_calls.specs.Holding.{ClipsAreHeld}
use Rattle.polyover_calls.specs.Holding.{EdgesAreHeld}
use Rattle.polyover_calls.specs.Linked.{LinkedRoom}
use Rattle.polyover_calls.specs.Listed.{EdgeRoom, ListingEnds}
use Rattle.polyover_calls.specs.Overlays.{OverlayEnds}
use Rattle.polyover_calls.specs.Prepared.{Parts, PreparingEnds}
use Rattle.polyover_calls.specs.Related.{RelatingEnds}
use Rattle.polyover_calls.specs.RelatedOne.{RelatingOneEnds}
use Rattle.polyover_calls.specs.Simplified.{SimplifyingEnds}
use Rattle.polyover_calls.specs.Sliced.{SlicingEnds}
use Rattle.polyover_calls.specs.Statuses.{code_of}
use Rattle.polyover_calls.specs.Tiled.{TilesAreHeld}
use Rattle.polyover_calls.specs.Written.{Room}
use Rattle.polyover_calls.specs.WrittenPaths.{PathRoom}
use Rattle.polyover_calls.specs.declared.clip_options.ClipOptions.{ClipOptions}
use Rattle.polyover_calls.specs.declared.numbers.OptionNumbers.{OptionNumbers}
use Rattle.polyover_calls.specs.declared.status.Status.{Status}
use Rattle.polyover_calls.specs.declared.status.Status.TheVariants.{NotSettled}

-- no overlay, simplification, hierarchy, slicing, clip, list of edges, relation or prepared shape of numbers in arrays
-- ends with `NotSettled`
pub record SnappedCallsSettle (limit : ℕ) (width : Width) (fill : ℕ) (first second : Contours ℤ) : Type 0 where
  pub overlay : (rule : ℕ) (o : OptionNumbers ℕ) (old new : Room ℤ) → o.solver ≡ 0 →
      ¬ (OverlayEnds (λ z. z) limit width (λ n. n) rule fill o first second old new NotSettled)
  pub hierarchy : (rule : ℕ) (o : OptionNumbers ℕ) (old new : LinkedRoom ℤ) → o.solver ≡ 0 →
      ¬ (HierarchyEnds (λ z. z) limit width (λ n. n) rule fill o first second old new NotSettled)
  pub simplified : (o : OptionNumbers ℕ) (old new : Room ℤ) → o.solver ≡ 0 →
      ¬ (SimplifyingEnds (λ z. z) limit width (λ n. n) fill o first old new NotSettled)
  pub sliced : (old new : Room ℤ) → ¬ (SlicingEnds (λ z. z) limit width fill 0 first second old new NotSettled)
  pub clipped : (o : ClipOptions) (old new : PathRoom ℤ) → o.solver ≡ 0 →
      ¬ (ClipEnds (λ z. z) limit fill o first second old new NotSettled)
  pub listed : (old new : EdgeRoom ℤ) → ¬ (ListingEnds (λ z. z) limit fill 0 first second old new NotSettled)
  pub related : (old new : ℕ) → ¬ (RelatingEnds (λ z. z) limit fill 0 first second old new NotSettled)
  pub related_so : (number old new : ℕ) →
      ¬ (RelatingOneEnds (λ z. z) limit number fill 0 first second old new NotSettled)
  pub prepared : (p : Parts) → ¬ (PreparingEnds (λ z. z) limit fill 0 first p NotSettled)

-- nor does one whose answer is handed out
pub record SnappedResultsSettle (limit : ℕ) (width : Width) (fill : ℕ) (first second : Contours ℤ)
    (arrays : HeldArrays ℤ) : Type 0 where
  pub overlay : (rule : ℕ) (o : OptionNumbers ℕ) → o.solver ≡ 0 →
      ¬ (OverlayIsHeld (λ z. z) limit width (λ n. n) rule fill o first second arrays NotSettled)
  pub hierarchy : (rule : ℕ) (o : OptionNumbers ℕ) → o.solver ≡ 0 →
      ¬ (HierarchyIsHeld (λ z. z) limit width (λ n. n) rule fill o first second arrays NotSettled)
  pub simplified : (o : OptionNumbers ℕ) → o.solver ≡ 0 →
      ¬ (SimplificationIsHeld (λ z. z) limit width (λ n. n) fill o first arrays NotSettled)
  pub sliced : ¬ (SlicesAreHeld (λ z. z) limit width fill 0 first second arrays NotSettled)
  pub clipped : (o : ClipOptions) → o.solver ≡ 0 →
      ¬ (ClipsAreHeld (λ z. z) limit fill o first second arrays NotSettled)
  pub listed : ¬ (EdgesAreHeld (λ z. z) limit fill 0 first second arrays NotSettled)
  pub tiled : (wide high : ℤ) → ¬ (TilesAreHeld (λ z. z) limit width fill 0 wide high first arrays NotSettled)

-- no such call ends with `NotSettled`, whatever it is given
pub record SnappedNeverUnsettled : Type 0 where
  pub calls : (limit : ℕ) (width : Width) (fill : ℕ) (first second : Contours ℤ) →
      SnappedCallsSettle limit width fill first second
  pub results : (limit : ℕ) (width : Width) (fill : ℕ) (first second : Contours ℤ) (arrays : HeldArrays ℤ) →
      SnappedResultsSettle limit width fill first second arrays
  -- and the code 8 stands for no other status
  pub code : (s : Status) → code_of s ≡ 8 → s ≡ NotSettled
