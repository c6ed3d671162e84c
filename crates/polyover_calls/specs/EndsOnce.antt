-- Two runs of a call with the same arguments end alike, by snap rounding, unless memory is refused: with one status and
-- the same answer.
use Rattle.std.specs.Prelude.{◌≡◌, ℕ, ℤ, List}
use Rattle.std.specs.Int.{Width}
use Rattle.polyover_calls.specs.Clipped.{ClipEnds}
use Rattle.polyover_calls.specs.Given.{Contours}
use Rattle.polyover_calls.specs.Hierarchies.{HierarchyEnds}
use Rattle.polyover_calls.specs.Holding.{OverlayIsHeld, SimplificationIsHeld, HierarchyIsHeld, SlicesAreHeld}
use Rattle.polyover_calls.specs.Holding.{ClipsAreHeld}
use Rattle.polyover_calls.specs.Holding.{EdgesAreHeld}
use Rattle.polyover_calls.specs.Listed.{ListingEnds}
use Rattle.polyover_calls.specs.Overlays.{OverlayEnds}
use Rattle.polyover_calls.specs.Prepared.{Parts, ArePartsOf, PreparingEnds, AskingEnds}
use Rattle.polyover_calls.specs.Related.{RelatingEnds}
use Rattle.polyover_calls.specs.RelatedOne.{RelatingOneEnds}
use Rattle.polyover_calls.specs.Simplified.{SimplifyingEnds}
use Rattle.polyover_calls.specs.Sliced.{SlicingEnds}
use Rattle.polyover_calls.specs.Tiled.{TilesAreHeld}
use Rattle.polyover_calls.specs.declared.clip_options.ClipOptions.{ClipOptions}
use Rattle.polyover_calls.specs.declared.numbers.OptionNumbers.{OptionNumbers}
use Rattle.polyover_calls.specs.declared.status.Status.{Status}
use Rattle.polyover_calls.specs.declared.status.Status.TheVariants.{Memory}

-- two runs that find the same arrays, and end without a want of memory, leave the same arrays and tell one status
abbrev pub EndsOnce : {R : Type 0} → (R → R → Status → Type 0) → Type 0
EndsOnce {R = R} Ends = (old new newer : R) (s t : Status) → Ends old new s → Ends old newer t → ¬ (s ≡ Memory) →
    ¬ (t ≡ Memory) → (s ≡ t) × (new ≡ newer)

-- two runs whose answers are handed out hand out the same
abbrev pub HandsOnce : {R : Type 0} → (R → Status → Type 0) → Type 0
HandsOnce {R = R} Ends = (arrays others : R) (s t : Status) → Ends arrays s → Ends others t → ¬ (s ≡ Memory) →
    ¬ (t ≡ Memory) → (s ≡ t) × (arrays ≡ others)

-- each call that writes into arrays of a caller; snap rounding has the number 0
pub record CallsEndOnce {I U : Type 0} (whole : I → ℤ) (limit : ℕ) (width : Width) (natural : U → ℕ) : Type 0 where
  pub overlay : (rule fill : ℕ) (options : OptionNumbers U) (subject clip : Contours I) → options.solver ≡ 0 →
      EndsOnce (OverlayEnds whole limit width natural rule fill options subject clip)
  pub hierarchy : (rule fill : ℕ) (options : OptionNumbers U) (subject clip : Contours I) → options.solver ≡ 0 →
      EndsOnce (HierarchyEnds whole limit width natural rule fill options subject clip)
  pub simplified : (fill : ℕ) (options : OptionNumbers U) (given : Contours I) → options.solver ≡ 0 →
      EndsOnce (SimplifyingEnds whole limit width natural fill options given)
  pub sliced : (fill : ℕ) (subject lines : Contours I) →
      EndsOnce (SlicingEnds whole limit width fill 0 subject lines)
  pub clipped : (fill : ℕ) (options : ClipOptions) (shape lines : Contours I) → options.solver ≡ 0 →
      EndsOnce (ClipEnds whole limit fill options shape lines)
  pub listed : (fill : ℕ) (subject clip : Contours I) → EndsOnce (ListingEnds whole limit fill 0 subject clip)
  pub related : (fill : ℕ) (subject clip : Contours I) → EndsOnce (RelatingEnds whole limit fill 0 subject clip)
  pub related_so : (number fill : ℕ) (subject clip : Contours I) →
      EndsOnce (RelatingOneEnds whole limit number fill 0 subject clip)

-- each call whose answer is handed out
pub record ResultsEndOnce {I U : Type 0} (whole : I → ℤ) (limit : ℕ) (width : Width) (natural : U → ℕ) : Type 0 where
  pub overlay : (rule fill : ℕ) (options : OptionNumbers U) (subject clip : Contours I) → options.solver ≡ 0 →
      HandsOnce (OverlayIsHeld whole limit width natural rule fill options subject clip)
  pub hierarchy : (rule fill : ℕ) (options : OptionNumbers U) (subject clip : Contours I) → options.solver ≡ 0 →
      HandsOnce (HierarchyIsHeld whole limit width natural rule fill options subject clip)
  pub simplified : (fill : ℕ) (options : OptionNumbers U) (given : Contours I) → options.solver ≡ 0 →
      HandsOnce (SimplificationIsHeld whole limit width natural fill options given)
  pub sliced : (fill : ℕ) (subject lines : Contours I) →
      HandsOnce (SlicesAreHeld whole limit width fill 0 subject lines)
  pub clipped : (fill : ℕ) (options : ClipOptions) (shape lines : Contours I) → options.solver ≡ 0 →
      HandsOnce (ClipsAreHeld whole limit fill options shape lines)
  pub listed : (fill : ℕ) (subject clip : Contours I) → HandsOnce (EdgesAreHeld whole limit fill 0 subject clip)
  pub tiled : (fill : ℕ) (wide high : ℤ) (subject : Contours I) →
      HandsOnce (TilesAreHeld whole limit width fill 0 wide high subject)

-- shapes that are prepared of the same contours are asked alike, and preparing ends with one status
pub record ShapesArePreparedOnce {I : Type 0} (whole : I → ℤ) (limit : ℕ) : Type 0 where
  pub status : (fill : ℕ) (given : Contours I) (p q : Parts) (s t : Status) →
      PreparingEnds whole limit fill 0 given p s → PreparingEnds whole limit fill 0 given q t → ¬ (s ≡ Memory) →
      ¬ (t ≡ Memory) → s ≡ t
  pub asked : (fill : ℕ) (given : Contours I) (p q : Parts) (points : List I) (old new newer : List ℕ)
      (s t : Status) → ArePartsOf whole limit fill 0 given p → ArePartsOf whole limit fill 0 given q →
      AskingEnds whole limit p points old new s → AskingEnds whole limit q points old newer t →
      (s ≡ t) × (new ≡ newer)
