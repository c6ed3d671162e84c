-- What is wrong with the arguments of a call is told by one status: whatever else is there, each run with these
-- arguments ends with it.
use Rattle.std.specs.Prelude.{◌≡◌, ℕ, ℤ, List}
use Rattle.std.specs.Int.{Width}
use Rattle.polyover_calls.specs.Clipped.{ClipEnds}
use Rattle.polyover_calls.specs.Determined.{TellsOfArguments}
use Rattle.polyover_calls.specs.Given.{Contours}
use Rattle.polyover_calls.specs.Hierarchies.{HierarchyEnds}
use Rattle.polyover_calls.specs.Holding.{OverlayIsHeld, SimplificationIsHeld, HierarchyIsHeld, SlicesAreHeld}
use Rattle.polyover_calls.specs.Holding.{ClipsAreHeld}
use Rattle.polyover_calls.specs.Holding.{EdgesAreHeld}
use Rattle.polyover_calls.specs.Listed.{ListingEnds}
use Rattle.polyover_calls.specs.Located.{LocatingEnds}
use Rattle.polyover_calls.specs.Overlays.{OverlayEnds}
use Rattle.polyover_calls.specs.Prepared.{PreparingEnds}
use Rattle.polyover_calls.specs.Related.{RelatingEnds}
use Rattle.polyover_calls.specs.RelatedOne.{RelatingOneEnds}
use Rattle.polyover_calls.specs.Simplified.{SimplifyingEnds}
use Rattle.polyover_calls.specs.Sliced.{SlicingEnds}
use Rattle.polyover_calls.specs.Statuses.{ReadsAs}
use Rattle.polyover_calls.specs.Tiled.{TilesAreHeld}
use Rattle.polyover_calls.specs.declared.clip_options.ClipOptions.{ClipOptions}
use Rattle.polyover_calls.specs.declared.numbers.OptionNumbers.{OptionNumbers}
use Rattle.polyover_calls.specs.declared.status.Status.{Status}

-- where a run ends with a status that tells what is wrong with the arguments, each run with them ends with it
abbrev pub TellsOneFault : {R : Type 0} → (R → R → Status → Type 0) → Type 0
TellsOneFault {R = R} Ends = (old new other newer : R) (s t : Status) → TellsOfArguments s → Ends old new s →
    Ends other newer t → s ≡ t

-- likewise of calls whose answers are handed out
abbrev pub HandsOneFault : {R : Type 0} → (R → Status → Type 0) → Type 0
HandsOneFault {R = R} Ends = (arrays others : R) (s t : Status) → TellsOfArguments s → Ends arrays s →
    Ends others t → s ≡ t

-- and of a call that is told a status alone
abbrev pub ReadsOneFault : (Status → Type 0) → Type 0
ReadsOneFault Ends = (s t : Status) → TellsOfArguments s → Ends s → Ends t → s ≡ t

-- each call that writes into arrays of a caller, and each test
pub record CallsTellOneFault {I U : Type 0} (whole : I → ℤ) (limit : ℕ) (width : Width) (natural : U → ℕ) : Type 0
  where
    pub overlay : (rule fill : ℕ) (options : OptionNumbers U) (subject clip : Contours I) →
        TellsOneFault (OverlayEnds whole limit width natural rule fill options subject clip)
    pub hierarchy : (rule fill : ℕ) (options : OptionNumbers U) (subject clip : Contours I) →
        TellsOneFault (HierarchyEnds whole limit width natural rule fill options subject clip)
    pub simplified : (fill : ℕ) (options : OptionNumbers U) (given : Contours I) →
        TellsOneFault (SimplifyingEnds whole limit width natural fill options given)
    pub sliced : (fill solver : ℕ) (subject lines : Contours I) →
        TellsOneFault (SlicingEnds whole limit width fill solver subject lines)
    pub clipped : (fill : ℕ) (options : ClipOptions) (shape lines : Contours I) →
        TellsOneFault (ClipEnds whole limit fill options shape lines)
    pub listed : (fill solver : ℕ) (subject clip : Contours I) →
        TellsOneFault (ListingEnds whole limit fill solver subject clip)
    pub related : (fill solver : ℕ) (subject clip : Contours I) →
        TellsOneFault (RelatingEnds whole limit fill solver subject clip)
    pub related_so : (number fill solver : ℕ) (subject clip : Contours I) →
        TellsOneFault (RelatingOneEnds whole limit number fill solver subject clip)
    pub located : (shape : Contours I) (points : List I) → TellsOneFault (LocatingEnds whole limit shape points)
    pub tested : (coordinates : List I) (ends : List ℕ) → ReadsOneFault (ReadsAs whole limit coordinates ends)

-- each call whose answer is handed out
pub record ResultsTellOneFault {I U : Type 0} (whole : I → ℤ) (limit : ℕ) (width : Width) (natural : U → ℕ) : Type 0
  where
    pub overlay : (rule fill : ℕ) (options : OptionNumbers U) (subject clip : Contours I) →
        HandsOneFault (OverlayIsHeld whole limit width natural rule fill options subject clip)
    pub hierarchy : (rule fill : ℕ) (options : OptionNumbers U) (subject clip : Contours I) →
        HandsOneFault (HierarchyIsHeld whole limit width natural rule fill options subject clip)
    pub simplified : (fill : ℕ) (options : OptionNumbers U) (given : Contours I) →
        HandsOneFault (SimplificationIsHeld whole limit width natural fill options given)
    pub sliced : (fill solver : ℕ) (subject lines : Contours I) →
        HandsOneFault (SlicesAreHeld whole limit width fill solver subject lines)
    pub clipped : (fill : ℕ) (options : ClipOptions) (shape lines : Contours I) →
        HandsOneFault (ClipsAreHeld whole limit fill options shape lines)
    pub listed : (fill solver : ℕ) (subject clip : Contours I) →
        HandsOneFault (EdgesAreHeld whole limit fill solver subject clip)
    pub tiled : (fill solver : ℕ) (wide high : ℤ) (subject : Contours I) →
        HandsOneFault (TilesAreHeld whole limit width fill solver wide high subject)
    pub prepared : (fill solver : ℕ) (given : Contours I) →
        HandsOneFault (PreparingEnds whole limit fill solver given)
