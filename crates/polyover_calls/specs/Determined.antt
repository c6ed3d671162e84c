-- What becomes of the arrays of a caller is determined by the answer and by their room, and so is the status. What is
-- wrong with arguments is told by one status.
use Rattle.std.specs.Prelude.{◌≡◌, ℕ, ℤ}
use Rattle.polyover_calls.specs.Asked.{AreKnown}
use Rattle.polyover_calls.specs.Given.{Contours, AreGiven}
use Rattle.polyover_calls.specs.Linked.{LinkedFlat, LinkedRoom, ArePutLinked}
use Rattle.polyover_calls.specs.Listed.{EdgeArrays, EdgeRoom, AreEdgesPut}
use Rattle.polyover_calls.specs.Overlays.{IsOverlayRefused}
use Rattle.polyover_calls.specs.Written.{Flat, Room, ArePut}
use Rattle.polyover_calls.specs.WrittenPaths.{FlatPaths, PathRoom, ArePathsPut}
use Rattle.polyover_calls.specs.declared.numbers.OptionNumbers.{OptionNumbers}
use Rattle.polyover_calls.specs.declared.status.Status.{Status}
use Rattle.polyover_calls.specs.declared.status.Status.TheVariants.{Done, Memory, BadEnds, OutOfRange}
use Rattle.polyover_calls.specs.declared.status.Status.TheVariants.{NotResolved, BadRule, BadFill, BadOption}
use Rattle.polyover_calls.specs.declared.status.Status.TheVariants.{NotSettled, TooManyEdges, TooSmall}

-- one answer leaves the arrays in one way, and tells one status: shapes
abbrev pub ShapesPutOnce : Type 0 → Type 0
ShapesPutOnce I = (flat : Flat I) (old new newer : Room I) (s t : Status) → ArePut flat old new s →
    ArePut flat old newer t → (s ≡ t) × (new ≡ newer)

-- shapes with their links
abbrev pub LinkedPutOnce : Type 0 → Type 0
LinkedPutOnce I = (flat : LinkedFlat I) (old new newer : LinkedRoom I) (s t : Status) → ArePutLinked flat old new s →
    ArePutLinked flat old newer t → (s ≡ t) × (new ≡ newer)

-- paths
abbrev pub PathsPutOnce : Type 0 → Type 0
PathsPutOnce I = (flat : FlatPaths I) (old new newer : PathRoom I) (s t : Status) → ArePathsPut flat old new s →
    ArePathsPut flat old newer t → (s ≡ t) × (new ≡ newer)

-- and edges
abbrev pub EdgesPutOnce : Type 0 → Type 0
EdgesPutOnce I = (flat : EdgeArrays I) (old new newer : EdgeRoom I) (s t : Status) → AreEdgesPut flat old new s →
    AreEdgesPut flat old newer t → (s ≡ t) × (new ≡ newer)

-- ---- faults of arguments

-- the status tells what is wrong with the arguments of a call
abbrev pub TellsOfArguments : Status → Type 0
TellsOfArguments Done = ⊥
TellsOfArguments Memory = ⊥
TellsOfArguments BadEnds = Unit {0}
TellsOfArguments OutOfRange = Unit {0}
TellsOfArguments NotResolved = ⊥
TellsOfArguments BadRule = Unit {0}
TellsOfArguments BadFill = Unit {0}
TellsOfArguments BadOption = Unit {0}
TellsOfArguments NotSettled = ⊥
TellsOfArguments TooManyEdges = ⊥
TellsOfArguments TooSmall = ⊥

-- one status tells what is wrong with the arguments of an overlay
abbrev pub OneFault : {I : Type 0} → Type 0 → (I → ℤ) → ℕ → Type 0
OneFault {I = I} U whole limit = (rule fill : ℕ) (options : OptionNumbers U) (subject clip : Contours I)
    (s t : Status) → TellsOfArguments s → TellsOfArguments t →
    IsOverlayRefused whole limit rule fill options subject clip s →
    IsOverlayRefused whole limit rule fill options subject clip t → s ≡ t

-- and then they do not all stand for something
abbrev pub FaultyArgumentsHaveNoAnswer : {I : Type 0} → Type 0 → (I → ℤ) → ℕ → Type 0
FaultyArgumentsHaveNoAnswer {I = I} U whole limit = (rule fill : ℕ) (options : OptionNumbers U)
    (subject clip : Contours I) (s : Status) → TellsOfArguments s →
    IsOverlayRefused whole limit rule fill options subject clip s → AreKnown rule fill options →
    AreGiven whole limit subject → ¬ (AreGiven whole limit clip)
