-- The numbers of statuses, and for what they stand.
use Rattle.std.specs.Prelude.{ℕ, ℤ, List, All}
use Rattle.overlay_geom.specs.Resolved.{IsResolved}
use Rattle.overlay_geom.specs.declared.error.OverlayError.{OverlayError}
use Rattle.overlay_geom.specs.declared.error.OverlayError.TheVariants as error
use Rattle.polyover_calls.specs.Reading.{AreContours, contours_at, HaveFault}
use Rattle.polyover_calls.specs.declared.fault.Fault.{Fault}
use Rattle.polyover_calls.specs.declared.fault.Fault.TheVariants as fault
use Rattle.polyover_calls.specs.declared.status.Status.{Status}
use Rattle.polyover_calls.specs.declared.status.Status.TheVariants.{Done, Memory, BadEnds, OutOfRange}
use Rattle.polyover_calls.specs.declared.status.Status.TheVariants.{NotResolved, BadRule, BadFill, BadOption}
use Rattle.polyover_calls.specs.declared.status.Status.TheVariants.{NotSettled, TooManyEdges, TooSmall}

-- the number that C knows a status by
abbrev pub code_of : Status → ℕ
code_of Done = 0
code_of Memory = 1
code_of BadEnds = 2
code_of OutOfRange = 3
code_of NotResolved = 4
code_of BadRule = 5
code_of BadFill = 6
code_of BadOption = 7
code_of NotSettled = 8
code_of TooManyEdges = 9
code_of TooSmall = 10

-- the status for a fault
abbrev pub status_of_fault : Fault → Status
status_of_fault fault.Memory = Memory
status_of_fault fault.Ends = BadEnds
status_of_fault fault.Range = OutOfRange

-- the status for a refusal; no new builder answers `Failed`
abbrev pub status_of_error : OverlayError → Status
status_of_error error.Memory = Memory
status_of_error error.NotSettled = NotSettled
status_of_error error.TooManyEdges = TooManyEdges
status_of_error error.Failed = Memory

-- arrays are read as a shape with this status: with `Done` their contours fit, are in range and resolved
abbrev pub ReadsAs : {I : Type 0} → (I → ℤ) → ℕ → List I → List ℕ → Status → Type 0
ReadsAs whole limit cs ends Done = AreContours whole limit cs ends × All IsResolved (contours_at whole cs ends)
ReadsAs whole limit cs ends Memory = AreContours whole limit cs ends
ReadsAs whole limit cs ends BadEnds = HaveFault whole limit cs ends fault.Ends
ReadsAs whole limit cs ends OutOfRange = HaveFault whole limit cs ends fault.Range
ReadsAs whole limit cs ends NotResolved = AreContours whole limit cs ends
    × ¬ (All IsResolved (contours_at whole cs ends))
ReadsAs whole limit cs ends BadRule = ⊥
ReadsAs whole limit cs ends BadFill = ⊥
ReadsAs whole limit cs ends BadOption = ⊥
ReadsAs whole limit cs ends NotSettled = ⊥
ReadsAs whole limit cs ends TooManyEdges = ⊥
ReadsAs whole limit cs ends TooSmall = ⊥

-- a call is refused with this status: a number that it is given stands for nothing, arrays have a fault, or the query
-- is refused; memory is wanting only where the query may be refused so
abbrev pub IsRefused : (Status → Type 0) → (Fault → Type 0) → (OverlayError → Type 0) → Status → Type 0
IsRefused unknown faulty refused Done = ⊥
IsRefused unknown faulty refused Memory = refused error.Memory
IsRefused unknown faulty refused BadEnds = faulty fault.Ends
IsRefused unknown faulty refused OutOfRange = faulty fault.Range
IsRefused unknown faulty refused NotResolved = ⊥
IsRefused unknown faulty refused BadRule = unknown BadRule
IsRefused unknown faulty refused BadFill = unknown BadFill
IsRefused unknown faulty refused BadOption = unknown BadOption
IsRefused unknown faulty refused NotSettled = refused error.NotSettled
IsRefused unknown faulty refused TooManyEdges = refused error.TooManyEdges
IsRefused unknown faulty refused TooSmall = ⊥
