-- Arrangements are determined: by snap rounding outright, by rounds once it is told how each point of the plane is
-- rounded, and by both where edges meet in whole points alone.
use Rattle.std.specs.Prelude.{◌≡◌, ◌^◌, List, All}
use Rattle.std.specs.List.Sorted.{IsPermutation}
use Rattle.overlay_geom.specs.Edges.{CountedEdge, ends_of}
use Rattle.overlay_geom.specs.Plane.{Point, PlanePoint}
use Rattle.overlay_geom.specs.declared.solver.Solver.{Solver}
use Rattle.overlay_geom.specs.declared.solver.Solver.TheVariants.{Rounds, Snapping}
use Rattle.overlay_plane.specs.Arrangements.{IsReachedBy, LeaveLightPieces, WeighsTooMuch}
use Rattle.overlay_plane.specs.EdgeLists.{IsForwardBy}
use Rattle.overlay_plane.specs.Meetings.{MeetInWholePoints}
use Rattle.overlay_plane.specs.Rounds.{Round}

-- the rounds take each point of the plane to this whole point
abbrev pub RoundAs : (PlanePoint → Point) → List Round → Type 0
RoundAs whole_at rounds = All (λ r. (p : PlanePoint) → r.whole_at p ≡ whole_at p) rounds

-- two arrangements of one list, by rounds that round alike, are one
abbrev pub OneArrangement : Type 0
OneArrangement = (whole_at : PlanePoint → Point) (rounds others : List Round) (old new newer : List CountedEdge) →
    RoundAs whole_at rounds → RoundAs whole_at others → IsReachedBy Rounds rounds old new →
    IsReachedBy Rounds others old newer → new ≡ newer

-- two arrangements of a list of forward edges by snap rounding are one
abbrev pub OneSnappedArrangement : Type 0
OneSnappedArrangement = (rounds others : List Round) (old new newer : List CountedEdge) → IsForwardBy ends_of old →
    IsReachedBy Snapping rounds old new → IsReachedBy Snapping others old newer → new ≡ newer

-- so are arrangements of two lists with the same edges, each in an order of its own
abbrev pub OneSnappedArrangementOfShuffled : Type 0
OneSnappedArrangementOfShuffled = (rounds others : List Round) (old other new newer : List CountedEdge) →
    IsForwardBy ends_of old → IsPermutation old other → IsReachedBy Snapping rounds old new →
    IsReachedBy Snapping others other newer → new ≡ newer

-- where edges meet in whole points alone or overlap there is one arrangement, in whatever order they stand, whichever
-- solvers reach it
abbrev pub OneWholeArrangement : Type 0
OneWholeArrangement = (solver another : Solver) (rounds others : List Round) (old other new newer : List CountedEdge) →
    IsForwardBy ends_of old → MeetInWholePoints old → IsPermutation old other → IsReachedBy solver rounds old new →
    IsReachedBy another others other newer → new ≡ newer

-- a list that snap rounding arranges by light pieces does not weigh too much, in whatever order its edges stand
abbrev pub LightSnapsAreNotHeavy : Type 0
LightSnapsAreNotHeavy = (rounds : List Round) (old other new : List CountedEdge) → IsForwardBy ends_of old →
    IsPermutation old other → IsReachedBy Snapping rounds old new → LeaveLightPieces rounds →
    ¬ (WeighsTooMuch Snapping 1 (2 ^ 31) other)
