-- The rounds of a solver, each of the edges that the round before leaves.
use Rattle.std.specs.Prelude.{◌⊎◌, ⊤, List, [], ◌∷◌}
use Rattle.overlay_geom.specs.Edges.{CountedEdge}
use Rattle.overlay_geom.specs.declared.solver.Solver.{Solver}
use Rattle.overlay_geom.specs.declared.solver.Solver.TheVariants.{Rounds, Snapping}
use Rattle.overlay_plane.specs.Meetings.{MeetInWholePoints}
use Rattle.overlay_plane.specs.Rounds.{Round, IsRound, pieces_of}
use Rattle.overlay_plane.specs.Snaps.{IsSnap}

-- a round of snap rounding: a cutting round where the merged edges meet in whole points alone, else a snap
abbrev pub IsSnapRound : List CountedEdge → Round → Type 0
IsSnapRound old r = (MeetInWholePoints r.edges × IsRound old r) ⊎ ((¬ (MeetInWholePoints r.edges)) × IsSnap old r)

-- the solver takes the round of these edges
abbrev pub IsRoundBy : Solver → List CountedEdge → Round → Type 0
IsRoundBy Rounds old r = IsRound old r
IsRoundBy Snapping old r = IsSnapRound old r

-- each of the rounds is of this kind, applied to the edges that the round before leaves
abbrev pub AreEachRounds : (List CountedEdge → Round → Type 0) → List CountedEdge → List Round → Type 0
AreEachRounds Is es [] = ⊤
AreEachRounds Is es (r ∷ rs) = Is es r × AreEachRounds Is (pieces_of r) rs

-- the solver takes these rounds, one after another
abbrev pub AreRounds : Solver → List CountedEdge → List Round → Type 0
AreRounds solver es rs = AreEachRounds (IsRoundBy solver) es rs
