-- Contours wind as asked of the edges as they were given, round each point far from these.
use Rattle.std.specs.Prelude.{◌≡◌, ℕ, List}
use Rattle.overlay_geom.specs.Edges.{CountedEdge, subj_of, clip_of}
use Rattle.overlay_geom.specs.Plane.{PlanePoint, Step, winding}
use Rattle.overlay_geom.specs.declared.solver.Solver.{Solver}
use Rattle.overlay_plane.specs.ContourWindings.{wanted_winding}
use Rattle.overlay_plane.specs.FarPoints.{IsFarFrom}
use Rattle.overlay_graph.specs.Arranged.{IsArranged}
use Rattle.overlay_walk.specs.Asked.{Asked, region_asked, filled_asked}

-- round each point more than k/2 away from the given edges, in x or in y, the contours wind once, in the output
-- direction, where the rules hold of the windings of these edges. They wind zero times round each other such point
abbrev pub WindsRoundFarPoints : ℕ → Asked → List CountedEdge → List Step → Type 0
WindsRoundFarPoints k q given steps = (p : PlanePoint) → IsFarFrom k given p →
    winding steps p ≡ wanted_winding (region_asked q) subj_of clip_of (filled_asked q) given p

-- the contours wind as asked of the edges from which the solver reached an arrangement
pub record WindsRoundGiven (q : Asked) (solver : Solver) (given es : List CountedEdge) (steps : List Step) : Type 0
  where
    -- rounds that moved some point are k in number: at most one by snap rounding, and none where edges meet only in
    -- whole points
    pub arranged : IsArranged solver given es
    -- with the minimum area zero, each point more than k/2 away has the winding asked for
    pub winds : q.min_output_area ≡ 0 → WindsRoundFarPoints arranged.moving q given steps
