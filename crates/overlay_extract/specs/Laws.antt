-- Laws of the overlays of an arrangement.
use Rattle.std.specs.Prelude.{◌≡◌, ◌⊎◌, ℕ, pos, neg_ℤ, List, map, AllPairs}
use Rattle.std.specs.List.{flat_map}
use Rattle.overlay_geom.specs.Plane.{Point, PlanePoint, IsOff, steps_of, winding}
use Rattle.overlay_geom.specs.Edges.{CountedEdge, ends_of, subj_of, clip_of}
use Rattle.overlay_geom.specs.declared.solver.Solver.{Solver}
use Rattle.overlay_geom.specs.declared.options.ContourDirection.{ContourDirection}
use Rattle.overlay_geom.specs.declared.options.ContourDirection.TheVariants.{CounterClockwise, Clockwise}
use Rattle.overlay_plane.specs.Balance.{HasBalancedCounts}
use Rattle.overlay_plane.specs.ContourWindings.{wanted_winding}
use Rattle.overlay_plane.specs.Islands.{ChildLink}
use Rattle.overlay_plane.specs.ShapeWindings.{steps_of_shapes}
use Rattle.overlay_order.specs.Content.{IsContent}
use Rattle.overlay_graph.specs.Arranged.{IsArranged}
use Rattle.overlay_extract.specs.PlacedResults.{IsHierarchy}
use Rattle.overlay_extract.specs.Results.{Asked, region_asked, filled_asked, selected_of, IsResult}

-- on an arrangement with balanced counts, the selected steps wind once, in the output direction, round each point where
-- the rules hold of the windings. They wind zero times round each other point
abbrev pub SelectedStepsWindRoundRegion : Type 0
SelectedStepsWindRoundRegion = (q : Asked) (limit : ℕ) (solver : Solver) (old new : List CountedEdge) →
    HasBalancedCounts old → IsArranged solver old new → IsContent limit new → (p : PlanePoint) →
    winding (selected_of q new) p ≡ wanted_winding (region_asked q) subj_of clip_of (filled_asked q) new p

-- the query with another output direction
abbrev pub turned_to : ContourDirection → Asked → Asked
turned_to direction q = record q { output_direction = direction }

-- with minimum area zero, the results of an arrangement in the two directions have opposite windings at each point off
-- the edges
abbrev pub DirectionTurnsWindings : Type 0
DirectionTurnsWindings = (q : Asked) (es : List CountedEdge) (left right : List (List (List Point))) →
    q.min_output_area ≡ 0 → IsResult (turned_to CounterClockwise q) es left →
    IsResult (turned_to Clockwise q) es right →
    (p : PlanePoint) → IsOff (map ends_of es) p →
    winding (steps_of_shapes right) p ≡ neg_ℤ (winding (steps_of_shapes left) p)

-- the queries ask for one region with one output direction
pub record AskAlike (q r : Asked) : Type 0 where
  pub fill : q.fill ≡ r.fill
  pub rule : q.rule ≡ r.rule
  pub direction : q.output_direction ≡ r.output_direction

-- with minimum area zero, results of an arrangement asked for alike have equal windings at each point off the edges
abbrev pub SameRegionSameWindings : Type 0
SameRegionSameWindings = (q r : Asked) (es : List CountedEdge) (left right : List (List (List Point))) → AskAlike q r →
    q.min_output_area ≡ 0 → r.min_output_area ≡ 0 → IsResult q es left → IsResult r es right →
    (p : PlanePoint) → IsOff (map ends_of es) p → winding (steps_of_shapes right) p ≡ winding (steps_of_shapes left) p

-- of two different shapes, one winds zero times round the point
abbrev pub NoTwoWindRound : List (List (List Point)) → PlanePoint → Type 0
NoTwoWindRound shapes p =
    AllPairs (λ s t. (winding (flat_map steps_of s) p ≡ pos 0) ⊎ (winding (flat_map steps_of t) p ≡ pos 0)) shapes

-- with minimum area zero, no two different shapes of a result wind round one point off the edges
abbrev pub NoTwoShapesWindRoundOnePoint : Type 0
NoTwoShapesWindRoundOnePoint = (q : Asked) (es : List CountedEdge) (result : List (List (List Point))) →
    q.min_output_area ≡ 0 → IsResult q es result → (p : PlanePoint) → IsOff (map ends_of es) p → NoTwoWindRound result p

-- nor do two shapes of a hierarchy
abbrev pub NoTwoOfHierarchyWindRoundOnePoint : Type 0
NoTwoOfHierarchyWindRoundOnePoint = (q : Asked) (es : List CountedEdge) (result : List (List (List Point)))
    (links : List ChildLink) → q.min_output_area ≡ 0 → IsHierarchy q es result links → (p : PlanePoint) →
    IsOff (map ends_of es) p → NoTwoWindRound result p
