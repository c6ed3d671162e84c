-- Tours of orbits: where they begin, which way they are walked, and the order in which they stand.
use Rattle.std.specs.Prelude.{◌≡◌, ℕ, Bool, true, false, cond, not, ◌&&◌, ◌||◌, List, [], ◌∷◌, ◌++◌, take, drop, map}
use Rattle.std.specs.Prelude.{All, AllPairs, Contains}
use Rattle.std.specs.Bool.{⊤}
use Rattle.overlay_geom.specs.Plane.{Point, Step, Edge, point_lt, edge_eq, edge_lt, backward}
use Rattle.overlay_plane.specs.Contours.{all_steps}
use Rattle.overlay_plane.specs.Turn.{Hand}
use Rattle.overlay_plane.specs.Turn.Hand.{left, right}
use Rattle.overlay_extract.specs.ClosedWalks.{LeadsTo, NoneLeaves}
use Rattle.overlay_extract.specs.Repeats.{IsCutAtRepeats}
use Rattle.overlay_extract.specs.SlicingWalks.{loop_by_hand}
use Rattle.overlay_walk.specs.Places.{step_at}

-- ---- one tour

-- the walk leads from the point back to it, and does not visit it in between
abbrev pub IsTourFrom : Point → List Step → Type 0
IsTourFrom p [] = ⊥
IsTourFrom p (s ∷ ss) = LeadsTo p (s ∷ ss) p × NoneLeaves p ss

-- the last one of steps that begin with s
abbrev pub last_step : Step → List Step → Step
last_step s [] = s
last_step s (t ∷ ts) = last_step t ts

-- the tour that begins with s leaves along the first edge in order of the two at its start, or comes back along no
-- other
abbrev pub leaves_along_first : Step → List Step → Bool
leaves_along_first s ss = not (point_lt (last_step s ss).from s.to)

abbrev pub is_walked_along : List Step → Bool
is_walked_along [] = true
is_walked_along (s ∷ ss) = leaves_along_first s ss

-- the edge from one point to another one
abbrev pub edge_between : Point → Point → Edge
edge_between p q = record { a = p; b = q }

-- the edge by which it is found, that first edge, with the start as its smaller end
abbrev pub found_edge : Step → List Step → Edge
found_edge s ss = edge_between s.from (cond (leaves_along_first s ss) s.to (last_step s ss).from)

-- a tour comes before another one: the edge by which it is found comes first, or is the same one, and it leaves along
-- it while the other comes back
abbrev pub is_tour_before : List Step → List Step → Bool
is_tour_before [] [] = false
is_tour_before [] (t ∷ ts) = true
is_tour_before (s ∷ ss) [] = false
is_tour_before (s ∷ ss) (t ∷ ts) = edge_lt (found_edge s ss) (found_edge t ts)
    || (edge_eq (found_edge s ss) (found_edge t ts) && (leaves_along_first s ss && not (leaves_along_first t ts)))

-- ---- the tours of walks

-- the walk is what the tours pass one after the other; each leads from the point where the walk begins back to it
pub record IsSplitAtStart (walk : List Step) (tours : List (List Step)) : Type 0 where
  pub passed : all_steps tours ≡ walk
  pub are : All (IsTourFrom (step_at walk 0).from) tours

-- the walk, begun at some place, is what the tours pass one after the other; each leads from its smallest point back to
-- it
pub record IsSplitAtLeast (walk : List Step) (tours : List (List Step)) : Type 0 where
  pub place : ℕ
  pub passed : all_steps tours ≡ drop place walk ++ take place walk
  pub start : Point
  pub least : All (λ s. point_lt s.from start ≡ false) walk
  pub are : All (IsTourFrom start) tours

-- the tour is a part of the walk, begun at some place
pub record IsPartRound (walk tour : List Step) : Type 0 where
  pub place : ℕ
  pub before : List Step
  pub after : List Step
  pub is : drop place walk ++ take place walk ≡ before ++ (tour ++ after)

-- the tour is a part of one of the walks, and leads from the smallest point of this walk back to it
pub record IsTourOfOne (walks : List (List Step)) (tour : List Step) : Type 0 where
  pub walk : List Step
  pub among : Contains walks walk
  pub part : IsPartRound walk tour
  pub start : Point
  pub least : All (λ s. point_lt s.from start ≡ false) walk
  pub is : IsTourFrom start tour

-- the tours are parts of the walks, each from a smallest point, and stand in order
pub record AreToursInOrder (walks tours : List (List Step)) : Type 0 where
  pub are : All (IsTourOfOne walks) tours
  pub order : AllPairs (λ s t. is_tour_before t s ≡ false) tours

-- ---- their loops

-- the hand of the filled side where the tour, which has it on the left, is walked from its start along the edge by
-- which it is found
abbrev pub hand_of_tour : List Step → Hand
hand_of_tour tour = cond (is_walked_along tour) left right

-- and the walk
abbrev pub walk_of_tour : List Step → List Step
walk_of_tour tour = cond (is_walked_along tour) tour (backward tour)

-- the loops are those into which this walk is cut, with the filled side on the left
pub record AreLoopsOfTour (tour : List Step) (loops : List (List Step)) : Type 0 where
  pub cut : List (List Step)
  pub is_cut : IsCutAtRepeats (walk_of_tour tour) cut
  pub are : map (loop_by_hand (hand_of_tour tour)) cut ≡ loops

-- the loops are those of the tours, tour by tour
pub data AreLoopsOfTours : List (List Step) → List (List Step) → Type 0 where
  none : AreLoopsOfTours [] []
  more : {tour : List Step} {tours loops others : List (List Step)} → AreLoopsOfTour tour loops →
      AreLoopsOfTours tours others → AreLoopsOfTours (tour ∷ tours) (loops ++ others)

-- ---- on the way

-- none of the steps but the first leaves the point
abbrev pub LeavesAtFirst : Point → List Step → Type 0
LeavesAtFirst p [] = ⊤
LeavesAtFirst p (s ∷ ss) = NoneLeaves p ss

-- the tours ended so far lead from the start back to it, and the one under way has not left it again
pub record AreFromStart (start : Point) (tour : List Step) (tours : List (List Step)) : Type 0 where
  pub ended : All (IsTourFrom start) tours
  pub under_way : LeavesAtFirst start tour
