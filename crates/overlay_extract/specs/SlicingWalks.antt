-- The walks by which slicing passes the filled sides of edges, each side once, and the loops that it finds on them:
-- which loops there are, where each begins, and in what order they stand.
use Rattle.std.specs.Prelude.{◌≡◌, false, true, List, [], ◌∷◌, ◌++◌, map, All, Contains}
use Rattle.std.specs.Bool.{⊤}
use Rattle.std.specs.List.Sorted.{IsPermutation}
use Rattle.overlay_geom.specs.Plane.{Step, edge_of, edge_lt, is_forward, reversed_step}
use Rattle.overlay_plane.specs.Turn.{Hand, IsNextStep}
use Rattle.overlay_plane.specs.Turn.Hand.{left, right}
use Rattle.overlay_extract.specs.ClosedWalks.{LeadsTo, NoneLeaves, turned_loop}
use Rattle.overlay_extract.specs.Repeats.{IsCutAtRepeats}

-- sides, given as steps with the filled side on the left, as they are passed with the filled side by the hand; and so
-- back from what is passed by the hand to the sides
abbrev pub by_hand : Hand → List Step → List Step
by_hand left steps = steps
by_hand right steps = map reversed_step steps

-- a loop passed by the hand, with the filled side on the left: a loop passed with it on the right is turned round
abbrev pub loop_by_hand : Hand → List Step → List Step
loop_by_hand left loop = loop
loop_by_hand right loop = turned_loop loop

-- after s come the other steps, each the next one by the hand of the one before it
abbrev pub GoesOnBy : List Step → Hand → Step → List Step → Type 0
GoesOnBy steps hand s [] = ⊤
GoesOnBy steps hand s (t ∷ ts) = IsNextStep steps hand s t × GoesOnBy steps hand t ts

-- the walk that begins with s, with the filled side by the hand: it turns through the filled side at each point, takes
-- the same edge back where there is no other, and ends at its first return to its start point
pub record IsSlicingWalk (sides : List Step) (hand : Hand) (s : Step) (ss : List Step) : Type 0 where
  pub turns : GoesOnBy (by_hand hand sides) hand s ss
  pub returns : LeadsTo s.from (s ∷ ss) s.from
  pub first_return : NoneLeaves s.from ss

-- where these sides are open, a walk begins with s: at the smaller end of the first edge in order with an open side,
-- along its upper side if that is open, and else along its lower one
pub record BeginsAtFirst (open_sides : List Step) (hand : Hand) (s : Step) : Type 0 where
  pub is_open : Contains (by_hand hand open_sides) s
  pub from_smaller_end : is_forward s ≡ true
  pub first : All (λ t. edge_lt (edge_of t) (edge_of s) ≡ false) open_sides
  pub upper_first : hand ≡ right → ¬ (Contains open_sides s)

-- the open sides are passed by walks, and the loops are those into which these are cut, with the filled side on the
-- left: while sides are open, a walk begins at the first of them; what it does not pass stays open
pub data AreLoopsOfWalks (sides : List Step) : List Step → List (List Step) → Type 0 where
  none_open : AreLoopsOfWalks sides [] []
  walked : {open_sides ss rest : List Step} {hand : Hand} {s : Step} {cut others : List (List Step)} →
      BeginsAtFirst open_sides hand s → IsSlicingWalk sides hand s ss →
      IsPermutation open_sides (by_hand hand (s ∷ ss) ++ rest) → IsCutAtRepeats (s ∷ ss) cut →
      AreLoopsOfWalks sides rest others → AreLoopsOfWalks sides open_sides (map (loop_by_hand hand) cut ++ others)

-- the loops are those that slicing finds on the sides, in the order in which it finds them
abbrev pub AreFoundInOrder : List Step → List (List Step) → Type 0
AreFoundInOrder sides loops = AreLoopsOfWalks sides sides loops
