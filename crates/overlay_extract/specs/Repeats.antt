-- A closed walk cut into loops at the points that it visits again, in the order in which it comes back to them.
use Rattle.std.specs.Prelude.{◌≡◌, cond, nat_lt, List, [], ◌∷◌, ◌++◌, length}
use Rattle.overlay_geom.specs.Plane.{Step, points_of}
use Rattle.overlay_plane.specs.Groups.{HasEachPointOnce}

-- the walk as a loop, where it has three points or more
abbrev pub loop_if_long : List Step → List (List Step)
loop_if_long walk = cond (nat_lt 2 (length walk)) (walk ∷ []) []

-- the walk is cut into the loops, in this order. Where it comes back to a point, the points after that point's earlier
-- place are cut off as a loop, the repeated point last, and dropped where fewer than two lie between; the walk goes on
-- from the earlier place, as if it had not visited them. What is left at the end is the last loop
pub data IsCutAtRepeats : List Step → List (List Step) → Type 0 where
  -- no point is repeated
  left : {walk : List Step} → HasEachPointOnce (points_of walk) → IsCutAtRepeats walk (loop_if_long walk)
  -- the first point that is repeated is the one from which t leads; s led from it before
  again : (before between after : List Step) (s t : Step) {rest : List (List Step)} →
      HasEachPointOnce (points_of (before ++ s ∷ between)) → t.from ≡ s.from →
      IsCutAtRepeats (before ++ t ∷ after) rest →
      IsCutAtRepeats (before ++ (s ∷ between ++ t ∷ after)) (loop_if_long (between ++ s ∷ []) ++ rest)

-- ---- on the way

-- of the walk the path is left that visits no point twice, and the rest is to come; the loops are cut off. So with what
-- the path and the rest are cut into they are what the walk is cut into
pub record IsCutOnTheWay (walk path rest : List Step) (loops : List (List Step)) : Type 0 where
  pub points_once : HasEachPointOnce (points_of path)
  pub so_far : (more : List (List Step)) → IsCutAtRepeats (path ++ rest) more → IsCutAtRepeats walk (loops ++ more)
