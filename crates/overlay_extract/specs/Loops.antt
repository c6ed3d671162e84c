-- The loops into which the filled sides of edges are cut: each is a contour that visits no point twice; a side stands
-- in one of them, but for those whose reverse is a filled side of the same orbit.
use Rattle.std.specs.Prelude.{◌⊎◌, Bool, ℤ, List, All, Contains}
use Rattle.overlay_geom.specs.Plane.{Step, reversed_step}
use Rattle.overlay_geom.specs.Edges.{CountedEdge}
use Rattle.overlay_plane.specs.Nodes.{IsBalancedArrangement}
use Rattle.overlay_plane.specs.BesideOrbits.{HasEachOnce}
use Rattle.overlay_plane.specs.Contours.{all_steps}
use Rattle.overlay_plane.specs.Groups.{IsSimpleContour}
use Rattle.overlay_extract.specs.FilledSides.{filled_sides, IsInOneOrbit}

-- the filled sides are cut into the loops: each loop is of filled sides, visits no point twice, and lies in one orbit;
-- no side is passed twice, and one is left out exactly where its reverse lies in the same orbit
pub record AreLoops (sides : List Step) (loops : List (List Step)) : Type 0 where
  pub are_sides : All (Contains sides) (all_steps loops)
  pub at_most_once : HasEachOnce (all_steps loops)
  pub simple : All IsSimpleContour loops
  pub one_orbit : All (λ l. (s t : Step) → Contains l s → Contains l t → IsInOneOrbit sides s t) loops
  pub taken : (s : Step) → Contains sides s →
      Contains (all_steps loops) s ⊎ IsInOneOrbit sides s (reversed_step s)
  pub left_out : (s : Step) → IsInOneOrbit sides s (reversed_step s) → ¬ (Contains (all_steps loops) s)

-- ---- laws

-- a contour of filled sides that visits no point twice passes no side whose reverse lies in the same orbit
abbrev pub LoopsPassNoSideBothWays : Type 0
LoopsPassNoSideBothWays = (fills : ℤ → Bool) (count : CountedEdge → ℤ) (es : List CountedEdge) →
    IsBalancedArrangement count es → (loop : List Step) → All (Contains (filled_sides fills count es)) loop →
    IsSimpleContour loop → (s : Step) → IsInOneOrbit (filled_sides fills count es) s (reversed_step s) →
    ¬ (Contains loop s)
