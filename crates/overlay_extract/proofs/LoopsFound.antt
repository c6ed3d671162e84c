-- What the steps of filled loops rest on: orbits are closed, the steps of tours have a length, and a loop turned round
-- has as many steps.
use Rattle.std.proofs.Common.{◌≡◌, ◌≤◌, ℤ, List, length, map, All, sym, ap, ◌∙◌}
use Rattle.std.proofs.Common.{arith}
use Rattle.std.proofs.lemmas.List.{length-map, length-reverse}
use Rattle.std.proofs.lemmas.List.Elements.{All-weaker, All-contains}
use Rattle.std.proofs.lemmas.List.Sorted.{Contains-permutation, IsPermutation-sym}
use Rattle.overlay_geom.specs.Plane.{Step, reversed_step, backward}
use Rattle.overlay_plane.specs.Contours.{all_steps}
use Rattle.overlay_plane.specs.Groups.{IsSimpleContour}
use Rattle.overlay_plane.specs.Turn.{IsOrbit}
use Rattle.overlay_plane.specs.Turn.Hand.{left}
use Rattle.overlay_plane.proofs.Entries.{all_of_entries, Contains-flat_map}
use Rattle.overlay_extract.specs.ClosedWalks.{IsClosedWalk, HasLength}
use Rattle.overlay_extract.specs.Tours.{AreOrbits, AreTours}
use Rattle.overlay_extract.proofs.OrbitTours.{orbit_closed}
use Rattle.overlay_walk.specs.Steps.{plain_step, plain_steps}
use Rattle.overlay_walk.specs.declared.step.Step.{Step as StepTaken}

-- orbits are closed walks
pub orbits_closed : (sides : List Step) (orbits : List (List Step)) → AreOrbits sides orbits → All IsClosedWalk orbits
orbits_closed sides orbits are = All-weaker (IsOrbit sides left) IsClosedWalk (orbit_closed sides left) orbits are.are

-- the steps of tours are sides, and have a length
pub tours_long : (sides : List Step) (tours : List (List Step)) → AreTours sides tours → All HasLength sides →
    All (All HasLength) tours
tours_long sides tours are long = all_of_entries (All HasLength) tours (λ t c. all_of_entries HasLength t (λ s d.
    All-contains HasLength sides s long (Contains-permutation (all_steps tours) sides s
    (IsPermutation-sym sides (all_steps tours) are.each_once)
    (Contains-flat_map (λ (m : List Step). m) tours t s c d))))

-- a loop passed back has steps
pub some_back : {I : Type 0} (whole : I → ℤ) (loop : List Step) → IsSimpleContour loop → (back : List (StepTaken I)) →
    plain_steps whole back ≡ backward loop → 1 ≤ length back
some_back whole loop simple back is =
    let three = simple.contour.three in
    let same = sym (length-map back (plain_step whole)) ∙ ap length is ∙ length-reverse (map reversed_step loop)
    ∙ length-map loop reversed_step in
    omega arith
