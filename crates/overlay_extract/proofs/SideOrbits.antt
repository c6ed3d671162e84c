-- The filled sides, in whichever order they stand, are cut into their orbits.
use Rattle.std.proofs.Common.{Bool, ℤ, List, refl}
use Rattle.std.specs.List.Sorted.{IsPermutation}
use Rattle.std.proofs.lemmas.List.Sorted.{IsPermutation-trans}
use Rattle.overlay_geom.specs.Plane.{Step}
use Rattle.overlay_geom.specs.Edges.{CountedEdge}
use Rattle.overlay_plane.specs.BesideOrbits.{HasEachOnce}
use Rattle.overlay_plane.specs.Contours.{CanBeCut, by_one_hand, IsCutInto, all_steps}
use Rattle.overlay_plane.specs.Nodes.{IsBalancedArrangement}
use Rattle.overlay_plane.specs.Turn.{IsOrbit}
use Rattle.overlay_plane.specs.Turn.Hand.{left}
use Rattle.overlay_plane.proofs.CutByOneHand.{walks_from_starts}
use Rattle.overlay_plane.proofs.CutWalks.{cuts_take_each_once}
use Rattle.overlay_plane.proofs.Entries.{all_of_entries}
use Rattle.overlay_plane.proofs.ShuffledCuts.{HaveSame, same_shuffled, cut_alike}
use Rattle.overlay_plane.proofs.ShuffledPairs.{once_shuffled}
use Rattle.overlay_extract.specs.FilledSides.{filled_sides, AreFilledSides}
use Rattle.overlay_extract.specs.Tours.{AreOrbits}
use Rattle.overlay_extract.proofs.NextSides.{filled_sides_lead_on}
use Rattle.overlay_extract.proofs.SideLists.{sides_listed}
use Rattle.overlay_extract.proofs.SideOnce.{filled_sides_once}

module _ (fills : ℤ → Bool) (count : CountedEdge → ℤ) (es : List CountedEdge)
    (arranged : IsBalancedArrangement count es) (steps : List Step)
    (moved : IsPermutation (filled_sides fills count es) steps) where
  abbrev sides : List Step
  sides = filled_sides fills count es

  same : HaveSame sides steps
  same = same_shuffled sides steps moved

  -- the steps are the filled sides
  are_sides : AreFilledSides fills count es left steps
  are_sides = let listed = sides_listed fills count es arranged in record {
    sides = λ s c. listed.sides s (same.1 s c);
    all = λ s side. same.0 s (listed.all s side);
  }

  -- none of them stands twice
  pub steps_once : HasEachOnce steps
  steps_once = once_shuffled sides steps moved (filled_sides_once fills count es arranged)

  -- they lead on by the left hand, and so can be cut by it
  pub steps_cuttable : CanBeCut (λ s. left) steps
  steps_cuttable = by_one_hand left (λ s c. refl) (filled_sides_lead_on fills count es arranged left steps are_sides)

  -- what they are cut into are the orbits of the sides
  pub orbits_cut : (walks : List (List Step)) → IsCutInto (λ s. left) steps walks → AreOrbits sides walks
  orbits_cut walks cut = record {
    each_once = IsPermutation-trans sides steps (all_steps walks) moved
        (cuts_take_each_once (λ s. left) steps steps_cuttable steps_once walks cut);
    are = all_of_entries (IsOrbit sides left) walks (λ w c. (walks_from_starts left sides
        (filled_sides_lead_on fills count es arranged left sides (sides_listed fills count es arranged)) walks
        (cut_alike (λ s. left) steps sides (same.1, same.0) walks cut) w c).orbit);
  }
