-- The loops into which the filled sides are cut wind as the filled sides: what they leave out is passed there and back.
use Rattle.std.proofs.Common.{◌≡◌, ⊎_elim, Bool, false, not, ℤ, pos, negsuc, ◌+ℤ◌, ◌*ℤ◌, List, map}
use Rattle.std.proofs.Common.{Contains, sym, ap, ◌∙◌, subst}
use Rattle.std.specs.List.{filter}
use Rattle.std.specs.List.Sorted.{IsPermutation}
use Rattle.std.proofs.lemmas.Bool.{both_ways, false_from_ne_true}
use Rattle.std.proofs.lemmas.List.Elements.{All-contains}
use Rattle.overlay_geom.specs.Plane.{PlanePoint, Step, step_eq, reversed_step, total, winding}
use Rattle.overlay_geom.specs.Edges.{CountedEdge, winding_by}
use Rattle.overlay_geom.proofs.Identities.{solve, number, ◌⊕◌, ◌⊗◌, ◌≗◌}
use Rattle.overlay_geom.proofs.Signs.{linear}
use Rattle.overlay_geom.proofs.Totals.{total-parts, total-IsPermutation}
use Rattle.overlay_plane.specs.Contours.{all_steps}
use Rattle.overlay_plane.specs.Nodes.{IsBalancedArrangement}
use Rattle.overlay_plane.specs.Orbits.{is_step_of}
use Rattle.overlay_plane.specs.Regions.{one_if}
use Rattle.overlay_plane.specs.Turn.{no_step}
use Rattle.overlay_plane.specs.Turn.Hand.{left}
use Rattle.overlay_plane.proofs.AlongLines.{winding_part}
use Rattle.overlay_plane.proofs.AtNodes.{equal_steps, same_steps}
use Rattle.overlay_plane.proofs.Entries.{Contains-filter, Contains-from_filter, Contains-map, Contains-from_map}
use Rattle.overlay_plane.proofs.JoinedLists.{total-map, total-times}
use Rattle.overlay_plane.proofs.LaterEntries.{Each, Each-filter, Each-map, Each-from_all_pairs}
use Rattle.overlay_plane.proofs.OrbitsApart.{is_step_of_decides}
use Rattle.overlay_plane.proofs.ItemsRound.{place_of}
use Rattle.overlay_plane.proofs.OrbitSteps.{step_inside}
use Rattle.overlay_plane.proofs.ShuffledSteps.{Differ, shuffled_from_same}
use Rattle.overlay_plane.proofs.Totals.{total-same}
use Rattle.overlay_extract.specs.ClosedWalks.{HasLength}
use Rattle.overlay_extract.specs.FilledSides.{filled_sides, IsInOneOrbit}
use Rattle.overlay_extract.specs.Loops.{AreLoops}
use Rattle.overlay_extract.proofs.SideOnce.{filled_sides_once, filled_sides_long}
use Rattle.overlay_extract.proofs.SideWindings.{part_back, sides_wind}

-- what an orbit passes is a side
pub side_of_orbit : (sides : List Step) (s t : Step) → IsInOneOrbit sides s t → Contains sides s
side_of_orbit sides s t one =
    let place = place_of one.walk no_step s one.has_one in
    subst (Contains sides) place.2 (step_inside sides left one.walk one.orbit place.0)

-- one orbit passes both in either order
pub other_way : (sides : List Step) (s t : Step) → IsInOneOrbit sides s t → IsInOneOrbit sides t s
other_way sides s t one =
    record { walk = one.walk; orbit = one.orbit; has_one = one.has_other; has_other = one.has_one }

-- steps back are different where the steps are
back_apart : (s t : Step) → Differ s t → Differ (reversed_step s) (reversed_step t)
back_apart s t differ = false_from_ne_true (step_eq (reversed_step s) (reversed_step t))
    (λ same. both_ways (step_eq s t) differ
    (equal_steps s t (ap reversed_step (same_steps (reversed_step s) (reversed_step t) same))))

-- steps that are passed there and back, each once, count nothing
none_counts : (p : PlanePoint) (steps : List Step) → Each Differ steps →
    ((s : Step) → Contains steps s → HasLength s × Contains steps (reversed_step s)) →
    total (winding_part p) steps ≡ pos 0
none_counts p steps once back = zero (total (winding_part p) steps)
    (sym (total-IsPermutation (winding_part p) steps (map reversed_step steps)
    (shuffled_from_same steps (map reversed_step steps) once
    (Each-map Differ Differ reversed_step steps (λ s t c d. back_apart s t) once)
    (λ s c. Contains-map reversed_step steps (reversed_step s) (back s c).1)
    (λ s c. let found = Contains-from_map reversed_step steps s c in
    subst (Contains steps) found.2 (back found.0 found.1).1)))
    ∙ total-map (winding_part p) reversed_step steps
    ∙ total-same (λ s. winding_part p (reversed_step s)) (λ s. negsuc 0 *ℤ winding_part p s) steps
    (λ s c. part_back p s (back s c).0)
    ∙ total-times (negsuc 0) (winding_part p) steps)
  where
    half : (z : ℤ) → z +ℤ z ≡ pos 0 → z ≡ pos 0
    half z none = omega linear

    zero : (z : ℤ) → z ≡ negsuc 0 *ℤ z → z ≡ pos 0
    zero z same = half z (ap (λ w. z +ℤ w) same ∙ solve 1 (λ a. a ⊕ number (negsuc 0) ⊗ a ≗ number (pos 0)) tt z)

module _ (fills : ℤ → Bool) (count : CountedEdge → ℤ) (es : List CountedEdge)
    (arranged : IsBalancedArrangement count es) (loops : List (List Step))
    (are : AreLoops (filled_sides fills count es) loops) where
  abbrev sides : List Step
  sides = filled_sides fills count es

  abbrev taken : List Step
  taken = all_steps loops

  abbrev is_left : Step → Bool
  is_left s = not (is_step_of taken s)

  each_side_once : Each Differ sides
  each_side_once = Each-from_all_pairs Differ sides (filled_sides_once fills count es arranged)

  -- a side that is left is no step of a loop
  left_is_none : (s : Step) → Contains (filter is_left sides) s → Contains sides s × ¬ (Contains taken s)
  left_is_none s c =
      let found = Contains-from_filter is_left sides s c in
      (found.0, λ d. both_ways (is_left s) (ap not ((is_step_of_decides taken s).1 d)) found.1)

  none_is_left : (s : Step) → Contains sides s → ¬ (Contains taken s) → Contains (filter is_left sides) s
  none_is_left s c none = Contains-filter is_left sides s c
      (ap not (false_from_ne_true (is_step_of taken s) (λ t. none ((is_step_of_decides taken s).0 t))))

  -- it is left with the side back
  left_back : (s : Step) → Contains (filter is_left sides) s →
      HasLength s × Contains (filter is_left sides) (reversed_step s)
  left_back s c =
      let own = left_is_none s c in
      let one : IsInOneOrbit sides s (reversed_step s) =
      ⊎_elim (λ d. absurd (own.1 d)) (λ one. one) (are.taken s own.0) in
      let back = other_way sides s (reversed_step s) one in (
        All-contains HasLength sides s (filled_sides_long fills count es arranged) own.0,
        none_is_left (reversed_step s) (side_of_orbit sides (reversed_step s) s back)
            (are.left_out (reversed_step s) back),
      )

  -- the sides that are taken are the steps of the loops
  taken_sides : IsPermutation (filter (is_step_of taken) sides) taken
  taken_sides = shuffled_from_same (filter (is_step_of taken) sides) taken
      (Each-filter Differ (is_step_of taken) sides each_side_once)
      (Each-from_all_pairs Differ taken are.at_most_once)
      (λ s c. (is_step_of_decides taken s).0 (Contains-from_filter (is_step_of taken) sides s c).1)
      (λ s c. Contains-filter (is_step_of taken) sides s (All-contains (Contains sides) taken s are.are_sides c)
      ((is_step_of_decides taken s).1 c))

  module _ (empty : fills (pos 0) ≡ false) (p : PlanePoint) where
    pub loops_wind : winding taken p ≡ one_if (fills (winding_by count es p))
    loops_wind = total-IsPermutation (winding_part p) (filter (is_step_of taken) sides) taken taken_sides
        ∙ alone (total (winding_part p) sides) (total (winding_part p) (filter (is_step_of taken) sides))
        (total (winding_part p) (filter is_left sides)) (total-parts (winding_part p) (is_step_of taken) sides)
        (none_counts p (filter is_left sides) (Each-filter Differ is_left sides each_side_once) left_back)
        ∙ sides_wind fills count es arranged empty p
      where
        alone : (a b c : ℤ) → a ≡ b +ℤ c → c ≡ pos 0 → b ≡ a
        alone a b c sum none = omega linear
