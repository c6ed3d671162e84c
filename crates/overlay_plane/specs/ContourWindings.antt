-- The contours of a cut of selected steps wind once round each point where the rule holds, and zero times round each
-- other point. Thinned contours do so too.
use Rattle.std.specs.Prelude.{◌≡◌, Bool, cond, ℤ, pos, negsuc, List, map}
use Rattle.std.specs.List.{AllZip, flat_map}
use Rattle.overlay_geom.specs.Plane.{Point, PlanePoint, Step, steps_of, points_of, winding}
use Rattle.overlay_geom.specs.Thinned.{IsKeptOrThinned}
use Rattle.overlay_geom.specs.Edges.{CountedEdge, winding_by}
use Rattle.overlay_plane.specs.Turn.{Hand, is_left_hand}
use Rattle.overlay_plane.specs.Alternates.{Alternates}
use Rattle.overlay_plane.specs.Regions.{IsRuled}
use Rattle.overlay_plane.specs.SelectedSteps.{selected_steps}
use Rattle.overlay_plane.specs.BesideOrbits.{HasEachOnce}
use Rattle.overlay_plane.specs.Contours.{IsCutInto, all_steps}

-- the winding, round filled points, of steps that have their filled side by the hand
abbrev pub once_round : Hand → ℤ
once_round filled = cond (is_left_hand filled) (pos 1) (negsuc 0)

-- once where the rule holds of the windings at the point, and zero times elsewhere
abbrev pub wanted_winding : (ℤ → ℤ → Bool) → (subj clip : CountedEdge → ℤ) → Hand → List CountedEdge → PlanePoint → ℤ
wanted_winding holds subj clip filled es p = cond (holds (winding_by subj es p) (winding_by clip es p))
    (once_round filled) (pos 0)

-- ---- selected steps

-- the selected steps have these windings
abbrev pub SelectedStepsWind : Type 0
SelectedStepsWind = (holds : ℤ → ℤ → Bool) (subj clip : CountedEdge → ℤ) (es : List CountedEdge) →
    IsRuled holds subj clip es →
    (filled : Hand) (p : PlanePoint) → winding (selected_steps holds subj clip filled es) p ≡
    wanted_winding holds subj clip filled es p

-- no step is selected twice
abbrev pub SelectedStepsOnce : Type 0
SelectedStepsOnce = (holds : ℤ → ℤ → Bool) (subj clip : CountedEdge → ℤ) (es : List CountedEdge) →
    IsRuled holds subj clip es → (filled : Hand) → HasEachOnce (selected_steps holds subj clip filled es)

-- ---- their contours

-- a cut keeps the winding round each point
abbrev pub CutsKeepWindings : Type 0
CutsKeepWindings = (hand_of : Step → Hand) (steps : List Step) → Alternates steps → HasEachOnce steps →
    (walks : List (List Step)) →
    IsCutInto hand_of steps walks → (p : PlanePoint) → winding (all_steps walks) p ≡ winding steps p

-- closed lists of points, each taken as given or thinned, have the windings of the given lists
abbrev pub ThinnedContoursWindAlike : Type 0
ThinnedContoursWindAlike = (keep : Bool) (given taken : List (List Point)) → AllZip (IsKeptOrThinned keep) given taken →
    (p : PlanePoint) → winding (flat_map steps_of taken) p ≡ winding (flat_map steps_of given) p

-- the steps of the contours of a cut of the selected steps have these windings
abbrev pub ContoursWind : Type 0
ContoursWind = (holds : ℤ → ℤ → Bool) (subj clip : CountedEdge → ℤ) (es : List CountedEdge) →
    IsRuled holds subj clip es → (filled : Hand) →
    (hand_of : Step → Hand) (walks : List (List Step)) →
    IsCutInto hand_of (selected_steps holds subj clip filled es) walks →
    (p : PlanePoint) → winding (all_steps walks) p ≡ wanted_winding holds subj clip filled es p

-- the contours' points, as given or thinned, have these windings
abbrev pub ResultsWind : Type 0
ResultsWind = (holds : ℤ → ℤ → Bool) (subj clip : CountedEdge → ℤ) (es : List CountedEdge) →
    IsRuled holds subj clip es → (filled : Hand) →
    (hand_of : Step → Hand) (walks : List (List Step)) →
    IsCutInto hand_of (selected_steps holds subj clip filled es) walks →
    (keep : Bool) (result : List (List Point)) → AllZip (IsKeptOrThinned keep) (map points_of walks) result →
    (p : PlanePoint) → winding (flat_map steps_of result) p ≡ wanted_winding holds subj clip filled es p
