-- Contours have the windings of the steps that they are cut from, and of their thinned points.
use Rattle.std.proofs.Common.{Bool, ℤ, List, [], ◌∷◌, refl, ap₂, ◌+ℤ◌, ◌∙◌, sym}
use Rattle.std.specs.List.{flat_map}
use Rattle.overlay_geom.specs.Plane.{steps_of}
use Rattle.overlay_geom.proofs.Totals.{total-IsPermutation}
use Rattle.overlay_geom.specs.Edges.{CountedEdge}
use Rattle.overlay_plane.specs.Alternates.{Alternates}
use Rattle.overlay_plane.specs.Regions.{IsRuled}
use Rattle.overlay_plane.specs.SelectedSteps.{selected_steps}
use Rattle.overlay_plane.specs.Contours.{alternating, all_steps}
use Rattle.overlay_plane.specs.ContourWindings.{CutsKeepWindings, ThinnedContoursWindAlike, ContoursWind}
use Rattle.overlay_plane.specs.Turn.{Hand}
use Rattle.overlay_plane.proofs.AddedWindings.{winding-taken}
use Rattle.overlay_plane.proofs.AlongLines.{winding_part}
use Rattle.overlay_plane.proofs.CutWalks.{cuts_take_each_once}
use Rattle.overlay_plane.proofs.JoinedLists.{total-append}
use Rattle.overlay_plane.proofs.SelectedAlternate.{selected_steps_alternate}
use Rattle.overlay_plane.proofs.SelectedLists.{selected_steps_of_edges, arranged_by_subject, arranged_by_clip}
use Rattle.overlay_plane.proofs.SelectedWindings.{selected_steps_wind, selected_steps_once}

-- a cut keeps the winding round each point
pub cuts_keep_windings : CutsKeepWindings
cuts_keep_windings hand_of steps alternates once walks cut p = total-IsPermutation (winding_part p) steps
    (all_steps walks)
    (cuts_take_each_once hand_of steps (alternating alternates) once walks cut)

-- lists of contours taken as given or thinned wind as those given
pub thinned_contours_wind_alike : ThinnedContoursWindAlike
thinned_contours_wind_alike keep [] [] each p = refl
thinned_contours_wind_alike keep [] (t ∷ ts) each p = absurd each
thinned_contours_wind_alike keep (g ∷ gs) [] each p = absurd each
thinned_contours_wind_alike keep (g ∷ gs) (t ∷ ts) each p =
    total-append (winding_part p) (steps_of t) (flat_map steps_of ts)
    ∙ ap₂ (λ a b. a +ℤ b) (winding-taken keep g t each.0 p) (thinned_contours_wind_alike keep gs ts each.1 p)
    ∙ sym (total-append (winding_part p) (steps_of g) (flat_map steps_of gs))

-- the selected steps of a ruled list alternate
pub selected_alternate : (holds : ℤ → ℤ → Bool) (subj clip : CountedEdge → ℤ) (es : List CountedEdge) →
    IsRuled holds subj clip es → (filled : Hand) →
    Alternates (selected_steps holds subj clip filled es)
selected_alternate holds subj clip es ruled filled =
    selected_steps_alternate holds subj clip es (arranged_by_subject holds subj clip es ruled)
    (arranged_by_clip holds subj clip es ruled) filled
    (selected_steps holds subj clip filled es) (selected_steps_of_edges holds subj clip filled es)

-- their contours wind once round each point where the rule holds
pub contours_wind : ContoursWind
contours_wind holds subj clip es ruled filled hand_of walks cut p =
    cuts_keep_windings hand_of (selected_steps holds subj clip filled es)
    (selected_alternate holds subj clip es ruled filled)
    (selected_steps_once holds subj clip es ruled filled) walks cut p
    ∙ selected_steps_wind holds subj clip es ruled filled p
