-- Facts of the kept contours of an overlay; their steps are long.
use Rattle.std.proofs.Common.{◌≡◌, ℕ, Bool, true, false, ℤ, List, All, Vec, map, filter, sym, ap, ◌∙◌, subst}
use Rattle.std.proofs.lemmas.Bool.{false≢true}
use Rattle.std.proofs.lemmas.List.Elements.{All-contains}
use Rattle.overlay_geom.specs.Plane.{Step}
use Rattle.overlay_geom.specs.Edges.{CountedEdge, subj_of, clip_of}
use Rattle.overlay_geom.proofs.Mapped.{map-filter}
use Rattle.overlay_plane.specs.Binding.{AreCutFrom}
use Rattle.overlay_plane.specs.BoundContours.{walks_in}
use Rattle.overlay_plane.specs.Groups.{IsSimpleContour}
use Rattle.overlay_plane.specs.KeptContours.{AreKeptContours, KeepsAll}
use Rattle.overlay_plane.specs.MinimumArea.{reaches}
use Rattle.overlay_plane.specs.RoledContours.{Contour, contours_from, IsCutInGroups, IsCutBy}
use Rattle.overlay_plane.specs.Regions.{IsRuled}
use Rattle.overlay_plane.proofs.BoundSteps.{all_shapes_have_each_step, all_shapes_wind}
use Rattle.overlay_plane.proofs.ShapesAlone.{each_shape_winds_once_or_not}
use Rattle.overlay_plane.proofs.Entries.{all_of_entries, Contains-map, Contains-flat_map}
use Rattle.overlay_plane.proofs.FreeHoles.{all_holes_have_shapes}
use Rattle.overlay_plane.proofs.KeptContours.{can_be_bound, kept_contours_are_simple, kept_selected}
use Rattle.overlay_plane.proofs.RoledShapes.{reaches_zero}
use Rattle.overlay_plane.proofs.ShapesApart.{kept_shapes_can_be_bound}
use Rattle.overlay_order.specs.Content.{IsContent}
use Rattle.overlay_walk.specs.Asked.{Asked, region_asked, filled_asked, selected_of, is_kept}
use Rattle.overlay_walk.specs.KeptResults.{AreKeptResults}
use Rattle.overlay_walk.specs.Steps.{plain_steps, IsLong}
use Rattle.overlay_walk.specs.Walks.{plain_walks}
use Rattle.overlay_walk.specs.declared.contour.Contour.{Contour as ContourTaken}
use Rattle.overlay_walk.specs.declared.step.Step.{Step as StepTaken}
use Rattle.overlay_walk.proofs.SelectedLong.{selected_are_long}

module _ (q : Asked) (es : List CountedEdge) where
  -- contours that are kept of a cut as it is asked for
  abbrev pub AreKept : List Contour → Type 0
  AreKept contours = AreKeptContours (region_asked q) subj_of clip_of es (filled_asked q) q.ogc (is_kept q) contours

  -- with groups
  pub kept_with_groups : (contours : List Contour) → q.ogc ≡ true → IsRuled (region_asked q) subj_of clip_of es →
      IsCutInGroups (filled_asked q) (is_kept q) (selected_of q es) contours → AreKept contours
  kept_with_groups contours is ruled cut = record {
    ruled = ruled;
    cut = subst (λ t. IsCutBy t (filled_asked q) (is_kept q) (selected_of q es) contours) (sym is) cut;
  }

  -- the kept contours without groups
  pub kept_without : (walks : List (List Step)) (contours : List Contour) → q.ogc ≡ false →
      AreCutFrom (region_asked q) subj_of clip_of es (filled_asked q) walks →
      contours ≡ contours_from (filled_asked q) 0 (filter (is_kept q) walks) → AreKept contours
  kept_without walks contours is cut are = record {
    ruled = cut.ruled;
    cut = subst (λ t. IsCutBy t (filled_asked q) (is_kept q) (selected_of q es) contours) (sym is)
        (record { walks = walks; cut = cut.cut; are = are });
  }

-- a fact of each walk holds of the contours that they become
pub of_each_walk : {I A : Type 0} (P : Vec (StepTaken I) A → Type 0) (contours : List (ContourTaken I A))
    (walks : List (Vec (StepTaken I) A)) → map (λ (c : ContourTaken I A). c.steps) contours ≡ walks → All P walks →
    All (λ c. P c.steps) contours
of_each_walk {I} {A} P contours walks are all = all_of_entries (λ c. P c.steps) contours (λ c at.
    All-contains P (map (λ (d : ContourTaken I A). d.steps) contours) c.steps (subst (All P) (sym are) all)
    (Contains-map (λ (d : ContourTaken I A). d.steps) contours c at))

-- the large ones of some walks as contours
pub large_alike : {I A : Type 0} (whole : I → ℤ) (q : Asked) (walks large : List (Vec (StepTaken I) A))
    (contours : List Contour) → large ≡ filter (λ w. is_kept q (plain_steps whole w.items)) walks →
    contours ≡ contours_from (filled_asked q) 0 (plain_walks whole large) →
    contours ≡ contours_from (filled_asked q) 0 (filter (is_kept q) (plain_walks whole walks))
large_alike {I} {A} whole q walks large contours is are = are ∙ ap (contours_from (filled_asked q) 0)
    (ap (plain_walks whole) is ∙ map-filter (λ (w : Vec (StepTaken I) A). plain_steps whole w.items) (is_kept q) walks)

module _ (q : Asked) (es : List CountedEdge) (contours : List Contour)
    (kept : AreKeptContours (region_asked q) subj_of clip_of es (filled_asked q) q.ogc (is_kept q) contours) where
  -- with the minimum area zero each contour is kept
  all_kept : q.min_output_area ≡ 0 → KeepsAll (is_kept q)
  all_kept none walk contour = ap (λ n. reaches q.area_width n walk) none ∙ reaches_zero q.area_width walk contour

  simple_by : (t : Bool) → t ≡ true → AreKeptContours (region_asked q) subj_of clip_of es (filled_asked q) t (is_kept q)
      contours → All IsSimpleContour (walks_in contours)
  simple_by true is own = kept_contours_are_simple (region_asked q) subj_of clip_of es (filled_asked q) (is_kept q)
      contours own
  simple_by false is own = absurd (false≢true is)

  pub kept_results : AreKeptResults q es contours
  kept_results = record {
    cut = kept.cut;
    bindable = can_be_bound (region_asked q) subj_of clip_of es (filled_asked q) q.ogc (is_kept q) contours kept;
    bindable_again = kept_shapes_can_be_bound (region_asked q) subj_of clip_of es (filled_asked q) q.ogc (is_kept q)
        contours kept;
    simple = λ is. simple_by q.ogc is kept;
    whole = λ none shapes found. record {
      none_lost = all_holes_have_shapes (region_asked q) subj_of clip_of es (filled_asked q) q.ogc (is_kept q) contours
          kept (all_kept none) shapes found;
      each_once = all_shapes_have_each_step (region_asked q) subj_of clip_of es (filled_asked q) q.ogc (is_kept q)
          contours kept (all_kept none) shapes found;
      winds = all_shapes_wind (region_asked q) subj_of clip_of es (filled_asked q) q.ogc (is_kept q) contours kept
          (all_kept none) shapes found;
      each_alone = each_shape_winds_once_or_not (region_asked q) subj_of clip_of es (filled_asked q) q.ogc (is_kept q)
          contours kept (all_kept none) shapes found;
    };
  }

  -- their steps are selected ones, so they are long
  pub kept_are_long : (limit : ℕ) → IsContent limit es → All (All (IsLong limit)) (walks_in contours)
  kept_are_long limit content = all_of_entries (All (IsLong limit)) (walks_in contours) (λ w c.
      all_of_entries (IsLong limit) w (λ s d. All-contains (IsLong limit) (selected_of q es) s
      (selected_are_long limit es content (region_asked q) subj_of clip_of (filled_asked q))
      (kept_selected (region_asked q) subj_of clip_of es (filled_asked q) q.ogc (is_kept q) contours kept s
      (Contains-flat_map (λ (v : List Step). v) (walks_in contours) w s c d))))
