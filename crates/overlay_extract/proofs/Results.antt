-- The result of an overlay: kept contours of the selected steps, in their shapes and shown by their points; and walks
-- cut without groups, in a list.
use Rattle.std.proofs.Common.{◌≡◌, ℕ, true, List, [], ◌∷◌, map, All, Option, refl, sym, ap, ap₂, subst, ◌∙◌}
use Rattle.std.specs.List.{AllZip, each_same, filter, flat_map}
use Rattle.std.specs.List.Sorted.{IsPermutation}
use Rattle.std.proofs.lemmas.List.Elements.{All-map}
use Rattle.overlay_geom.specs.Plane.{Point, Step, steps_of, points_of}
use Rattle.overlay_geom.specs.Thinned.{IsKeptOrThinned}
use Rattle.overlay_geom.specs.Edges.{CountedEdge, subj_of, clip_of}
use Rattle.overlay_plane.specs.Binding.{AreCutFrom}
use Rattle.overlay_plane.specs.BoundContours.{AreShapesFound, walks_in}
use Rattle.overlay_plane.specs.Contours.{outline_or_hole_hand}
use Rattle.overlay_plane.specs.Groups.{HasEachPointOnce}
use Rattle.overlay_plane.specs.MinimumArea.{reaches}
use Rattle.overlay_plane.specs.PlacedContours.{ArePlaced, walks_at}
use Rattle.overlay_plane.specs.RoledContours.{Contour, contours_from, IsCut}
use Rattle.overlay_plane.specs.ShapeWindings.{points_of_shapes, steps_of_shapes, AreKeptOrThinned}
use Rattle.overlay_plane.proofs.ResultWindings.{steps_of_contours, results_wind}
use Rattle.overlay_plane.proofs.RoledShapes.{walks_from, all_kept}
use Rattle.overlay_plane.proofs.WalksApart.{walks_are_contours, walks_have_each_step}
use Rattle.overlay_walk.specs.KeptResults.{AreKeptResults}
use Rattle.overlay_extract.specs.Results.{Asked, region_asked, filled_asked, selected_of, is_kept, shapes_found}
use Rattle.overlay_extract.specs.Results.{AreKeptWalks, IsResult, IsContoursResult}
use Rattle.overlay_extract.proofs.PlacedShapes.{placed_have}
use Rattle.overlay_extract.proofs.PointsOnce.{shown_once}

-- contours taken as they are given are equal to these
pub same_contours : (given taken : List (List Point)) → AllZip (λ g t. t ≡ g) given taken → taken ≡ given
same_contours given taken each = each_same given taken each

pub same_shapes : (given taken : List (List (List Point))) → AreKeptOrThinned true given taken → taken ≡ given
same_shapes [] [] each = refl
same_shapes [] (t ∷ ts) each = absurd each
same_shapes (g ∷ gs) [] each = absurd each
same_shapes (g ∷ gs) (t ∷ ts) each = ap₂ (λ s ss. s ∷ ss) (same_contours g t each.0) (same_shapes gs ts each.1)

-- ---- in shapes

module _ (q : Asked) (es : List CountedEdge) (contours : List Contour) (kept : AreKeptResults q es contours)
    (shapes : List (Option ℕ)) (found : AreShapesFound (filled_asked q) contours shapes)
    (places : List (List ℕ)) (placed : ArePlaced contours shapes places) where
  -- the contours at the places are those of the shapes found
  pub same_found : points_of_shapes (walks_at contours places) ≡ shapes_found contours shapes
  same_found = ap points_of_shapes placed.are

  -- in groups none of their contours visits a point twice
  pub once : q.ogc ≡ true → All (All HasEachPointOnce) (shapes_found contours shapes)
  once grouped = subst (All (All HasEachPointOnce)) same_found
      (All-map (All HasEachPointOnce) (map points_of) (walks_at contours places)
      (λ k d lt. All-map HasEachPointOnce points_of _
      (placed_have (λ w. HasEachPointOnce (points_of w)) contours places
      (λ i e less. (kept.simple grouped i e less).points_once) placed.inside k d lt)))

  -- the contours that show the shapes are the result
  unfoldable pub result_shown : (result : List (List (List Point))) →
      AreKeptOrThinned q.preserve_output_collinear (points_of_shapes (walks_at contours places)) result →
      IsResult q es result
  result_shown result shown = record {
    winds = λ all p off. (kept.whole all shapes found).winds q.preserve_output_collinear result shown_found p;
    each_alone = λ all. (kept.whole all shapes found).each_alone q.preserve_output_collinear result shown_found;
    contours = contours;
    cut = kept.cut;
    shapes = shapes;
    found = found;
    shown = shown_found;
    none_lost = λ all. (kept.whole all shapes found).none_lost;
    each_once = λ all. (kept.whole all shapes found).each_once;
    kept_each_once = λ all keep. subst (λ ss. IsPermutation (selected_of q es) (steps_of_shapes ss))
        (sym (same_shapes (shapes_found contours shapes) result
        (subst (λ k. AreKeptOrThinned k (shapes_found contours shapes) result) keep shown_found)))
        (kept.whole all shapes found).each_once;
    points_once = once;
    shown_points_once = λ grouped. shown_once q.preserve_output_collinear (shapes_found contours shapes) result
        shown_found (once grouped);
  }
    where
      shown_found : AreKeptOrThinned q.preserve_output_collinear (shapes_found contours shapes) result
      shown_found = subst (λ ss. AreKeptOrThinned q.preserve_output_collinear ss result) same_found shown

-- ---- in one list

module _ (q : Asked) (es : List CountedEdge) (kept : List (List Step)) (are : AreKeptWalks q es kept) where
  -- with the minimum area zero all walks are kept
  all_walks : q.min_output_area ≡ 0 → kept ≡ are.walks
  all_walks all = are.are ∙ subst (λ n. filter (reaches q.area_width n) are.walks ≡ are.walks) (sym all)
      (all_kept q.area_width are.walks
      (walks_are_contours (region_asked q) subj_of clip_of es (filled_asked q) are.walks are.cut))

  -- the selected steps are cut into the walks that are kept
  cut_all : q.min_output_area ≡ 0 → AreCutFrom (region_asked q) subj_of clip_of es (filled_asked q) kept
  cut_all all = subst (AreCutFrom (region_asked q) subj_of clip_of es (filled_asked q)) (sym (all_walks all)) are.cut

  -- the walks as contours
  abbrev contours : List Contour
  contours = contours_from (filled_asked q) 0 kept

  contours_cut : IsCut (filled_asked q) (is_kept q) (selected_of q es) contours
  contours_cut = record { walks = are.walks; cut = are.cut.cut; are = ap (contours_from (filled_asked q) 0) are.are }

  -- the points of the contours are those of the walks
  same_points : map points_of (walks_in contours) ≡ map points_of kept
  same_points = ap (map points_of) (walks_from (filled_asked q) 0 kept)

  -- they have each selected step once
  each_in_list : q.min_output_area ≡ 0 → IsPermutation (selected_of q es) (flat_map steps_of (map points_of kept))
  each_in_list all =
      let cut = cut_all all in
      subst (IsPermutation (selected_of q es))
      (sym (steps_of_contours kept (walks_are_contours (region_asked q) subj_of clip_of es
      (filled_asked q) kept cut)))
      (walks_have_each_step (region_asked q) subj_of clip_of es (filled_asked q) kept cut)

  -- the contours that show them are the result
  pub contours_shown : (result : List (List Point)) → AllZip (IsKeptOrThinned q.preserve_output_collinear)
      (map points_of kept) result →
      IsContoursResult q es result
  contours_shown result shown = record {
    winds = λ all p off. results_wind (region_asked q) subj_of clip_of es are.cut.ruled (filled_asked q)
        (outline_or_hole_hand (filled_asked q)) kept (cut_all all).cut q.preserve_output_collinear result shown p;
    contours = contours;
    cut = contours_cut;
    shown = subst (λ ps. AllZip (IsKeptOrThinned q.preserve_output_collinear) ps result) (sym same_points) shown;
    each_once = λ all. subst (λ ps. IsPermutation (selected_of q es) (flat_map steps_of ps)) (sym same_points)
        (each_in_list all);
    kept_each_once = λ all keep. subst (λ ps. IsPermutation (selected_of q es) (flat_map steps_of ps))
        (sym (same_contours (map points_of kept) result
        (subst (λ k. AllZip (IsKeptOrThinned k) (map points_of kept) result) keep shown))) (each_in_list all);
  }
