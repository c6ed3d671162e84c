-- The vector shapes of an overlay: what contours that are kept and placed in shapes, each step with what its edge has,
-- are.
use Rattle.std.proofs.Common.{◌≡◌, ⊎_elim, inl, inr, ℕ, Bool, true, false, ℤ, ◌+ℤ◌, List, [], ◌∷◌, ◌++◌, map, All}
use Rattle.std.proofs.Common.{Option, refl}
use Rattle.std.proofs.Common.{sym, ap, ap₂}
use Rattle.std.proofs.Common.{subst, ◌∙◌}
use Rattle.std.specs.List.{AllZip, flat_map}
use Rattle.std.specs.List.Sorted.{IsPermutation}
use Rattle.std.proofs.lemmas.List.Elements.{All-nil, All-cons, All-head, All-tail}
use Rattle.overlay_geom.specs.Plane.{Point, PlanePoint, Step, steps_of, points_of, total}
use Rattle.overlay_geom.specs.declared.fill_rule.FillRule.{FillRule}
use Rattle.overlay_plane.specs.BoundContours.{AreShapesFound, contours_bound, shapes_bound}
use Rattle.overlay_plane.specs.Carried.{Carried, edges_in}
use Rattle.overlay_plane.specs.Contours.{IsContour}
use Rattle.overlay_plane.specs.PlacedContours.{ArePlaced, walks_at}
use Rattle.overlay_plane.specs.RoledContours.{Contour}
use Rattle.overlay_plane.specs.ShapesAlone.{WindsOnceOrNot, EachWindsOnceOrNot}
use Rattle.overlay_plane.specs.ShapeWindings.{points_of_shapes, steps_of_shapes, AreKeptOrThinned}
use Rattle.overlay_plane.specs.Turn.{Hand}
use Rattle.overlay_plane.proofs.AlongLines.{winding_part}
use Rattle.overlay_plane.proofs.JoinedLists.{total-append}
use Rattle.overlay_order.specs.declared.data.CountWithData.{CountWithData}
use Rattle.overlay_walk.specs.KeptResults.{AreKeptResults}
use Rattle.overlay_extract.specs.Results.{Asked, filled_asked, selected_of, shapes_found}
use Rattle.overlay_extract.proofs.PlacedShapes.{placed_have}
use Rattle.overlay_vector.specs.DataVectors.{DataVector}
use Rattle.overlay_vector.specs.Joining.{IsKeptOrJoined}
use Rattle.overlay_vector.specs.VectorShapes.{step_along, steps_along, IsVectorAlong, IsVectorContour}
use Rattle.overlay_vector.specs.VectorShapes.{AreVectorContours}
use Rattle.overlay_vector.specs.VectorShapes.{EachWindsOnceOrNotAlong, AreVectorShapes}
use Rattle.overlay_vector.proofs.JoinedWindings.{becomes_winds}

-- shapes are kept as they are
kept_contours : (given : List (List Point)) → AllZip (λ g t. t ≡ g) given given
kept_contours [] = tt
kept_contours (c ∷ cs) = (refl, kept_contours cs)

kept_shapes : (given : List (List (List Point))) → AreKeptOrThinned true given given
kept_shapes [] = tt
kept_shapes (s ∷ ss) = (kept_contours s, kept_shapes ss)

module _ {D : Type 0} (reverses : D → D → Type 0) (eq : D → D → Bool) (rule : FillRule)
    (xs : List (Carried (CountWithData D))) where
  -- the edges along a walk are its steps
  walk_of_vectors : (walk : List Step) (vs : List (DataVector D)) → AllZip (IsVectorAlong reverses rule xs) walk vs →
      map step_along vs ≡ walk
  walk_of_vectors [] [] along = refl
  walk_of_vectors [] (v ∷ vs) along = absurd along
  walk_of_vectors (s ∷ ss) [] along = absurd along
  walk_of_vectors (s ∷ ss) (v ∷ vs) along = ap₂ (λ t ts. t ∷ ts) along.0.walks (walk_of_vectors ss vs along.1)

  -- ---- contours that are kept

  contour_kept : (walk : List Step) (r : List (DataVector D)) → IsVectorContour reverses eq rule true xs walk r →
      IsContour walk → map step_along r ≡ steps_of (points_of walk)
  contour_kept walk r is of = ap (map step_along) is.shown ∙ walk_of_vectors walk is.vectors is.along ∙ sym of.whole

  shape_kept : (walks : List (List Step)) (rs : List (List (DataVector D))) →
      AllZip (IsVectorContour reverses eq rule true xs) walks rs → All IsContour walks →
      flat_map (map step_along) rs ≡ flat_map steps_of (map points_of walks)
  shape_kept [] [] is of = refl
  shape_kept [] (r ∷ rs) is of = absurd is
  shape_kept (w ∷ ws) [] is of = absurd is
  shape_kept (w ∷ ws) (r ∷ rs) is of = ap₂ (λ t ts. t ++ ts)
      (contour_kept w r is.0 (All-head IsContour w ws of)) (shape_kept ws rs is.1 (All-tail IsContour w ws of))

  pub shapes_kept : (shapes : List (List (List Step))) (result : List (List (List (DataVector D)))) →
      AreVectorContours reverses eq rule true xs shapes result → All (All IsContour) shapes →
      steps_along result ≡ steps_of_shapes (points_of_shapes shapes)
  shapes_kept [] [] is of = refl
  shapes_kept [] (r ∷ rs) is of = absurd is
  shapes_kept (w ∷ ws) [] is of = absurd is
  shapes_kept (w ∷ ws) (r ∷ rs) is of = ap₂ (λ t ts. t ++ ts)
      (shape_kept w r is.0 (All-head (All IsContour) w ws of))
      (shapes_kept ws rs is.1 (All-tail (All IsContour) w ws of))

  -- ---- and contours that are joined

  module _ (keep : Bool) (p : PlanePoint) where
    abbrev wind : List Step → ℤ
    wind ss = total (winding_part p) ss

    contour_winds : (walk : List Step) (r : List (DataVector D)) → IsVectorContour reverses eq rule keep xs walk r →
        IsContour walk → wind (map step_along r) ≡ wind (steps_of (points_of walk))
    contour_winds walk r is of = by keep is.shown ∙ ap wind (walk_of_vectors walk is.vectors is.along ∙ sym of.whole)
      where
        by : (k : Bool) → IsKeptOrJoined eq k is.vectors r → wind (map step_along r) ≡ wind (map step_along is.vectors)
        by true same = ap (λ vs. wind (map step_along vs)) same
        by false are = becomes_winds p eq is.vectors r are.becomes

    shape_winds : (walks : List (List Step)) (rs : List (List (DataVector D))) →
        AllZip (IsVectorContour reverses eq rule keep xs) walks rs → All IsContour walks →
        wind (flat_map (map step_along) rs) ≡ wind (flat_map steps_of (map points_of walks))
    shape_winds [] [] is of = refl
    shape_winds [] (r ∷ rs) is of = absurd is
    shape_winds (w ∷ ws) [] is of = absurd is
    shape_winds (w ∷ ws) (r ∷ rs) is of =
        total-append (winding_part p) (map step_along r) (flat_map (map step_along) rs)
        ∙ ap₂ (λ a b. a +ℤ b) (contour_winds w r is.0 (All-head IsContour w ws of))
        (shape_winds ws rs is.1 (All-tail IsContour w ws of))
        ∙ sym (total-append (winding_part p) (steps_of (points_of w)) (flat_map steps_of (map points_of ws)))

    pub shapes_wind : (shapes : List (List (List Step))) (result : List (List (List (DataVector D)))) →
        AreVectorContours reverses eq rule keep xs shapes result → All (All IsContour) shapes →
        wind (steps_along result) ≡ wind (steps_of_shapes (points_of_shapes shapes))
    shapes_wind [] [] is of = refl
    shapes_wind [] (r ∷ rs) is of = absurd is
    shapes_wind (w ∷ ws) [] is of = absurd is
    shapes_wind (w ∷ ws) (r ∷ rs) is of =
        total-append (winding_part p) (flat_map (map step_along) r) (steps_along rs)
        ∙ ap₂ (λ a b. a +ℤ b) (shape_winds w r is.0 (All-head (All IsContour) w ws of))
        (shapes_wind ws rs is.1 (All-tail (All IsContour) w ws of))
        ∙ sym (total-append (winding_part p) (flat_map steps_of (map points_of w))
        (steps_of_shapes (points_of_shapes ws)))

  -- so each shape by itself winds as the one that it shows
  pub each_winds : (keep : Bool) (filled : Hand) (shapes : List (List (List Step)))
      (result : List (List (List (DataVector D)))) → AreVectorContours reverses eq rule keep xs shapes result →
      All (All IsContour) shapes → EachWindsOnceOrNot filled (points_of_shapes shapes) →
      EachWindsOnceOrNotAlong filled result
  each_winds keep filled [] [] is of alone =
      All-nil (λ (shape : List (List (DataVector D))). WindsOnceOrNot filled (flat_map (map step_along) shape))
  each_winds keep filled [] (r ∷ rs) is of alone = absurd is
  each_winds keep filled (w ∷ ws) [] is of alone = absurd is
  each_winds keep filled (w ∷ ws) (r ∷ rs) is of alone =
      All-cons (λ shape. WindsOnceOrNot filled (flat_map (map step_along) shape)) r rs
      (λ p. let same = shape_winds keep p w r is.0 (All-head (All IsContour) w ws of) in
      ⊎_elim (λ once. inl (same ∙ once)) (λ none. inr (same ∙ none))
      (All-head (λ shape. WindsOnceOrNot filled (flat_map steps_of shape)) (map points_of w) (points_of_shapes ws)
      alone p))
      (each_winds keep filled ws rs is.1 (All-tail (All IsContour) w ws of)
      (All-tail (λ shape. WindsOnceOrNot filled (flat_map steps_of shape)) (map points_of w) (points_of_shapes ws)
      alone))

-- what is asked for, without groups
abbrev pub without_groups : Asked → Asked
without_groups q = record q { ogc = false }

-- what shows the contours at their places is the answer
pub vector_shapes_shown : {D : Type 0} (reverses : D → D → Type 0) (eq : D → D → Bool) (q : Asked)
    (xs : List (Carried (CountWithData D))) (contours : List Contour) →
    AreKeptResults (without_groups q) (edges_in xs) contours → (shapes : List (Option ℕ)) →
    AreShapesFound (filled_asked q) contours shapes → (places : List (List ℕ)) →
    ArePlaced contours shapes places → (result : List (List (List (DataVector D)))) →
    AreVectorContours reverses eq q.fill q.preserve_output_collinear xs (walks_at contours places) result →
    AreVectorShapes reverses eq q xs result
vector_shapes_shown {D} reverses eq q xs contours kept shapes found places placed result shown = record {
  contours = contours;
  cut = kept.cut;
  shapes = shapes;
  found = found;
  shown = in_shapes;
  none_lost = λ all. (kept.whole all shapes found).none_lost;
  each_once = λ all. (kept.whole all shapes found).each_once;
  kept_each_once = λ all keep. subst (IsPermutation (selected_of q (edges_in xs)))
      (sym (shapes_kept reverses eq q.fill xs bound result
      (subst (λ k. AreVectorContours reverses eq q.fill k xs bound result) keep in_shapes) are_contours))
      (kept.whole all shapes found).each_once;
  winds = λ all p off. shapes_wind reverses eq q.fill xs q.preserve_output_collinear p bound result in_shapes
      are_contours
      ∙ (kept.whole all shapes found).winds true (shapes_found contours shapes)
      (kept_shapes (shapes_found contours shapes)) p;
  each_alone = λ all. each_winds reverses eq q.fill xs q.preserve_output_collinear (filled_asked q) bound result
      in_shapes are_contours ((kept.whole all shapes found).each_alone true (shapes_found contours shapes)
      (kept_shapes (shapes_found contours shapes)));
}
  where
    bound : List (List (List Step))
    bound = shapes_bound (contours_bound contours shapes)

    in_shapes : AreVectorContours reverses eq q.fill q.preserve_output_collinear xs bound result
    in_shapes = subst (λ ss. AreVectorContours reverses eq q.fill q.preserve_output_collinear xs ss result) placed.are
        shown

    are_contours : All (All IsContour) bound
    are_contours = subst (All (All IsContour)) placed.are
        (placed_have IsContour contours places kept.bindable.contours placed.inside)
