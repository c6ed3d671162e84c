-- One more step, contour or shape stands in the arrays.
use Rattle.std.proofs.Common.{◌≡◌, ℕ, suc, ◌+◌, ℤ, List, [], ◌∷◌, ◌++◌, length, map, refl, sym, ap, ap₂, ◌∙◌}
use Rattle.std.proofs.Common.{subst, arith, length-append, append-nil, append_assoc}
use Rattle.std.proofs.lemmas.List.{map-append, length-map}
use Rattle.std.proofs.lemmas.List.Concat.{flat_map-append}
use Rattle.std.specs.List.{flat_map}
use Rattle.overlay_vector.specs.DataVectors.{DataVector}
use Rattle.polyover_calls.specs.Held.{HeldArrays}
use Rattle.polyover_vectors.specs.Flattened.{AreContoursIn, AreStepsAdded, AreVectorsIn, all_of, ends_after}
use Rattle.polyover_vectors.specs.Flattened.{start_of, vector_arrays}

-- ---- lists, one behind another

all_joined : {A : Type 0} (xss : List (List A)) (xs : List A) → all_of (xss ++ xs ∷ []) ≡ all_of xss ++ xs
all_joined xss xs = flat_map-append (λ ys. ys) xss (xs ∷ []) ∙ ap (λ k. all_of xss ++ k) (append-nil xs)

ends_joined : {A : Type 0} (n : ℕ) (xss yss : List (List A)) →
    ends_after n (xss ++ yss) ≡ ends_after n xss ++ ends_after (n + length (all_of xss)) yss
ends_joined n [] yss = let same : n ≡ n + 0 = Prim.omega (arith) in ap (λ k. ends_after k yss) same
ends_joined n (xs ∷ xss) yss =
    let first = n + length xs in
    let same : first + length (all_of xss) ≡ n + length (xs ++ all_of xss) =
    Prim.omega (arith, length-append xs (all_of xss)) in
    ap (λ k. first ∷ k) (ends_joined first xss yss)
    ∙ ap (λ k. first ∷ ends_after first xss ++ ends_after k yss) same

ends_count : {A : Type 0} (n : ℕ) (xss : List (List A)) → length (ends_after n xss) ≡ length xss
ends_count n [] = refl
ends_count n (xs ∷ xss) = ap suc (ends_count (n + length xs) xss)

abbrev fills_of : List (DataVector Unit) → List ℕ
fills_of steps = map (λ v. v.fill) steps

module _ {I : Type 0} (whole : I → ℤ) where
  -- ---- steps

  pub no_steps : (coordinates : List I) (fills : List ℕ) →
      AreStepsAdded whole [] coordinates fills coordinates fills
  no_steps coordinates fills = record {
    coordinates_added = sym (append-nil (map whole coordinates));
    fills_added = sym (append-nil fills);
  }

  pub more_steps : (xs ys : List (DataVector Unit)) (c0 c1 c2 : List I) (f0 f1 f2 : List ℕ) →
      AreStepsAdded whole xs c0 f0 c1 f1 → AreStepsAdded whole ys c1 f1 c2 f2 →
      AreStepsAdded whole (xs ++ ys) c0 f0 c2 f2
  more_steps xs ys c0 c1 c2 f0 f1 f2 p q = record {
    coordinates_added = q.coordinates_added ∙ ap (λ k. k ++ flat_map start_of ys) p.coordinates_added
        ∙ append_assoc (map whole c0) (flat_map start_of xs) (flat_map start_of ys)
        ∙ ap (λ k. map whole c0 ++ k) (sym (flat_map-append start_of xs ys));
    fills_added = q.fills_added ∙ ap (λ k. k ++ fills_of ys) p.fills_added
        ∙ append_assoc f0 (fills_of xs) (fills_of ys)
        ∙ ap (λ k. f0 ++ k) (sym (map-append (λ v. v.fill) xs ys));
  }

  -- ---- contours

  pub one_more_contour : (contours : List (List (DataVector Unit))) (steps : List (DataVector Unit))
      (old new : HeldArrays I) → AreContoursIn whole contours old →
      AreStepsAdded whole steps old.coordinates old.fills new.coordinates new.fills →
      new.contour_ends ≡ old.contour_ends ++ length new.fills ∷ [] →
      AreContoursIn whole (contours ++ steps ∷ []) new
  one_more_contour contours steps old new told added ends =
      let before = all_of contours in
      let fills : new.fills ≡ fills_of before ++ fills_of steps =
      added.fills_added ∙ ap (λ k. k ++ fills_of steps) told.fills in
      let count : length new.fills ≡ (0 + length before) + length steps =
      Prim.omega (
        arith,
        ap length fills,
        length-append (fills_of before) (fills_of steps),
        length-map before (λ v. v.fill),
        length-map steps (λ v. v.fill),
      ) in
      record {
        coordinates = added.coordinates_added ∙ ap (λ k. k ++ flat_map start_of steps) told.coordinates
            ∙ sym (ap (flat_map start_of) (all_joined contours steps) ∙ flat_map-append start_of before steps);
        contour_ends = ends ∙ ap₂ (λ es n. es ++ n ∷ []) told.contour_ends count
            ∙ sym (ends_joined 0 contours (steps ∷ []));
        fills = fills ∙ sym (ap fills_of (all_joined contours steps) ∙ map-append (λ v. v.fill) before steps);
      }

  -- ---- shapes

  -- empty arrays have no shape
  pub none_in : (coordinates : List I) (contour_ends shape_ends fills : List ℕ) → coordinates ≡ [] →
      contour_ends ≡ [] → shape_ends ≡ [] → fills ≡ [] →
      AreVectorsIn whole [] (vector_arrays coordinates contour_ends shape_ends fills)
  none_in coordinates contour_ends shape_ends fills no_point no_contour no_shape no_fill = record {
    contours = record { coordinates = ap (map whole) no_point; contour_ends = no_contour; fills = no_fill };
    shape_ends = no_shape;
    links = refl;
  }

  pub one_more_shape : (shapes : List (List (List (DataVector Unit)))) (shape : List (List (DataVector Unit)))
      (old new : HeldArrays I) → AreVectorsIn whole shapes old →
      AreContoursIn whole (all_of shapes ++ shape) new →
      new.shape_ends ≡ old.shape_ends ++ length new.contour_ends ∷ [] → new.links ≡ [] →
      AreVectorsIn whole (shapes ++ shape ∷ []) new
  one_more_shape shapes shape old new told contours ends none =
      let before = all_of shapes in
      let count : length new.contour_ends ≡ (0 + length before) + length shape =
      Prim.omega (
        arith,
        ap length contours.contour_ends,
        ends_count 0 (before ++ shape),
        length-append before shape,
      ) in
      record {
        contours = subst (λ cs. AreContoursIn whole cs new) (sym (all_joined shapes shape)) contours;
        shape_ends = ends ∙ ap₂ (λ es n. es ++ n ∷ []) told.shape_ends count
            ∙ sym (ends_joined 0 shapes (shape ∷ []));
        links = none;
      }
