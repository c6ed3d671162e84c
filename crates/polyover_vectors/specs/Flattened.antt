-- Shapes of edges in arrays, with the filled sides of each step.
use Rattle.std.specs.Prelude.{◌≡◌, ◌+◌, ℕ, ℤ, List, [], ◌∷◌, ◌++◌, length, map}
use Rattle.std.specs.List.{flat_map}
use Rattle.overlay_vector.specs.DataVectors.{DataVector}
use Rattle.polyover_calls.specs.Held.{HeldArrays}

-- arrays without links
abbrev pub vector_arrays : {I : Type 0} → List I → List ℕ → List ℕ → List ℕ → HeldArrays I
vector_arrays coordinates contour_ends shape_ends fills = record {
  coordinates = coordinates;
  contour_ends = contour_ends;
  shape_ends = shape_ends;
  links = [];
  fills = fills;
}

-- the items of all lists, one list behind another
abbrev pub all_of : {A : Type 0} → List (List A) → List A
all_of xss = flat_map (λ xs. xs) xss

-- how many items there are up to the end of each list, where there are n before them
abbrev pub ends_after : {A : Type 0} → ℕ → List (List A) → List ℕ
ends_after n [] = []
ends_after n (xs ∷ rest) = (n + length xs) ∷ ends_after (n + length xs) rest

-- x and y of where the step begins
abbrev pub start_of : DataVector Unit → List ℤ
start_of v = v.a.x ∷ v.a.y ∷ []

-- the steps stand behind what was there: where each begins, and its fill bits
pub record AreStepsAdded {I : Type 0} (whole : I → ℤ) (steps : List (DataVector Unit)) (coordinates : List I)
    (fills : List ℕ) (new_coordinates : List I) (new_fills : List ℕ) : Type 0 where
  pub coordinates_added : map whole new_coordinates ≡ map whole coordinates ++ flat_map start_of steps
  pub fills_added : new_fills ≡ fills ++ map (λ v. v.fill) steps

-- the contours stand in the arrays, one behind another
pub record AreContoursIn {I : Type 0} (whole : I → ℤ) (contours : List (List (DataVector Unit)))
    (arrays : HeldArrays I) : Type 0 where
  pub coordinates : map whole arrays.coordinates ≡ flat_map start_of (all_of contours)
  pub contour_ends : arrays.contour_ends ≡ ends_after 0 contours
  pub fills : arrays.fills ≡ map (λ v. v.fill) (all_of contours)

-- the shapes stand in the arrays, one behind another, and no links do
pub record AreVectorsIn {I : Type 0} (whole : I → ℤ) (shapes : List (List (List (DataVector Unit))))
    (arrays : HeldArrays I) : Type 0 where
  pub contours : AreContoursIn whole (all_of shapes) arrays
  pub shape_ends : arrays.shape_ends ≡ ends_after 0 shapes
  pub links : arrays.links ≡ []
