-- The contours of an overlay as edges with filled sides and data, bound to shapes.
use Rattle.std.specs.Prelude.{◌≡◌, ℕ, Bool, true, cond, ℤ, List, map, All, Contains, MatchBool, Option}
use Rattle.std.specs.Prelude.{Vec}
use Rattle.std.specs.List.{AllZip, flat_map}
use Rattle.std.specs.List.Sorted.{IsPermutation}
use Rattle.overlay_geom.specs.Edges.{ends_of}
use Rattle.overlay_geom.specs.Plane.{Step, edge_of, is_forward}
use Rattle.overlay_geom.specs.Rules.{fill_bits}
use Rattle.overlay_geom.specs.declared.fill_rule.FillRule.{FillRule}
use Rattle.overlay_plane.specs.BoundContours.{AreShapesFound, NoHoleIsLost, contours_bound, shapes_bound}
use Rattle.overlay_plane.specs.Carried.{Carried, edges_in}
use Rattle.overlay_plane.specs.RoledContours.{Contour, IsCut}
use Rattle.overlay_plane.specs.ShapesAlone.{WindsOnceOrNot}
use Rattle.overlay_plane.specs.ShapeWindings.{steps_of_shapes}
use Rattle.overlay_plane.specs.Turn.{Hand}
use Rattle.overlay_order.specs.declared.data.CountWithData.{CountWithData}
use Rattle.overlay_order.specs.declared.vector.DataVectorEdge.{DataVectorEdge}
use Rattle.overlay_extract.specs.Results.{Asked, filled_asked, selected_of, is_kept, shapes_found}
use Rattle.overlay_extract.specs.Results.{WindsRoundRegion}
use Rattle.overlay_vector.specs.DataVectors.{DataVector, plain_data_vectors}
use Rattle.overlay_vector.specs.Joining.{IsKeptOrJoined}
use Rattle.overlay_vector.specs.SideFills.{turned_fill}

-- the contours of a shape at their numbers, and the shapes
abbrev pub plain_vector_shape : {I D A : Type 0} → (I → ℤ) → List (Vec (DataVectorEdge I D) A) →
    List (List (DataVector D))
plain_vector_shape whole vs = map (λ v. plain_data_vectors whole v.items) vs

abbrev pub plain_vector_shapes : {I D A : Type 0} → (I → ℤ) → List (Vec (Vec (DataVectorEdge I D) A) A) →
    List (List (List (DataVector D)))
plain_vector_shapes whole vs = map (λ v. plain_vector_shape whole v.items) vs

-- the step from the edge's beginning to its end; and those of all contours of shapes
abbrev pub step_along : {D : Type 0} → DataVector D → Step
step_along v = record { from = v.a; to = v.b }

abbrev pub steps_along : {D : Type 0} → List (List (List (DataVector D))) → List Step
steps_along shapes = flat_map (flat_map (map step_along)) shapes

-- the edges of each shape wind once round each point of the plane, with their filled side by the hand, or zero times
abbrev pub EachWindsOnceOrNotAlong : {D : Type 0} → Hand → List (List (List (DataVector D))) → Type 0
EachWindsOnceOrNotAlong filled shapes = All (λ shape. WindsOnceOrNot filled (flat_map (map step_along) shape)) shapes

-- v is the step s with what the edge has on which it walks: the sides that are filled, and the data, both as they are
-- where s leads from the smaller end to the larger one, else turned round
pub record IsVectorAlong {D : Type 0} (reverses : D → D → Type 0) (rule : FillRule)
    (xs : List (Carried (CountWithData D))) (s : Step) (v : DataVector D) : Type 0 where
  pub entry : Carried (CountWithData D)
  pub among : Contains xs entry
  pub ends : ends_of entry.edge ≡ edge_of s
  pub walks : step_along v ≡ s
  pub fill : v.fill ≡ cond (is_forward s) (fill_bits rule (edges_in xs) entry.edge)
      (turned_fill (fill_bits rule (edges_in xs) entry.edge))
  pub carries : MatchBool (is_forward s) (v.data_of ≡ entry.carries.edge_data)
      (reverses entry.carries.edge_data v.data_of)

-- the result shows the walk: each step with what its edge has; each as it is, or neighbours joined
pub record IsVectorContour {D : Type 0} (reverses : D → D → Type 0) (eq : D → D → Bool) (rule : FillRule) (keep : Bool)
    (xs : List (Carried (CountWithData D))) (walk : List Step) (result : List (DataVector D)) : Type 0 where
  pub vectors : List (DataVector D)
  pub along : AllZip (IsVectorAlong reverses rule xs) walk vectors
  pub shown : IsKeptOrJoined eq keep vectors result

-- and so it is with each contour of shapes
abbrev pub AreVectorContours : {D : Type 0} → (D → D → Type 0) → (D → D → Bool) → FillRule → Bool →
    List (Carried (CountWithData D)) → List (List (List Step)) → List (List (List (DataVector D))) → Type 0
AreVectorContours reverses eq rule keep xs shapes result =
    AllZip (AllZip (IsVectorContour reverses eq rule keep xs)) shapes result

-- the answer of an overlay over the edges of an arrangement as shapes of edges with data; `reverses` tells what the
-- data of an edge may be on the way back, and `eq` which data is equal
pub record AreVectorShapes {D : Type 0} (reverses : D → D → Type 0) (eq : D → D → Bool) (q : Asked)
    (xs : List (Carried (CountWithData D))) (result : List (List (List (DataVector D)))) : Type 0 where
  -- the contours that the selected steps are cut into, as far as they reach the minimum area: without groups, whatever
  -- is asked for
  pub contours : List Contour
  pub cut : IsCut (filled_asked q) (is_kept q) (selected_of q (edges_in xs)) contours
  -- the shape of each hole: its parent, or the one shape that there is
  pub shapes : List (Option ℕ)
  pub found : AreShapesFound (filled_asked q) contours shapes
  -- the result shows the contours, in their shapes and their order
  pub shown : AreVectorContours reverses eq q.fill q.preserve_output_collinear xs
      (shapes_bound (contours_bound contours shapes)) result
  -- with the minimum area zero no hole is lost
  pub none_lost : q.min_output_area ≡ 0 → NoHoleIsLost contours shapes
  -- the contours have each selected step exactly once
  pub each_once : q.min_output_area ≡ 0 →
      IsPermutation (selected_of q (edges_in xs)) (steps_of_shapes (shapes_found contours shapes))
  -- and so has the result, where points on one line stay
  pub kept_each_once : q.min_output_area ≡ 0 → q.preserve_output_collinear ≡ true →
      IsPermutation (selected_of q (edges_in xs)) (steps_along result)
  -- and round each point off the edges the result winds as asked
  pub winds : q.min_output_area ≡ 0 → WindsRoundRegion q (edges_in xs) (steps_along result)
  -- and each shape by itself winds once, in the output direction, round a point, or zero times
  pub each_alone : q.min_output_area ≡ 0 → EachWindsOnceOrNotAlong (filled_asked q) result
