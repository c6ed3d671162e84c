-- Shapes of edges with data are the only ones: their steps, filled sides and, where edges stay, their data.
use Rattle.std.specs.Prelude.{◌≡◌, Bool, true, List}
use Rattle.overlay_geom.specs.Plane.{Step}
use Rattle.overlay_geom.specs.declared.fill_rule.FillRule.{FillRule}
use Rattle.overlay_plane.specs.Carried.{Carried, edges_in}
use Rattle.overlay_order.specs.declared.data.CountWithData.{CountWithData}
use Rattle.overlay_extract.specs.Determined.{AreArrangedWithBalance}
use Rattle.overlay_extract.specs.Results.{Asked}
use Rattle.overlay_vector.specs.DataVectors.{DataVector}
use Rattle.overlay_vector.specs.VectorShapes.{AreVectorContours, AreVectorShapes}

-- both show the walks of one list of shapes, in its order: each step with what its edge has, as it is, or neighbours
-- joined
pub record ShowOneWalks {D : Type 0} (reverses : D → D → Type 0) (eq : D → D → Bool) (rule : FillRule) (keep : Bool)
    (xs : List (Carried (CountWithData D))) (first second : List (List (List (DataVector D)))) : Type 0 where
  pub shapes : List (List (List Step))
  pub shown : AreVectorContours reverses eq rule keep xs shapes first
  pub shown_too : AreVectorContours reverses eq rule keep xs shapes second

-- over the edges of an arrangement two answers that are asked for alike show one list of shapes
abbrev pub VectorShapesShowOneList : {D : Type 0} → (D → D → Type 0) → (D → D → Bool) → Type 0
VectorShapesShowOneList {D} reverses eq = (q : Asked) (xs : List (Carried (CountWithData D))) →
    AreArrangedWithBalance (edges_in xs) → (first second : List (List (List (DataVector D)))) →
    AreVectorShapes reverses eq q xs first → AreVectorShapes reverses eq q xs second →
    ShowOneWalks reverses eq q.fill q.preserve_output_collinear xs first second

-- data has one way back
abbrev pub HasOneReverse : {D : Type 0} → (D → D → Type 0) → Type 0
HasOneReverse {D} reverses = (d x y : D) → reverses d x → reverses d y → x ≡ y

-- so where edges stay, and data has one way back, they are one
abbrev pub OneListOfVectorShapes : {D : Type 0} → (D → D → Type 0) → (D → D → Bool) → Type 0
OneListOfVectorShapes {D} reverses eq = HasOneReverse reverses → (q : Asked) (xs : List (Carried (CountWithData D))) →
    AreArrangedWithBalance (edges_in xs) → (first second : List (List (List (DataVector D)))) →
    q.preserve_output_collinear ≡ true → AreVectorShapes reverses eq q xs first →
    AreVectorShapes reverses eq q xs second → first ≡ second
