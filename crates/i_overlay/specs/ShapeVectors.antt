-- An overlay as shapes of edges that carry no data.
use Rattle.std.specs.Prelude.{◌≡◌, ⊤, true, List}
use Rattle.overlay_geom.specs.Edges.{CountedEdge}
use Rattle.overlay_plane.specs.Carried.{Carried, edges_in}
use Rattle.overlay_order.specs.declared.data.CountWithData.{CountWithData}
use Rattle.overlay_extract.specs.Results.{Asked}
use Rattle.overlay_vector.specs.DataVectors.{DataVector}
use Rattle.overlay_vector.specs.VectorShapes.{AreVectorShapes}

-- the answer of an overlay over the edges of an arrangement, as shapes of edges without data: any two have equal data
pub record AreShapeVectors (q : Asked) (es : List CountedEdge) (result : List (List (List (DataVector Unit)))) :
    Type 0 where
  pub entries : List (Carried (CountWithData Unit))
  pub edges : edges_in entries ≡ es
  pub shapes : AreVectorShapes (λ _ _. ⊤) (λ _ _. true) q entries result
