-- The selected edges of an arrangement with data are the only answer as edges.
use Rattle.std.specs.Prelude.{◌≡◌, List}
use Rattle.overlay_plane.specs.Carried.{Carried}
use Rattle.overlay_order.specs.declared.data.CountWithData.{CountWithData}
use Rattle.overlay_geom.specs.declared.fill_rule.FillRule.{FillRule}
use Rattle.overlay_geom.specs.declared.overlay_rule.OverlayRule.{OverlayRule}
use Rattle.overlay_vector.specs.DataVectors.{DataVector, selected_vectors}

-- two lists of the selected edges of one arrangement, with filled sides and data, are one
abbrev pub OneListOfVectors : Type 0 → Type 0
OneListOfVectors D = (fill : FillRule) (rule : OverlayRule) (xs : List (Carried (CountWithData D)))
    (first second : List (DataVector D)) → first ≡ selected_vectors fill rule xs →
    second ≡ selected_vectors fill rule xs → first ≡ second
