-- Slices along the edges of an arrangement are those of the paths; there are none where no edge is left.
use Rattle.std.proofs.Common.{◌≡◌, inl, inr, refl, List, []}
use Rattle.std.specs.Prelude.{◌≢◌}
use Rattle.overlay_builder.specs.PathLists.{AddedPath, HoldsPaths}
use Rattle.overlay_extract.specs.Results.{Asked}
use Rattle.overlay_extract.specs.Sliced.{IsSliced, WindsRoundFilled}
use Rattle.overlay_geom.specs.Edges.{CountedEdge}
use Rattle.overlay_geom.specs.Plane.{Point, Step}
use Rattle.overlay_geom.specs.Rules.{rules_hold}
use Rattle.overlay_geom.specs.declared.fill_rule.FillRule.{FillRule}
use Rattle.overlay_geom.specs.declared.fill_rule.FillRule.TheVariants.{EvenOdd, NonZero, Positive, Negative}
use Rattle.overlay_geom.specs.declared.options.ContourDirection.{ContourDirection}
use Rattle.overlay_geom.specs.declared.overlay_rule.OverlayRule.TheVariants as rule
use Rattle.overlay_geom.specs.declared.solver.Solver.{Solver}
use Rattle.overlay_graph.specs.Arranged.{IsArranged}
use Rattle.overlay_plane.proofs.FarPoints.{far_points_wind_as_wanted}
use Rattle.overlay_plane.specs.ShapeWindings.{steps_of_shapes}
use Rattle.overlay_string.specs.FarSlices.{WindsRoundFarFilled}
use Rattle.overlay_walk.specs.Steps.{filled_hand}
use Rattle.polyover_slices.specs.Slices.{AreSlicesOfPaths}

-- without edges nothing is filled, so no step winds as asked
nothing_winds : (fill : FillRule) (direction : ContourDirection) → WindsRoundFilled fill direction [] []
nothing_winds EvenOdd direction p off = refl
nothing_winds NonZero direction p off = refl
nothing_winds Positive direction p off = refl
nothing_winds Negative direction p off = refl

module _ (solver : Solver) (q : Asked) (paths : List (AddedPath CountedEdge)) (content edges : List CountedEdge)
    (holds : HoldsPaths paths content) (arranged : IsArranged solver content edges) where
  -- steps that wind off the edges of the arrangement as asked do so far from what the paths give
  far : (steps : List Step) → WindsRoundFilled q.fill q.output_direction edges steps →
      WindsRoundFarFilled arranged.moving q.fill q.output_direction content steps
  far steps winds = far_points_wind_as_wanted (rules_hold q.fill rule.Subject) (filled_hand q.output_direction)
      arranged.moving content edges steps arranged.far winds

  pub slices_along : edges ≢ [] → (shapes : List (List (List Point))) →
      IsSliced q.area_width q.min_output_area q.fill q.output_direction edges shapes →
      AreSlicesOfPaths solver q paths shapes
  slices_along some shapes are = record {
    content = content;
    edges = edges;
    holds = holds;
    arranged = arranged;
    sliced = inr (some, are);
    winds = λ zero. far (steps_of_shapes shapes) (are.winds zero);
  }

pub no_slices : (solver : Solver) (q : Asked) (paths : List (AddedPath CountedEdge)) (content : List CountedEdge) →
    HoldsPaths paths content → IsArranged solver content [] → (shapes : List (List (List Point))) → shapes ≡ [] →
    AreSlicesOfPaths solver q paths shapes
no_slices solver q paths content holds arranged shapes none = rw none (record {
  content = content;
  edges = [];
  holds = holds;
  arranged = arranged;
  sliced = inl (refl, refl);
  winds = λ zero. far solver q paths content [] holds arranged [] (nothing_winds q.fill q.output_direction);
})
