-- What a builder that is asked says of the arrays that tells the filled sides of each step.
use Rattle.std.proofs.Common.{◌≡◌, ℕ, ℤ, Bool, List, subst}
use Rattle.std.specs.Prelude.{Ok}
use Rattle.std.specs.Int.{Width}
use Rattle.overlay_geom.specs.Edges.{CountedEdge}
use Rattle.overlay_geom.specs.declared.fill_rule.FillRule.{FillRule}
use Rattle.overlay_geom.specs.declared.overlay_rule.OverlayRule.{OverlayRule}
use Rattle.overlay_graph.specs.Arranged.{IsArranged}
use Rattle.overlay_builder.specs.GivenPaths.{GivenPath, added_paths}
use Rattle.overlay_builder.specs.PathLists.{HoldsPaths}
use Rattle.overlay_extract.specs.Results.{Asked, asked, WindsRoundRegion}
use Rattle.overlay_geom.specs.declared.solver.Solver.{Solver}
use Rattle.overlay_vector.specs.DataVectors.{DataVector}
use Rattle.overlay_vector.specs.VectorShapes.{steps_along}
use Rattle.i_overlay.specs.Builder.{Builder}
use Rattle.i_overlay.specs.Queries.{BuilderExtracts}
use Rattle.i_overlay.specs.ShapeVectors.{AreShapeVectors}
use Rattle.i_overlay.proofs.FarPaths.{winds_of_paths}
use Rattle.polyover_calls.proofs.Overlays.{same_asked}
use Rattle.polyover_calls.specs.Asked.{rule_of, fill_of, solver_of, options_of, keeps_given}
use Rattle.polyover_calls.specs.Given.{Contours, paths_given}
use Rattle.polyover_calls.specs.Held.{HeldArrays}
use Rattle.polyover_calls.specs.Overlays.{IsAskedOverlay}
use Rattle.polyover_calls.specs.declared.numbers.OptionNumbers.{OptionNumbers}
use Rattle.polyover_vectors.specs.Flattened.{AreVectorsIn}
use Rattle.polyover_vectors.specs.Vectors.{AreVectors, AreVectorsAsAdded}

-- the shapes over an arrangement of these edges are those of the paths
vectors_as_added : (keep : Bool) (solver : Solver) (q : Asked) (paths : List GivenPath)
    (content edges : List CountedEdge) (holds : HoldsPaths (added_paths keep paths) content)
    (arranged : IsArranged solver content edges)
    (shapes : List (List (List (DataVector Unit)))) → AreShapeVectors q edges shapes →
    AreVectorsAsAdded keep solver q paths shapes
vectors_as_added keep solver q paths content edges holds arranged shapes is = record {
  content = content;
  edges = edges;
  holds = holds;
  arranged = arranged;
  are_shapes = is;
  winds = λ zero. winds_of_paths keep solver paths q content edges holds arranged (steps_along shapes)
      (subst (λ es. WindsRoundRegion q es (steps_along shapes)) is.edges (is.shapes.winds zero));
}

pub vectors_answered : {I U : Type 0} (whole : I → ℤ) (limit rule fill : ℕ) (options : OptionNumbers U)
    (subject clip : Contours I) (r : OverlayRule) (f : FillRule) (b : Builder U)
    (is : IsAskedOverlay whole limit rule fill options subject clip r f b) {V : Type 0} (v : V) (new : Builder U)
    (width : Width) (natural : U → ℕ) (shapes : List (List (List (DataVector Unit)))) (arrays : HeldArrays I) →
    BuilderExtracts {V = V} limit b new (Ok v) →
    AreShapeVectors (asked width natural f r b.options) new.edges shapes → AreVectorsIn whole shapes arrays →
    AreVectors whole limit width natural rule fill options subject clip arrays
vectors_answered whole limit rule fill options subject clip r f b is v new width natural shapes arrays extracts are
    flattened = record {
      known = is.known;
      subject_given = is.subject_given;
      clip_given = is.clip_given;
      shapes = shapes;
      answer = vectors_as_added (keeps_given options) (solver_of options.solver)
          (asked width natural (fill_of fill) (rule_of rule) (options_of options)) (paths_given whole subject clip)
          b.edges new.edges is.holds
          (subst (λ t. IsArranged t b.edges new.edges) is.solver_asked extracts.query.arranged) shapes
          (subst (λ a. AreShapeVectors a new.edges shapes)
          (same_asked whole limit rule fill options subject clip r f b is width natural) are);
      flattened = flattened;
    }
