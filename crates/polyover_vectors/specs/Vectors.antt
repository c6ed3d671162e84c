-- How an overlay of arrays ends that tells the filled sides of each step.
use Rattle.std.specs.Prelude.{◌≡◌, ℕ, ℤ, Bool, List}
use Rattle.std.specs.Int.{Width}
use Rattle.overlay_geom.specs.Edges.{CountedEdge}
use Rattle.overlay_geom.specs.declared.solver.Solver.{Solver}
use Rattle.overlay_graph.specs.Arranged.{IsArranged}
use Rattle.overlay_builder.specs.GivenPaths.{GivenPath, added_paths}
use Rattle.overlay_builder.specs.PathLists.{HoldsPaths}
use Rattle.overlay_extract.specs.Results.{Asked, asked}
use Rattle.overlay_vector.specs.DataVectors.{DataVector}
use Rattle.overlay_vector.specs.VectorShapes.{steps_along}
use Rattle.i_overlay.specs.OneShot.{WindsRoundFarPaths}
use Rattle.i_overlay.specs.ShapeVectors.{AreShapeVectors}
use Rattle.polyover_calls.specs.Asked.{rule_of, fill_of, solver_of, options_of, keeps_given, AreKnown}
use Rattle.polyover_calls.specs.Given.{Contours, paths_given, AreGiven}
use Rattle.polyover_calls.specs.Held.{HeldArrays, EndsHeld}
use Rattle.polyover_calls.specs.Overlays.{IsOverlayRefused}
use Rattle.polyover_calls.specs.declared.numbers.OptionNumbers.{OptionNumbers}
use Rattle.polyover_calls.specs.declared.status.Status.{Status}
use Rattle.polyover_vectors.specs.Flattened.{AreVectorsIn}

-- the shapes of edges over some arrangement, by the solver, of the edges that the paths give, with all their points or
-- without those on one line with their neighbours
pub record AreVectorsAsAdded (keep : Bool) (solver : Solver) (q : Asked) (paths : List GivenPath)
    (result : List (List (List (DataVector Unit)))) : Type 0 where
  pub content : List CountedEdge
  pub edges : List CountedEdge
  pub holds : HoldsPaths (added_paths keep paths) content
  pub arranged : IsArranged solver content edges
  pub are_shapes : AreShapeVectors q edges result
  -- with the minimum area zero they wind as asked of the paths, far from them: k rounds moved some point
  pub winds : q.min_output_area ≡ 0 → WindsRoundFarPaths arranged.moving q paths (steps_along result)

-- all that is given stands for something, and in the arrays stand the shapes of edges that the numbers ask for, of the
-- contours of both, split by the solver that they ask for
pub record AreVectors {I U : Type 0} (whole : I → ℤ) (limit : ℕ) (width : Width) (natural : U → ℕ) (rule fill : ℕ)
    (options : OptionNumbers U) (subject clip : Contours I) (arrays : HeldArrays I) : Type 0 where
  pub known : AreKnown rule fill options
  pub subject_given : AreGiven whole limit subject
  pub clip_given : AreGiven whole limit clip
  pub shapes : List (List (List (DataVector Unit)))
  pub answer : AreVectorsAsAdded (keeps_given options) (solver_of options.solver)
      (asked width natural (fill_of fill) (rule_of rule) (options_of options)) (paths_given whole subject clip) shapes
  pub flattened : AreVectorsIn whole shapes arrays

-- how it ends: it is refused as an overlay is
abbrev pub VectorsAreHeld : {I U : Type 0} → (I → ℤ) → ℕ → Width → (U → ℕ) → ℕ → ℕ → OptionNumbers U → Contours I →
    Contours I → HeldArrays I → Status → Type 0
VectorsAreHeld whole limit width natural rule fill options subject clip =
    EndsHeld (AreVectors whole limit width natural rule fill options subject clip) (λ arrays. arrays)
    (IsOverlayRefused whole limit rule fill options subject clip)
