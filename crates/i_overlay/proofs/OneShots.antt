-- What a new builder, to which paths were added, answers of the paths.
use Rattle.std.proofs.Common.{◌≡◌, inl, ℕ, Bool, false, List, map, ap₂, subst, ◌∙◌}
use Rattle.std.specs.Prelude.{Result, Ok, Err, IfOk, IfErr, OnOk}
use Rattle.std.specs.Int.{Width}
use Rattle.overlay_geom.specs.declared.error.OverlayError.{OverlayError}
use Rattle.overlay_geom.specs.declared.error.OverlayError.TheVariants.{Memory, NotSettled, TooManyEdges, Failed}
use Rattle.overlay_geom.specs.Edges.{CountedEdge}
use Rattle.overlay_geom.specs.Plane.{Point}
use Rattle.overlay_geom.specs.declared.solver.Solver.{Solver}
use Rattle.overlay_geom.specs.Options.{AreOptions}
use Rattle.overlay_geom.specs.declared.fill_rule.FillRule.{FillRule}
use Rattle.overlay_geom.specs.declared.overlay_rule.OverlayRule.{OverlayRule}
use Rattle.overlay_geom.specs.declared.options.ContourDirection.{ContourDirection}
use Rattle.overlay_geom.specs.declared.options.ContourDirection.TheVariants.{CounterClockwise}
use Rattle.overlay_geom.specs.declared.options.IntOverlayOptions.{IntOverlayOptions}
use Rattle.overlay_order.specs.Vectors.{Vector, vector_of}
use Rattle.overlay_graph.specs.Arranged.{IsArranged}
use Rattle.overlay_builder.specs.Held.{Held, AnswersQuery}
use Rattle.i_overlay.specs.OneShot.{asked_by_default, IsResultOfPaths, IsHierarchyOfPaths, AreEdgesOfPaths}
use Rattle.i_overlay.specs.OneShot.{MayRefusePaths}
use Rattle.overlay_extract.specs.PlacedResults.{IsHierarchy}
use Rattle.overlay_extract.specs.Results.{Asked, asked, IsResult}
use Rattle.overlay_plane.specs.Islands.{ChildLink}
use Rattle.overlay_plane.specs.ShapeWindings.{steps_of_shapes}
use Rattle.overlay_builder.specs.GivenPaths.{GivenPath, added_paths}
use Rattle.overlay_builder.specs.PathLists.{HoldsPaths, MayRefuseBuilder}
use Rattle.i_overlay.proofs.AddedAlone.{query_refused as refused_alone}
use Rattle.i_overlay.proofs.FarPaths.{winds_of_paths}

-- what the default options ask for
pub asked_of_default : {U : Type 0} (area_width : Width) (natural : U → ℕ) (fill : FillRule) (rule : OverlayRule)
    (o : IntOverlayOptions U)
    → AreOptions natural false false false o → asked area_width natural fill rule o ≡ asked_by_default
    area_width fill rule
asked_of_default area_width natural fill rule o are =
    ap₂ (λ d k. by d k o.ogc (natural o.min_output_area)) are.direction are.output_kept
    ∙ ap₂ (λ t n. by CounterClockwise false t n) are.for_ogc are.area
  where
    by : ContourDirection → Bool → Bool → ℕ → Asked
    by d k t n = record {
      fill = fill;
      rule = rule;
      output_direction = d;
      preserve_output_collinear = k;
      ogc = t;
      min_output_area = n;
      area_width = area_width;
    }

-- the result over an arrangement of these edges is one of the paths
pub result_over_paths : (solver : Solver) (q : Asked) (paths : List GivenPath) (content edges : List CountedEdge)
    (shapes : List (List (List Point))) → HoldsPaths (added_paths false paths) content →
    IsArranged solver content edges → IsResult q edges shapes → IsResultOfPaths solver q paths shapes
result_over_paths solver q paths content edges shapes holds arranged is = record {
  content = content;
  edges = edges;
  holds = holds;
  arranged = arranged;
  is_result = is;
  winds = λ zero. winds_of_paths false solver paths q content edges holds arranged (steps_of_shapes shapes)
      (is.winds zero);
}

-- so are its shapes and their links
pub hierarchy_over_paths : (solver : Solver) (q : Asked) (paths : List GivenPath) (content edges : List CountedEdge)
    (shapes : List (List (List Point))) (links : List ChildLink) → HoldsPaths (added_paths false paths) content →
    IsArranged solver content edges → IsHierarchy q edges shapes links → IsHierarchyOfPaths solver q paths shapes links
hierarchy_over_paths solver q paths content edges shapes links holds arranged is = record {
  content = content;
  edges = edges;
  holds = holds;
  arranged = arranged;
  is_hierarchy = is;
  winds = λ zero. winds_of_paths false solver paths q content edges holds arranged (steps_of_shapes shapes)
      (is.is_result.winds zero);
}

-- the result of a query on a content that the paths give is one of the paths
pub result_of_paths : {V E : Type 0} {s : Solver} (solver : Solver) → s ≡ solver →
    (r : Result V E) (shapes : V → List (List (List Point))) (q : Asked)
    (paths : List GivenPath)
    (content edges : List CountedEdge) → HoldsPaths (added_paths false paths) content
    → OnOk r (IsArranged s content edges)
    → IfOk r (λ v. IsResult q edges (shapes v)) → IfOk r (λ v. IsResultOfPaths solver q paths (shapes v))
result_of_paths solver by (Ok v) shapes q paths content edges holds arranged is =
    result_over_paths solver q paths content edges (shapes v) holds
    (subst (λ t. IsArranged t content edges) by arranged) is
result_of_paths solver by (Err e) shapes q paths content edges holds arranged is = tt

-- so are its shapes and their links
pub hierarchy_of_paths : {V E : Type 0} {s : Solver} (solver : Solver) → s ≡ solver →
    (r : Result V E) (shapes : V → List (List (List Point)))
    (links : V → List ChildLink) (q : Asked) (paths : List GivenPath) (content edges : List CountedEdge) →
    HoldsPaths (added_paths false paths) content → OnOk r (IsArranged s content edges) →
    IfOk r (λ v. IsHierarchy q edges (shapes v) (links v)) →
    IfOk r (λ v. IsHierarchyOfPaths solver q paths (shapes v) (links v))
hierarchy_of_paths solver by (Ok v) shapes links q paths content edges holds arranged is =
    hierarchy_over_paths solver q paths content edges (shapes v) (links v) holds
    (subst (λ t. IsArranged t content edges) by arranged) is
hierarchy_of_paths solver by (Err e) shapes links q paths content edges holds arranged is = tt

-- and its edges
pub edges_of_paths : {V E : Type 0} {s : Solver} (solver : Solver) → s ≡ solver →
    (r : Result V E) (vectors : V → List Vector) (fill : FillRule)
    (paths : List GivenPath) (content edges : List CountedEdge) → HoldsPaths (added_paths false paths) content
    → OnOk r (IsArranged s content edges)
    → IfOk r (λ v. vectors v ≡ map (vector_of fill edges) edges)
    → IfOk r (λ v. AreEdgesOfPaths solver fill paths (vectors v))
edges_of_paths solver by (Ok v) vectors fill paths content edges holds arranged listed =
    record {
      content = content;
      edges = edges;
      holds = holds;
      arranged = subst (λ t. IsArranged t content edges) by arranged;
      listed = listed;
    }
edges_of_paths solver by (Err e) vectors fill paths content edges holds arranged listed = tt

-- the refusal of a query on the paths
pub query_refused : {V : Type 0} {s : Solver} (solver : Solver) → s ≡ solver → (limit : ℕ) (paths : List GivenPath)
    (old new : Held CountedEdge)
    (r : Result V OverlayError)
    → HoldsPaths (added_paths false paths) old.edges → old.failed ≡ false → AnswersQuery limit s old new r
    → IfErr r (MayRefusePaths solver paths)
query_refused solver by limit paths old new (Ok v) holds ready h = tt
query_refused {V = V} solver by limit paths old new (Err e) holds ready h =
    refused_alone false solver paths limit old new e holds ready
    (subst (λ t. AnswersQuery {V = V} limit t old new (Err e)) by h)

-- where the paths can't be added, there is no answer
pub adding_refused : (solver : Solver) (paths : List GivenPath) (e : OverlayError) →
    MayRefuseBuilder (added_paths false paths) e
    → MayRefusePaths solver paths e
adding_refused solver paths Memory may = tt
adding_refused solver paths NotSettled may = absurd may
adding_refused solver paths TooManyEdges may = inl may
adding_refused solver paths Failed may = may
