-- What a new builder answers of paths whose points on one line are kept, or dropped; by snap rounding answers are one.
use Rattle.std.proofs.Common.{◌≡◌, ℕ, Bool, false, inl, List, subst}
use Rattle.std.specs.Prelude.{Err}
use Rattle.overlay_geom.specs.Edges.{CountedEdge}
use Rattle.overlay_geom.specs.Plane.{Point}
use Rattle.overlay_geom.specs.declared.error.OverlayError.{OverlayError}
use Rattle.overlay_geom.specs.declared.error.OverlayError.TheVariants.{Memory, NotSettled, TooManyEdges, Failed}
use Rattle.overlay_geom.specs.declared.solver.Solver.{Solver}
use Rattle.overlay_geom.specs.declared.solver.Solver.TheVariants.{Snapping}
use Rattle.overlay_plane.specs.Islands.{ChildLink}
use Rattle.overlay_plane.specs.ShapeWindings.{steps_of_shapes}
use Rattle.overlay_graph.specs.Arranged.{IsArranged}
use Rattle.overlay_builder.specs.GivenPaths.{GivenPath, added_paths}
use Rattle.overlay_builder.specs.Held.{Held, AnswersQuery}
use Rattle.overlay_builder.specs.PathLists.{HoldsPaths, MayRefuseBuilder}
use Rattle.overlay_extract.specs.Determined.{AreArrangedWithBalance}
use Rattle.overlay_extract.specs.PlacedResults.{IsHierarchy}
use Rattle.overlay_extract.specs.Results.{Asked, IsResult}
use Rattle.overlay_extract.proofs.OneOverlay.{one_result, one_list_of_links}
use Rattle.i_overlay.specs.Alone.{MayRefuseAlone}
use Rattle.i_overlay.proofs.AddedAlone.{query_refused as refused_alone}
use Rattle.i_overlay.proofs.FarPaths.{winds_of_paths}
use Rattle.i_overlay.proofs.OneAnswer.{arranged_paths, one_arrangement_of_paths}
use Rattle.polyover_calls.specs.Kept.{IsResultAsAdded, IsHierarchyAsAdded}

module _ (keep : Bool) (solver : Solver) where
  -- ---- answers

  module _ (q : Asked) (paths : List GivenPath) (content edges : List CountedEdge)
      (holds : HoldsPaths (added_paths keep paths) content) (arranged : IsArranged solver content edges) where
    -- the result over an arrangement of these edges is one of the paths
    pub result_as_added : (shapes : List (List (List Point))) → IsResult q edges shapes →
        IsResultAsAdded keep solver q paths shapes
    result_as_added shapes is = record {
      content = content;
      edges = edges;
      holds = holds;
      arranged = arranged;
      is_result = is;
      winds = λ zero. winds_of_paths keep solver paths q content edges holds arranged (steps_of_shapes shapes)
          (is.winds zero);
    }

    -- so are its shapes and their links
    pub hierarchy_as_added : (shapes : List (List (List Point))) (links : List ChildLink) →
        IsHierarchy q edges shapes links → IsHierarchyAsAdded keep solver q paths shapes links
    hierarchy_as_added shapes links is = record {
      content = content;
      edges = edges;
      holds = holds;
      arranged = arranged;
      is_hierarchy = is;
      winds = λ zero. winds_of_paths keep solver paths q content edges holds arranged (steps_of_shapes shapes)
          (is.is_result.winds zero);
    }

-- ---- refusals

-- the refusal of a query on the paths
pub query_refused_as_added : {V : Type 0} {s : Solver} (keep : Bool) (solver : Solver) (paths : List GivenPath) →
    s ≡ solver → (limit : ℕ) (old new : Held CountedEdge) (e : OverlayError) →
    HoldsPaths (added_paths keep paths) old.edges → old.failed ≡ false →
    AnswersQuery {V = V} limit s old new (Err e) → MayRefuseAlone keep solver paths e
query_refused_as_added {V = V} keep solver paths by limit old new e holds ready h =
    refused_alone keep solver paths limit old new e holds ready
    (subst (λ t. AnswersQuery {V = V} limit t old new (Err e)) by h)

-- where they can't be added, there is no answer
pub adding_refused_as_added : (keep : Bool) (solver : Solver) (paths : List GivenPath) (e : OverlayError) →
    MayRefuseBuilder (added_paths keep paths) e → MayRefuseAlone keep solver paths e
adding_refused_as_added keep solver paths Memory may = tt
adding_refused_as_added keep solver paths NotSettled may = absurd may
adding_refused_as_added keep solver paths TooManyEdges may = inl may
adding_refused_as_added keep solver paths Failed may = may

-- ---- by snap rounding

module _ (keep : Bool) (q : Asked) (paths : List GivenPath) (first second : List (List (List Point))) where
  -- two results of the same paths are one
  pub one_result_as_added : IsResultAsAdded keep Snapping q paths first →
      IsResultAsAdded keep Snapping q paths second → first ≡ second
  one_result_as_added a b = one_result q b.edges
      (arranged_paths Snapping keep paths b.content b.edges b.holds b.arranged) first second
      (subst (λ es. IsResult q es first)
      (one_arrangement_of_paths keep paths a.content b.content a.edges b.edges a.holds b.holds a.arranged b.arranged)
      a.is_result) b.is_result

  -- and so are their links
  pub one_hierarchy_as_added : (links others : List ChildLink) → IsHierarchyAsAdded keep Snapping q paths first links →
      IsHierarchyAsAdded keep Snapping q paths second others → (first ≡ second) × (links ≡ others)
  one_hierarchy_as_added links others a b = (
    one_result q b.edges arranged first second moved.is_result b.is_hierarchy.is_result,
    one_list_of_links q b.edges arranged first second links others moved b.is_hierarchy,
  )
    where
      arranged : AreArrangedWithBalance b.edges
      arranged = arranged_paths Snapping keep paths b.content b.edges b.holds b.arranged

      moved : IsHierarchy q b.edges first links
      moved = subst (λ es. IsHierarchy q es first links)
          (one_arrangement_of_paths keep paths a.content b.content a.edges b.edges a.holds b.holds a.arranged
          b.arranged) a.is_hierarchy
