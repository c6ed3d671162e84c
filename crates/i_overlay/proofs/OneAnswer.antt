-- Answers to the same paths by snap rounding are one: their contents have the same edges, so there is one arrangement.
use Rattle.std.specs.Prelude.{IsTrue}
use Rattle.std.proofs.Common.{◌≡◌, ◌↔◌, inl, inr, ℤ, Bool, true, false, List, [], map, refl, sym, ap, subst, ◌∙◌}
use Rattle.overlay_geom.specs.Edges.{CountedEdge}
use Rattle.overlay_geom.specs.Plane.{Point}
use Rattle.overlay_geom.specs.declared.error.OverlayError.{OverlayError}
use Rattle.overlay_geom.specs.declared.error.OverlayError.TheVariants.{Memory, NotSettled, TooManyEdges, Failed}
use Rattle.overlay_geom.specs.declared.solver.Solver.{Solver}
use Rattle.overlay_geom.specs.declared.solver.Solver.TheVariants.{Snapping}
use Rattle.overlay_geom.specs.Rules.{is_filled}
use Rattle.overlay_geom.specs.declared.fill_rule.FillRule.{FillRule}
use Rattle.overlay_geom.specs.declared.options.ShapeType.TheVariants.{Subject}
use Rattle.overlay_plane.specs.Islands.{ChildLink}
use Rattle.overlay_plane.proofs.OneArrangement.{one_arrangement_of_shuffled, one_whole_arrangement}
use Rattle.overlay_order.specs.Vectors.{Vector, vector_of}
use Rattle.overlay_graph.specs.Arranged.{IsArranged}
use Rattle.overlay_builder.specs.GivenPaths.{GivenPath, added_paths, paths_for}
use Rattle.overlay_builder.specs.Determined.{MemoryAloneRefuses}
use Rattle.overlay_builder.specs.PathLists.{HoldsPaths}
use Rattle.overlay_builder.proofs.Balanced.{held_paths_are_balanced}
use Rattle.overlay_builder.proofs.LeadOn.{contours_lead_on}
use Rattle.overlay_builder.proofs.LightPaths.{arranged_paths_are_refused_by_memory_alone}
use Rattle.overlay_builder.proofs.ShuffledContents.{contents_are_shuffled}
use Rattle.overlay_extract.specs.Determined.{AreArrangedWithBalance}
use Rattle.overlay_extract.specs.PlacedResults.{IsHierarchy}
use Rattle.overlay_extract.specs.Results.{Asked, IsResult}
use Rattle.overlay_extract.proofs.OneOverlay.{one_result, one_list_of_links}
use Rattle.i_overlay.specs.Determined.{OneAnswer, OneHierarchy, OneListOfEdges, OneSimplification}
use Rattle.i_overlay.specs.Determined.{OneAnswerOf, OneAnswerOfEach, OneListOfRelations}
use Rattle.i_overlay.specs.Determined.{PathsMeetInWholePoints, OneAnswerWhereWhole, MemoryAloneRefusesPaths}
use Rattle.i_overlay.specs.Determined.{AnsweredPathsAreRefusedByMemoryAlone}
use Rattle.i_overlay.specs.Determined.{ToldPathsAreRefusedByMemoryAlone}
use Rattle.i_overlay.specs.Alone.{MayRefuseAlone}
use Rattle.overlay_plane.specs.Predicates.{IsDisjoint, Covers}
use Rattle.overlay_relate.specs.PredicateQueries.{AreRelations, Holds}
use Rattle.overlay_relate.specs.declared.relations.Relations.{Relations}
use Rattle.overlay_relate.proofs.OneTruth.{one_truth, one_answer_of_relations}
use Rattle.i_overlay.specs.OneShot.{IsResultOfPaths, IsHierarchyOfPaths, AreEdgesOfPaths}
use Rattle.i_overlay.specs.Relations.{AreRelationsOfPaths}
use Rattle.i_overlay.specs.Simplified.{IsSimplifiedSource, IsSimplifiedAlone}
use Rattle.i_overlay.proofs.OneSimplified.{one_simplified}

-- ---- contours

-- answers over an arrangement of what contours give are determined
pub arranged_paths : (solver : Solver) (keep : Bool) (paths : List GivenPath) (content es : List CountedEdge) →
    HoldsPaths (added_paths keep paths) content → IsArranged solver content es → AreArrangedWithBalance es
arranged_paths solver keep paths content es holds arranged = record {
  solver = solver;
  old = content;
  forward = contours_lead_on keep paths content holds.added;
  balanced = held_paths_are_balanced keep paths content holds.added;
  arranged = arranged;
}

-- by snap rounding there is one arrangement
pub one_arrangement_of_paths : (keep : Bool) (paths : List GivenPath) (content other es fs : List CountedEdge) →
    HoldsPaths (added_paths keep paths) content → HoldsPaths (added_paths keep paths) other →
    IsArranged Snapping content es → IsArranged Snapping other fs → es ≡ fs
one_arrangement_of_paths keep paths content other es fs holds holds' arranged arranged' =
    one_arrangement_of_shuffled arranged.rounds arranged'.rounds content other es fs
    (contours_lead_on keep paths content holds.added)
    (contents_are_shuffled (added_paths keep paths) [] content other holds.added holds'.added) arranged.reached
    arranged'.reached

-- where its edges meet in whole points alone there is one by whichever solvers
one_whole_arrangement_of_paths : (solver another : Solver) (keep : Bool) (paths : List GivenPath)
    (content other es fs : List CountedEdge) → PathsMeetInWholePoints keep paths →
    HoldsPaths (added_paths keep paths) content → HoldsPaths (added_paths keep paths) other →
    IsArranged solver content es → IsArranged another other fs → es ≡ fs
one_whole_arrangement_of_paths solver another keep paths content other es fs whole holds holds' arranged arranged' =
    one_whole_arrangement solver another arranged.rounds arranged'.rounds content other es fs
    (contours_lead_on keep paths content holds.added) (whole content holds)
    (contents_are_shuffled (added_paths keep paths) [] content other holds.added holds'.added) arranged.reached
    arranged'.reached

-- ---- answers over one arrangement

module _ {solver another : Solver} where
  same_result : (q : Asked) (paths : List GivenPath) (first second : List (List (List Point)))
      (a : IsResultOfPaths solver q paths first) (b : IsResultOfPaths another q paths second) → a.edges ≡ b.edges →
      first ≡ second
  same_result q paths first second a b same =
      one_result q b.edges (arranged_paths another false paths b.content b.edges b.holds b.arranged) first second
      (subst (λ es. IsResult q es first) same a.is_result) b.is_result

  same_hierarchy : (q : Asked) (paths : List GivenPath) (first second : List (List (List Point)))
      (links others : List ChildLink) (a : IsHierarchyOfPaths solver q paths first links)
      (b : IsHierarchyOfPaths another q paths second others) → a.edges ≡ b.edges →
      (first ≡ second) × (links ≡ others)
  same_hierarchy q paths first second links others a b same = (
    one_result q b.edges arranged first second moved.is_result b.is_hierarchy.is_result,
    one_list_of_links q b.edges arranged first second links others moved b.is_hierarchy,
  )
    where
      arranged : AreArrangedWithBalance b.edges
      arranged = arranged_paths another false paths b.content b.edges b.holds b.arranged

      moved : IsHierarchy q b.edges first links
      moved = subst (λ es. IsHierarchy q es first links) same a.is_hierarchy

  same_list_of_edges : (fill : FillRule) (paths : List GivenPath) (first second : List Vector)
      (a : AreEdgesOfPaths solver fill paths first) (b : AreEdgesOfPaths another fill paths second) →
      a.edges ≡ b.edges → first ≡ second
  same_list_of_edges fill paths first second a b same =
      a.listed ∙ ap (λ es. map (vector_of fill es) es) same ∙ sym b.listed

  same_simplification : (q : Asked) (keep : Bool) (paths : List (List Point))
      (first second : List (List (List Point))) (a : IsSimplifiedAlone solver q keep paths first)
      (b : IsSimplifiedAlone another q keep paths second) → a.edges ≡ b.edges → first ≡ second
  same_simplification q keep paths first second a b same =
      one_simplified q keep paths b.edges (arranged_paths another keep (paths_for Subject paths) b.arranged.content
      b.edges b.arranged.holds b.arranged.arranged) first second
      (subst (λ es. IsSimplifiedSource q keep paths es first) same a.simplified) b.simplified

  same_relations : (fill : FillRule) (paths exchanged : List GivenPath) (first second : Relations)
      (a : AreRelationsOfPaths solver fill paths exchanged first)
      (b : AreRelationsOfPaths another fill paths exchanged second) → a.edges ≡ b.edges → first ≡ second
  same_relations fill paths exchanged first second a b same =
      one_answer_of_relations (is_filled fill) b.edges first second
      (subst (λ es. AreRelations (is_filled fill) es first) same a.relations) b.relations

-- ---- answers by snap rounding

pub one_answer : OneAnswer
one_answer q paths first second a b = same_result q paths first second a b
    (one_arrangement_of_paths false paths a.content b.content a.edges b.edges a.holds b.holds a.arranged b.arranged)

pub one_hierarchy : OneHierarchy
one_hierarchy q paths first second links others a b = same_hierarchy q paths first second links others a b
    (one_arrangement_of_paths false paths a.content b.content a.edges b.edges a.holds b.holds a.arranged b.arranged)

pub one_list_of_edges : OneListOfEdges
one_list_of_edges fill paths first second a b = same_list_of_edges fill paths first second a b
    (one_arrangement_of_paths false paths a.content b.content a.edges b.edges a.holds b.holds a.arranged b.arranged)

pub one_simplification : OneSimplification
one_simplification q keep paths first second a b = same_simplification q keep paths first second a b
    (one_arrangement_of_paths keep (paths_for Subject paths) a.arranged.content b.arranged.content a.edges b.edges
    a.arranged.holds b.arranged.holds a.arranged.arranged b.arranged.arranged)

-- ---- predicates

one_answer_of : (relation : (ℤ → Bool) → List CountedEdge → Type 0) → OneAnswerOf relation
one_answer_of relation fill paths first second a b =
    let same = one_arrangement_of_paths false paths a.content b.content a.edges b.edges a.holds b.holds a.arranged
    b.arranged in
    one_truth (relation (is_filled fill) b.edges) first second
    (subst (λ es. IsTrue first ↔ relation (is_filled fill) es) same a.tells) b.tells

pub one_answer_of_each : OneAnswerOfEach
one_answer_of_each = record {
  predicate = λ p. one_answer_of (Holds p);
  disjoint = one_answer_of IsDisjoint;
  covers = one_answer_of Covers;
}

pub one_list_of_relations : OneListOfRelations
one_list_of_relations fill paths exchanged first second a b = same_relations fill paths exchanged first second a b
    (one_arrangement_of_paths false paths a.content b.content a.edges b.edges a.holds b.holds a.arranged b.arranged)

-- ---- answers where edges meet in whole points alone

pub one_answer_where_whole : OneAnswerWhereWhole
one_answer_where_whole = record {
  shapes = λ solver another q paths whole first second a b. same_result q paths first second a b
      (one_whole_arrangement_of_paths solver another false paths a.content b.content a.edges b.edges whole a.holds
      b.holds a.arranged b.arranged);
  hierarchies = λ solver another q paths whole first second links others a b.
      same_hierarchy q paths first second links others a b
      (one_whole_arrangement_of_paths solver another false paths a.content b.content a.edges b.edges whole a.holds
      b.holds a.arranged b.arranged);
  edges = λ solver another fill paths whole first second a b. same_list_of_edges fill paths first second a b
      (one_whole_arrangement_of_paths solver another false paths a.content b.content a.edges b.edges whole a.holds
      b.holds a.arranged b.arranged);
  simplified = λ solver another q keep paths whole first second a b. same_simplification q keep paths first second a b
      (one_whole_arrangement_of_paths solver another keep (paths_for Subject paths) a.arranged.content
      b.arranged.content a.edges b.edges whole a.arranged.holds b.arranged.holds a.arranged.arranged
      b.arranged.arranged);
  relations = λ solver another fill paths exchanged whole first second a b.
      same_relations fill paths exchanged first second a b
      (one_whole_arrangement_of_paths solver another false paths a.content b.content a.edges b.edges whole a.holds
      b.holds a.arranged b.arranged);
}

-- ---- refusals

-- memory alone refuses paths whose edges snap rounding arranges
pub memory_refuses_paths : (keep : Bool) (paths : List GivenPath) (content es : List CountedEdge) →
    HoldsPaths (added_paths keep paths) content → IsArranged Snapping content es → MemoryAloneRefusesPaths keep paths
memory_refuses_paths keep paths content es holds arranged = by
  where
    refuses : MemoryAloneRefuses (added_paths keep paths)
    refuses = arranged_paths_are_refused_by_memory_alone (added_paths keep paths) content es
        (contours_lead_on keep paths content holds.added) holds arranged

    by : (e : OverlayError) → MayRefuseAlone keep Snapping paths e → e ≡ Memory
    by Memory may = refl
    by NotSettled may = refuses.split may.content may.holds NotSettled may.refused
    by TooManyEdges (inl stops) = absurd (refuses.added stops)
    by TooManyEdges (inr may) = refuses.split may.content may.holds TooManyEdges may.refused
    by Failed may = absurd may

pub answered_paths_are_refused_by_memory_alone : AnsweredPathsAreRefusedByMemoryAlone
answered_paths_are_refused_by_memory_alone = record {
  shapes = λ q paths result a. memory_refuses_paths false paths a.content a.edges a.holds a.arranged;
  hierarchies = λ q paths result links a. memory_refuses_paths false paths a.content a.edges a.holds a.arranged;
  edges = λ fill paths result a. memory_refuses_paths false paths a.content a.edges a.holds a.arranged;
  simplified = λ q keep paths result a. memory_refuses_paths keep (paths_for Subject paths) a.arranged.content a.edges
      a.arranged.holds a.arranged.arranged;
  relations = λ fill paths exchanged result a. memory_refuses_paths false paths a.content a.edges a.holds a.arranged;
}

pub told_paths_are_refused_by_memory_alone : (relation : (ℤ → Bool) → List CountedEdge → Type 0) →
    ToldPathsAreRefusedByMemoryAlone relation
told_paths_are_refused_by_memory_alone relation fill paths answer a =
    memory_refuses_paths false paths a.content a.edges a.holds a.arranged
