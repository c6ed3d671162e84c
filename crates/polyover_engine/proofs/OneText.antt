-- Answers of one arrangement are one, and so is their text.
use Rattle.std.proofs.Common.{◌≡◌, false, map, ◌++◌, sym, ap, ap₂, subst, ◌∙◌}
use Rattle.std.specs.Int.{w128}
use Rattle.overlay_geom.specs.Rules.{is_filled}
use Rattle.overlay_geom.specs.declared.options.ContourDirection.TheVariants.{CounterClockwise}
use Rattle.overlay_geom.specs.declared.solver.Solver.TheVariants.{Rounds}
use Rattle.overlay_order.specs.Vectors.{vector_of}
use Rattle.overlay_extract.specs.Determined.{AreArrangedWithBalance}
use Rattle.overlay_extract.specs.PlacedResults.{IsHierarchy}
use Rattle.overlay_extract.specs.Results.{IsResult}
use Rattle.overlay_relate.specs.PredicateQueries.{AreRelations}
use Rattle.overlay_relate.proofs.OneTruth.{one_answer_of_relations}
use Rattle.overlay_extract.proofs.OneOverlay.{one_result, one_list_of_links}
use Rattle.overlay_extract.proofs.OneSlicing.{one_slicing}
use Rattle.overlay_string.specs.ClipPaths.{ArePathsOf}
use Rattle.overlay_string.specs.ClipPieces.{clip_pieces}
use Rattle.overlay_string.specs.StringSlices.{IsSlicedWhole}
use Rattle.overlay_string.proofs.OneClip.{one_clip}
use Rattle.overlay_tiles.proofs.OneGrid.{one_tiling}
use Rattle.polyover_text.specs.Grammar.{paths_of}
use Rattle.polyover_text.specs.Printed.{edge_lines, lines_of_shapes, lines_of_paths, relation_lines}
use Rattle.polyover_engine.specs.Answers.{link_lines}
use Rattle.polyover_engine.specs.Builders.{asked_by}
use Rattle.polyover_engine.specs.Clips.{clip_rule_of}
use Rattle.polyover_engine.specs.OneText.{OneTextOfOverlay, OneTextOfHierarchy}
use Rattle.polyover_engine.specs.OneText.{OneTextOfEdges, OneTextOfRelations, OneTextOfClip}
use Rattle.polyover_engine.specs.OneText.{OneTextOfSlices, OneTextOfTiles}
use Rattle.polyover_engine.specs.Subjects.{subject_of}
use Rattle.i_overlay.proofs.OneAnswer.{arranged_paths}

-- ---- overlays

pub one_text_of_overlay : OneTextOfOverlay
one_text_of_overlay fs query first second a b same = a.2
    ∙ ap lines_of_shapes (one_result (asked_by query) b.1.edges
    (arranged_paths Rounds false (paths_of fs) b.1.content b.1.edges b.1.holds b.1.arranged) a.0 b.0
    (subst (λ es. IsResult (asked_by query) es a.0) same a.1.is_result) b.1.is_result)
    ∙ sym b.2

pub one_text_of_hierarchy : OneTextOfHierarchy
one_text_of_hierarchy fs query first second a b same = a.3
    ∙ ap₂ (λ shapes links. lines_of_shapes shapes ++ link_lines links)
    (one_result (asked_by query) b.2.edges arranged a.0 b.0 moved.is_result b.2.is_hierarchy.is_result)
    (one_list_of_links (asked_by query) b.2.edges arranged a.0 b.0 a.1 b.1 moved b.2.is_hierarchy) ∙ sym b.3
  where
    arranged : AreArrangedWithBalance b.2.edges
    arranged = arranged_paths Rounds false (paths_of fs) b.2.content b.2.edges b.2.holds b.2.arranged

    moved : IsHierarchy (asked_by query) b.2.edges a.0 a.1
    moved = subst (λ es. IsHierarchy (asked_by query) es a.0 a.1) same a.2.is_hierarchy

-- ---- edges and relations

pub one_text_of_edges : OneTextOfEdges
one_text_of_edges fs fill first second a b same = a.2
    ∙ ap edge_lines (a.1.listed ∙ ap (λ es. map (vector_of fill es) es) same ∙ sym b.1.listed) ∙ sym b.2

pub one_text_of_relations : OneTextOfRelations
one_text_of_relations fs fill first second a b same = a.2
    ∙ ap relation_lines (one_answer_of_relations (is_filled fill) b.1.edges a.0 b.0
    (subst (λ es. AreRelations (is_filled fill) es a.0) same a.1.relations) b.1.relations)
    ∙ sym b.2

-- ---- lines

pub one_text_of_clip : OneTextOfClip
one_text_of_clip fs query first second a b same = a.2
    ∙ ap lines_of_paths (one_clip
    (clip_pieces query.fill_rule (clip_rule_of query.options) b.1.clipped.arrangement) a.0 b.0
    (subst (λ es. ArePathsOf (clip_pieces query.fill_rule (clip_rule_of query.options) es) a.0) same
    a.1.clipped.paths_of) b.1.clipped.paths_of)
    ∙ sym b.2

pub one_text_of_slices : OneTextOfSlices
one_text_of_slices fs fill first second a b same = a.2
    ∙ ap lines_of_shapes (one_slicing w128 0 fill CounterClockwise b.1.sliced.arrangement a.0 b.0
    (subst (λ es. IsSlicedWhole w128 fill es a.0) same a.1.sliced.sliced) b.1.sliced.sliced)
    ∙ sym b.2

pub one_text_of_tiles : OneTextOfTiles
one_text_of_tiles fs query first second a b same = a.3
    ∙ ap lines_of_shapes (one_tiling Rounds w128 query.fill_rule query.width query.height (subject_of fs.contours)
    a.0 b.0 a.2 b.2 same)
    ∙ sym b.3
