-- The relations of the paths that were added to a builder for predicates: all of them, told of one arrangement, and
-- that of the paths exchanged.
use Rattle.std.proofs.Common.{◌≡◌, ℕ, ℤ, Bool, false, List, ◌++◌, map, ap, ap₂, subst, ◌∙◌}
use Rattle.std.proofs.lemmas.List.{map-append}
use Rattle.std.proofs.lemmas.Simd.{map-map}
use Rattle.std.specs.Prelude.{Result, Ok, Err, MatchResult}
use Rattle.overlay_geom.specs.Edges.{CountedEdge}
use Rattle.overlay_geom.specs.Plane.{Point}
use Rattle.overlay_geom.specs.declared.error.OverlayError.{OverlayError}
use Rattle.overlay_geom.specs.Rules.{is_filled}
use Rattle.overlay_geom.specs.declared.fill_rule.FillRule.{FillRule}
use Rattle.overlay_geom.specs.declared.options.ShapeType.{ShapeType}
use Rattle.overlay_geom.specs.declared.options.ShapeType.TheVariants.{Subject, Clip}
use Rattle.overlay_geom.specs.declared.solver.Solver.{Solver}
use Rattle.overlay_plane.specs.Predicates.{IsWithin, Covers, IsFillable}
use Rattle.overlay_graph.specs.Arranged.{IsArranged}
use Rattle.overlay_builder.specs.GivenPaths.{GivenPath, added_paths, paths_for, subject_and_clip}
use Rattle.overlay_builder.specs.PathLists.{HoldsPaths}
use Rattle.overlay_relate.specs.Exchanged.{other_shape, exchanged_path, exchanged_paths, IsArrangementOf}
use Rattle.overlay_relate.specs.PredicateBuilder.{PredicateBuilder, empty_builder, held_by}
use Rattle.overlay_relate.specs.PredicateLaws.{exchanged}
use Rattle.overlay_relate.specs.PredicateQueries.{AreRelations, TellsRelations}
use Rattle.overlay_relate.specs.declared.relations.Relations.{Relations}
use Rattle.overlay_relate.proofs.ExchangedPaths.{exchanging_keeps_arrangements}
use Rattle.overlay_relate.proofs.ExchangedShapes.{fillable_exchanged}
use Rattle.overlay_relate.proofs.PredicatesTogether.{covers_is_within_exchanged}
use Rattle.i_overlay.proofs.OneShots.{query_refused}
use Rattle.i_overlay.specs.OneShot.{MayRefusePaths}
use Rattle.i_overlay.specs.Relations.{TellsOfPaths, AreRelationsOfPaths, HasAddedUnder}

-- a new builder that the paths were added to
pub made_under : (fill : FillRule) (solver : Solver) (paths : List GivenPath) (b : PredicateBuilder)
    → HoldsPaths (added_paths false paths) b.edges → b ≡ record (empty_builder fill solver) { edges = b.edges }
    → HasAddedUnder solver fill paths b
made_under fill solver paths b holds made =
    record {
      holds = holds;
      ready = ap (λ p. p.failed) made;
      rule = ap (λ p. p.fill_rule) made;
      by = ap (λ p. p.solver) made;
    }

-- ---- exchanged

module _ (solver : Solver) (fill : FillRule) where
  arrangement_of : (relation : (ℤ → Bool) → List CountedEdge → Type 0) (paths : List GivenPath) (b : Bool)
      (h : TellsOfPaths solver relation fill paths b) → IsArrangementOf false solver paths h.edges
  arrangement_of relation paths b h = record { content = h.content; holds = h.holds; arranged = h.arranged }

  -- whether the subject covers the clip is whether, of the paths exchanged, it lies within the clip
  pub covering_exchanged : (paths : List GivenPath) (b : Bool) → TellsOfPaths solver Covers fill paths b →
      TellsOfPaths solver IsWithin fill (exchanged_paths paths) b
  covering_exchanged paths b h =
      let there = exchanging_keeps_arrangements.exchanging false solver paths h.edges
      (arrangement_of Covers paths b h) in
      let law = covers_is_within_exchanged fill h.edges in
      record {
        content = there.content;
        edges = map exchanged h.edges;
        holds = there.holds;
        arranged = there.arranged;
        fillable = fillable_exchanged (is_filled fill) h.edges h.fillable;
        tells = (λ t. law.0 (h.tells.0 t), λ within. h.tells.1 (law.1 within));
      }

  -- what is told of paths is told of them in another order
  told_reordered : (relation : (ℤ → Bool) → List CountedEdge → Type 0) (first later : List GivenPath) (b : Bool) →
      TellsOfPaths solver relation fill (first ++ later) b → TellsOfPaths solver relation fill (later ++ first) b
  told_reordered relation first later b h =
      let there = exchanging_keeps_arrangements.reordering false solver first later h.edges
      (arrangement_of relation (first ++ later) b h) in
      record {
        content = there.content;
        edges = h.edges;
        holds = there.holds;
        arranged = there.arranged;
        fillable = h.fillable;
        tells = h.tells;
      }

  for_other_shape : (t : ShapeType) (ps : List (List Point)) →
      exchanged_paths (paths_for t ps) ≡ paths_for (other_shape t) ps
  for_other_shape t ps = map-map exchanged_path (λ (p : List Point). record { shape_type = t; points = p }) ps

  two_exchanged : (subj clip : List (List Point)) →
      exchanged_paths (subject_and_clip subj clip) ≡ paths_for Clip subj ++ paths_for Subject clip
  two_exchanged subj clip = map-append exchanged_path (paths_for Subject subj) (paths_for Clip clip)
      ∙ ap₂ (λ ps qs. ps ++ qs) (for_other_shape Subject subj) (for_other_shape Clip clip)

  -- so it is of the paths of two resources
  pub covering_of_two : (subj clip : List (List Point)) (b : Bool) →
      TellsOfPaths solver Covers fill (subject_and_clip subj clip) b →
      TellsOfPaths solver IsWithin fill (subject_and_clip clip subj) b
  covering_of_two subj clip b h = told_reordered IsWithin (paths_for Clip subj) (paths_for Subject clip) b
      (subst (λ paths. TellsOfPaths solver IsWithin fill paths b) (two_exchanged subj clip)
      (covering_exchanged (subject_and_clip subj clip) b h))

-- ---- all of them

-- what a builder tells of all relations it tells of the paths that it holds
pub relations_or_refused : (solver : Solver) (r : Result Relations OverlayError) (limit : ℕ) (fill : FillRule)
    (paths exchanged : List GivenPath) (old new : PredicateBuilder) → HasAddedUnder solver fill paths old
    → ((b : Bool) → TellsOfPaths solver Covers fill paths b → TellsOfPaths solver IsWithin fill exchanged b)
    → TellsRelations limit old new r → MatchResult r (AreRelationsOfPaths solver fill paths exchanged)
    (MayRefusePaths solver paths)
relations_or_refused solver (Ok r) limit fill paths exchanged old new h other told =
    let fillable = subst (λ f. IsFillable (is_filled f) new.edges) h.rule told.fillable in
    let relations = subst (λ f. AreRelations (is_filled f) new.edges r) h.rule told.answer in
    record {
      content = old.edges;
      edges = new.edges;
      holds = h.holds;
      arranged = subst (λ s. IsArranged s old.edges new.edges) h.by told.query.arranged;
      fillable = fillable;
      relations = relations;
      within_exchanged = other r.covers (record {
        content = old.edges;
        edges = new.edges;
        holds = h.holds;
        arranged = subst (λ s. IsArranged s old.edges new.edges) h.by told.query.arranged;
        fillable = fillable;
        tells = relations.covers;
      });
    }
relations_or_refused solver (Err e) limit fill paths exchanged old new h other told =
    query_refused solver h.by limit paths (held_by old) (held_by new) (Err e) h.holds h.ready told.query
