-- What a query on a builder, to which all contours were added, says of the contours; and the text of its answer.
use Rattle.std.proofs.Common.{◌≡◌, ℕ, List, map, Option, Some, None, IfSome, subst, ◌∙◌}
use Rattle.std.specs.Prelude.{Result, Ok, Err, IfOk, MatchResult}
use Rattle.std.specs.Int.{w128}
use Rattle.overlay_geom.specs.declared.error.OverlayError.{OverlayError}
use Rattle.overlay_geom.specs.Edges.{CountedEdge}
use Rattle.overlay_geom.specs.Plane.{Point}
use Rattle.overlay_geom.specs.declared.solver.Solver.TheVariants.{Rounds}
use Rattle.overlay_geom.specs.declared.fill_rule.FillRule.{FillRule}
use Rattle.overlay_order.specs.Vectors.{Vector, vector_of}
use Rattle.overlay_builder.specs.Held.{Held, AnswersQuery}
use Rattle.i_overlay.specs.Builder.{Builder, held_by}
use Rattle.overlay_extract.specs.PlacedResults.{IsHierarchy}
use Rattle.overlay_extract.specs.Results.{Asked, asked, IsResult}
use Rattle.overlay_plane.specs.Islands.{ChildLink}
use Rattle.overlay_builder.specs.GivenPaths.{GivenPath}
use Rattle.i_overlay.specs.OneShot.{AreEdgesOfPaths, IsHierarchyOfPaths, IsResultOfPaths, MayRefusePaths}
use Rattle.i_overlay.proofs.OneShots.{edges_of_paths, hierarchy_of_paths, query_refused, result_of_paths}
use Rattle.polyover_text.specs.declared.query.OverlayQuery.{OverlayQuery}
use Rattle.polyover_text.specs.declared.query.Query.{Query}
use Rattle.polyover_engine.specs.Answers.{Answers, IsAnswer}
use Rattle.polyover_engine.specs.Builders.{HasAdded, IsAskedBuilder, asked_by}
use Rattle.polyover_text.specs.Grammar.{GivenFigures, Asks, input_lines}

module _ (cs : List GivenPath) (b : Builder ℕ) (h : HasAdded cs b) where
  -- what a query for the edges answers
  pub edges_answered : {V : Type 0} (limit : ℕ) (vectors : V → List Vector) (fill : FillRule) (new : Held CountedEdge)
      (answer : Result V OverlayError)
      → AnswersQuery limit b.solver (held_by b) new answer
      → IfOk answer (λ v. vectors v ≡ map (vector_of fill new.edges) new.edges)
      → MatchResult answer (λ v. AreEdgesOfPaths Rounds fill cs (vectors v)) (λ e. MayRefusePaths Rounds cs e)
  edges_answered limit vectors fill new (Ok v) query listed = edges_of_paths {E = OverlayError} Rounds h.made.by (Ok v)
      vectors fill cs
      b.edges new.edges h.holds query.arranged listed
  edges_answered limit vectors fill new (Err e) query listed =
      query_refused Rounds h.made.by limit cs (held_by b) new (Err e) h.holds h.made.ready query

module _ (cs : List GivenPath) (query : OverlayQuery) (b : Builder ℕ) (h : IsAskedBuilder cs query b) where
  -- what a builder is asked for
  abbrev pub asked_of : Asked
  asked_of = asked w128 (λ n. n) query.fill_rule query.overlay_rule b.options

  -- what an overlay answers
  pub shapes_answered : {V : Type 0} (limit : ℕ) (shapes : V → List (List (List Point))) (new : Held CountedEdge)
      (answer : Result V OverlayError) → AnswersQuery limit b.solver (held_by b) new answer →
      IfOk answer (λ v. IsResult asked_of new.edges (shapes v)) →
      MatchResult answer (λ v. IsResultOfPaths Rounds (asked_by query) cs (shapes v)) (λ e. MayRefusePaths Rounds cs e)
  shapes_answered limit shapes new (Ok v) answers result =
      result_of_paths {E = OverlayError} Rounds h.by (Ok v) shapes (asked_by query) cs b.edges new.edges h.holds
      answers.arranged
      (subst (λ q. IsResult q new.edges (shapes v)) h.asked result)
  shapes_answered limit shapes new (Err e) answers result =
      query_refused Rounds h.by limit cs (held_by b) new (Err e) h.holds h.ready answers

  -- and what it answers that tells of the links too
  pub hierarchy_answered : {V : Type 0} (limit : ℕ) (shapes : V → List (List (List Point)))
      (links : V → List ChildLink) (new : Held CountedEdge) (answer : Result V OverlayError) →
      AnswersQuery limit b.solver (held_by b) new answer →
      IfOk answer (λ v. IsHierarchy asked_of new.edges (shapes v) (links v)) →
      MatchResult answer (λ v. IsHierarchyOfPaths Rounds (asked_by query) cs (shapes v) (links v))
      (λ e. MayRefusePaths Rounds cs e)
  hierarchy_answered limit shapes links new (Ok v) answers result =
      hierarchy_of_paths {E = OverlayError} Rounds h.by (Ok v) shapes links (asked_by query) cs b.edges new.edges
      h.holds
      answers.arranged (subst (λ q. IsHierarchy q new.edges (shapes v) (links v)) h.asked result)
  hierarchy_answered limit shapes links new (Err e) answers result =
      query_refused Rounds h.by limit cs (held_by b) new (Err e) h.holds h.ready answers

-- the text answers what was read, where the reader tells it
pub answers_read : (given : Option (List ℕ)) (bytes text written : List ℕ) (fs : GivenFigures) (query : Query)
    → IfSome given (λ b. bytes ≡ b) → text ≡ bytes → Asks (input_lines text) fs query → Answers fs query written
    → IfSome given (λ b. IsAnswer b written)
answers_read None bytes text written fs query read same asks answers = tt
answers_read (Some b) bytes text written fs query read same asks answers = record {
  figures = fs;
  query = query;
  asks = subst (λ l. Asks (input_lines l) fs query) (same ∙ read) asks;
  answers = answers;
}
