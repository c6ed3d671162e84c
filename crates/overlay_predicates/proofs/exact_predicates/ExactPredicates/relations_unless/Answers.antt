-- The merged copy has balanced counts, and what is told of it is told of the content.
use Rattle.std.proofs.Common.{sym, subst}
use Rattle.overlay_geom.specs.Merged.{IsMerged}
use Rattle.overlay_geom.specs.Rules.{is_filled}
use Rattle.overlay_plane.specs.Balance.{HasBalancedCounts}
use Rattle.overlay_plane.specs.Carried.{edges_in}
use Rattle.overlay_plane.proofs.KeepingBalance.{merging_keeps_balance}
use Rattle.overlay_given.specs.First.{SomeFirstPasses}
use Rattle.overlay_contacts.specs.ExactRelations.{AreExactRelations}
use Rattle.overlay_predicates.specs.ExactQueries.{SomePiecePasses}
use Rattle.overlay_predicates.proofs.EarlyAnswers.{piece_of}
use Rattle.overlay_predicates.proofs.exact_predicates.ExactPredicates.relations_unless.Goals as goal

pub some_first_passes-requires-clause-balanced : goal.some_first_passes-requires-clause-balanced
some_first_passes-requires-clause-balanced g c =
    subst HasBalancedCounts (sym c.edges.ensures.plain)
    (merging_keeps_balance _ _ c.in_ok-merged.ensures.merged
    (subst (λ xs. HasBalancedCounts (edges_in xs)) (sym c.content-content.ensures.edges) c.self.invariant.balanced))

pub merged_relations-requires-clause-balanced : goal.merged_relations-requires-clause-balanced
merged_relations-requires-clause-balanced g c =
    merging_keeps_balance _ _ c.in_ok-merged.ensures.merged
    (subst (λ xs. HasBalancedCounts (edges_in xs)) (sym c.content-content.ensures.edges) c.self.invariant.balanced)

pub returns-then-passes : goal.returns-then-passes
returns-then-passes g c =
    let held = edges_in c.self.inside.core.edges in
    let filled = is_filled c.self.inside.fill_rule in
    let merged = edges_in c.in_ok-merged.merged in
    record {
      answer = subst (λ b. SomePiecePasses c.args.test (is_filled b.fill_rule) b.edges) c.self.view_is
          (piece_of g.I.IntNumber.limit c.args.test filled held merged
          (subst (λ xs. IsMerged (edges_in xs) merged) c.content-content.ensures.edges c.in_ok-merged.ensures.merged)
          c.edges.ensures.content.held
          (merging_keeps_balance _ _ c.in_ok-merged.ensures.merged
          (subst (λ xs. HasBalancedCounts (edges_in xs)) (sym c.content-content.ensures.edges)
          c.self.invariant.balanced))
          (subst (SomeFirstPasses c.args.test filled) c.edges.ensures.plain
          (c.in_ok-passes.ensures.ok.0 c.if-passes.true)));
      err = tt;
    }

pub returns : goal.returns
returns g c =
    let held = edges_in c.self.inside.core.edges in
    record {
      answer = subst (λ b. AreExactRelations (is_filled b.fill_rule) b.edges c.in_ok-merged_relations.field-0)
          c.self.view_is
          (c.in_ok-merged_relations.ensures.ok held
          (subst (λ xs. IsMerged (edges_in xs) (edges_in c.in_ok-merged.merged)) c.content-content.ensures.edges
          c.in_ok-merged.ensures.merged));
      err = tt;
    }
