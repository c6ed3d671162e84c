-- The merged copy has balanced counts, and what is told of it is told of the content.
use Rattle.std.proofs.Common.{List, sym, subst}
use Rattle.std.proofs.lemmas.Result.{IfOk-weaker}
use Rattle.std.specs.Prelude.{IfOk}
use Rattle.overlay_geom.specs.Edges.{CountedEdge}
use Rattle.overlay_geom.specs.Merged.{IsMerged}
use Rattle.overlay_geom.specs.Rules.{is_filled}
use Rattle.overlay_plane.specs.Balance.{HasBalancedCounts}
use Rattle.overlay_plane.specs.Carried.{edges_in}
use Rattle.overlay_plane.proofs.KeepingBalance.{merging_keeps_balance}
use Rattle.overlay_contacts.specs.ExactRelations.{AreExactRelations}
use Rattle.overlay_predicates.proofs.exact_predicates.ExactPredicates.relations.Goals as goal

pub merged_relations-requires-clause-balanced : goal.merged_relations-requires-clause-balanced
merged_relations-requires-clause-balanced g c =
    merging_keeps_balance _ _ c.in_ok-merged.ensures.merged
    (subst (λ xs. HasBalancedCounts (edges_in xs)) (sym c.content.ensures.edges) c.self.invariant.balanced)

pub returns : goal.returns
returns g c =
    let held = edges_in c.self.inside.core.edges in
    record {
      answer = subst (λ b. IfOk c.merged_relations.result (AreExactRelations (is_filled b.fill_rule) b.edges))
          c.self.view_is
          (IfOk-weaker c.merged_relations.result _ (AreExactRelations (is_filled c.self.inside.fill_rule) held)
          (λ r law. law held
          (subst (λ xs. IsMerged (edges_in xs) (edges_in c.in_ok-merged.merged)) c.content.ensures.edges
          c.in_ok-merged.ensures.merged)) c.merged_relations.ensures.ok);
      err = c.merged_relations.ensures.err;
    }
