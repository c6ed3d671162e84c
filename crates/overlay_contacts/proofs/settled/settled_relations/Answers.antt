-- The graph holds the edges of the content under the rule.
use Rattle.std.proofs.Common.{List, sym, subst}
use Rattle.std.specs.Prelude.{IfOk}
use Rattle.overlay_geom.specs.Edges.{CountedEdge}
use Rattle.overlay_geom.specs.Rules.{is_filled}
use Rattle.overlay_plane.specs.Balance.{HasBalancedCounts}
use Rattle.overlay_plane.specs.GivenPredicates.{KeepsPointsOff}
use Rattle.overlay_graph.specs.Graphs.{graph_edges}
use Rattle.overlay_contacts.specs.ExactRelations.{AreExactRelations}
use Rattle.overlay_contacts.proofs.settled.settled_relations.Goals as goal

pub graph_relations-requires : goal.graph_relations-requires
graph_relations-requires g c = record {
  balanced = subst (λ h. HasBalancedCounts (graph_edges h)) (sym c.in_ok-graph.ensures.ok)
      c.requires.balanced;
}

pub returns : goal.returns
returns g c = record {
  ok = subst (λ h. IfOk c.graph_relations.result (λ r. (given : List CountedEdge) →
      KeepsPointsOff given (graph_edges h) → AreExactRelations (is_filled h.fill_rule) given r))
      c.in_ok-graph.ensures.ok c.graph_relations.ensures.ok;
}
