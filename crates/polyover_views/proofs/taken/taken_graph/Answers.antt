-- The edges that are taken are the graph's, an arrangement with balanced counts.
use Rattle.std.proofs.Common.{ap, ◌∙◌}
use Rattle.std.proofs.lemmas.Result.{IfOk-weaker}
use Rattle.overlay_graph.specs.Graphs.{graph_edges}
use Rattle.overlay_order.specs.Content.{plain_edges}
use Rattle.overlay_order.proofs.CarriedEdges.{edges_in-carried}
use Rattle.polyover_views.specs.Held.{counts_in}
use Rattle.polyover_views.proofs.taken.taken_graph.Goals as goal

pub of_balanced-requires-clause-content : goal.of_balanced-requires-clause-content
of_balanced-requires-clause-content g c =
    rw (c.deref.ensures.value, c.in_ok-edges.ensures) c.requires.arranged.content

pub of_balanced-requires-clause-ascending : goal.of_balanced-requires-clause-ascending
of_balanced-requires-clause-ascending g c =
    rw (c.deref.ensures.value, c.in_ok-edges.ensures) c.requires.arranged.ascending

pub of_balanced-requires-clause-settled : goal.of_balanced-requires-clause-settled
of_balanced-requires-clause-settled g c =
    rw (c.deref.ensures.value, c.in_ok-edges.ensures) c.requires.arranged.settled

pub of_balanced-requires-clause-balanced : goal.of_balanced-requires-clause-balanced
of_balanced-requires-clause-balanced g c =
    rw (c.deref.ensures.value, c.in_ok-edges.ensures) c.requires.balanced

pub returns-clause-edges : goal.returns-clause-edges
returns-clause-edges g c =
    let whole = g.I.IntNumber.whole in
    IfOk-weaker c.of_balanced.result _ _
    (λ h same. ap graph_edges same ∙ edges_in-carried whole counts_in c.deref.result.now
    ∙ ap (plain_edges whole counts_in) (c.deref.ensures.value ∙ c.in_ok-edges.ensures)) c.of_balanced.ensures.ok

pub returns-clause-rule : goal.returns-clause-rule
returns-clause-rule g c =
    IfOk-weaker c.of_balanced.result _ _ (λ h same. ap (λ x. x.fill_rule) same ∙ c.known_fill.ensures)
    c.of_balanced.ensures.ok
