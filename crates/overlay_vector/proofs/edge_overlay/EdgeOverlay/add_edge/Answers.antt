-- What adding the step to the core gives; what it carries passes the edge once.
use Rattle.std.proofs.Common.{◌^◌, ◌<◌, OnOk, sym, subst}
use Rattle.overlay_geom.specs.Counts.{weight_of_counts}
use Rattle.overlay_geom.specs.Points.{plain_point}
use Rattle.overlay_order.specs.Counts.{boolean_counts}
use Rattle.overlay_order.specs.EdgeData.{IsReversed}
use Rattle.overlay_builder.specs.AddedSteps.{AddsStep, LeavesStore, StepWeighsTooMuch}
use Rattle.overlay_builder.specs.BuilderCalls.{AddsOneAsAsked}
use Rattle.overlay_builder.specs.PathLists.{carried_weight}
use Rattle.overlay_vector.specs.AddedEdges.{passed_once, AddsEdge, EdgeWeighsTooMuch}
use Rattle.overlay_vector.specs.EdgeBuilder.{held_with_data}
use Rattle.overlay_vector.proofs.EdgesAdded.{light_once}
use Rattle.overlay_vector.proofs.edge_overlay.EdgeOverlay.add_edge.Goals as goal

pub add_step-requires-clause-light : goal.add_step-requires-clause-light
add_step-requires-clause-light g c =
    subst (λ k. weight_of_counts (boolean_counts k.count) < 2 ^ 31) (sym c.passed_once-given.ensures)
    (light_once c.args.shape_type c.args.edge.edge_data)

pub returns-clause-added : goal.returns-clause-added
returns-clause-added g c =
    let whole = g.I.IntNumber.whole in
    let reverses = g.D.OverlayEdgeData.reverses in
    let edge = c.args.edge in
    let t = c.args.shape_type in
    subst (λ b. AddsOneAsAsked carried_weight (AddsEdge whole t reverses edge) (EdgeWeighsTooMuch whole t edge)
    (held_with_data b) c.add_step.new.self c.add_step.result)
    c.self.view_is
    (subst (λ given. AddsOneAsAsked carried_weight
    (AddsStep (λ k. boolean_counts k.count) (IsReversed reverses) given (plain_point whole edge.a)
    (plain_point whole edge.b))
    (StepWeighsTooMuch (λ k. boolean_counts k.count) given (plain_point whole edge.a) (plain_point whole edge.b))
    c.self.inside.core c.add_step.new.self c.add_step.result) {y = passed_once t edge.edge_data}
    c.passed_once-given.ensures c.add_step.ensures.added)

pub returns-clause-store : goal.returns-clause-store
returns-clause-store g c =
    let at = plain_point g.I.IntNumber.whole in
    subst (λ b. OnOk c.add_step.result (LeavesStore g.D.OverlayEdgeData.writes (at c.args.edge.a) (at c.args.edge.b)
    b.store c.add_step.new.store))
    c.self.view_is c.add_step.ensures.store
