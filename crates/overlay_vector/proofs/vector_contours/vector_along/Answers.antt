-- The edge is the one with the step's number, and gives what it has.
use Rattle.std.proofs.Common.{◌≡◌, cond, MatchBool, ap, ap₂, subst, ◌∙◌}
use Rattle.overlay_geom.specs.Plane.{is_forward}
use Rattle.overlay_order.specs.Counts.{boolean_counts}
use Rattle.overlay_parts.proofs.ReachedStores.{reached_unless}
use Rattle.overlay_walk.specs.Steps.{plain_step}
use Rattle.overlay_vector.specs.DataVectors.{plain_data_vector}
use Rattle.overlay_vector.specs.SideFills.{turned_fill}
use Rattle.overlay_vector.proofs.WalkedEdges.{step_between, within_edges_seen, leads_along, along, ends_in_range}
use Rattle.overlay_vector.proofs.vector_contours.vector_along.Goals as goal

pub bounds-edges-place : goal.bounds-edges-place
bounds-edges-place g c = within_edges_seen g.I.IntNumber.whole (λ k. boolean_counts k.count) c.edges-edges.result.now
    c.args.graph.now.edges c.edges-edges.ensures.carried c.args.step.edge c.requires.edge c.requires.stands

pub returns-clause-along : goal.returns-clause-along
returns-clause-along g c =
    let whole = g.I.IntNumber.whole in
    let limit = g.I.IntNumber.limit in
    let s = plain_step whole c.args.step in
    let es = c.edges-edges.result.now in
    let xs = c.args.graph.now.edges in
    let seen = c.edges-edges.ensures.carried in
    let rule = c.args.graph.now.fill_rule in
    let arranged = c.edges-edges.ensures.arranged in
    let filled = c.edges-edges.ensures.filled in
    let k = c.args.step.edge in
    let e = c.index-edges-place.result in
    let r = c.walked.result in
    let reverses = g.D.OverlayEdgeData.reverses in
    let inside = within_edges_seen whole (λ n. boolean_counts n.count) es xs seen k c.requires.edge c.requires.stands in
    along whole (λ n. boolean_counts n.count) es xs seen limit rule arranged filled k e inside reverses s
    (leads_along whole (λ n. boolean_counts n.count) es xs seen limit rule arranged filled k e inside c.requires.edge
    c.requires.stands c.requires.along.above s c.requires.along.along)
    (plain_data_vector whole r)
    (ap₂ (step_between whole) c.walked.ensures.a c.walked.ensures.b)
    (c.walked.ensures.fill ∙ ap (λ (w : _). cond (is_forward s) w.fill (turned_fill w.fill)) c.index-edges-place.is)
    (subst (λ (w : _). MatchBool (is_forward s) (r.edge_data ≡ w.edge_data.edge_data)
    (reverses w.edge_data.edge_data r.edge_data)) c.index-edges-place.is c.walked.ensures.carried)

pub returns-clause-in_range : goal.returns-clause-in_range
returns-clause-in_range g c =
    let whole = g.I.IntNumber.whole in
    let limit = g.I.IntNumber.limit in
    let s = plain_step whole c.args.step in
    let es = c.edges-edges.result.now in
    let xs = c.args.graph.now.edges in
    let seen = c.edges-edges.ensures.carried in
    let rule = c.args.graph.now.fill_rule in
    let arranged = c.edges-edges.ensures.arranged in
    let filled = c.edges-edges.ensures.filled in
    let k = c.args.step.edge in
    let e = c.index-edges-place.result in
    let r = c.walked.result in
    let inside = within_edges_seen whole (λ n. boolean_counts n.count) es xs seen k c.requires.edge c.requires.stands in
    ends_in_range whole (λ n. boolean_counts n.count) es xs seen limit rule arranged filled k e inside
    g.D.OverlayEdgeData.reverses s
    (leads_along whole (λ n. boolean_counts n.count) es xs seen limit rule arranged filled k e inside c.requires.edge
    c.requires.stands c.requires.along.above s c.requires.along.along)
    (plain_data_vector whole r)
    (ap₂ (step_between whole) c.walked.ensures.a c.walked.ensures.b)

pub returns-clause-store : goal.returns-clause-store
returns-clause-store g c =
    reached_unless g.D.OverlayEdgeData.writes (is_forward (plain_step g.I.IntNumber.whole c.args.step)) c.args.store.now
    c.walked.new.store c.walked.ensures.writes
