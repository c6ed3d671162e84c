-- The kept loops can be bound.
use Rattle.overlay_graph.specs.Graphs.{graph_edges}
use Rattle.overlay_extract.proofs.KeptLoops.{slices_can_be_bound}
use Rattle.overlay_walk.specs.GroupedContours.{plain_contours}
use Rattle.overlay_extract.proofs.slicing.slices.slice_contours.Goals as goal

pub bind_from-requires-clause-bindable : goal.bind_from-requires-clause-bindable
bind_from-requires-clause-bindable g c =
    let graph = c.args.graph.now in
    rw c.deref.ensures.value (slices_can_be_bound g.I.IntNumber.limit g.I.Wide.WideIntNumber.width
    (g.I.WideUInt.UIntNumber.natural c.args.min_output_area) graph.fill_rule (graph_edges graph)
    c.allocator.ensures.arranged c.requires
    (plain_contours g.I.IntNumber.whole c.in_ok-contours.contours.items) c.in_ok-contours.ensures.contours)

pub returns-clause-slices : goal.returns-clause-slices
returns-clause-slices g c = record {
  contours_are = c.in_ok-contours.ensures.contours;
  bound = rw c.deref.ensures.value at c.in_ok-shapes.ensures.found;
}
