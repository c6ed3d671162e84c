-- C is given the graph that is held.
use Rattle.polyover_calls.specs.Given.{contours_of}
use Rattle.polyover_views.specs.Held.{edge_of_64, graph_at_64, graph_of}
use Rattle.polyover_views.proofs.Making.{handed_out}
use Rattle.polyover_c.proofs.graph.polyover_arrange_with.Goals as goal

pub returns : goal.returns
returns c = handed_out (λ z. z) 4611686018427387903 c.args.fill c.args.solver c.args.keep_given
    (contours_of c.args.subject.now.coordinates.now c.args.subject.now.ends.now)
    (contours_of c.args.clip.now.coordinates.now c.args.clip.now.ends.now)
    (graph_of (λ z. z) edge_of_64 c.graph_held.result.graph) (graph_at_64 c.give.new.self)
    c.graph_held.result.status c.give.result (rw (
      c.given.ensures.coordinates,
      c.given.ensures.ends,
      c.given-2.ensures.coordinates,
      c.given-2.ensures.ends,
    ) at c.graph_held.ensures)
    c.give.ensures.graph c.give.ensures.code
