use Rattle.std.proofs.Common.{[], string_bytes}
use Rattle.overlay_order.specs.Vectors.{plain_vector}
use Rattle.polyover_text.specs.Printed.{edge_line}
use Rattle.polyover_text.proofs.Printing.{all_items}
use Rattle.polyover_text.proofs.edge_text.edges_text.Goals as goal

pub returns : goal.returns
returns g c =
    all_items edge_line (plain_vector (λ z. z)) c.args.edges.now c.loop-edge.edge-index []
    (string_bytes c.loop-edge.text)
    c.loop-edge-test.false c.loop-edge.invariant
