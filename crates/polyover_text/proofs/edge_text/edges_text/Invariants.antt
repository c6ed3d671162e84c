use Rattle.std.proofs.Common.{◌≡◌, map, take, string_bytes}
use Rattle.overlay_order.specs.Vectors.{plain_vector}
use Rattle.polyover_text.specs.Printed.{edge_lines}
use Rattle.polyover_text.proofs.edge_text.edges_text.Given as goal

-- the text so far is that of the edges so far
abbrev pub invariant-loop-edge : goal.invariant-loop-edge
invariant-loop-edge g l = string_bytes l.text ≡ edge_lines (map (plain_vector (λ z. z)) (take l.edge-index l.edges))
