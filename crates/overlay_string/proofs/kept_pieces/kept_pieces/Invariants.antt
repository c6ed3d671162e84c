-- The pieces of the edges so far are kept.
use Rattle.std.proofs.Common.{◌≡◌, take}
use Rattle.std.specs.List.{flat_map}
use Rattle.overlay_string.specs.Pieces.{plain_pieces, pieces_by_bits}
use Rattle.overlay_string.proofs.kept_pieces.kept_pieces.Given as goal

abbrev pub invariant-loop-edge : goal.invariant-loop-edge
invariant-loop-edge g l = plain_pieces g.I.IntNumber.whole l.pieces.items
    ≡ flat_map (pieces_by_bits g.I.IntNumber.whole l.rule) (take l.edge-index l.edges)
